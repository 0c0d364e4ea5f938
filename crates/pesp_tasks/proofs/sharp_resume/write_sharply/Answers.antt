use Rattle.pesp_check.proofs.ReadingLemmas.{told_as}
use Rattle.pesp_tasks.proofs.SharpSolutions.{written}
use Rattle.pesp_tasks.proofs.sharp_resume.write_sharply.Goals as goal

pub returns-in_err-print_fronted-clause-cause : goal.returns-in_err-print_fronted-clause-cause
returns-in_err-print_fronted-clause-cause g c =
    let out = c.in_err-print_fronted.ensures in
    told_as _ _ _ c.from_residual-in_err-print_fronted.ensures.1 (
      out.fault,
      written c.in_ok-fronted.ensures c.vouch.ensures.is_true c.vouch.ensures.has_text out.text,
    )

pub returns-clause-ok : goal.returns-clause-ok
returns-clause-ok g c =
    written c.in_ok-fronted.ensures c.vouch.ensures.is_true c.vouch.ensures.has_text c.in_ok-print_fronted.ensures.text
