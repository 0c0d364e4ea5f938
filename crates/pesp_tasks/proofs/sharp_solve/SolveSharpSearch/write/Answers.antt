use Rattle.std.proofs.Common.{inl, inr}
use Rattle.pesp_check.proofs.ReadingLemmas.{told_as}
use Rattle.pesp_runs.proofs.Telling.{search_cause, limit_cause}
use Rattle.pesp_tasks.proofs.SharpSolutions.{solution}
use Rattle.pesp_tasks.proofs.sharp_solve.SolveSharpSearch.write.Goals as goal

pub returns-in_err-found-clause-cause : goal.returns-in_err-found-clause-cause
returns-in_err-found-clause-cause g c =
    told_as _ _ _ c.from_residual.ensures.1 (inl
    (search_cause _ _ _ c.in_err-found.ensures.refused, limit_cause _ _ _ c.in_err-found.ensures.passed))

pub returns-in_err-print_fronted-clause-cause : goal.returns-in_err-print_fronted-clause-cause
returns-in_err-print_fronted-clause-cause g c =
    let found = c.in_ok-found in
    let out = c.in_err-print_fronted.ensures in
    told_as _ _ _ c.from_residual-in_err-print_fronted.ensures.1
    (inr (
      out.fault,
      solution found.found.steps_used found.ensures.solved found.ensures.improved c.vouch.ensures.is_true
          c.vouch.ensures.has_text out.text,
    ))

pub returns-clause-ok : goal.returns-clause-ok
returns-clause-ok g c =
    let found = c.in_ok-found in
    solution found.found.steps_used found.ensures.solved found.ensures.improved c.vouch.ensures.is_true
    c.vouch.ensures.has_text c.in_ok-print_fronted.ensures.text
