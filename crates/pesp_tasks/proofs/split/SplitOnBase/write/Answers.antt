use Rattle.pesp_check.proofs.ReadingLemmas.{told_as}
use Rattle.pesp_tasks.proofs.split.SplitOnBase.write.Goals as goal

pub returns-in_err-print_to-clause-cause : goal.returns-in_err-print_to-clause-cause
returns-in_err-print_to-clause-cause g c =
    let out = c.in_err-print_to.ensures in
    told_as _ _ _ c.from_residual-in_err-print_to.ensures.1 (
      out.fault,
      record {
        jobs = c.deref.result.now;
        are_open = rw c.deref.ensures.value c.in_ok-jobs.ensures;
        written = out.text;
      },
    )

pub returns-clause-ok : goal.returns-clause-ok
returns-clause-ok g c = record {
  jobs = c.deref.result.now;
  are_open = rw c.deref.ensures.value c.in_ok-jobs.ensures;
  written = c.in_ok-print_to.ensures.text;
}
