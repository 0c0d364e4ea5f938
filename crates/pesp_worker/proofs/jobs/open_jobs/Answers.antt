use Rattle.std.proofs.Common.{◌≡◌, sym, subst}
use Rattle.std.specs.Prelude.{IfOk, map}
use Rattle.std.specs.Global.{Vec}
use Rattle.pesp_tree.specs.declared.job.Job.{Job}
use Rattle.pesp_tree.specs.Adopting.{LendsEach}
use Rattle.pesp_turns.specs.declared.open_job.OpenJob.{OpenJob}
use Rattle.pesp_worker.proofs.Opening.{all_open}
use Rattle.pesp_worker.proofs.jobs.open_jobs.Goals as goal

pub valued_jobs-requires : goal.valued_jobs-requires
valued_jobs-requires c =
    let lent = c.in_ok-lent.lent in
    let begun = c.in_ok-lent.ensures in (
      begun.opening,
      subst (λ (jobs : Vec Job).
          LendsEach lent.board.problem begun.opening jobs.items lent.board.state)
          (sym c.replace-jobs.ensures.value) begun.lends,
    )

pub returns : goal.returns
returns c =
    let lent = c.in_ok-lent.lent in
    let jobs = subst (λ (jobs : Vec Job). IfOk c.valued_jobs.result
    (λ v. map (λ (leaf : OpenJob). leaf.job) v.items ≡ jobs.items)) c.replace-jobs.ensures.value
    c.valued_jobs.ensures.jobs in
    all_open c.args.instance.now c.args.base.now lent.board.problem lent.jobs.items lent.board.state
    c.valued_jobs.result c.in_ok-lent.ensures jobs c.valued_jobs.ensures.values
