use Rattle.std.proofs.Common.{ℕ, ◌<◌, length, subst, arith}
use Rattle.std.specs.Prelude.{All}
use Rattle.std.proofs.lemmas.List.{take_all}
use Rattle.std.proofs.lemmas.List.Elements.{All-more}
use Rattle.pesp_worker.proofs.shared_search.are_there.Goals as goal

pub loop-job-preserved : goal.loop-job-preserved
loop-job-preserved c =
    let jobs = c.args.lent.now.jobs in
    let long = jobs.ok.0 in
    let here = c.if-job-len.false in
    let len = c.len.ensures in
    All-more (λ (job : ℕ). job < length jobs.items) c.args.jobs.now c.loop-job.job-index 0 c.loop-job-test.true
    c.loop-job.invariant (omega (arith, long, here, len))

pub returns-clause-there : goal.returns-clause-there
returns-clause-there c = λ _. subst (All (λ (job : ℕ). job < length c.args.lent.now.jobs.items))
    (take_all c.loop-job.job-index c.args.jobs.now c.loop-job-test.false) c.loop-job.invariant
