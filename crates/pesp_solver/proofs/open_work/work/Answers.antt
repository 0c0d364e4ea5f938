use Rattle.std.proofs.Common.{None, arith}
use Rattle.pesp_worker.proofs.Works.{one_rises, one_work, last_work}
use Rattle.pesp_solver.proofs.open_work.work.Goals as goal

pub work_on_all-works-requires-clause-rise : goal.work_on_all-works-requires-clause-rise
work_on_all-works-requires-clause-rise c = one_rises c.args.job

pub unreachable-requires : goal.unreachable-requires
unreachable-requires c =
    let works = c.in_ok-works.works in
    let one = one_work c.args.instance.now c.args.base.now c.args.job c.args.steps None works.items c.in_ok-works.ensures.works in
    omega (arith, one, works.ok.0, c.in_default.ensures.cases.0)

pub returns-clause-work : goal.returns-clause-work
returns-clause-work c = last_work c.args.instance.now c.args.base.now c.args.job c.args.steps None
    c.pop.new.self.items c.in_ok-works.works.items c.in-Some.work c.in-Some.ensures.items
    c.in_ok-works.ensures.works
