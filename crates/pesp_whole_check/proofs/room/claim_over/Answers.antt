use Rattle.std.proofs.Common.{refl}
use Rattle.pesp_problem.specs.Arcs.{net_of}
use Rattle.pesp_truth.specs.Trees.{cost_goal}
use Rattle.pesp_whole_check.proofs.Claims.{plain_from, shown_fits, told_of}
use Rattle.pesp_whole_check.proofs.room.claim_over.Goals as goal

pub returns-in_default-clause-fits : goal.returns-in_default-clause-fits
returns-in_default-clause-fits c p rows fits = λ s is. absurd cc

pub returns-in_default-clause-told : goal.returns-in_default-clause-told
returns-in_default-clause-told c p own few =
    plain_from (λ m. m.now) c.args.marks c.args.facts.now (net_of p) c.args.least c.in_default.not-Some

pub returns-in_default-clause-room : goal.returns-in_default-clause-room
returns-in_default-clause-room c rows rates there = tt

pub returns-clause-fits : goal.returns-clause-fits
returns-clause-fits c p rows fits = shown_fits p _ rows (fits c.in-Some.marks c.in-Some.is)

pub returns-clause-told : goal.returns-clause-told
returns-clause-told c p own few =
    rw c.in-Some.is
    (cost_goal (net_of p) c.args.least, refl, told_of p _ c.args.least _ (own c.in-Some.marks c.in-Some.is) (c.least_sum.ensures few))

pub returns-clause-room : goal.returns-clause-room
returns-clause-room c rows rates there = there c.in-Some.marks c.in-Some.is
