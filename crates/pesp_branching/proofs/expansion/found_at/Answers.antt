use Rattle.std.proofs.Common.{refl}
use Rattle.pesp_truth.specs.declared.tree.TreeLine.TheVariants.{Propagated}
use Rattle.pesp_branching.proofs.Steps.{shut_line}
use Rattle.pesp_branching.proofs.expansion.found_at.Goals as goal

pub returns-then-branch : goal.returns-then-branch
returns-then-branch c = shut_line c.args.problem.now c.args.start.now c.args.node.now Propagated
    (c.in_ok-is_shut_by_propagation.ensures.0 c.if-branch.true) refl
