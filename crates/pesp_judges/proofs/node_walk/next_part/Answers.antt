use Rattle.std.proofs.Common.{◌≡◌, ◌+◌, ◌-◌, ◌∙◌, ap, length, arith}
use Rattle.std.proofs.lemmas.Grind.{common_steps}
use Rattle.std.proofs.lemmas.Bool.Decides.{nat_tests}
use Rattle.pesp_problem.specs.declared.cut.Side.TheVariants.{High}
use Rattle.pesp_problem.specs.declared.cut.Cut.{Cut}
use Rattle.pesp_problem.specs.Nodes.{part}
use Rattle.pesp_leaves.specs.Ranges.{node_of}
use Rattle.pesp_problem.proofs.Walking.{turn_parts}
use Rattle.pesp_judges.proofs.node_walk.next_part.Goals as goal

pub returns-in-Low-clause-parts : goal.returns-in-Low-clause-parts
returns-in-Low-clause-parts c =
    let top : c.len-top.result - 1 + 1 ≡ length c.loop-path.path.items =
    grind (arith, nat_tests, c.loop-path.path.ok.0, c.is_empty.ensures, c.len-top.ensures) in
    turn_parts (node_of c.loop-path.ranges) (node_of c.put_back.new.ranges)
    (node_of c.take_part.new.ranges) c.loop-path.path.items
    (c.len-top.result - 1) c.index-last.result.now top c.index-last.ensures c.in-Low.is c.put_back.ensures.node
    (c.take_part.ensures.node ∙ ap (λ (cut : Cut). part (node_of c.put_back.new.ranges) cut High) c.to_cut.ensures)
    ∙ c.loop-path.invariant.parts

pub loop-path-preserved : goal.loop-path-preserved
loop-path-preserved c = grind (arith, common_steps)

pub returns-clause-parts : goal.returns-clause-parts
returns-clause-parts c = grind (arith, common_steps)
