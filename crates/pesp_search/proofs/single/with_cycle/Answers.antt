use Rattle.std.proofs.Common.{true}
use Rattle.std.specs.Prelude.{◌≤ℤ◌, IfSome}
use Rattle.pesp_problem.specs.Nodes.{leaf_value}
use Rattle.pesp_nodes.specs.Problems.{problem_net}
use Rattle.pesp_search.specs.declared.single.Valued.{Valued}
use Rattle.pesp_search.specs.Singles.{plus_pair}
use Rattle.pesp_search.proofs.SinglePairs.{if_ok, le_chain, up_to_trans}
use Rattle.pesp_search.proofs.single.with_cycle.Goals as goal

pub returns-clause-no_less : goal.returns-clause-no_less
returns-clause-no_less c =
    let better = c.in_ok-better.better.value in
    if_ok c.with_pair-2.result (λ (b : Valued). better ≤ℤ b.value) (λ (b : Valued). c.args.best.value ≤ℤ b.value)
    (λ b h. le_chain c.args.best.value better b.value c.in_ok-better.ensures.no_less h)
    c.with_pair-2.ensures.no_less

pub returns-clause-plus : goal.returns-clause-plus
returns-clause-plus c =
    let better = c.in_ok-better.better.value in
    let value = leaf_value (problem_net c.args.problem.now) c.args.problem.now.table c.args.node.now (plus_pair c.args.cycle) true in
    if_ok c.with_pair-2.result (λ (b : Valued). better ≤ℤ b.value)
    (λ (b : Valued). IfSome value (λ v. v ≤ℤ b.value))
    (λ b h. up_to_trans value better b.value c.in_ok-better.ensures.pair h) c.with_pair-2.ensures.no_less

pub returns-clause-minus : goal.returns-clause-minus
returns-clause-minus c = c.with_pair-2.ensures.pair
