use Rattle.std.proofs.Common.{◌≡◌, subst, map, All}
use Rattle.pesp_problem.specs.Nodes.{odijk_range, root_slacks}
use Rattle.pesp_nodes.specs.Offsets.{IsSmallRange}
use Rattle.pesp_nodes.specs.Problems.{ProblemValue, problem_net}
use Rattle.pesp_nodes.proofs.problem.Problem.bounds.Goals as goal

pub returns-clause-bounds : goal.returns-clause-bounds
returns-clause-bounds c =
    let P : ProblemValue → Type 0 = λ p. c.deref.result.now ≡ map (odijk_range (problem_net p) (root_slacks (problem_net p))) p.table in
    subst P c.self.view_is (rw c.deref.ensures.value c.self.invariant.at_root)

pub returns-clause-ends : goal.returns-clause-ends
returns-clause-ends c = rw c.deref.ensures.value c.self.invariant.ends

pub returns-clause-small : goal.returns-clause-small
returns-clause-small c =
    let P : ProblemValue → Type 0 = λ p. All (IsSmallRange p.network.period) c.deref.result.now in
    subst P c.self.view_is (rw c.deref.ensures.value c.self.invariant.between)
