use Rattle.std.proofs.Common.{sym, subst, ◌∙◌}
use Rattle.pesp_nodes.specs.Problems.{ProblemValue}
use Rattle.pesp_worker.specs.Holding.{IsHeld}
use Rattle.pesp_worker.proofs.improved_leaf.improve_leaf.Goals as goal

pub found_line-requires : goal.found_line-requires
found_line-requires c = subst (λ (x : ProblemValue). IsHeld x c.in-Some.held)
    (sym (c.problem.ensures ∙ c.in_ok-held.ensures.problem)) (rw c.in-Some.is at c.in_ok-held.ensures.held)
