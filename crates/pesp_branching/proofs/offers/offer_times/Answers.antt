use Rattle.std.proofs.Common.{sym, subst}
use Rattle.pesp_nodes.specs.Problems.{ProblemValue}
use Rattle.pesp_branching.specs.Turns.{IsWorked}
use Rattle.pesp_branching.proofs.offers.offer_times.Goals as goal

pub returns-clause-worked : goal.returns-clause-worked
returns-clause-worked g c used worked =
    let first = c.offer.ensures.worked used worked in
    let before = subst (λ (x : ProblemValue). IsWorked x used c.offer.new.board.state) (sym c.offer.ensures.problem) first in
    subst (λ (x : ProblemValue). IsWorked x used c.offer-2.new.board.state) c.offer.ensures.problem (c.offer-2.ensures.worked used before)
