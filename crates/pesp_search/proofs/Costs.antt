-- Times that are offered, and what the best ones cost from then on.
use Rattle.std.proofs.Common.{◌≡◌, ℕ, ◌<◌, ◌≤◌, ◌⊎◌, inl, inr, true, false, List, [], ◌∷◌, refl, arith, sym, ◌∙◌, subst}
use Rattle.std.specs.Prelude.{Option, Some, None, option_map}
use Rattle.pesp_problem.specs.NetTimetables.{net_cost}
use Rattle.pesp_network.specs.Networks.{KeepsNetLimits}
use Rattle.pesp_truth.specs.Trees.{Tree}
use Rattle.pesp_nodes.specs.Problems.{ProblemValue, problem_net, IsSmallTable}
use Rattle.pesp_tree.specs.BoardLeaves.{told, least_value}
use Rattle.pesp_tree.specs.States.{State, IsAtMost, root_of, best_cost}
use Rattle.pesp_tree.specs.Reached.{IsKept}
use Rattle.pesp_tree.specs.Events.{Offer, IsCheaper}
use Rattle.pesp_tree.proofs.Runs.{best_never_rises}
use Rattle.pesp_branching.specs.Offering.{OffersFirst}
use Rattle.pesp_branching.specs.Turns.{IsWorked}
use Rattle.pesp_branching.proofs.Spent.{offered_tree}
use Rattle.pesp_branching.proofs.Turns.{offers}
use Rattle.pesp_search.specs.Rooting.{IsRootBound}
use Rattle.pesp_search.specs.Searching.{AreOffered, IsAsCheapAs, IsReady}
use Rattle.pesp_search.proofs.Orders.{at_most_trans}

-- ---- costs

not_cheaper : (c : ℕ) (best : Option ℕ) → (IsCheaper c best → ⊥) → IsAtMost best (Some c)
not_cheaper c None h = absurd (h tt)
not_cheaper c (Some b) h = by_order (order b c)
  where
    order : (a b : ℕ) → (a ≤ b) ⊎ (b < a)
    order a b = grind arith

    by_order : (b ≤ c) ⊎ (c < b) → b ≤ c
    by_order (inl most) = most
    by_order (inr less) = absurd (h less)

offered_cheap : (p : ProblemValue) (old new : State) (times : List ℕ) → AreOffered p times old new → IsAsCheapAs p times new
offered_cheap p old new times (true, o) is =
    let same : net_cost (problem_net p) times ≤ net_cost (problem_net p) times = omega arith in
    subst (λ (s : State). IsAtMost (best_cost p s) (Some (net_cost (problem_net p) times))) (sym o.1) same
offered_cheap p old new times (false, o) is =
    subst (λ (s : State). IsAtMost (best_cost p s) (Some (net_cost (problem_net p) times))) (sym o.1)
    (not_cheaper (net_cost (problem_net p) times) (best_cost p old) (λ cheaper. o.0 (is, cheaper)))

pub still_cheap : (p : ProblemValue) (times : List ℕ) (old new : State)
    → IsAtMost (best_cost p new) (best_cost p old) → IsAsCheapAs p times old → IsAsCheapAs p times new
still_cheap p times old new less cheap is = at_most_trans (best_cost p new) (best_cost p old)
    (Some (net_cost (problem_net p) times)) less (cheap is)

no_dearer : (p : ProblemValue) (old new : State) → 0 < p.network.period → IsKept p old → OffersFirst p old new
    → IsAtMost (best_cost p new) (best_cost p old)
no_dearer p old new h k (between, (times, kept, first), inl same) =
    best_never_rises p (Offer times kept ∷ []) old new h k (between, first, same)
no_dearer p old new h k (between, (times, kept, first), inr (others, also, second)) =
    best_never_rises p (Offer times kept ∷ Offer others also ∷ []) old new h k (between, first, (new, second, refl))

-- ---- trees

-- times that are offered leave the root's bound
offered_bound : (p : ProblemValue) (old new : State) → new.tree ≡ old.tree → IsRootBound p old → IsRootBound p new
offered_bound p old new e bound l h = bound l (subst
    (λ (t : Tree). IsAtMost (option_map told (least_value (problem_net p) p.table t (root_of p))) (Some l)) e h)

pub ready : (p q r : ProblemValue) (first second third : State) (times : List ℕ) → q ≡ p → r ≡ q
    → KeepsNetLimits p.network → IsSmallTable p.table → IsWorked p 0 first → IsRootBound p first
    → AreOffered q times first second
    → OffersFirst r second third → third.tree ≡ second.tree → (IsWorked r 0 second → IsWorked r 0 third) → IsReady p times third
ready p q r first second third times e f limits small worked bound given others tree works =
    let there : r ≡ p = f ∙ e in
    let offered : AreOffered p times first second = subst (λ (x : ProblemValue). AreOffered x times first second) e given in
    let later : OffersFirst p second third = subst (λ (x : ProblemValue). OffersFirst x second third) there others in
    let after : IsWorked p 0 second = offers p 0 first second times offered.0 limits small worked offered.1 in
    record {
      worked = subst (λ (x : ProblemValue). IsWorked x 0 second → IsWorked x 0 third) there works after;
      bound = offered_bound p first third (tree ∙ offered_tree p first second times offered.0 offered.1) bound;
      cheap = still_cheap p times second third
          (no_dearer p second third (let some = limits.some_period in omega (arith, some)) after.orderly.kept
          later) (offered_cheap p first second times offered);
    }
