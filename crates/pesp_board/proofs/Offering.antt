-- Times are offered.
use Rattle.std.proofs.Common.{ℕ, List, refl, sym, ap, subst, true, false}
use Rattle.std.specs.Prelude.{Option, Some, None}
use Rattle.pesp_nodes.specs.Problems.{ProblemValue}
use Rattle.pesp_tree.specs.WorkTrees.{WorkTreeValue}
use Rattle.pesp_tree.specs.Queues.{QueueValue}
use Rattle.pesp_tree.specs.States.{State, best_cost}
use Rattle.pesp_tree.specs.Events.{Offers, Offer, IsCheaper}
use Rattle.pesp_tree.proofs.Runs.{step_is_orderly}
use Rattle.pesp_board.specs.declared.best.Best.{Best}
use Rattle.pesp_board.specs.declared.slot.Slot.{Slot}
use Rattle.pesp_board.specs.Insides.{times_of, best_cost_of, state_of, IsBoard}
use Rattle.pesp_board.specs.Timetables.{Judges}

pub no_timetable : (p : ProblemValue) (state : State) (times : List ℕ) → Judges p times None → Offers p state times false state
no_timetable p state times j = (λ i. j i.0, refl)

pub dearer : (p : ProblemValue) (t : WorkTreeValue) (slots : List Slot) (q : QueueValue) (best : Option Best)
    (pairs : ℕ) (times : List ℕ) (cost : ℕ) → IsBoard p t slots q best pairs → Judges p times (Some cost)
    → (IsCheaper cost (best_cost_of best) → ⊥) → Offers p (state_of t slots (times_of best)) times false
    (state_of t slots (times_of best))
dearer p t slots q best pairs times cost b j d = (
  λ i. d (subst (λ c. IsCheaper cost c) (sym b.cost)
      (subst (λ c. IsCheaper c (best_cost p (state_of t slots (times_of best)))) (sym j.1) i.1)),
  refl,
)

pub cheaper : (p : ProblemValue) (t : WorkTreeValue) (slots : List Slot) (q : QueueValue) (best : Option Best)
    (pairs : ℕ) (times : List ℕ) (cost : ℕ) → IsBoard p t slots q best pairs → Judges p times (Some cost)
    → IsCheaper cost (best_cost_of best) → Offers p (state_of t slots (times_of best)) times true
    (state_of t slots (Some times))
cheaper p t slots q best pairs times cost b j c = (
  (
    j.0,
    subst (λ x. IsCheaper x (best_cost p (state_of t slots (times_of best)))) j.1
        (subst (λ x. IsCheaper cost x) b.cost c),
  ),
  refl,
)

pub offered_board : (p : ProblemValue) (t : WorkTreeValue) (slots : List Slot) (q : QueueValue)
    (best : Option Best) (pairs : ℕ) (new : Best) → IsBoard p t slots q best pairs
    → Judges p new.times.items (Some new.cost) → IsCheaper new.cost (best_cost_of best)
    → IsBoard p t slots q (Some new) pairs
offered_board p t slots q best pairs new b j c = record {
  network = b.network;
  table = b.table;
  whole = b.whole;
  orderly = step_is_orderly p (state_of t slots (times_of best)) (Offer new.times.items true)
      (state_of t slots (Some new.times.items)) b.network b.table b.orderly
      (cheaper p t slots q best pairs new.times.items new.cost b j c);
  queue = b.queue;
  cost = ap Some j.1;
  pairs = b.pairs;
}
