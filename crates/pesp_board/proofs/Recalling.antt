-- A number is recalled.
use Rattle.std.proofs.Common.{ℕ, List, ◌∷◌, set, refl, sym, ap, ◌∙◌, true, false}
use Rattle.std.specs.Prelude.{Option, Some, None}
use Rattle.std.specs.List.Sorted.{IsPermutation}
use Rattle.pesp_nodes.specs.Problems.{ProblemValue}
use Rattle.pesp_tree.specs.WorkTrees.{WorkTreeValue, path_to}
use Rattle.pesp_tree.specs.Entries.{entry, HasItem, ItemsDiffer}
use Rattle.pesp_tree.specs.Queues.{QueueValue, all_of}
use Rattle.pesp_tree.specs.Events.{Recalls, Recall}
use Rattle.pesp_tree.proofs.Runs.{step_is_orderly}
use Rattle.pesp_board.specs.declared.best.Best.{Best}
use Rattle.pesp_board.specs.declared.slot.Slot.{Slot}
use Rattle.pesp_board.specs.declared.slot.Slot.TheVariants.{Recalled as RecalledSlot}
use Rattle.pesp_board.specs.Insides.{ticket_of, times_of, state_of, slot_at, LendsNode, IsBoard}
use Rattle.pesp_board.proofs.Slots.{ticket_is, map_set, lent_by, one_number}
use Rattle.pesp_board.proofs.Queues.{waits_again}

pub recalled : (t : WorkTreeValue) (slots : List Slot) (times : Option (List ℕ)) (number node : ℕ)
    → LendsNode slots number (Some node) → Recalls (state_of t slots times) number true
    (state_of t (set slots number RecalledSlot) times)
recalled t slots times number node h = (
  (path_to t node, ticket_is t slots number ∙ ap (ticket_of t) h.1),
  ap (λ numbers. record { tree = t.tree; numbers = numbers; best = times }) (map_set t slots number RecalledSlot),
)

pub not_recalled : (t : WorkTreeValue) (slots : List Slot) (times : Option (List ℕ)) (number : ℕ)
    → LendsNode slots number None → Recalls (state_of t slots times) number false (state_of t slots times)
not_recalled t slots times number h = (
  λ l. let by =
      lent_by t (slot_at slots number) l.0 (sym (ticket_is t slots number) ∙ l.1) in h by.0 by.1,
  refl,
)

-- the node of a number that is lent is parked
pub is_parked : (p : ProblemValue) (t : WorkTreeValue) (slots : List Slot) (q : QueueValue) (best : Option Best)
    (pairs number node : ℕ) → IsBoard p t slots q best pairs → LendsNode slots number (Some node)
    → HasItem q.parked node
is_parked p t slots q best pairs number node b h = b.queue.lent node (number, h.1)

pub recalled_board : (p : ProblemValue) (t : WorkTreeValue) (slots : List Slot) (q r : QueueValue)
    (best : Option Best) (pairs number node value : ℕ) → IsBoard p t slots q best pairs
    → LendsNode slots number (Some node) → ItemsDiffer (all_of r)
    → IsPermutation q.parked (entry node value ∷ r.parked) → IsPermutation (entry node value ∷ q.waiting) r.waiting
    → IsBoard p t (set slots number RecalledSlot) r best pairs
recalled_board p t slots q r best pairs number node value b h differ parked waiting = record {
  network = b.network;
  table = b.table;
  whole = b.whole;
  orderly = step_is_orderly p (state_of t slots (times_of best)) (Recall number true)
      (state_of t (set slots number RecalledSlot) (times_of best)) b.network b.table b.orderly
      (recalled t slots (times_of best) number node h);
  queue = waits_again p t slots q r number node value b.queue
      (one_number p t slots (times_of best) b.orderly) differ h.0 h.1 parked waiting;
  cost = b.cost;
  pairs = b.pairs;
}
