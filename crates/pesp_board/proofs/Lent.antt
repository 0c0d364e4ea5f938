-- What becomes of a board when its first waiting leaf is lent, or isn't.
use Rattle.std.proofs.Common.{◌≡◌, ℕ, zero, suc, ◌<◌, ◌≤◌, List, [], ◌∷◌, ◌++◌, length, get_or, map, refl, sym, ap, ◌∙◌, arith, subst}
use Rattle.std.specs.Prelude.{Option, Some, None, Result, Ok, Err}
use Rattle.std.proofs.lemmas.List.{length-map}
use Rattle.std.specs.List.Sorted.{IsPermutation}
use Rattle.std.proofs.lemmas.List.Elements.{Contains-append_left}
use Rattle.std.proofs.lemmas.List.Sorted.{Contains-permutation}
use Rattle.pesp_truth.specs.Trees.{Leaf, Bound}
use Rattle.pesp_board.proofs.Queues.{held_first}
use Rattle.pesp_nodes.specs.Problems.{ProblemValue}
use Rattle.pesp_tree.specs.WorkTrees.{WorkTreeValue, path_to}
use Rattle.pesp_tree.specs.declared.entry.Entry.{Entry}
use Rattle.pesp_tree.specs.Entries.{entry, HasItem, ItemsDiffer, IsFirst}
use Rattle.pesp_tree.specs.Queues.{QueueValue, all_of}
use Rattle.pesp_tree.specs.declared.job.Job.{Job}
use Rattle.pesp_tree.specs.declared.refusal.LendRefusal.{LendRefusal}
use Rattle.pesp_tree.specs.declared.refusal.LendRefusal.TheVariants.{Memory, NumbersSpent}
use Rattle.pesp_tree.specs.States.{Lent, IsOpen}
use Rattle.pesp_tree.specs.Events.{Lends, LendsLeaf, Lend}
use Rattle.pesp_tree.proofs.Runs.{step_is_orderly}
use Rattle.pesp_board.specs.declared.best.Best.{Best}
use Rattle.pesp_board.specs.declared.slot.Slot.{Slot}
use Rattle.pesp_board.specs.declared.slot.Slot.TheVariants.{Lent as LentSlot}
use Rattle.pesp_board.specs.Insides.{ticket_of, times_of, state_of, IsBoard}
use Rattle.pesp_board.specs.Lending.{IsLeastOpen, LendsNext, LendsEntry, LendsFirst, LendsCuts, HasJob}
use Rattle.pesp_board.specs.Giving.{AreCuts}
use Rattle.pesp_board.proofs.Paths.{path_cuts}
use Rattle.pesp_board.proofs.Lending.{none_waits, none_cheaper, first_opens}
use Rattle.pesp_board.proofs.Parking.{Parks, lent_queue, unparked_queue}

map_push : (t : WorkTreeValue) (slots : List Slot) (s : Slot)
    → map (ticket_of t) (slots ++ s ∷ []) ≡ map (ticket_of t) slots ++ ticket_of t s ∷ []
map_push t [] s = refl
map_push t (x ∷ slots) s = ap (λ l. ticket_of t x ∷ l) (map_push t slots s)

-- ---- the reply

lent_leaf : (p : ProblemValue) (t : WorkTreeValue) (slots new : List Slot) (q : QueueValue) (best : Option Best)
    (count : ℕ) (e : Entry) (job : Job) → IsBoard p t slots q best count → ItemsDiffer (all_of q)
    → IsFirst q.waiting e → LendsNext t best slots e job new
    → LendsLeaf p (state_of t slots (times_of best)) job (state_of t new (times_of best))
lent_leaf p t slots new q best count e job b differ first l =
    let state = state_of t slots (times_of best) in
    let opens = (first_opens p t slots q best count e b differ first l.cheaper).opens in
    let long : length (map (ticket_of t) slots) ≡ length slots = length-map slots (ticket_of t) in
    let tickets : map (ticket_of t) new ≡ map (ticket_of t) slots ++ Lent job.path.items ∷ [] =
    ap (map (ticket_of t)) l.slots ∙ map_push t slots (LentSlot e.item)
    ∙ ap (λ path. map (ticket_of t) slots ++ Lent path ∷ []) (sym l.path) in
    record {
      opens = subst (IsOpen p state) (sym l.path) opens;
      number = l.number ∙ sym long;
      left = subst (λ n. n < 1000000) (sym long) l.left;
      state = ap (λ numbers. record { tree = t.tree; numbers = numbers; best = times_of best }) tickets;
    }

pub none_waiting : (p : ProblemValue) (t : WorkTreeValue) (slots : List Slot) (q : QueueValue) (best : Option Best)
    (count : ℕ) → IsBoard p t slots q best count → q.waiting ≡ []
    → Lends p (state_of t slots (times_of best)) (Ok None) (state_of t slots (times_of best))
none_waiting p t slots q best count b none = (refl, none_waits p t slots (times_of best) q b.whole b.queue none)

pub lends : (p : ProblemValue) (t : WorkTreeValue) (slots new : List Slot) (q : QueueValue) (best : Option Best)
    (count : ℕ) (e : Entry) (result : Result (Option Job) LendRefusal) → IsBoard p t slots q best count
    → ItemsDiffer (all_of q) → IsFirst q.waiting e → LendsEntry t best slots e result new
    → Lends p (state_of t slots (times_of best)) result (state_of t new (times_of best))
lends p t slots new q best count e (Ok None) b differ first l =
    (ap (λ s. state_of t s (times_of best)) l.0, none_cheaper p t slots q best count e b first l.1)
lends p t slots new q best count e (Ok (Some job)) b differ first l = lent_leaf p t slots new q best count e job b differ first l
lends p t slots new q best count e (Err NumbersSpent) b differ first l = (
  ap (λ s. state_of t s (times_of best)) l.0,
  (path_to t e.item, (first_opens p t slots q best count e b differ first l.1).opens),
  subst (λ n. 1000000 ≤ n) (sym (length-map slots (ticket_of t))) l.2,
)
lends p t slots new q best count e (Err Memory) b differ first l = ap (λ s. state_of t s (times_of best)) l

pub lends_first : (p : ProblemValue) (t : WorkTreeValue) (slots new : List Slot) (q : QueueValue)
    (best : Option Best) (count : ℕ) (e : Entry) (result : Result (Option Job) LendRefusal)
    → IsBoard p t slots q best count → ItemsDiffer (all_of q) → IsFirst q.waiting e
    → LendsEntry t best slots e result new → LendsFirst p (state_of t slots (times_of best)) result
lends_first p t slots new q best count e (Ok None) b differ first l = tt
lends_first p t slots new q best count e (Ok (Some job)) b differ first l =
    subst (IsLeastOpen p (state_of t slots (times_of best))) (sym l.path)
    (first_opens p t slots q best count e b differ first l.cheaper)
lends_first p t slots new q best count e (Err refusal) b differ first l = tt

pub lends_cuts : (p : ProblemValue) (t : WorkTreeValue) (slots new : List Slot) (q : QueueValue)
    (best : Option Best) (count : ℕ) (e : Entry) (result : Result (Option Job) LendRefusal)
    → IsBoard p t slots q best count → IsFirst q.waiting e → LendsEntry t best slots e result new
    → LendsCuts p result
lends_cuts p t slots new q best count e (Ok None) b first l = tt
lends_cuts p t slots new q best count e (Ok (Some job)) b first l =
    let worth = b.queue.each e (Contains-append_left q.waiting q.parked e first.0) in
    subst (AreCuts p) (sym l.path) (path_cuts p t e.item (Bound worth.pairs) b.whole b.orderly.limits worth.leaf)
lends_cuts p t slots new q best count e (Err refusal) b first l = tt

-- ---- the board

pub lent_board : (p : ProblemValue) (t : WorkTreeValue) (slots new : List Slot) (q r : QueueValue)
    (best : Option Best) (count : ℕ) (e : Entry) (job : Job) → IsBoard p t slots q best count
    → ItemsDiffer (all_of q) → IsFirst q.waiting e → Parks q r e → LendsNext t best slots e job new
    → IsBoard p t new r best count
lent_board p t slots new q r best count e job b differ first k l = record {
  network = b.network;
  table = b.table;
  whole = b.whole;
  orderly = step_is_orderly p (state_of t slots (times_of best)) (Lend (Ok (Some job)))
      (state_of t new (times_of best)) b.network b.table b.orderly
      (lent_leaf p t slots new q best count e job b differ first l);
  queue = rw (l.slots) (lent_queue p t slots q r e b.queue k);
  cost = b.cost;
  pairs = b.pairs;
}

pub unlent_board : (p : ProblemValue) (t : WorkTreeValue) (slots new : List Slot) (q r s : QueueValue)
    (best : Option Best) (count : ℕ) (e : Entry) (value : ℕ) → IsBoard p t slots q best count
    → ItemsDiffer (all_of q) → ItemsDiffer (all_of s) → Parks q r e → new ≡ slots
    → IsPermutation r.parked (entry e.item value ∷ s.parked)
    → IsPermutation (entry e.item value ∷ r.waiting) s.waiting → IsBoard p t new s best count
unlent_board p t slots new q r s best count e value b differ differ_s k same parked waiting = rw same (record {
  network = b.network;
  table = b.table;
  whole = b.whole;
  orderly = b.orderly;
  queue = unparked_queue p t slots q r s e value b.queue differ differ_s k parked waiting;
  cost = b.cost;
  pairs = b.pairs;
})

pub board_with_job : (p : ProblemValue) (t : WorkTreeValue) (slots new : List Slot) (q r : QueueValue)
    (best : Option Best) (count : ℕ) (e : Entry) (result : Result (Option Job) LendRefusal) → HasJob result
    → IsBoard p t slots q best count → ItemsDiffer (all_of q) → IsFirst q.waiting e → Parks q r e
    → LendsEntry t best slots e result new → IsBoard p t new r best count
board_with_job p t slots new q r best count e (Ok None) h b differ first k l = absurd h
board_with_job p t slots new q r best count e (Ok (Some job)) h b differ first k l =
    lent_board p t slots new q r best count e job b differ first k l
board_with_job p t slots new q r best count e (Err refusal) h b differ first k l = absurd h

pub same_slots : (t : WorkTreeValue) (best : Option Best) (slots new : List Slot) (e : Entry)
    (result : Result (Option Job) LendRefusal) → (HasJob result → ⊥) → LendsEntry t best slots e result new
    → new ≡ slots
same_slots t best slots new e (Ok None) h l = l.0
same_slots t best slots new e (Ok (Some job)) h l = absurd (h tt)
same_slots t best slots new e (Err NumbersSpent) h l = l.0
same_slots t best slots new e (Err Memory) h l = l

pub leaf_within : (leaves : List (Option Leaf)) (node : ℕ) (leaf : Leaf) → get_or leaves node None ≡ Some leaf → node < length leaves
leaf_within [] node leaf e = cc
leaf_within (x ∷ leaves) zero leaf e = omega arith
leaf_within (x ∷ leaves) (suc node) leaf e = omega (arith, leaf_within leaves node leaf e)

pub first_within : (p : ProblemValue) (t : WorkTreeValue) (slots : List Slot) (q : QueueValue) (best : Option Best)
    (count : ℕ) (e : Entry) → IsBoard p t slots q best count → IsFirst q.waiting e → e.item < length t.leaves
first_within p t slots q best count e b first =
    let worth = b.queue.each e (Contains-append_left q.waiting q.parked e first.0) in
    leaf_within t.leaves e.item (Bound worth.pairs) worth.leaf

-- what was parked can wait again
pub first_parked : (q r : QueueValue) (e : Entry) → Parks q r e → HasItem r.parked e.item
first_parked q r e k = (e.value, Contains-permutation _ _ _ k.parked (held_first e q.parked))
