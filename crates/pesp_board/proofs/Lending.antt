-- A waiting leaf of least value is lent, or none is open.
use Rattle.std.proofs.Common.{◌≡◌, ℕ, ◌<◌, ◌≤◌, List, [], refl, sym, ap, ◌∙◌, arith, subst, inl, inr}
use Rattle.std.specs.Prelude.{ℤ, pos, negsuc, ◌≤ℤ◌, ◌<ℤ◌, Option, Some, None, IsSome, option_map, Contains}
use Rattle.std.proofs.lemmas.Int.{ints, by_lt_z}
use Rattle.std.proofs.lemmas.List.Elements.{All-contains, Contains-append_cases, Contains-append_left, Contains-append_right}
use Rattle.pesp_problem.specs.declared.pair.Pair.{Pair}
use Rattle.pesp_problem.specs.declared.cut.Cut.{Cut}
use Rattle.pesp_problem.specs.declared.cut.Side.{Side}
use Rattle.pesp_problem.specs.NetTimetables.{net_cost}
use Rattle.pesp_truth.specs.Trees.{Leaf, Bound}
use Rattle.pesp_network.specs.Networks.{KeepsNetLimits}
use Rattle.pesp_nodes.specs.Problems.{ProblemValue, problem_net}
use Rattle.pesp_tree.specs.WorkTrees.{WorkTreeValue, IsWhole, path_to, leaf_at}
use Rattle.pesp_tree.specs.declared.entry.Entry.{Entry}
use Rattle.pesp_tree.specs.Entries.{entry, HasItem, ItemsDiffer, IsFirst}
use Rattle.pesp_tree.specs.Queues.{QueueValue, all_of}
use Rattle.pesp_truth.specs.Leaves.{IsLeafAt}
use Rattle.pesp_tree.specs.BoardLeaves.{told}
use Rattle.pesp_tree.specs.States.{Ticket, Lent, Given, Recalled, IsBelow, IsOpen, root_of, node_at, value_at, best_cost}
use Rattle.pesp_tree.specs.Events.{IsCheaper}
use Rattle.pesp_tree.proofs.Trees.{sound_leaf, value_of}
use Rattle.pesp_tree.proofs.Costs.{told_alike, costs_are_small}
use Rattle.pesp_board.specs.declared.best.Best.{Best}
use Rattle.pesp_board.specs.declared.slot.Slot.{Slot}
use Rattle.pesp_board.specs.declared.slot.Slot.TheVariants.{Lent as LentSlot}
use Rattle.pesp_board.specs.Insides.{ticket_of, times_of, best_cost_of, state_of, slot_at, IsQueue, IsBoard}
use Rattle.pesp_board.specs.Lending.{IsLeastOpen}
use Rattle.pesp_board.specs.LendingAll.{WaitsCheaper}
use Rattle.pesp_board.proofs.Places.{one_leaf}
use Rattle.pesp_board.proofs.Slots.{ticket_is, lent_by}
use Rattle.pesp_board.proofs.Queues.{apart}

-- ---- an open leaf waits

-- the node of an open leaf, and the value under which it waits
record Waits (p : ProblemValue) (t : WorkTreeValue) (q : QueueValue) (path : List (Cut × Side)) (pairs : List Pair) : Type 0 where
  node : ℕ
  value : ℕ
  at : path_to t node ≡ path
  leaf : leaf_at t node ≡ Some (Bound pairs)
  held : Contains q.waiting (entry node value)
  worth : option_map told (value_at p path pairs) ≡ Some value

-- the value of a node's entry is that of its leaf
worth_at : (p : ProblemValue) (t : WorkTreeValue) (slots : List Slot) (q : QueueValue) (node value : ℕ)
    (path : List (Cut × Side)) (pairs : List Pair) → IsQueue p t slots q → Contains (all_of q) (entry node value)
    → path_to t node ≡ path → leaf_at t node ≡ Some (Bound pairs)
    → option_map told (value_at p path pairs) ≡ Some value
worth_at p t slots q node value path pairs is held at leaf =
    let worth = is.each (entry node value) held in
    let same : worth.pairs ≡ pairs = one_leaf t node worth.pairs pairs worth.leaf leaf in
    subst (λ x. option_map told (value_at p x pairs) ≡ Some value) at
    (subst (λ x. option_map told (value_at p (path_to t node) x) ≡ Some value) same worth.worth)

open_waits : (p : ProblemValue) (t : WorkTreeValue) (slots : List Slot) (times : Option (List ℕ)) (q : QueueValue)
    (path : List (Cut × Side)) → IsWhole t → IsQueue p t slots q → (o : IsOpen p (state_of t slots times) path)
    → Waits p t q path o.pairs
open_waits p t slots times q path w is o =
    let at = w.found path (Bound o.pairs) o.leaf in
    let held = is.has at.0 o.pairs at.2 in
    elim (Contains-append_cases q.waiting q.parked (entry at.0 held.0) held.1) [
      | inl waits ↦ record {
        node = at.0;
        value = held.0;
        at = at.1;
        leaf = at.2;
        held = waits;
        worth = worth_at p t slots q at.0 held.0 path o.pairs is held.1 at.1 at.2;
      }
      | inr lies ↦ (let l = is.parked at.0 (held.0, lies) in
          absurd (o.unlent (l.0, ticket_is t slots l.0 ∙ ap (ticket_of t) l.1 ∙ ap Lent at.1)))
    ]

pub none_waits : (p : ProblemValue) (t : WorkTreeValue) (slots : List Slot) (times : Option (List ℕ))
    (q : QueueValue) → IsWhole t → IsQueue p t slots q → q.waiting ≡ [] → (path : List (Cut × Side))
    → IsOpen p (state_of t slots times) path → ⊥
none_waits p t slots times q w is none path o =
    let waits = open_waits p t slots times q path w is o in
    nothing_held (entry waits.node waits.value) (subst (λ l. Contains l (entry waits.node waits.value)) none waits.held)
  where
    nothing_held : (x : Entry) → Contains [] x → ⊥
    nothing_held x h = absurd (omega (arith, h.1))

-- ---- values and the best cost

-- a bound leaf has a value that isn't negative
leaf_value_is : (p : ProblemValue) (t : WorkTreeValue) (slots : List Slot) (q : QueueValue) (best : Option Best)
    (count : ℕ) (path : List (Cut × Side)) (pairs : List Pair) → IsBoard p t slots q best count
    → IsLeafAt t.tree path (Bound pairs) → (v : ℤ) × (value_at p path pairs ≡ Some v) × (pos 0 ≤ℤ v)
leaf_value_is p t slots q best count path pairs b h =
    value_of (problem_net p) p.table (node_at p path) pairs
    (sound_leaf (problem_net p) p.table (Some 0) t.tree path (Bound pairs) (root_of p) h b.orderly.kept.tree)

same_told : (o : Option ℤ) (v : ℤ) (l : ℕ) → o ≡ Some v → option_map told o ≡ Some l → told v ≡ l
same_told None v l e f = cc
same_told (Some u) v l e f = cc

told_below : (v : ℤ) (c : ℕ) → pos 0 ≤ℤ v → v <ℤ pos c → told v < c
told_below (pos v) c n h = omega (arith, ints)
told_below (negsuc v) c n h = absurd (omega (arith, ints))

-- a value below the best cost is told as one below it
cheaper_of : (o : Option ℤ) (v : ℤ) (best : Option ℕ) (l : ℕ) → o ≡ Some v → pos 0 ≤ℤ v → l ≤ told v → IsBelow o best → IsCheaper l best
cheaper_of o v None l e n h b = tt
cheaper_of None v (Some c) l e n h b = cc
cheaper_of (Some u) v (Some c) l e n h b = let same : u ≡ v = some_same e in
    let less = told_below v c n (subst (λ x. x <ℤ pos c) same b) in omega (arith, h, less)
  where
    some_same : {a b : ℤ} → Some a ≡ Some b → a ≡ b
    some_same e = cc

below_of : (o : Option ℤ) (v : ℤ) (best : Option ℕ) → o ≡ Some v → pos 0 ≤ℤ v
    → ((c : ℕ) → best ≡ Some c → c ≤ 999999999999999999) → IsCheaper (told v) best → IsBelow o best
below_of o v None e n small h = tt
below_of o v (Some c) e n small h = rw e (by_lt_z v (pos c) (λ l. l)
    (λ g. absurd (let over = (told_alike v c n (small c refl)).0 g in omega (arith, over, h))))

cost_is_small : (p : ProblemValue) (best : Option (List ℕ)) (c : ℕ) → KeepsNetLimits p.network
    → option_map (net_cost (problem_net p)) best ≡ Some c → c ≤ 999999999999999999
cost_is_small p None c limits e = cc
cost_is_small p (Some times) c limits e = let same : net_cost (problem_net p) times ≡ c = cc in
    let small = costs_are_small p.network times limits in omega (arith, same, small)

-- ---- the first that waits

-- its value is at most that of each open leaf
pub first_under : (p : ProblemValue) (t : WorkTreeValue) (slots : List Slot) (times : Option (List ℕ))
    (q : QueueValue) (e : Entry) (path : List (Cut × Side)) → IsWhole t → IsQueue p t slots q → IsFirst q.waiting e
    → (o : IsOpen p (state_of t slots times) path) (v : ℤ) → value_at p path o.pairs ≡ Some v → e.value ≤ told v
first_under p t slots times q e path w is first o v at =
    let waits = open_waits p t slots times q path w is o in
    let under = All-contains (λ (x : Entry). e.value ≤ x.value) q.waiting (entry waits.node waits.value) first.1 waits.held in
    let same = same_told (value_at p path o.pairs) v waits.value at waits.worth in
    omega (arith, under, same)

-- where it isn't cheaper no leaf is open
pub none_cheaper : (p : ProblemValue) (t : WorkTreeValue) (slots : List Slot) (q : QueueValue) (best : Option Best)
    (count : ℕ) (e : Entry) → IsBoard p t slots q best count → IsFirst q.waiting e
    → (IsCheaper e.value (best_cost_of best) → ⊥) → (path : List (Cut × Side))
    → IsOpen p (state_of t slots (times_of best)) path → ⊥
none_cheaper p t slots q best count e b first dear path o =
    let value = leaf_value_is p t slots q best count path o.pairs b o.leaf in
    let under = first_under p t slots (times_of best) q e path b.whole b.queue first o value.0 value.1 in
    dear (subst (IsCheaper e.value) (sym b.cost)
    (cheaper_of (value_at p path o.pairs) value.0
    (best_cost p (state_of t slots (times_of best))) e.value value.1 value.2 under o.cheaper))

abbrev path_of : Ticket → List (Cut × Side)
path_of (Lent path) = path
path_of Given = []
path_of Recalled = []

pub some_leaf : (o : Option Leaf) (leaf : Leaf) → o ≡ Some leaf → IsSome o
some_leaf None leaf e = cc
some_leaf (Some x) leaf e = refl

-- no number is lent with the path of a node that waits
unlent_path : (p : ProblemValue) (t : WorkTreeValue) (slots : List Slot) (q : QueueValue) (node number other : ℕ)
    → IsWhole t → IsQueue p t slots q → ItemsDiffer (all_of q) → HasItem q.waiting node
    → slot_at slots number ≡ LentSlot other → path_to t other ≡ path_to t node → ⊥
unlent_path p t slots q node number other w is differ waits e same =
    let lies = is.lent other (number, e) in
    let there = is.each (entry other lies.0) (Contains-append_right q.waiting q.parked (entry other lies.0) lies.1) in
    let here = is.each (entry node waits.0) (Contains-append_left q.waiting q.parked (entry node waits.0) waits.1) in
    let one = w.one other node (some_leaf (leaf_at t other) (Bound there.pairs) there.leaf)
    (some_leaf (leaf_at t node) (Bound here.pairs) here.leaf) same in
    apart q node differ waits (subst (HasItem q.parked) one lies)

-- where a value that waits is cheaper its leaf is open
pub waiting_opens : (p : ProblemValue) (t : WorkTreeValue) (slots : List Slot) (q : QueueValue)
    (best : Option Best) (count : ℕ) (e : Entry) → IsBoard p t slots q best count → ItemsDiffer (all_of q)
    → Contains q.waiting e → IsCheaper e.value (best_cost_of best)
    → IsOpen p (state_of t slots (times_of best)) (path_to t e.item)
waiting_opens p t slots q best count e b differ waits cheap =
    let state = state_of t slots (times_of best) in
    let worth = b.queue.each e (Contains-append_left q.waiting q.parked e waits) in
    let leaf = b.whole.stands e.item (Bound worth.pairs) worth.leaf in
    let value = leaf_value_is p t slots q best count (path_to t e.item) worth.pairs b leaf in
    let told_so : told value.0 ≡ e.value = same_told (value_at p (path_to t e.item) worth.pairs) value.0 e.value value.1 worth.worth in
    let cheaper : IsCheaper (told value.0) (best_cost p state) =
    subst (λ n. IsCheaper n (best_cost p state)) (sym told_so) (subst (IsCheaper e.value) b.cost cheap) in
    let below = below_of (value_at p (path_to t e.item) worth.pairs) value.0 (best_cost p state) value.1 value.2
    (λ c is. cost_is_small p (times_of best) c b.network is) cheaper in
    record {
      pairs = worth.pairs;
      leaf = leaf;
      unlent = λ l.
          let by = lent_by t (slot_at slots l.0) (path_to t e.item) (sym (ticket_is t slots l.0) ∙ l.1) in
          unlent_path p t slots q e.item l.0 by.0 b.whole b.queue differ (e.value, waits) by.1
          (ap path_of (ap (ticket_of t) (sym by.1) ∙ sym (ticket_is t slots l.0) ∙ l.1));
      cheaper = below;
    }

-- and the leaf of the first has the least value of them
pub first_opens : (p : ProblemValue) (t : WorkTreeValue) (slots : List Slot) (q : QueueValue) (best : Option Best)
    (count : ℕ) (e : Entry) → IsBoard p t slots q best count → ItemsDiffer (all_of q) → IsFirst q.waiting e
    → IsCheaper e.value (best_cost_of best) → IsLeastOpen p (state_of t slots (times_of best)) (path_to t e.item)
unfolding waiting_opens
first_opens p t slots q best count e b differ first cheap =
    let opens = waiting_opens p t slots q best count e b differ first.0 cheap in
    let worth = b.queue.each e (Contains-append_left q.waiting q.parked e first.0) in
    record {
      opens = opens;
      least = λ other o v u at_v at_u.
          let same = same_told (value_at p (path_to t e.item) worth.pairs) v e.value at_v worth.worth in
          let under = first_under p t slots (times_of best) q e other b.whole b.queue first o u at_u in
          omega (arith, same, under);
    }

-- an open leaf at the path of a node with a leaf is that node's, which waits with a cheaper value
pub open_is : (p : ProblemValue) (t : WorkTreeValue) (slots : List Slot) (q : QueueValue) (best : Option Best)
    (count node : ℕ) → IsBoard p t slots q best count → IsSome (leaf_at t node)
    → IsOpen p (state_of t slots (times_of best)) (path_to t node) → WaitsCheaper q best node
open_is p t slots q best count node b some o =
    let state = state_of t slots (times_of best) in
    let path = path_to t node in
    let waits = open_waits p t slots (times_of best) q path b.whole b.queue o in
    let value = leaf_value_is p t slots q best count path o.pairs b o.leaf in
    let same = same_told (value_at p path o.pairs) value.0 waits.value value.1 waits.worth in
    let cheap = cheaper_of (value_at p path o.pairs) value.0 (best_cost p state) waits.value value.1 value.2
    (omega (arith, same)) o.cheaper in
    let one = b.whole.one waits.node node (some_leaf (leaf_at t waits.node) (Bound o.pairs) waits.leaf) some waits.at in (
      waits.value,
      subst (λ (n : ℕ). Contains q.waiting (entry n waits.value)) one waits.held,
      subst (IsCheaper waits.value) (sym b.cost) cheap,
    )
