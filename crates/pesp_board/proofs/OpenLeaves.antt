-- The open leaves are those of the nodes that wait with a value below the best cost.
use Rattle.std.proofs.Common.{◌≡◌, ◌≢◌, ℕ, ◌+◌, ◌<◌, ◌≤◌, List, [], ◌∷◌, ◌++◌, length, get_or, map, refl, sym, ap, ◌∙◌, arith, subst, inl, inr, Bool, true}
use Rattle.std.specs.Prelude.{◌↔◌, ℤ, pos, negsuc, All, Contains, Option, Some, None, option_map, nat_lt}
use Rattle.std.specs.List.{filter, AllPairs}
use Rattle.std.proofs.lemmas.Bool.{ltb-true, lt-ltb, both_ways, cond_both}
use Rattle.std.proofs.lemmas.List.{get_or-map, get_or_append_left, get_or_default, length-append, length-map}
use Rattle.std.proofs.lemmas.List.Elements.{All-nil, All-cons, All-head, All-tail, All-map, All-filter, All-contains_itself, filter_passes, Contains-append_left, Contains-get_or}
use Rattle.std.proofs.lemmas.List.Kept.{AllPairs-filter}
use Rattle.pesp_problem.specs.declared.cut.Cut.{Cut}
use Rattle.pesp_problem.specs.declared.cut.Side.{Side}
use Rattle.pesp_truth.specs.Trees.{Bound}
use Rattle.pesp_nodes.specs.Problems.{ProblemValue}
use Rattle.pesp_tree.specs.WorkTrees.{WorkTreeValue, path_to, leaf_at}
use Rattle.pesp_tree.specs.declared.entry.Entry.{Entry}
use Rattle.pesp_tree.specs.Entries.{entry, entry_at, item_at, ItemsDiffer}
use Rattle.pesp_tree.specs.Queues.{QueueValue, all_of}
use Rattle.pesp_tree.specs.BoardLeaves.{told}
use Rattle.pesp_tree.specs.States.{IsOpen}
use Rattle.pesp_tree.specs.Events.{IsCheaper}
use Rattle.pesp_board.specs.declared.best.Best.{Best}
use Rattle.pesp_board.specs.declared.slot.Slot.{Slot}
use Rattle.pesp_board.specs.Insides.{times_of, best_cost_of, state_of, IsBoard}
use Rattle.pesp_board.specs.OpenLeaves.{AreOpen}
use Rattle.pesp_board.proofs.Queues.{held_cases, held_more, held_first}
use Rattle.pesp_board.proofs.Lending.{some_leaf, waiting_opens, open_is}

-- ---- lists

all_both : {X : Type 0} (P Q R : X → Type 0) → ((x : X) → P x → Q x → R x) → (xs : List X) → All P xs → All Q xs → All R xs
all_both P Q R f [] p q = All-nil R
all_both P Q R f (x ∷ xs) p q = All-cons R x xs (f x (All-head P x xs p) (All-head Q x xs q))
    (all_both P Q R f xs (All-tail P x xs p) (All-tail Q x xs q))

-- what passes a test is kept
kept : {X : Type 0} (test : X → Bool) (xs : List X) (x : X) → Contains xs x → test x ≡ true → Contains (filter test xs) x
kept test [] x h t = h
kept test (y ∷ xs) x h t = elim (held_cases y xs x h) [
  | inl same ↦ cond_both (test y) (y ∷ filter test xs) (filter test xs) (λ l. Contains l x)
      (λ passes. subst (Contains (y ∷ filter test xs)) same (held_first y (filter test xs)))
      (λ fails. absurd (both_ways (test y) fails (ap test same ∙ t)))
  | inr rest ↦ (let more = kept test xs x rest t in
      cond_both (test y) (y ∷ filter test xs) (filter test xs) (λ l. Contains l x)
      (λ passes. held_more y (filter test xs) x more) (λ fails. more))
]

mapped : {X Y : Type 0} (f : X → Y) (xs : List X) (x : X) → Contains xs x → Contains (map f xs) (f x)
mapped f [] x h = absurd (omega (arith, h.1))
mapped f (y ∷ xs) x h = elim (held_cases y xs x h) [
  | inl same ↦ subst (λ z. Contains (f y ∷ map f xs) (f z)) same (held_first (f y) (map f xs))
  | inr rest ↦ held_more (f y) (map f xs) (f x) (mapped f xs x rest)
]

-- ---- entries that wait

module _ (p : ProblemValue) (t : WorkTreeValue) (slots : List Slot) (q : QueueValue) (best : Option Best)
    (count most : ℕ) (b : IsBoard p t slots q best count) (differ : ItemsDiffer (all_of q))
    (below : (value : ℕ) → value ≤ 999999999999999999 → (value < most) ↔ IsCheaper value (best_cost_of best)) where
  abbrev cheap : Entry → Bool
  cheap e = nat_lt e.value most

  abbrev path : Entry → List (Cut × Side)
  path e = path_to t e.item

  -- what is told of a value is at most that number
  told_short : (o : Option ℤ) (value : ℕ) → option_map told o ≡ Some value → value ≤ 999999999999999999
  told_short None value e = cc
  told_short (Some (pos n)) value e = let same : told (pos n) ≡ value = cc in omega (arith, same)
  told_short (Some (negsuc n)) value e = let same : told (negsuc n) ≡ value = cc in omega (arith, same)

  short : (e : Entry) → Contains q.waiting e → e.value ≤ 999999999999999999
  short e h = told_short _ e.value (b.queue.each e (Contains-append_left q.waiting q.parked e h)).worth

  opens_one : (e : Entry) → Contains q.waiting e → cheap e ≡ true → IsOpen p (state_of t slots (times_of best)) (path e)
  opens_one e h c = waiting_opens p t slots q best count e b differ h ((below e.value (short e h)).0 (ltb-true e.value most c))

  each_one : (at : List (Cut × Side)) → IsOpen p (state_of t slots (times_of best)) at → Contains (map path (filter cheap q.waiting)) at
  each_one at o =
      let found = b.whole.found at (Bound o.pairs) o.leaf in
      let some = some_leaf (leaf_at t found.0) (Bound o.pairs) found.2 in
      let waits = open_is p t slots q best count found.0 b some (subst (IsOpen p (state_of t slots (times_of best))) (sym found.1) o) in
      let e = entry found.0 waits.0 in
      let passes : cheap e ≡ true = lt-ltb waits.0 most ((below waits.0 (short e waits.1)).1 waits.2) in
      subst (Contains (map path (filter cheap q.waiting))) found.1
      (mapped path (filter cheap q.waiting) e (kept cheap q.waiting e waits.1 passes))

  abbrev Apart : Entry → Entry → Type 0
  Apart e f = path e ≢ path f

  leaf_of_waiting : (i : ℕ) (d : Entry) → i < length q.waiting → Contains (all_of q) (get_or q.waiting i d)
  leaf_of_waiting i d within = Contains-append_left q.waiting q.parked (get_or q.waiting i d) (Contains-get_or q.waiting i d within)

  item_of_waiting : (i : ℕ) (d : Entry) → i < length q.waiting → item_at (all_of q) i ≡ (get_or q.waiting i d).item
  item_of_waiting i d within = ap (λ (e : Entry). e.item)
      (get_or_append_left q.waiting q.parked (entry 0 0) i within ∙ get_or_default q.waiting i (entry 0 0) d within)

  apart_waiting : AllPairs Apart q.waiting
  apart_waiting i j d less within same =
      let long = length-append q.waiting q.parked in
      let first : i < length q.waiting = omega (arith, less, within) in
      let e = get_or q.waiting i d in
      let f = get_or q.waiting j d in
      let here = b.queue.each e (leaf_of_waiting i d first) in
      let there = b.queue.each f (leaf_of_waiting j d within) in
      let one = b.whole.one e.item f.item (some_leaf (leaf_at t e.item) (Bound here.pairs) here.leaf)
      (some_leaf (leaf_at t f.item) (Bound there.pairs) there.leaf) same in
      differ i j less (omega (arith, within, long)) (item_of_waiting i d first ∙ one ∙ sym (item_of_waiting j d within))

  apart_paths : (xs : List Entry) → AllPairs Apart xs → AllPairs (λ a c. a ≢ c) (map path xs)
  apart_paths xs h i j d less within same =
      let long = length-map xs path in
      let last : j < length xs = omega (arith, within, long) in
      let first : i < length xs = omega (arith, less, last) in
      let e = entry 0 0 in
      h i j e less last (sym (get_or-map path xs i e d first) ∙ same ∙ get_or-map path xs j e d last)

  pub are_open : (result : ℕ) → result ≡ length (filter cheap q.waiting) → AreOpen p (state_of t slots (times_of best)) result
  are_open result is =
      let some = filter cheap q.waiting in
      let state = state_of t slots (times_of best) in
      let held = All-filter cheap (Contains q.waiting) q.waiting (All-contains_itself q.waiting) in
      record {
        paths = map path some;
        differ = apart_paths some (AllPairs-filter Apart cheap q.waiting apart_waiting);
        opens = All-map (IsOpen p state) path some
            (all_both (Contains q.waiting) (λ e. cheap e ≡ true) (λ e. IsOpen p state (path e)) opens_one some held
            (filter_passes cheap q.waiting));
        each = each_one;
        number = is ∙ sym (length-map some path);
      }
