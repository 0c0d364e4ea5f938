-- The least value in the queue is that of the tree.
use Rattle.std.proofs.Common.{◌≡◌, ℕ, ◌≤◌, List, [], refl, sym, ap, ◌∙◌, arith, subst, zero-le, MatchOption}
use Rattle.std.specs.Prelude.{ℤ, pos, negsuc, ◌≤ℤ◌, Option, Some, None, IsSomeAnd, option_map, Contains}
use Rattle.std.proofs.lemmas.Int.{ints}
use Rattle.std.proofs.lemmas.List.Elements.{All-contains}
use Rattle.pesp_truth.specs.Trees.{Bound}
use Rattle.pesp_nodes.specs.Problems.{ProblemValue, problem_net}
use Rattle.pesp_tree.specs.WorkTrees.{WorkTreeValue, IsWhole, path_to}
use Rattle.pesp_tree.specs.declared.entry.Entry.{Entry}
use Rattle.pesp_tree.specs.Entries.{entry, IsLeastValue}
use Rattle.pesp_tree.specs.Queues.{QueueValue, all_of}
use Rattle.pesp_tree.specs.BoardLeaves.{HasValue, least_value, told}
use Rattle.pesp_tree.specs.States.{root_of, value_at, least}
use Rattle.pesp_tree.proofs.Least.{least_is_had, least_is_under, least_is_none}
use Rattle.pesp_board.specs.declared.slot.Slot.{Slot}
use Rattle.pesp_board.specs.Insides.{state_of, IsQueue}
use Rattle.pesp_board.proofs.Places.{one_leaf}

-- ---- what is told

pub told_rises : (a b : ℤ) → a ≤ℤ b → told a ≤ told b
told_rises (pos a) (pos b) h = omega (arith, ints)
told_rises (pos a) (negsuc b) h = absurd (omega (arith, ints))
told_rises (negsuc a) b h = zero-le

-- where something is told there is a value
pub some_told : (o : Option ℤ) (l : ℕ) → option_map told o ≡ Some l → (v : ℤ) × (o ≡ Some v) × (told v ≡ l)
some_told None l e = cc
some_told (Some v) l e = (v, refl, cc)

and_is : (o : Option ℤ) (P : ℤ → Type 0) → IsSomeAnd o P → (v : ℤ) × (o ≡ Some v) × P v
and_is None P h = absurd h
and_is (Some v) P h = (v, refl, h)

same_told : (o : Option ℤ) (v : ℤ) (l : ℕ) → o ≡ Some v → option_map told o ≡ Some l → told v ≡ l
same_told None v l e f = cc
same_told (Some u) v l e f = cc

-- ---- values in the queue

-- a value that a bound leaf has is told in the queue
pub in_queue : (p : ProblemValue) (t : WorkTreeValue) (slots : List Slot) (q : QueueValue) (v : ℤ) → IsWhole t
    → IsQueue p t slots q → HasValue (problem_net p) p.table t.tree (root_of p) v
    → (node : ℕ) × Contains (all_of q) (entry node (told v))
in_queue p t slots q v w is h =
    let at = w.found h.path (Bound h.pairs) h.leaf in
    let held = is.has at.0 h.pairs at.2 in
    let worth = is.each (entry at.0 held.0) held.1 in
    let pairs : worth.pairs ≡ h.pairs = one_leaf t at.0 worth.pairs h.pairs worth.leaf at.2 in
    let value : value_at p (path_to t at.0) worth.pairs ≡ Some v = (λ i. value_at p (at.1 i) (pairs i)) ∙ h.worth in
    let same : told v ≡ held.0 = same_told (value_at p (path_to t at.0) worth.pairs) v held.0 value worth.worth in
    (at.0, subst (λ n. Contains (all_of q) (entry at.0 n)) (sym same) held.1)

least_none : (p : ProblemValue) (t : WorkTreeValue) (slots : List Slot) (times : Option (List ℕ)) (q : QueueValue)
    → IsWhole t → IsQueue p t slots q → all_of q ≡ [] → None ≡ least p (state_of t slots times)
least_none p t slots times q w is e =
    sym (ap (option_map told) (least_is_none (problem_net p) p.table t.tree (root_of p)
    (λ v h. let held = in_queue p t slots q v w is h in
    no_entry (entry held.0 (told v)) (subst (λ l. Contains l (entry held.0 (told v))) e held.1))))
  where
    no_entry : (x : Entry) → Contains [] x → ⊥
    no_entry x h = absurd (omega (arith, h.1))

least_some : (p : ProblemValue) (t : WorkTreeValue) (slots : List Slot) (times : Option (List ℕ)) (q : QueueValue)
    (l : ℕ) → IsWhole t → IsQueue p t slots q → IsLeastValue (all_of q) l
    → Some l ≡ least p (state_of t slots times)
least_some p t slots times q l w is first =
    let worth = is.each (entry first.0 l) first.1.0 in
    let value = some_told (value_at p (path_to t first.0) worth.pairs) l worth.worth in
    let had : HasValue (problem_net p) p.table t.tree (root_of p) value.0 =
    record {
      path = path_to t first.0;
      pairs = worth.pairs;
      leaf = w.stands first.0 (Bound worth.pairs) worth.leaf;
      worth = value.1;
    } in
    let under = and_is (least_value (problem_net p) p.table t.tree (root_of p)) (λ u. u ≤ℤ value.0)
    (least_is_under (problem_net p) p.table t.tree (root_of p) value.0 had) in
    let held = in_queue p t slots q under.0 w is (least_is_had (problem_net p) p.table t.tree (root_of p) under.0 under.1) in
    let above : l ≤ told under.0 = All-contains (λ (e : Entry). l ≤ e.value) (all_of q) (entry held.0 (told under.0)) first.1.1 held.1 in
    let below : told under.0 ≤ told value.0 = told_rises under.0 value.0 under.2 in
    let is_it : told value.0 ≡ l = value.2 in
    let same : l ≡ told under.0 = omega (arith, above, below, is_it) in
    ap Some same ∙ sym (ap (option_map told) under.1)

pub least_is : (p : ProblemValue) (t : WorkTreeValue) (slots : List Slot) (times : Option (List ℕ))
    (q : QueueValue) (result : Option ℕ) → IsWhole t → IsQueue p t slots q
    → MatchOption result (all_of q ≡ []) (IsLeastValue (all_of q)) → result ≡ least p (state_of t slots times)
least_is p t slots times q None w is e = least_none p t slots times q w is e
least_is p t slots times q (Some l) w is first = least_some p t slots times q l w is first
