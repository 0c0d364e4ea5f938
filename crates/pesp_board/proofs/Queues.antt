-- Queues: what a change of the lists leaves of what they have.
use Rattle.std.proofs.Common.{◌≡◌, ℕ, zero, suc, ◌+◌, ◌<◌, List, [], ◌∷◌, ◌++◌, length, set, refl, sym, ap, ◌∙◌, arith, subst, ◌⊎◌, inl, inr}
use Rattle.std.specs.Prelude.{Contains}
use Rattle.std.specs.List.Sorted.{IsPermutation}
use Rattle.std.proofs.lemmas.Bool.{cases_eq}
use Rattle.std.proofs.lemmas.List.{get_or_default, get_or_append_left, get_or-append-add, length-append}
use Rattle.std.proofs.lemmas.List.Elements.{Contains-append_cases, Contains-append_right}
use Rattle.std.proofs.lemmas.List.Sorted.{IsPermutation-refl, IsPermutation-sym, IsPermutation-trans, IsPermutation-append, IsPermutation-middle, Contains-permutation}
use Rattle.pesp_nodes.specs.Problems.{ProblemValue}
use Rattle.pesp_tree.specs.WorkTrees.{WorkTreeValue}
use Rattle.pesp_tree.specs.declared.entry.Entry.{Entry}
use Rattle.pesp_tree.specs.Entries.{entry, item_at, HasItem, ItemsDiffer}
use Rattle.pesp_tree.specs.Queues.{QueueValue, all_of}
use Rattle.pesp_board.specs.declared.slot.Slot.{Slot}
use Rattle.pesp_board.specs.declared.slot.Slot.TheVariants.{Lent as LentSlot, Recalled as RecalledSlot}
use Rattle.pesp_board.specs.Insides.{slot_at, IsQueue}
use Rattle.pesp_board.proofs.Slots.{ended, still_lent, recalled_is_not_lent, node_of_slot}

pub none_held : {X : Type 0} (x : X) → Contains [] x → ⊥
none_held x h = absurd (omega (arith, h.1))

pub one_held : {X : Type 0} (x y : X) → Contains (y ∷ []) x → y ≡ x
one_held x y (zero, l, e) = e
one_held x y (suc k, l, e) = absurd (omega (arith, l))

-- one of a list with one more in front is that one, or one of the list
pub held_cases : {X : Type 0} (y : X) (xs : List X) (x : X) → Contains (y ∷ xs) x → (y ≡ x) ⊎ Contains xs x
held_cases y xs x h = elim (Contains-append_cases (y ∷ []) xs x h) [ inl here ↦ inl (one_held x y here) | inr there ↦ inr there ]

pub held_more : {X : Type 0} (y : X) (xs : List X) (x : X) → Contains xs x → Contains (y ∷ xs) x
held_more y xs x h = Contains-append_right (y ∷ []) xs x h

pub held_first : {X : Type 0} (y : X) (xs : List X) → Contains (y ∷ xs) y
held_first y xs = (0, omega arith, refl)

-- the item of one that is held
item_held : (xs : List Entry) (item : ℕ) (h : HasItem xs item) → item_at xs h.1.0 ≡ item
item_held xs item h = ap (λ (e : Entry). e.item) (get_or_default xs h.1.0 (entry 0 0) (entry item h.0) h.1.1 ∙ h.1.2)

-- no item both waits and is parked
pub apart : (q : QueueValue) (item : ℕ) → ItemsDiffer (all_of q) → HasItem q.waiting item → HasItem q.parked item → ⊥
apart q item differ w k =
    let i = w.1.0 in
    let j = k.1.0 in
    let first : item_at (all_of q) i ≡ item = ap (λ (e : Entry). e.item)
    (get_or_append_left q.waiting q.parked (entry 0 0) i w.1.1) ∙ item_held q.waiting item w in
    let second : item_at (all_of q) (length q.waiting + j)
    ≡ item = ap (λ (e : Entry). e.item) (get_or-append-add q.waiting q.parked j (entry 0 0))
    ∙ item_held q.parked item k in
    let waits = w.1.1 in
    let lies = k.1.1 in
    let long = length-append q.waiting q.parked in
    differ i (length q.waiting + j) (omega (arith, waits)) (omega (arith, lies, long)) (first ∙ sym second)

-- one that leaves the parked ones to wait is still there
pub same_entries : (a b c d : List Entry) (e : Entry) → IsPermutation b (e ∷ d) → IsPermutation (e ∷ a) c → IsPermutation (a ++ b) (c ++ d)
same_entries a b c d e parked waiting =
    IsPermutation-trans _ _ _ (IsPermutation-append a a b (e ∷ d) (IsPermutation-refl a) parked)
    (IsPermutation-trans _ _ _ (IsPermutation-middle a e d) (IsPermutation-append (e ∷ a) c d d waiting (IsPermutation-refl d)))

-- ---- a number ends, and its node waits again

pub waits_again : (p : ProblemValue) (t : WorkTreeValue) (slots : List Slot) (q r : QueueValue)
    (number node value : ℕ) → IsQueue p t slots q
    → ((a b n : ℕ) → slot_at slots a ≡ LentSlot n → slot_at slots b ≡ LentSlot n → a ≡ b) → ItemsDiffer (all_of r)
    → number < length slots → slot_at slots number ≡ LentSlot node
    → IsPermutation q.parked (entry node value ∷ r.parked) → IsPermutation (entry node value ∷ q.waiting) r.waiting
    → IsQueue p t (set slots number RecalledSlot) r
waits_again p t slots q r number node value is one differ within lends parked waiting =
    let same = same_entries q.waiting q.parked r.waiting r.parked (entry node value) parked waiting in
    let here : HasItem r.waiting node = (value, Contains-permutation _ _ _ waiting (held_first (entry node value) q.waiting)) in
    record {
      each = λ e h. is.each e (Contains-permutation _ _ e (IsPermutation-sym _ _ same) h);
      has = λ n pairs e. let old = is.has n pairs e in (old.0, Contains-permutation _ _ _ same old.1);
      lent = λ n l.
          let was = ended slots number l.0 n RecalledSlot within recalled_is_not_lent l.1 in
          let old = is.lent n (l.0, was.1) in
          elim (held_cases (entry node value) r.parked (entry n old.0) (Contains-permutation _ _ _ parked old.1)) [
            | inl first ↦ absurd (was.0 (one l.0 number n was.1 (lends ∙ ap (λ (e : Entry). LentSlot e.item) first)))
            | inr rest ↦ (old.0, rest)
          ];
      parked = λ n h.
          let old = is.parked n (
            h.0,
            Contains-permutation _ _ _ (IsPermutation-sym _ _ parked)
                (held_more (entry node value) r.parked (entry n h.0) h.1),
          ) in
          elim (cases_eq old.0 number) [
            | inl same ↦ absurd (apart r node differ here
                (subst (HasItem r.parked) (node_of_slot n node (sym old.1 ∙ ap (slot_at slots) same ∙ lends)) h))
            | inr another ↦ still_lent slots number old.0 n RecalledSlot another old.1
          ];
    }
