-- The first that waits is parked, for good or for now.
use Rattle.std.proofs.Common.{◌≡◌, ℕ, zero, suc, List, [], ◌∷◌, ◌++◌, length, refl, sym, ap, ◌∙◌, subst, ◌⊎◌, inl, inr}
use Rattle.std.specs.List.Sorted.{IsPermutation}
use Rattle.std.proofs.lemmas.List.Sorted.{IsPermutation-sym, IsPermutation-trans, Contains-permutation}
use Rattle.pesp_nodes.specs.Problems.{ProblemValue}
use Rattle.pesp_tree.specs.WorkTrees.{WorkTreeValue}
use Rattle.pesp_tree.specs.declared.entry.Entry.{Entry}
use Rattle.pesp_tree.specs.Entries.{entry, HasItem, ItemsDiffer}
use Rattle.pesp_tree.specs.Queues.{QueueValue, all_of}
use Rattle.pesp_board.specs.declared.slot.Slot.{Slot}
use Rattle.pesp_board.specs.declared.slot.Slot.TheVariants.{Lent as LentSlot}
use Rattle.pesp_board.specs.Insides.{slot_at, IsQueue}
use Rattle.pesp_board.proofs.Queues.{held_cases, held_more, held_first, same_entries, apart}

-- one that waited is parked
pub record Parks (q r : QueueValue) (e : Entry) : Type 0 where
  pub waiting : IsPermutation q.waiting (e ∷ r.waiting)
  pub parked : IsPermutation (e ∷ q.parked) r.parked

pub parks_same : (q r : QueueValue) (e : Entry) → Parks q r e → IsPermutation (all_of r) (all_of q)
parks_same q r e k = same_entries r.waiting r.parked q.waiting q.parked e (IsPermutation-sym _ _ k.parked) (IsPermutation-sym _ _ k.waiting)

-- ---- slots with one more

pub none_is_lent : (number node : ℕ) → slot_at [] number ≡ LentSlot node → ⊥
none_is_lent number node e = cc

lent_more : (slots : List Slot) (number node n : ℕ) → slot_at (slots ++ LentSlot n ∷ []) number ≡ LentSlot node
    → (slot_at slots number ≡ LentSlot node) ⊎ (node ≡ n)
lent_more [] zero node n e = inr cc
lent_more [] (suc number) node n e = absurd (none_is_lent number node e)
lent_more (s ∷ slots) zero node n e = inl e
lent_more (s ∷ slots) (suc number) node n e = lent_more slots number node n e

lent_still : (slots : List Slot) (number node n : ℕ) → slot_at slots number ≡ LentSlot node
    → slot_at (slots ++ LentSlot n ∷ []) number ≡ LentSlot node
lent_still [] number node n e = absurd (none_is_lent number node e)
lent_still (s ∷ slots) zero node n e = e
lent_still (s ∷ slots) (suc number) node n e = lent_still slots number node n e

lent_last : (slots : List Slot) (n : ℕ) → slot_at (slots ++ LentSlot n ∷ []) (length slots) ≡ LentSlot n
lent_last [] n = refl
lent_last (s ∷ slots) n = lent_last slots n

-- ---- the queue

pub lent_queue : (p : ProblemValue) (t : WorkTreeValue) (slots : List Slot) (q r : QueueValue) (e : Entry)
    → IsQueue p t slots q → Parks q r e → IsQueue p t (slots ++ LentSlot e.item ∷ []) r
lent_queue p t slots q r e is k =
    let same = parks_same q r e k in
    record {
      each = λ x h. is.each x (Contains-permutation _ _ x same h);
      has = λ n pairs l. let old = is.has n pairs l in (old.0, Contains-permutation _ _ _ (IsPermutation-sym _ _ same) old.1);
      lent = λ n l. elim (lent_more slots l.0 n e.item l.1) [
        | inl before ↦ (let old = is.lent n (l.0, before) in
            (old.0, Contains-permutation _ _ _ k.parked (held_more e q.parked (entry n old.0) old.1)))
        | inr here ↦ subst (HasItem r.parked) (sym here) (e.value, Contains-permutation _ _ _ k.parked (held_first e q.parked))
      ];
      parked = λ n h. elim (held_cases e q.parked (entry n h.0) (Contains-permutation _ _ _ (IsPermutation-sym _ _ k.parked) h.1)) [
        | inl here ↦ (length slots, lent_last slots e.item ∙ ap (λ (x : Entry). LentSlot x.item) here)
        | inr before ↦ (let old = is.parked n (h.0, before) in (old.0, lent_still slots old.0 n e.item old.1))
      ];
    }

-- what is parked for now waits again
pub unparked_queue : (p : ProblemValue) (t : WorkTreeValue) (slots : List Slot) (q r s : QueueValue) (e : Entry)
    (value : ℕ) → IsQueue p t slots q → ItemsDiffer (all_of q) → ItemsDiffer (all_of s) → Parks q r e
    → IsPermutation r.parked (entry e.item value ∷ s.parked)
    → IsPermutation (entry e.item value ∷ r.waiting) s.waiting → IsQueue p t slots s
unparked_queue p t slots q r s e value is differ differ_s k parked waiting =
    let x = entry e.item value in
    let same : IsPermutation (all_of s) (all_of q) =
    IsPermutation-trans _ _ _ (IsPermutation-sym _ _
    (same_entries r.waiting r.parked s.waiting s.parked x parked waiting)) (parks_same q r e k) in
    let waited : HasItem q.waiting e.item = (
      e.value,
      Contains-permutation _ _ _ (IsPermutation-sym _ _ k.waiting) (held_first e r.waiting),
    ) in
    let waits : HasItem s.waiting e.item = (value, Contains-permutation _ _ _ waiting (held_first x r.waiting)) in
    record {
      each = λ y h. is.each y (Contains-permutation _ _ y same h);
      has = λ n pairs l. let old = is.has n pairs l in (old.0, Contains-permutation _ _ _ (IsPermutation-sym _ _ same) old.1);
      lent = λ n l.
          let old = is.lent n l in
          elim (held_cases x s.parked (entry n old.0)
          (Contains-permutation _ _ _ parked (Contains-permutation _ _ _ k.parked
          (held_more e q.parked (entry n old.0) old.1)))) [
            | inl here ↦ absurd (apart q e.item differ waited (subst (HasItem q.parked) (ap (λ (y : Entry). y.item) (sym here)) old))
            | inr rest ↦ (old.0, rest)
          ];
      parked = λ n h. elim (held_cases e q.parked (entry n h.0)
          (Contains-permutation _ _ _ (IsPermutation-sym _ _ k.parked)
          (Contains-permutation _ _ _ (IsPermutation-sym _ _ parked) (held_more x s.parked (entry n h.0) h.1)))) [
            | inl here ↦ absurd (apart s e.item differ_s waits (subst (HasItem s.parked) (ap (λ (y : Entry). y.item) (sym here)) h))
            | inr before ↦ is.parked n (h.0, before)
          ];
    }
