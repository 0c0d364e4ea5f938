-- A parked node's entry goes, and other entries wait.
use Rattle.std.proofs.Common.{◌≡◌, ℕ, ◌+◌, ◌<◌, ◌≤◌, List, ◌∷◌, ◌++◌, length, sym, ap, subst, arith, ◌⊎◌, inl, inr}
use Rattle.std.specs.Prelude.{Option, Some, None, Contains}
use Rattle.std.specs.List.Sorted.{IsPermutation}
use Rattle.std.proofs.lemmas.List.{length-append}
use Rattle.std.proofs.lemmas.List.Elements.{All-contains, Contains-append_cases, Contains-append_left, Contains-append_right}
use Rattle.std.proofs.lemmas.List.Sorted.{IsPermutation-sym, length_permutation, Contains-permutation}
use Rattle.pesp_tree.specs.declared.entry.Entry.{Entry}
use Rattle.pesp_tree.specs.Entries.{entry, HasItem}
use Rattle.pesp_tree.specs.Queues.{QueueValue, all_of, QueueKeepsLimits}
use Rattle.pesp_board.specs.Growing.{waits}
use Rattle.pesp_board.proofs.Counting.{gone}
use Rattle.pesp_board.proofs.Queues.{none_held, one_held, held_more}

-- a parked one is taken out
pub record IsWithout (q r : QueueValue) (node value : ℕ) : Type 0 where
  pub parked : IsPermutation q.parked (entry node value ∷ r.parked)
  pub waiting : r.waiting ≡ q.waiting

-- one waits more, where there is a value
pub record IsWith (r s : QueueValue) (node : ℕ) (value : Option ℕ) : Type 0 where
  pub waiting : IsPermutation (waits node value ++ r.waiting) s.waiting
  pub parked : IsPermutation r.parked s.parked

pub parked_numbered : (q : QueueValue) (node : ℕ) → QueueKeepsLimits q → HasItem q.parked node → node < q.numbers
parked_numbered q node k h = All-contains (λ (e : Entry). e.item < q.numbers) (all_of q)
    (entry node h.0) k.numbered (Contains-append_right q.waiting q.parked (entry node h.0) h.1)

pub one_less : (q r : QueueValue) (node value : ℕ) → IsWithout q r node value → length (all_of r) + 1 ≡ length (all_of q)
one_less q r node value k =
    let moved = length_permutation _ _ k.parked in
    let same = ap (λ (xs : List Entry). length xs) k.waiting in
    omega (arith, moved, same, length-append q.waiting q.parked, length-append r.waiting r.parked)

waits_short : (node : ℕ) (value : Option ℕ) → length (waits node value) ≤ 1
waits_short node None = omega arith
waits_short node (Some value) = omega arith

pub one_more : (r s : QueueValue) (node : ℕ) (value : Option ℕ) → IsWith r s node value → length (all_of s) ≤ length (all_of r) + 1
one_more r s node value k =
    let moved = length_permutation _ _ k.parked in
    let added = length_permutation _ _ k.waiting in
    omega (
      arith,
      moved,
      added,
      waits_short node value,
      length-append (waits node value) r.waiting,
      length-append r.waiting r.parked,
      length-append s.waiting s.parked,
    )

pub node_gone : (q r : QueueValue) (node value : ℕ) → QueueKeepsLimits q → IsWithout q r node value → HasItem (all_of r) node → ⊥
node_gone q r node value limits k has = gone q.waiting q.parked r.parked node value limits.differ k.parked
    (subst (λ (xs : List Entry). HasItem (xs ++ r.parked) node) k.waiting has)

-- what is left was there
was_held : (q r : QueueValue) (node value : ℕ) (e : Entry) → IsWithout q r node value → Contains (all_of r) e → Contains (all_of q) e
was_held q r node value e k h =
    elim (Contains-append_cases r.waiting r.parked e h) [
      | inl waiting ↦ Contains-append_left q.waiting q.parked e (subst (λ (xs : List Entry). Contains xs e) k.waiting waiting)
      | inr lies ↦ Contains-append_right q.waiting q.parked e
          (Contains-permutation _ _ e (IsPermutation-sym _ _ k.parked)
          (held_more (entry node value) r.parked e lies))
    ]

pub still_fresh : (q r : QueueValue) (node value item : ℕ) → IsWithout q r node value
    → (HasItem (all_of q) item → ⊥) → HasItem (all_of r) item → ⊥
still_fresh q r node value item k fresh h = fresh (h.0, was_held q r node value (entry item h.0) k h.1)

pub waits_item : (node : ℕ) (value : Option ℕ) (e : Entry) → Contains (waits node value) e → e.item ≡ node
waits_item node None e h = absurd (none_held e h)
waits_item node (Some value) e h = sym (ap (λ (x : Entry). x.item) (one_held e (entry node value) h))

-- what is there with one more was there, or is that one
pub with_held : (r s : QueueValue) (node : ℕ) (value : Option ℕ) (item : ℕ) → IsWith r s node value
    → HasItem (all_of s) item → (item ≡ node) ⊎ HasItem (all_of r) item
with_held r s node value item k h =
    let e = entry item h.0 in
    elim (Contains-append_cases s.waiting s.parked e h.1) [
      | inl waiting ↦ elim (Contains-append_cases (waits node value) r.waiting e
          (Contains-permutation _ _ e (IsPermutation-sym _ _ k.waiting) waiting)) [
            | inl new ↦ inl (waits_item node value e new)
            | inr old ↦ inr (h.0, Contains-append_left r.waiting r.parked e old)
          ]
      | inr lies ↦ inr (h.0, Contains-append_right r.waiting r.parked e (Contains-permutation _ _ e (IsPermutation-sym _ _ k.parked) lies))
    ]

-- with more room the same items are there
pub same_fresh : (q r : QueueValue) (item : ℕ) → r.waiting ≡ q.waiting → r.parked ≡ q.parked
    → (HasItem (all_of q) item → ⊥) → HasItem (all_of r) item → ⊥
same_fresh q r item waiting parked fresh h = fresh
    (subst (λ (xs : List Entry). HasItem (q.waiting ++ xs) item) parked
    (subst (λ (xs : List Entry). HasItem (xs ++ r.parked) item) waiting h))
