-- Pairs that were looked at one after the other.
use Rattle.std.proofs.Common.{◌≡◌, ℕ, ◌+◌, ◌-◌, ◌<◌, ◌≤◌, List, [], length, get_or, ap, ◌∙◌, arith, inl, inr}
use Rattle.std.proofs.lemmas.Bool.{cases_eq}
use Rattle.std.proofs.lemmas.List.{get_or_default}
use Rattle.pesp_problem.specs.declared.pair.Pair.{Pair}
use Rattle.pesp_nodes.specs.Problems.{IsPairOf, ArePairs}

-- the first k pairs keep their limits and rise, up to a last cycle
pub record AreRisen (cycles : ℕ) (pairs : List Pair) (last k : ℕ) : Type 0 where
  pub each : (i : ℕ) (d : Pair) → i < k → IsPairOf cycles (get_or pairs i d)
  pub below : (i : ℕ) (d : Pair) → i < k → (get_or pairs i d).cycle ≤ last
  pub rise : (i j : ℕ) (d : Pair) → i < j → j < k → (get_or pairs i d).cycle < (get_or pairs j d).cycle
  pub met : (d : Pair) → 0 < last → (0 < k) × ((get_or pairs (k - 1) d).cycle ≡ last)

pub risen_none : (cycles : ℕ) (pairs : List Pair) → AreRisen cycles pairs 0 0
risen_none cycles pairs = record {
  each = λ i d l. absurd (omega arith);
  below = λ i d l. absurd (omega arith);
  rise = λ i j d l m. absurd (omega arith);
  met = λ d l. absurd (omega arith);
}

pub risen_more : (cycles : ℕ) (pairs : List Pair) (last k : ℕ) (d : Pair) → k < length pairs
    → IsPairOf cycles (get_or pairs k d) → last < (get_or pairs k d).cycle → AreRisen cycles pairs last k
    → AreRisen cycles pairs (get_or pairs k d).cycle (k + 1)
risen_more cycles pairs last k d l is above h = record {
  each = λ i e m. elim (cases_eq i k) [
    | inl same ↦ rw (same, get_or_default pairs k e d l) is
    | inr other ↦ h.each i e (omega arith)
  ];
  below = λ i e m. elim (cases_eq i k) [
    | inl same ↦ rw (same, get_or_default pairs k e d l) (omega arith)
    | inr other ↦ (let b = h.below i e (omega arith) in omega arith)
  ];
  rise = λ i j e m o. elim (cases_eq j k) [
    | inl same ↦ rw (same, get_or_default pairs k e d l) (let b = h.below i e (omega arith) in omega arith)
    | inr other ↦ h.rise i j e m (omega arith)
  ];
  met = λ e m. (
    omega arith,
    (let same : k + 1 - 1 ≡ k = omega arith in
        ap (λ i. (get_or pairs i e).cycle) same ∙ ap (λ p. p.cycle) (get_or_default pairs k e d l)),
  );
}

-- a pair that doesn't rise above the one before is refused
pub not_risen : (cycles : ℕ) (pairs : List Pair) (last k : ℕ) (d : Pair) → k < length pairs
    → (get_or pairs k d).cycle ≤ last → AreRisen cycles pairs last k → ArePairs cycles pairs → ⊥
not_risen cycles pairs last k d l low h are =
    let some = (are.each k d l).names.0 in
    let met = h.met d (omega arith) in
    let rises = are.rise (k - 1) k d (omega arith) l in
    omega arith

pub risen_all : (cycles : ℕ) (pairs : List Pair) (last k : ℕ) → length pairs ≤ k → AreRisen cycles pairs last k → ArePairs cycles pairs
risen_all cycles pairs last k done h = record { rise = λ i j d l m. h.rise i j d l (omega arith); each = λ i d l. h.each i d (omega arith) }

pub nothing_rises : (cycles : ℕ) → ArePairs cycles []
nothing_rises cycles = risen_all cycles [] 0 0 (omega arith) (risen_none cycles [])
