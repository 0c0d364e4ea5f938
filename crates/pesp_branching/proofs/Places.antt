-- Sums over numbers that rise.
use Rattle.std.proofs.Common.{◌≡◌, ℕ, zero, suc, ◌<◌, ◌≤◌, arith, inl, inr}
use Rattle.std.specs.Prelude.{pos, ◌≤ℤ◌}
use Rattle.std.proofs.lemmas.Int.{ints}
use Rattle.std.proofs.lemmas.Bool.{cases_eq}
use Rattle.pesp_problem.specs.Sums.{sum_below}

sum_grows : (f : ℕ → ℕ) (n k : ℕ) → n ≤ k → sum_below n (λ i. pos (f i)) ≤ℤ sum_below k (λ i. pos (f i))
sum_grows f n zero h = let e : n ≡ 0 = omega arith in rw e (omega (arith, ints))
sum_grows f n (suc k) h =
    elim (cases_eq n (suc k)) [
      | inl same ↦ rw same (omega (arith, ints))
      | inr other ↦ let before = sum_grows f n k (omega arith) in omega (arith, ints, before)
    ]

-- the sum over places that rise is at most the sum over all places below a bound
pub sum_at_places : (f : ℕ → ℕ) (place : ℕ → ℕ) (m bound : ℕ) → ((j k : ℕ) → j < k → k < m → place j < place k)
    → ((j : ℕ) → j < m → place j < bound) → sum_below m (λ j. pos (f (place j))) ≤ℤ sum_below bound (λ i. pos (f i))
sum_at_places f place zero bound rise within = sum_grows f 0 bound (omega arith)
sum_at_places f place (suc m) bound rise within =
    let before = sum_at_places f place m (place m) (λ j k l n. rise j k l (omega arith)) (λ j l. rise j m l (omega arith)) in
    let grown = sum_grows f (suc (place m)) bound (let last = within m (omega arith) in omega (arith, last)) in
    omega (arith, ints, before, grown)
