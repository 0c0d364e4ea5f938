-- Remainders of whole numbers.
use Rattle.std.proofs.Common.{◌≡◌, ℕ, zero, suc, ◌<◌, ap, arith, ◌∙◌}
use Rattle.std.specs.Prelude.{ℤ, pos, negsuc, ◌+ℤ◌, ◌-ℤ◌, ◌*ℤ◌, neg_ℤ}
use Rattle.std.specs.Int.{int_div_euclid}
use Rattle.std.proofs.lemmas.Int.{ints}
use Rattle.pesp_problem.specs.Timetables.{remainder}
use Rattle.pesp_problem.proofs.Integers.{mul-add, mul-neg, quotient-remainder, remainder-lt}

apart : (t r s : ℕ) (d : ℤ) → 0 < t → r < t → s < t → pos t *ℤ d ≡ pos s -ℤ pos r → s ≡ r
apart t r s (pos zero) p lr ls e = omega (arith, ints)
apart t r s (pos (suc n)) p lr ls e = absurd (omega (arith, ints))
apart t r s (negsuc zero) p lr ls e = absurd (omega (arith, ints))
apart t r s (negsuc (suc n)) p lr ls e = absurd (omega (arith, ints))

-- numbers that differ by a multiple have one remainder
pub same_remainder : (t : ℕ) (y z q : ℤ) → 0 < t → y ≡ z +ℤ pos t *ℤ q → remainder t y ≡ remainder t z
same_remainder t y z q p e =
    let a = int_div_euclid y (pos t) in
    let b = int_div_euclid z (pos t) in
    let f = quotient-remainder y t p in
    let g = quotient-remainder z t p in
    let m = q +ℤ b in
    apart t (remainder t z) (remainder t y) (m -ℤ a) p (remainder-lt z t p) (remainder-lt y t p)
    (sums (pos t *ℤ a) (pos t *ℤ b) (pos t *ℤ q) (pos t *ℤ m) (pos t *ℤ (m -ℤ a)) y z (pos (remainder t y))
    (pos (remainder t z)) f g e (mul-add (pos t) q b) (parts t m a))
  where
    sums : (ta tb tq tm td y z r s : ℤ) → y ≡ ta +ℤ r → z ≡ tb +ℤ s → y ≡ z +ℤ tq → tm ≡ tq +ℤ tb → tm ≡ ta +ℤ td → td ≡ r -ℤ s
    sums ta tb tq tm td y z r s f g e h k = omega (arith, ints)

    parts : (t : ℕ) (m a : ℤ) → pos t *ℤ m ≡ pos t *ℤ a +ℤ pos t *ℤ (m -ℤ a)
    parts t m a = let e : m ≡ a +ℤ (m -ℤ a) = omega (arith, ints) in ap (λ (z : ℤ). pos t *ℤ z) e ∙ mul-add (pos t) a (m -ℤ a)

-- a remainder of remainders
pub remainder_of_both : (t : ℕ) (y z l : ℤ) → 0 < t
    → remainder t ((pos (remainder t y) -ℤ pos (remainder t z)) -ℤ l) ≡ remainder t ((y -ℤ z) -ℤ l)
remainder_of_both t y z l p =
    let a = int_div_euclid y (pos t) in
    let b = int_div_euclid z (pos t) in
    same_remainder t ((pos (remainder t y) -ℤ pos (remainder t z)) -ℤ l) ((y -ℤ z) -ℤ l) (b -ℤ a) p
    (sums (pos t *ℤ a) (pos t *ℤ b) (pos t *ℤ (b -ℤ a)) y z l (pos (remainder t y)) (pos (remainder t z))
    (quotient-remainder y t p) (quotient-remainder z t p) (parts t b a))
  where
    sums : (ta tb td y z l r s : ℤ) → y ≡ ta +ℤ r → z ≡ tb +ℤ s → tb ≡ ta +ℤ td → (r -ℤ s) -ℤ l ≡ ((y -ℤ z) -ℤ l) +ℤ td
    sums ta tb td y z l r s f g e = omega (arith, ints)

    parts : (t : ℕ) (m a : ℤ) → pos t *ℤ m ≡ pos t *ℤ a +ℤ pos t *ℤ (m -ℤ a)
    parts t m a = let e : m ≡ a +ℤ (m -ℤ a) = omega (arith, ints) in ap (λ (z : ℤ). pos t *ℤ z) e ∙ mul-add (pos t) a (m -ℤ a)

pub remainder_of_zero : (t : ℕ) (z : ℤ) → 0 < t → z ≡ pos 0 → remainder t z ≡ 0
remainder_of_zero t z p e = apart t 0 (remainder t z) (neg_ℤ (int_div_euclid z (pos t))) p p (remainder-lt z t p)
    (omega (arith, ints, quotient-remainder z t p, mul-neg (pos t) (int_div_euclid z (pos t))))
