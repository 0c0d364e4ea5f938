-- Sums, divisions and least products over the whole numbers.
use Rattle.std.specs.Prelude.{ℕ, zero, suc, ℤ, pos, negsuc, neg_ℤ, ◌+ℤ◌, ◌*ℤ◌}
use Rattle.std.specs.Int.{int_div_euclid}

-- the sum of f i over the i below n
abbrev pub sum_below : ℕ → (ℕ → ℤ) → ℤ
sum_below zero f = pos 0
sum_below (suc n) f = sum_below n f +ℤ f n

-- the quotient by a positive number, rounded down
abbrev pub floor_div : ℤ → ℕ → ℤ
floor_div z n = int_div_euclid z (pos n)

-- the quotient by a positive number, rounded up
abbrev pub ceil_div : ℤ → ℕ → ℤ
ceil_div z n = neg_ℤ (floor_div (neg_ℤ z) n)

-- c times the low end of a range, or times the high end where c is negative: the least of c * x for x in the range
abbrev pub scaled : ℤ → ℤ → ℤ → ℤ
scaled (pos n) low high = pos n *ℤ low
scaled (negsuc n) low high = negsuc n *ℤ high
