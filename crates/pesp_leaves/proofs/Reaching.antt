-- Whether a value by a scale, rounded up, is at least a number is seen without a division.
use Rattle.std.proofs.Common.{ℕ, ◌<◌, inl, inr, arith}
use Rattle.std.specs.Prelude.{ℤ, pos, ◌+ℤ◌, ◌*ℤ◌, neg_ℤ, ◌≤ℤ◌, ◌<ℤ◌, ◌↔◌}
use Rattle.std.proofs.lemmas.Int.{ints}
use Rattle.pesp_problem.specs.Sums.{ceil_div, floor_div}
use Rattle.pesp_problem.proofs.Integers.{mul-le, mul-add, mul-neg, le-cases, le-ceil_div, quotient-remainder, remainder-lt}

rounded-lt : (v : ℤ) (d : ℕ) → 0 < d → (pos d *ℤ ceil_div v d) <ℤ (v +ℤ pos d)
rounded-lt v d h = omega (arith, ints, quotient-remainder (neg_ℤ v) d h, remainder-lt (neg_ℤ v) d h, mul-neg (pos d) (floor_div (neg_ℤ v) d))

to_enough : (v : ℤ) (d : ℕ) (least : ℤ) → 0 < d → least ≤ℤ ceil_div v d → (pos d *ℤ least) <ℤ (v +ℤ pos d)
to_enough v d least h k = omega (arith, ints, rounded-lt v d h, mul-le d least (ceil_div v d) k)

from_enough : (v : ℤ) (d : ℕ) (least : ℤ) → 0 < d → (pos d *ℤ least) <ℤ (v +ℤ pos d) → least ≤ℤ ceil_div v d
from_enough v d least h k =
    elim (le-cases least (ceil_div v d)) [
      | inl m ↦ m
      | inr m ↦ absurd (omega (
        arith,
        ints,
        le-ceil_div v d h,
        mul-le d (ceil_div v d +ℤ pos 1) least m,
        mul-add (pos d) (ceil_div v d) (pos 1),
      ))
    ]

pub rounded_is_enough : (v : ℤ) (d : ℕ) (least : ℤ) → 0 < d → (least ≤ℤ ceil_div v d) ↔ ((pos d *ℤ least) <ℤ (v +ℤ pos d))
rounded_is_enough v d least h = (to_enough v d least h, from_enough v d least h)
