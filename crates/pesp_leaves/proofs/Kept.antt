-- Numbers that fit are kept.
use Rattle.std.proofs.Common.{ℕ, ◌+◌, ◌≤◌, ◌∙◌, arith, FitsSigned, to_z, of_z, ◌≡◌, ◌*◌, ◌^◌}
use Rattle.std.specs.Prelude.{ℤ, ◌+ℤ◌, ◌-ℤ◌, unsigned_abs}
use Rattle.std.specs.Int.{w64, w128}
use Rattle.std.proofs.lemmas.Int.{ints, to_z-of_z}

pub kept : (z : ℤ) (m : ℕ) → unsigned_abs z ≤ m → m ≤ 14 * 10 ^ 37 → to_z w128 (of_z w128 z) ≡ z
kept z m h l = let fits : FitsSigned w128 z = omega (arith, ints) in to_z-of_z w128 z fits

pub kept_short : (z : ℤ) → unsigned_abs z ≤ 1000000000000 → to_z w64 (of_z w64 z) ≡ z
kept_short z h = let fits : FitsSigned w64 z = omega (arith, ints) in to_z-of_z w64 z fits

sums : {a b c d : ℤ} → a ≡ c → b ≡ d → a +ℤ b ≡ c +ℤ d
sums h k = cc

-- a sum of two such numbers
pub sum_kept : (a b z : ℤ) (m k : ℕ) → z ≡ to_z w128 (of_z w128 a) +ℤ to_z w128 (of_z w128 b) → unsigned_abs a ≤ m → unsigned_abs b ≤ k
    → m ≤ 14 * 10 ^ 37 → k ≤ 14 * 10 ^ 37 → (z ≡ a +ℤ b) × (unsigned_abs z ≤ m + k)
sum_kept a b z m k h ha hb lm lk =
    let e : z ≡ a +ℤ b = h ∙ sums (kept a m ha lm) (kept b k hb lk) in
    (e, omega (arith, ints, e, ha, hb))

differences : {a b c d : ℤ} → a ≡ c → b ≡ d → a -ℤ b ≡ c -ℤ d
differences h k = cc

-- a difference of two such numbers
pub difference_kept : (a b z : ℤ) (m k : ℕ) → z ≡ to_z w128 (of_z w128 a) -ℤ to_z w128 (of_z w128 b) → unsigned_abs a ≤ m
    → unsigned_abs b ≤ k → m ≤ 14 * 10 ^ 37 → k ≤ 14 * 10 ^ 37 → (z ≡ a -ℤ b) × (unsigned_abs z ≤ m + k)
difference_kept a b z m k h ha hb lm lk =
    let e : z ≡ a -ℤ b = h ∙ differences (kept a m ha lm) (kept b k hb lk) in
    (e, omega (arith, ints, e, ha, hb))
