-- What the slack of a crossing row becomes, by cases.
use Rattle.std.proofs.Common.{◌≡◌, ℕ, ℤ, pos, ◌+◌, ◌*◌, ◌-◌, ◌<◌, ◌≤◌, ◌+ℤ◌, refl, ap, ◌∙◌, arith, true, false}
use Rattle.std.specs.Prelude.{unsigned_abs, neg_ℤ}
use Rattle.std.specs.Int.{int_rem_euclid}
use Rattle.std.proofs.lemmas.Int.{ints, int_rem_euclid_is}
use Rattle.std.proofs.Math.Nat.{mod-eq_of_lt, add-mod_right}
use Rattle.pesp_propagate.specs.Shifts.{moved}
use Rattle.pesp_propagate.specs.declared.crossing.Crossing.{Crossing}

-- the remainder is known from one multiple of the period
pub remainder_is : (z : ℤ) (n k r : ℕ) → r < n → z +ℤ pos (k * n) ≡ pos r → unsigned_abs (int_rem_euclid z (pos n)) ≡ r
remainder_is z n k r small h = ap unsigned_abs (int_rem_euclid_is z (pos n) n k r (omega arith) refl h) ∙ mod-eq_of_lt small

pub less_remainder_is : (a n r : ℕ) → r < n → a ≡ r + n → unsigned_abs (int_rem_euclid (pos a) (pos n)) ≡ r
less_remainder_is a n r small h = rw h (add-mod_right r n ∙ mod-eq_of_lt small)

-- the head is on the side: up to the period the slack grows, and then it has wrapped around
pub moved_in : (period : ℕ) (row : Crossing) (d : ℕ) → row.inward ≡ true → row.slack + d < period → moved period row d ≡ row.slack + d
moved_in period row d inward l = rw inward (mod-eq_of_lt l)

pub moved_in-wrapped : (period : ℕ) (row : Crossing) (d : ℕ) → row.inward ≡ true → period ≤ row.slack + d
    → row.slack < period → d < period → moved period row d ≡ row.slack + d - period
moved_in-wrapped period row d inward l y e = rw inward
    (less_remainder_is (row.slack + d) period (row.slack + d - period) (omega arith) (omega arith))

-- the tail is on the side
pub moved_out : (period : ℕ) (row : Crossing) (d : ℕ) → row.inward ≡ false → d ≤ row.slack → row.slack < period
    → moved period row d ≡ row.slack - d
moved_out period row d inward l y = rw inward (remainder_is (pos row.slack +ℤ neg_ℤ (pos d)) period 0
    (row.slack - d) (omega arith) (omega (arith, ints)))

pub moved_out-wrapped : (period : ℕ) (row : Crossing) (d : ℕ) → row.inward ≡ false → row.slack < d → d < period
    → moved period row d ≡ row.slack + period - d
moved_out-wrapped period row d inward l y = rw inward
    (remainder_is (pos row.slack +ℤ neg_ℤ (pos d)) period 1 (row.slack + period - d) (omega arith)
    (omega (arith, ints)))
