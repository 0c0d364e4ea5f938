-- Numbers that are the same but for a multiple of the period.
use Rattle.std.specs.Prelude.{◌≡◌, ℕ, ◌*◌, ℤ, pos, ◌+ℤ◌}

-- one number and some periods more are the other and some periods more
pub record IsSame (period : ℕ) (a b : ℤ) : Type 0 where
  pub more : ℕ
  pub less : ℕ
  pub even : (a +ℤ pos (period * more)) ≡ (b +ℤ pos (period * less))
