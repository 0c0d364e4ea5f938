-- Words of sets from which something is taken away.
use Rattle.std.specs.Prelude.{◌≡◌, ℕ, ◌<◌, List, sum, Bool, true, false}

-- nothing was taken away, or something was
pub record IsLess (old new : List ℕ) (changed : Bool) : Type 0 where
  pub same : changed ≡ false → new ≡ old
  pub less : changed ≡ true → sum new < sum old
