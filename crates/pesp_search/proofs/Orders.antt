-- Orders of numbers that may be missing; none stands above every number.
use Rattle.std.proofs.Common.{ℕ, arith}
use Rattle.std.specs.Prelude.{Option, Some, None}
use Rattle.pesp_tree.specs.States.{IsAtMost}

pub at_most_trans : (a b c : Option ℕ) → IsAtMost a b → IsAtMost b c → IsAtMost a c
at_most_trans a b None h k = tt
at_most_trans a None (Some c) h k = absurd k
at_most_trans None (Some b) (Some c) h k = absurd h
at_most_trans (Some a) (Some b) (Some c) h k = omega (arith, h, k)

pub at_most_same : (a : Option ℕ) → IsAtMost a a
at_most_same None = tt
at_most_same (Some a) = omega arith
