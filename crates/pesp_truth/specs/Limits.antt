-- The limits of a lemma.
use Rattle.std.specs.Prelude.{ℕ, ◌+◌, Bool, true, ◌&&◌, nat_le, List, [], ◌∷◌, nat_abs}
use Rattle.pesp_problem.specs.declared.limits.TheConstants.{MOST_MULTIPLIER}
use Rattle.pesp_problem.specs.declared.pair.Pair.{Pair}

-- the rows rise from a number on, and no weight is too large
abbrev pub rises_from : ℕ → List Pair → Bool
rises_from least [] = true
rises_from least (pair ∷ pairs) = nat_le least pair.cycle && nat_le (nat_abs pair.mult) MOST_MULTIPLIER && rises_from (pair.cycle + 1) pairs

-- what the weights of a lemma may be
abbrev pub weights_keep_limits : List Pair → Bool
weights_keep_limits weights = rises_from 1 weights
