use Rattle.std.proofs.Common.{◌≡◌, ◌<◌, ℕ, false}
use Rattle.pesp_truth.specs.Sets.{family_at}
use Rattle.pesp_truth.proofs.narrow.least.Given as goal

abbrev pub invariant-loop-difference : goal.invariant-loop-difference
invariant-loop-difference l = (d : ℕ) → d < l.difference → family_at l.period l.words l.event d ≡ false
