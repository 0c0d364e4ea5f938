use Rattle.std.proofs.Common.{◌≡◌, ℕ}
use Rattle.pesp_domains.specs.Bits.{bit}
use Rattle.pesp_domains.proofs.revise.mask_set.Given as goal

abbrev pub invariant-loop-k : goal.invariant-loop-k
invariant-loop-k l = (d : ℕ) → bit l.set d ≡ 1 → bit l.initial.set d ≡ 1
