use Rattle.std.proofs.Common.{◌≡◌, ℕ, ◌<◌, get_or}
use Rattle.pesp_domains.proofs.revise.has_none.Given as goal

abbrev pub invariant-loop-word : goal.invariant-loop-word
invariant-loop-word l = (m : ℕ) → m < l.word-index → get_or l.set m 0 ≡ 0
