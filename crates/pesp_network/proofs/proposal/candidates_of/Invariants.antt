use Rattle.std.proofs.Common.{◌≡◌, vec_len}
use Rattle.pesp_network.proofs.proposal.candidates_of.Given as goal

abbrev pub invariant-loop-place : goal.invariant-loop-place
invariant-loop-place l = vec_len l.candidates ≡ l.place
