use Rattle.std.proofs.Common.{◌≤◌, length}
use Rattle.pesp_sharp_work.proofs.Taking.{AreTaken}
use Rattle.pesp_sharp_work.proofs.sharp_graft.graft_sharp.Given as goal

abbrev pub invariant-loop-rest : goal.invariant-loop-rest
invariant-loop-rest l = record {
  taken : AreTaken l.instance l.fn.base l.works l.rest l.stood l.replies.items;
  short : length l.rest ≤ 4611686018427387904;
}

abbrev pub decreases-loop-rest : goal.decreases-loop-rest
decreases-loop-rest l = length l.rest
