use Rattle.pesp_conflict.specs.Insides.{ConflictIsKnown}
use Rattle.pesp_conflict.proofs.deletion_filter.sift.Given as goal

abbrev pub invariant-loop : goal.invariant-loop
invariant-loop g l = ConflictIsKnown l.instance l.known
