use Rattle.std.proofs.Common.{◌≡◌, ◌++◌, take}
use Rattle.pesp_problem.specs.Timetables.{Pesp}
use Rattle.pesp_conflict.specs.Insides.{ConflictIsKnown}
use Rattle.pesp_conflict.proofs.known.mark.Given as goal

abbrev pub invariant-loop-row : goal.invariant-loop-row
invariant-loop-row l = record {
  known : (p : Pesp) → ConflictIsKnown p l.fn.known → ConflictIsKnown p l.known;
  tried : l.known.tried.items ≡ l.fn.known.tried.items ++ take l.row-index l.group;
}
