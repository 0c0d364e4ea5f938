use Rattle.std.specs.Prelude.{string_bytes}
use Rattle.pesp_tasks.proofs.Telling.{AreTold}
use Rattle.pesp_tasks.proofs.replies.lines_of.Given as goal

abbrev pub invariant-loop-place : goal.invariant-loop-place
invariant-loop-place l = AreTold l.replies l.place (string_bytes l.lines)
