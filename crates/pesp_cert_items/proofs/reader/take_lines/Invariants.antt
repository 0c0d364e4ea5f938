use Rattle.std.proofs.Common.{length}
use Rattle.pesp_cert_items.proofs.Steps.{IsTakenTo}
use Rattle.pesp_cert_items.proofs.reader.take_lines.Given as goal

abbrev pub invariant-loop-draft : goal.invariant-loop-draft
invariant-loop-draft l = IsTakenTo l.fn.job l.initial.cursor.n l.cursor.n l.initial.cursor.rest.now l.cursor.rest.now l.progress l.draft

abbrev pub decreases-loop-draft : goal.decreases-loop-draft
decreases-loop-draft l = length l.cursor.rest.now
