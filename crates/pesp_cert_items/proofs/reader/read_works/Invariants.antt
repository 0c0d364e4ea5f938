use Rattle.std.proofs.Common.{length}
use Rattle.pesp_cert_items.proofs.Steps.{IsReadTo}
use Rattle.pesp_cert_items.proofs.reader.read_works.Given as goal

abbrev pub invariant-loop-cursor : goal.invariant-loop-cursor
invariant-loop-cursor l = IsReadTo l.fn.text l.cursor.rest.now l.cursor.n l.works.items

abbrev pub decreases-loop-cursor : goal.decreases-loop-cursor
decreases-loop-cursor l = length l.cursor.rest.now
