use Rattle.std.proofs.Common.{length}
use Rattle.pesp_cert.proofs.TextLoop.{IsReadTo}
use Rattle.pesp_cert.proofs.reader.read_text.Given as goal

abbrev pub invariant-loop-line : goal.invariant-loop-line
invariant-loop-line l = IsReadTo l.fn.versions l.fn.text l.rest l.n l.progress l.front l.draft

abbrev pub decreases-loop-line : goal.decreases-loop-line
decreases-loop-line l = length l.rest
