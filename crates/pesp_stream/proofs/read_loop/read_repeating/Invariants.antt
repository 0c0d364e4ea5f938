-- An interrupted read takes nothing, and only the count of those rises.
use Rattle.std.proofs.Common.{◌≡◌, ◌-◌, length}
use Rattle.std.specs.Io.KnownBytes.{Keeps}
use Rattle.pesp_stream.specs.Counts.{Worked}
use Rattle.pesp_stream.proofs.read_loop.read_repeating.Given as goal

abbrev pub invariant-loop-n : goal.invariant-loop-n
invariant-loop-n g l =
    (length l.buf ≡ length l.initial.buf)
    × Keeps (g.S.Source.remaining l.initial.source) (g.S.Source.remaining l.source)
    × Worked (g.S.Source.calls l.initial.source) l.most (g.S.Source.calls l.source)

abbrev pub decreases-loop-n : goal.decreases-loop-n
decreases-loop-n g l = l.most - (g.S.Source.calls l.source).interrupted
