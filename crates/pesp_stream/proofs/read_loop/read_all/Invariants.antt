-- What was read so far is what the reader lost.
use Rattle.std.proofs.Common.{◌-◌, ◌≤◌, vec_len}
use Rattle.std.specs.Io.KnownBytes.{Consumes}
use Rattle.pesp_stream.specs.Counts.{Worked}
use Rattle.pesp_stream.proofs.read_loop.read_all.Given as goal

abbrev pub invariant-loop-chunk : goal.invariant-loop-chunk
invariant-loop-chunk g l =
    (vec_len l.bytes ≤ l.limit)
    × Consumes (g.S.Source.remaining l.initial.source) (g.S.Source.remaining l.source) l.bytes.items
    × Worked (g.S.Source.calls l.initial.source) l.most (g.S.Source.calls l.source)

abbrev pub decreases-loop-chunk : goal.decreases-loop-chunk
decreases-loop-chunk g l = l.limit - vec_len l.bytes
