-- What is gone from `rest` was appended.
use Rattle.std.proofs.Common.{◌≡◌, ◌+◌, ◌-◌, ℕ, List, ◌++◌, length}
use Rattle.std.specs.Io.KnownBytes.{Appends}
use Rattle.pesp_stream.specs.Counts.{Worked}
use Rattle.pesp_stream.proofs.write_loop.write_all.Given as goal

abbrev pub invariant-loop-rest : goal.invariant-loop-rest
invariant-loop-rest g l =
    ((done : List ℕ) × (l.initial.rest ≡ done ++ l.rest) × Appends (g.W.Sink.contents l.initial.sink) (g.W.Sink.contents l.sink) done)
    × Worked (g.W.Sink.calls l.initial.sink) l.most (g.W.Sink.calls l.sink)

abbrev pub decreases-loop-rest : goal.decreases-loop-rest
decreases-loop-rest g l = length l.rest + (l.most - (g.W.Sink.calls l.sink).interrupted)
