-- What was read so far is what the reader lost, and the line so far and what is held are what was held and was read.
use Rattle.pesp_stream.specs.Counts.{Worked}
use Rattle.pesp_cert_items.proofs.Cutting.{IsCutTo}
use Rattle.pesp_cert_items.proofs.lines.advance.Given as goal

abbrev pub invariant-loop-chunk : goal.invariant-loop-chunk
invariant-loop-chunk g l =
    IsCutTo (g.S.Source.remaining l.initial.source)
    (g.S.Source.remaining l.source) l.initial.left l.left l.initial.chunk l.chunk l.line.items
    × Worked (g.S.Source.calls l.initial.source) l.most (g.S.Source.calls l.source)

abbrev pub decreases-loop-chunk : goal.decreases-loop-chunk
decreases-loop-chunk g l = l.left
