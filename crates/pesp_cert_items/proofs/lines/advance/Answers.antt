use Rattle.std.proofs.Common.{sym, ◌∙◌}
use Rattle.pesp_cert_items.proofs.Cutting.{cut_long, cut_more, cut_end, left_after}
use Rattle.pesp_cert_items.proofs.lines.advance.Goals as goal

pub returns-in-Long-clause-ok : goal.returns-in-Long-clause-ok
returns-in-Long-clause-ok g c = cut_long _ _ _ _ _ _ _ c.take_front.new.self c.take_front.new.line.items
    c.loop-chunk.invariant.0 (rw c.in-Long.is at c.in_ok-take_front.ensures) _ _

pub returns-then-read-eq0-clause-ok : goal.returns-then-read-eq0-clause-ok
returns-then-read-eq0-clause-ok g c =
    let read = c.in_ok-read.ensures in
    cut_end _ _ _ _ _ _ _ _ c.take_front.new.self _ _ c.loop-chunk.invariant.0
    (rw c.in-Part.is at c.in_ok-take_front.ensures) read.bytes (sym c.if-read-eq0.true ∙ read.length.0)
    (λ some. read.end c.if-read-eq0.true some)

pub loop-chunk-preserved : goal.loop-chunk-preserved
loop-chunk-preserved g c =
    let read = c.in_ok-read.ensures in (
      cut_more _ _ _ _ _ _ _ _ _ c.take_front.new.self _ _ c.loop-chunk.invariant.0
          (rw c.in-Part.is at c.in_ok-take_front.ensures) read.bytes (left_after _ _ _ read.length.0 read.length.1),
      (read.counts.0 ∙ c.loop-chunk.invariant.1.0, read.counts.1),
    )
