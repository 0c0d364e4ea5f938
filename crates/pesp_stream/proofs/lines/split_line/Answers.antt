use Rattle.std.proofs.Common.{refl, sym, ◌∙◌}
use Rattle.pesp_stream.proofs.SplitPieces.{rest_now}
use Rattle.pesp_stream.proofs.lines.split_line.Goals as goal

pub returns : goal.returns
returns c = rest_now c.args.text.now c.split_at_byte.result.0.now c.split_at_byte.result.1 _ c.unwrap_or.result
    (sym c.is_empty.ensures ∙ c.if-is_empty.false) c.split_at_byte.ensures.cut refl c.unwrap_or.ensures
