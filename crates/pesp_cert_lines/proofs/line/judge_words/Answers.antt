use Rattle.std.proofs.Common.{length, ap, arith, sym, ◌∙◌}
use Rattle.pesp_stream.proofs.SplitPieces.{most_words}
use Rattle.pesp_cert_lines.proofs.line.judge_words.Goals as goal

pub judge_numbers-requires : goal.judge_numbers-requires
judge_numbers-requires c = omega (arith, most_words c.args.line.now, ap length (sym c.new-words.ensures ∙ c.in-Some-next.ensures.steps))
