use Rattle.std.proofs.Common.{length, ap, arith, rules}
use Rattle.pesp_stream.proofs.SplitPieces.{most_words}
use Rattle.pesp_stream.proofs.words.count_words.Goals as goal

pub overflow_add-number : goal.overflow_add-number
overflow_add-number c = omega (arith, most_words c.args.line.now, c.loop-word.invariant.2.number, ap length c.in-Some.ensures.steps)

pub returns-then-is_empty : goal.returns-then-is_empty
returns-then-is_empty c = search rules
