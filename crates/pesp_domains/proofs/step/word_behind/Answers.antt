use Rattle.std.proofs.Common.{arith}
use Rattle.pesp_domains.proofs.Words.{behind_high, bit_shl_low}
use Rattle.pesp_domains.proofs.step.word_behind.Goals as goal

pub returns-then-short-lt64-clause-above : goal.returns-then-short-lt64-clause-above
returns-then-short-lt64-clause-above c = λ j l m.
    behind_high c.args.words.now c.word_at.result c.args.k c.args.by j c.word_at.ensures (omega arith)
    (omega arith) l m

pub returns-then-short-lt64-clause-below : goal.returns-then-short-lt64-clause-below
returns-then-short-lt64-clause-below c = λ j l m. bit_shl_low c.word_at.result _ j l (omega arith)
