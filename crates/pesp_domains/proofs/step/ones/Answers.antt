use Rattle.std.proofs.lemmas.Nat.Bits.{bit_at_ones}
use Rattle.pesp_domains.proofs.Words.{low_ones, low_zeros}
use Rattle.pesp_domains.proofs.step.ones.Goals as goal

pub returns-then-count-ge64-clause-ones : goal.returns-then-count-ge64-clause-ones
returns-then-count-ge64-clause-ones c = λ j l m. bit_at_ones 64 j l

pub returns-else-count-ge64-clause-ones : goal.returns-else-count-ge64-clause-ones
returns-else-count-ge64-clause-ones c = λ j l m. low_ones c.args.count j c.if-count-ge64.false m

pub returns-else-count-ge64-clause-zeros : goal.returns-else-count-ge64-clause-zeros
returns-else-count-ge64-clause-zeros c = λ j l m. low_zeros c.args.count j c.if-count-ge64.false m
