use Rattle.std.proofs.Common.{arith, refl}
use Rattle.pesp_domains.proofs.Words.{cleared, some_bit}
use Rattle.pesp_domains.proofs.revise.has_none.Goals as goal

pub returns-then-word-ne0-clause-some : goal.returns-then-word-ne0-clause-some
returns-then-word-ne0-clause-some c = λ _. some_bit c.args.set.now c.loop-word.word-index _ refl c.if-word-ne0.true
    (c.type_inv.set c.loop-word.word-index).fits

pub returns-clause-none : goal.returns-clause-none
returns-clause-none c = λ _. cleared c.args.set.now c.loop-word.word-index (omega arith) c.loop-word.invariant
