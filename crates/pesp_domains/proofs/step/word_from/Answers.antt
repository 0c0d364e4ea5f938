use Rattle.std.proofs.Common.{◌∙◌, ℕ, ap}
use Rattle.std.specs.Int.{bit_at}
use Rattle.pesp_domains.proofs.Words.{ahead_whole, bit-ahead}
use Rattle.pesp_domains.proofs.step.word_from.Goals as goal

pub returns-then-by-eq0 : goal.returns-then-by-eq0
returns-then-by-eq0 c = λ j l. ap (λ (m : ℕ). bit_at m j)
    (c.word_at-low.ensures ∙ ahead_whole c.args.words.now c.args.place c.if-by-eq0.true)
    ∙ bit-ahead c.args.words.now c.args.place j (λ m. (c.type_inv.words m).fits) l

pub returns : goal.returns
returns c = λ j l. rw (c.word_at-low.ensures, c.word_at-high.ensures)
    (bit-ahead c.args.words.now c.args.place j (λ m. (c.type_inv.words m).fits) l)
