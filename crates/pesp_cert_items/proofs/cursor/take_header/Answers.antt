use Rattle.std.proofs.Common.{refl, sym, ◌∙◌, ◌+◌}
use Rattle.pesp_cert_items.proofs.Steps.{front_cut, front_other, front_header}
use Rattle.pesp_cert_items.proofs.cursor.take_header.Goals as goal

pub returns-in_default-clause-refused : goal.returns-in_default-clause-refused
returns-in_default-clause-refused c = rw c.cut_front.ensures
    (front_cut c.args.cursor.now.n c.args.cursor.now.rest.now c.split_at_byte.result.0.now c.requires.some
    (rw c.in_default.is at c.split_at_byte.ensures.cut))

pub returns-then-is_word-clause-goes : goal.returns-then-is_word-clause-goes
returns-then-is_word-clause-goes c = front_header c.args.cursor.now.n
    (c.args.cursor.now.n + 1) c.args.cursor.now.rest.now c.split_at_byte.result.0.now c.in-Some.rest.now
    (rw c.in-Some.is at c.split_at_byte.ensures.cut) (rw c.in-Some.is at c.split_at_byte.ensures.shorter)
    (sym c.is_word.ensures ∙ c.if-is_word.true) refl

pub returns-else-is_word-clause-refused : goal.returns-else-is_word-clause-refused
returns-else-is_word-clause-refused c = rw c.other_front.ensures
    (front_other c.args.cursor.now.n c.args.cursor.now.rest.now c.split_at_byte.result.0.now c.in-Some.rest.now
    (rw c.in-Some.is at c.split_at_byte.ensures.cut) (sym c.is_word.ensures ∙ c.if-is_word.false))
