use Rattle.std.proofs.Common.{◌∙◌, sym, refl}
use Rattle.pesp_instance.proofs.Leads.{delimiter-strip}
use Rattle.pesp_instance.proofs.records.delimiter_of.Goals as goal

pub returns-then-has_byte : goal.returns-then-has_byte
returns-then-has_byte c =
    let e = sym c.has_byte.ensures ∙ c.if-has_byte.true in
    rw (delimiter-strip c.args.text.now, e) refl

pub returns-then-has_byte-2 : goal.returns-then-has_byte-2
returns-then-has_byte-2 c =
    let e = sym c.has_byte.ensures ∙ c.if-has_byte.false in
    let f = sym c.has_byte-else-has_byte.ensures ∙ c.if-has_byte-2.true in
    rw (delimiter-strip c.args.text.now, e, f) refl

pub returns-else-has_byte-2 : goal.returns-else-has_byte-2
returns-else-has_byte-2 c =
    let e = sym c.has_byte.ensures ∙ c.if-has_byte.false in
    let f = sym c.has_byte-else-has_byte.ensures ∙ c.if-has_byte-2.false in
    rw (delimiter-strip c.args.text.now, e, f) refl
