use Rattle.pesp_cert_items.proofs.Steps.{inside_long, inside_cut}
use Rattle.pesp_cert_items.proofs.cursor.take_bytes.Goals as goal

pub returns-then-line-gt-LONGEST-clause-refused : goal.returns-then-line-gt-LONGEST-clause-refused
returns-then-line-gt-LONGEST-clause-refused c =
    inside_long c.args.cursor.now.n c.args.cursor.now.rest.now c.split_at_byte.result.0.now _
    c.split_at_byte.ensures.cut c.if-line-gt-LONGEST.true

pub returns-in_default-clause-refused : goal.returns-in_default-clause-refused
returns-in_default-clause-refused c = inside_cut c.args.cursor.now.n c.args.cursor.now.rest.now
    c.split_at_byte.result.0.now (rw c.in_default.is at c.split_at_byte.ensures.cut) c.if-line-gt-LONGEST.false
