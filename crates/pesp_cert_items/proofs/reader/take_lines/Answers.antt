use Rattle.std.proofs.Common.{sym, ◌∙◌}
use Rattle.pesp_cert_items.proofs.Steps.{taken_fault, taken_end, taken_more}
use Rattle.pesp_cert_items.proofs.reader.take_lines.Goals as goal

pub returns-in-Err-clause-refused : goal.returns-in-Err-clause-refused
returns-in-Err-clause-refused c = rw c.refusal_at.ensures
    (taken_fault c.args.job c.args.cursor.now.n c.loop-draft.cursor.n c.take_bytes.new.cursor.n
    c.args.cursor.now.rest.now c.loop-draft.cursor.rest.now c.in_ok-line.line.now c.take_bytes.new.cursor.rest.now
    c.loop-draft.progress c.loop-draft.draft c.in-Err.fault c.loop-draft.invariant c.in_ok-line.ensures.takes
    (sym c.in-Err.ensures.exact))

pub returns-then-is_end-clause-ends : goal.returns-then-is_end-clause-ends
returns-then-is_end-clause-ends c = rw c.made.ensures
    (taken_end c.args.job c.args.cursor.now.n c.loop-draft.cursor.n c.take_bytes.new.cursor.n
    c.args.cursor.now.rest.now c.loop-draft.cursor.rest.now c.in_ok-line.line.now c.take_bytes.new.cursor.rest.now
    c.loop-draft.progress c.loop-draft.draft c.in-Ok.item c.loop-draft.invariant c.in_ok-line.ensures.takes
    (sym c.in-Ok.ensures.exact) (sym c.is_end.ensures ∙ c.if-is_end.true))

pub loop-draft-preserved : goal.loop-draft-preserved
loop-draft-preserved c = taken_more c.args.job c.args.cursor.now.n c.loop-draft.cursor.n c.take_bytes.new.cursor.n
    c.args.cursor.now.rest.now c.loop-draft.cursor.rest.now c.in_ok-line.line.now c.take_bytes.new.cursor.rest.now
    c.loop-draft.progress c.take_work_line.new.progress c.loop-draft.draft c.add.new.self c.in-Ok.item
    c.loop-draft.invariant c.in_ok-line.ensures.takes (sym c.in-Ok.ensures.exact)
    (sym c.is_end.ensures ∙ c.if-is_end.false) c.in-Ok.ensures.goes c.in-Ok.ensures.kept
    (rw c.in_ok-add.was at c.add.ensures)
