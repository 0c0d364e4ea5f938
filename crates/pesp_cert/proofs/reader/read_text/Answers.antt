use Rattle.std.proofs.Common.{sym, ◌∙◌}
use Rattle.pesp_cert.proofs.TextLoop.{read_start, read_long, read_cut, read_fault, read_end, read_trailing, read_more}
use Rattle.pesp_cert.proofs.reader.read_text.Goals as goal

pub returns-then-line-gt100000000 : goal.returns-then-line-gt100000000
returns-then-line-gt100000000 c = read_long c.args.versions c.args.text.now c.loop-line.rest.now c.split_at_byte.result.0.now _
    c.loop-line.n c.loop-line.progress c.loop-line.front c.loop-line.draft c.loop-line.invariant c.split_at_byte.ensures.cut
    c.if-line-gt100000000.true

pub returns-in_default : goal.returns-in_default
returns-in_default c = read_cut c.args.versions c.args.text.now c.loop-line.rest.now c.split_at_byte.result.0.now c.loop-line.n
    c.loop-line.progress c.loop-line.front c.loop-line.draft c.loop-line.invariant
    (rw c.in_default.is at c.split_at_byte.ensures.cut) c.if-line-gt100000000.false

pub returns-in-Err : goal.returns-in-Err
returns-in-Err c = rw c.refusal_at.ensures (read_fault c.args.versions c.args.text.now c.loop-line.rest.now
    c.split_at_byte.result.0.now c.in-Some.more.now c.loop-line.n c.loop-line.progress c.loop-line.front c.loop-line.draft
    c.in-Err.fault c.loop-line.invariant (rw c.in-Some.is at c.split_at_byte.ensures.cut)
    c.if-line-gt100000000.false (sym c.in-Err.ensures.exact))

pub returns-then-is_empty : goal.returns-then-is_empty
returns-then-is_empty c = read_end c.args.versions c.args.text.now c.loop-line.rest.now c.split_at_byte.result.0.now
    c.in-Some.more.now c.loop-line.n c.loop-line.progress c.loop-line.front c.loop-line.draft c.in-Ok.item c.loop-line.invariant
    (rw c.in-Some.is at c.split_at_byte.ensures.cut) c.if-line-gt100000000.false (sym c.in-Ok.ensures.exact)
    (sym c.is_end.ensures ∙ c.if-is_end.true) (sym c.is_empty.ensures ∙ c.if-is_empty.true)

pub returns-then-is_end : goal.returns-then-is_end
returns-then-is_end c = read_trailing c.args.versions c.args.text.now c.loop-line.rest.now c.split_at_byte.result.0.now
    c.in-Some.more.now c.loop-line.n c.loop-line.progress c.loop-line.front c.loop-line.draft c.in-Ok.item c.loop-line.invariant
    (rw c.in-Some.is at c.split_at_byte.ensures.cut) c.if-line-gt100000000.false (sym c.in-Ok.ensures.exact)
    (sym c.is_end.ensures ∙ c.if-is_end.true) (sym c.is_empty.ensures ∙ c.if-is_empty.false)

pub loop-line-preserved : goal.loop-line-preserved
loop-line-preserved c =
    read_more c.args.versions c.args.text.now c.loop-line.rest.now c.split_at_byte.result.0.now c.in-Some.more.now c.loop-line.n
    c.loop-line.progress c.take_line.new.progress c.loop-line.front c.note.new.self c.loop-line.draft c.add_behind.new.self c.in-Ok.item
    c.loop-line.invariant (rw c.in-Some.is at c.split_at_byte.ensures.cut)
    (rw c.in-Some.is at c.split_at_byte.ensures.shorter) c.if-line-gt100000000.false
    (sym c.in-Ok.ensures.exact) (sym c.is_end.ensures ∙ c.if-is_end.false) c.in-Ok.ensures.goes
    c.in-Ok.ensures.kept (rw c.in_ok-note.was at c.note.ensures) (rw c.in_ok-add_behind.was at c.add_behind.ensures)

pub loop-line-init : goal.loop-line-init
loop-line-init c = read_start c.args.versions c.args.text.now c.new-progress.result c.new-front.result c.new-draft.result
    c.new-progress.ensures.exact c.new-progress.ensures.kept c.new-front.ensures c.new-draft.ensures
