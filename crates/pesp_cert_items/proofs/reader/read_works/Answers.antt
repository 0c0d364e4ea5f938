use Rattle.std.proofs.Common.{sym}
use Rattle.pesp_cert_items.proofs.Steps.{read_end, read_more}
use Rattle.pesp_cert_items.proofs.reader.read_works.Goals as goal

pub returns : goal.returns
returns c = read_end c.args.text.now c.loop-cursor.cursor.rest.now c.loop-cursor.cursor.n c.loop-cursor.works
    c.loop-cursor.invariant (sym c.loop-cursor-test.ensures)

pub loop-cursor-preserved : goal.loop-cursor-preserved
loop-cursor-preserved c =
    rw c.in_ok-keep.ensures (read_more c.args.text.now c.loop-cursor.cursor.rest.now
    c.take_work.new.cursor.rest.now c.loop-cursor.cursor.n c.take_work.new.cursor.n c.loop-cursor.works.items
    c.in_ok-work.work c.loop-cursor.invariant c.in_ok-work.ensures.ends)
