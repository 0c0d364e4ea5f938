use Rattle.pesp_stream.proofs.Printing.{sends_more}
use Rattle.pesp_worker.specs.Texts.{reply_line}
use Rattle.pesp_worker.proofs.printer.print_replies.Goals as goal

pub loop-reply-preserved : goal.loop-reply-preserved
loop-reply-preserved g c = sends_more reply_line c.args.replies.now c.loop-reply.reply-index _
    c.loop-reply-test.true c.loop-reply.invariant c.print_reply.ensures
