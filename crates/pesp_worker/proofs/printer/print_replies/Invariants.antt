use Rattle.std.proofs.Common.{take}
use Rattle.std.specs.List.{flat_map}
use Rattle.pesp_stream.specs.Printing.{Sends}
use Rattle.pesp_worker.specs.Texts.{reply_line}
use Rattle.pesp_worker.proofs.printer.print_replies.Given as goal

abbrev pub invariant-loop-reply : goal.invariant-loop-reply
invariant-loop-reply g l = Sends (g.O.Output.sending l.initial.out) (g.O.Output.sending l.out)
    (flat_map reply_line (take l.reply-index l.replies))
