use Rattle.std.proofs.Common.{take}
use Rattle.std.specs.List.{flat_map}
use Rattle.pesp_stream.specs.Printing.{Sends}
use Rattle.pesp_cert.specs.FrontPrint.{walk_text}
use Rattle.pesp_cert.proofs.front_printer.print_walks.Given as goal

abbrev pub invariant-loop-walk : goal.invariant-loop-walk
invariant-loop-walk g l = Sends (g.O.Output.sending l.initial.out) (g.O.Output.sending l.out)
    (flat_map walk_text (take l.walk-index l.walks))
