use Rattle.std.proofs.Common.{take}
use Rattle.std.specs.List.{flat_map}
use Rattle.pesp_stream.specs.Printing.{Sends}
use Rattle.pesp_cert.specs.Print.{time_line}
use Rattle.pesp_cert.proofs.printer.print_times.Given as goal

abbrev pub invariant-loop-time : goal.invariant-loop-time
invariant-loop-time g l = Sends (g.O.Output.sending l.initial.out) (g.O.Output.sending l.out)
    (flat_map time_line (take l.time-index l.times))
