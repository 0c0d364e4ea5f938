use Rattle.std.proofs.Common.{take}
use Rattle.std.specs.List.{flat_map}
use Rattle.pesp_stream.specs.Printing.{Sends}
use Rattle.pesp_cert.specs.Print.{pair_text}
use Rattle.pesp_cert.proofs.printer.print_pairs.Given as goal

abbrev pub invariant-loop-pair : goal.invariant-loop-pair
invariant-loop-pair g l = Sends (g.O.Output.sending l.initial.out) (g.O.Output.sending l.out)
    (flat_map pair_text (take l.pair-index l.pairs))
