use Rattle.std.proofs.Common.{take}
use Rattle.std.specs.List.{flat_map}
use Rattle.pesp_stream.specs.Printing.{Sends}
use Rattle.pesp_cert.specs.Print.{tree_line_text}
use Rattle.pesp_cert.proofs.printer.print_tree.Given as goal

abbrev pub invariant-loop-line : goal.invariant-loop-line
invariant-loop-line g l = Sends (g.O.Output.sending l.initial.out) (g.O.Output.sending l.out)
    (flat_map tree_line_text (take l.line-index l.lines))
