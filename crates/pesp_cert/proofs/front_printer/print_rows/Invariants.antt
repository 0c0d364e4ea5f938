use Rattle.std.proofs.Common.{take}
use Rattle.std.specs.List.{flat_map}
use Rattle.pesp_stream.specs.Printing.{Sends}
use Rattle.pesp_cert.specs.FrontPrint.{row_text}
use Rattle.pesp_cert.proofs.front_printer.print_rows.Given as goal

abbrev pub invariant-loop-row : goal.invariant-loop-row
invariant-loop-row g l = Sends (g.O.Output.sending l.initial.out) (g.O.Output.sending l.out) (flat_map row_text (take l.row-index l.rows))
