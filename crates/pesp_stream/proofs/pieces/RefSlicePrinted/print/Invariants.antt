-- The texts of the items before this one are put.
use Rattle.std.proofs.Common.{take}
use Rattle.std.specs.List.{flat_map}
use Rattle.pesp_stream.specs.Printing.{Sends}
use Rattle.pesp_stream.proofs.pieces.RefSlicePrinted.print.Given as goal

abbrev pub invariant-loop-item : goal.invariant-loop-item
invariant-loop-item g l =
    Sends (g.O.Output.sending l.initial.out) (g.O.Output.sending l.out) (flat_map g.T.Printed.text (take l.item-index l.items))
