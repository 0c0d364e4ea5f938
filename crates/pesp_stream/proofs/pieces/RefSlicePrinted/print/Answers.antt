use Rattle.std.proofs.Common.{rules}
use Rattle.pesp_stream.proofs.Printing.{sends_all}
use Rattle.pesp_stream.proofs.pieces.RefSlicePrinted.print.Goals as goal

pub returns : goal.returns
returns g c = sends_all g.T.Printed.text _ _ (search rules) c.loop-item.invariant
