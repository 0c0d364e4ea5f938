use Rattle.pesp_stream.proofs.Printing.{sends_then}
use Rattle.pesp_stream.proofs.pieces.Tuple6Printed.print.Goals as goal

pub returns : goal.returns
returns g c = sends_then (sends_then (sends_then
    (sends_then (sends_then c.print.ensures c.print-2.ensures) c.print-3.ensures) c.print-4.ensures)
    c.print-5.ensures) c.print-6.ensures
