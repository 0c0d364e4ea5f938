use Rattle.pesp_stream.proofs.Printing.{sends_then}
use Rattle.pesp_cert.proofs.front_printer.print_walk.Goals as goal

pub returns : goal.returns
returns g c = sends_then (sends_then c.put.ensures (rw c.rows.ensures at c.print_rows.ensures)) c.put-2.ensures
