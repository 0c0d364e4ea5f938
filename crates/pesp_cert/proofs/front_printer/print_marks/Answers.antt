use Rattle.pesp_stream.proofs.Printing.{sends_then}
use Rattle.pesp_cert.proofs.front_printer.print_marks.Goals as goal

pub returns : goal.returns
returns g c = sends_then c.print.ensures c.print_walks.ensures
