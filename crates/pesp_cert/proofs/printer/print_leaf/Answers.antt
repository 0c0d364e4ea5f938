use Rattle.pesp_stream.proofs.Printing.{sends_then}
use Rattle.pesp_cert.proofs.printer.print_leaf.Goals as goal

pub returns : goal.returns
returns g c = sends_then (sends_then c.print.ensures c.print_pairs.ensures) c.put.ensures
