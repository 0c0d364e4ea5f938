use Rattle.pesp_stream.proofs.Printing.{sends_then}
use Rattle.pesp_cert.proofs.printer.print_answer.Goals as goal

pub returns-in-Optimal : goal.returns-in-Optimal
returns-in-Optimal g c = rw c.in-Optimal.is c.print.ensures

pub returns-in-Bounded : goal.returns-in-Bounded
returns-in-Bounded g c = rw c.in-Bounded.is (sends_then (sends_then c.print-in-Bounded.ensures c.print_cost.ensures) c.put.ensures)
