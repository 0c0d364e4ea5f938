use Rattle.pesp_stream.proofs.Printing.{sends_then}
use Rattle.pesp_cert.proofs.front_printer.print_lemma.Goals as goal

pub returns : goal.returns
returns g c =
    sends_then (sends_then (sends_then (sends_then c.print_lemma_rows.ensures c.print_lemma_least.ensures) c.print_lemma_marks.ensures)
    c.print_lemma_cycles.ensures) c.print_lemma_tree.ensures
