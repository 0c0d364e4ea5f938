use Rattle.pesp_stream.proofs.Printing.{sends_then}
use Rattle.pesp_cert_items.proofs.printer.print_head.Goals as goal

pub returns : goal.returns
returns g c = sends_then (sends_then c.put.ensures
    (rw (c.as_bytes.ensures.value, c.format.ensures.text) at c.put-2.ensures)) c.put-3.ensures
