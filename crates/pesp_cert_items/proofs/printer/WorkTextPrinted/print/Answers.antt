use Rattle.pesp_stream.proofs.Printing.{sends_then, sends_as}
use Rattle.pesp_cert_items.specs.Works.{WorkValue, work_spelling}
use Rattle.pesp_cert_items.proofs.PrintLaws.{work_is}
use Rattle.pesp_cert_items.proofs.printer.WorkTextPrinted.print.Goals as goal

pub returns : goal.returns
returns g c =
    let w : WorkValue = record { job = c.self.inside.job; times = c.self.inside.times.items; tree = c.self.inside.tree.items } in
    let times = rw c.deref.ensures.value at c.print_times.ensures in
    let tree = rw c.deref-2.ensures.value at c.print_tree.ensures in
    rw (← c.self.view_is) (sends_as (work_spelling w) (work_is w)
    (sends_then (sends_then (sends_then c.print_head.ensures times) tree) c.put.ensures))
