use Rattle.std.proofs.Common.{None}
use Rattle.pesp_stream.proofs.Printing.{sends_then, sends_as}
use Rattle.pesp_cert.specs.Texts.{spelling}
use Rattle.pesp_cert.proofs.PrintLaws.{certificate_is}
use Rattle.pesp_cert.proofs.printer.CertificatePrinted.print.Goals as goal

pub returns : goal.returns
returns g c =
    let head = rw (c.version.ensures.value, c.period.ensures.value) at c.print_head.ensures in
    let answer = rw c.answer.ensures.value at c.print_answer.ensures in
    let times = rw c.times.ensures.value at c.print_times.ensures in
    let cycles = rw c.cycles.ensures.value at c.print_cycles.ensures in
    let tree = rw c.tree.ensures.value at c.print_tree.ensures in
    sends_as (spelling None c.args.self.now) (certificate_is c.args.self.now)
    (sends_then (sends_then (sends_then (sends_then (sends_then head answer) times) cycles) tree) c.put.ensures)
