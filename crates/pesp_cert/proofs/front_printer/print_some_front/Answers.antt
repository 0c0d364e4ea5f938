use Rattle.pesp_stream.proofs.Printing.{sends_then, sends_as}
use Rattle.std.proofs.Common.{Some}
use Rattle.pesp_cert.specs.Fronted.{front_text}
use Rattle.pesp_cert.proofs.FrontPrints.{front_is}
use Rattle.pesp_cert.proofs.front_printer.print_some_front.Goals as goal

pub returns : goal.returns
returns g c =
    let marks = rw (c.scale.ensures.value, c.walks.ensures.value, c.marks-marks.ensures) at c.print_marks.ensures in
    let lemmas = rw c.lemmas.ensures.value at c.print_lemmas.ensures in
    sends_as (front_text (Some c.args.front.now)) (front_is c.args.front.now) (sends_then (sends_then c.put.ensures marks) lemmas)
