use Rattle.std.proofs.Common.{rules, ◌≡◌, true, ap}
use Rattle.pesp_stream.proofs.Printing.{writes_whole}
use Rattle.pesp_stream.proofs.printer.print_to.Goals as goal

pub returns-clause-text : goal.returns-clause-text
returns-clause-text g c =
    let contents = λ (w : g.row.W.Denot). g.W.Sink.contents w in
    let same = λ (e : c.print.new.out.stopped ≡ true). ap contents (c.finish.ensures.same e) in
    let whole = writes_whole _ _ (contents c.finish.new.self.sink.now)
    (g.T.Printed.text c.args.value.now) c.finish.result c.new-printer.ensures.going c.new-printer.ensures.page
    c.print.ensures same c.finish.ensures.err c.finish.ensures.text in
    let here = rw c.new-printer.ensures.same at whole in
    search rules
