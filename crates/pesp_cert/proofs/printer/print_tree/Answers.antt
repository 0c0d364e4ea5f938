use Rattle.std.proofs.Common.{arith}
use Rattle.pesp_stream.proofs.Printing.{sends_nothing, sends_all}
use Rattle.pesp_cert.specs.Print.{tree_line_text}
use Rattle.pesp_cert.proofs.printer.print_tree.Goals as goal

pub loop-line-init : goal.loop-line-init
loop-line-init g c = sends_nothing _

pub returns : goal.returns
returns g c = sends_all tree_line_text c.args.lines.now c.loop-line.line-index (omega (arith, c.loop-line-test.false)) c.loop-line.invariant
