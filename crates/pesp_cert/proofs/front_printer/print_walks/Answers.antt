use Rattle.std.proofs.Common.{arith}
use Rattle.pesp_stream.proofs.Printing.{sends_nothing, sends_all}
use Rattle.pesp_cert.specs.FrontPrint.{walk_text}
use Rattle.pesp_cert.proofs.front_printer.print_walks.Goals as goal

pub loop-walk-init : goal.loop-walk-init
loop-walk-init g c = sends_nothing _

pub returns : goal.returns
returns g c = sends_all walk_text c.args.walks.now c.loop-walk.walk-index (omega (arith, c.loop-walk-test.false)) c.loop-walk.invariant
