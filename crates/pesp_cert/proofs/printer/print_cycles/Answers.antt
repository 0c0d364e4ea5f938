use Rattle.std.proofs.Common.{arith}
use Rattle.pesp_stream.proofs.Printing.{sends_nothing, sends_all}
use Rattle.pesp_cert.specs.Print.{cycle_line}
use Rattle.pesp_cert.proofs.printer.print_cycles.Goals as goal

pub loop-walk-init : goal.loop-walk-init
loop-walk-init g c = sends_nothing _

pub returns : goal.returns
returns g c = sends_all cycle_line c.args.cycles.now c.loop-walk.walk-index (omega (arith, c.loop-walk-test.false)) c.loop-walk.invariant
