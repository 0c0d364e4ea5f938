use Rattle.std.proofs.Common.{arith}
use Rattle.pesp_stream.proofs.Printing.{sends_nothing, sends_all, sends_more}
use Rattle.pesp_cert.specs.Print.{time_line}
use Rattle.pesp_cert.proofs.printer.print_times.Goals as goal

pub loop-time-init : goal.loop-time-init
loop-time-init g c = sends_nothing _

pub loop-time-preserved : goal.loop-time-preserved
loop-time-preserved g c = sends_more time_line c.args.times.now c.loop-time.time-index _ c.loop-time-test.true
    c.loop-time.invariant c.print_time.ensures

pub returns : goal.returns
returns g c = sends_all time_line c.args.times.now c.loop-time.time-index (omega (arith, c.loop-time-test.false)) c.loop-time.invariant
