use Rattle.std.proofs.Common.{arith}
use Rattle.pesp_stream.proofs.Printing.{sends_nothing, sends_all, sends_more}
use Rattle.pesp_cert.specs.Print.{pair_text}
use Rattle.pesp_cert.proofs.printer.print_pairs.Goals as goal

pub loop-pair-init : goal.loop-pair-init
loop-pair-init g c = sends_nothing _

pub loop-pair-preserved : goal.loop-pair-preserved
loop-pair-preserved g c = sends_more pair_text c.args.pairs.now c.loop-pair.pair-index _ c.loop-pair-test.true
    c.loop-pair.invariant c.print_pair.ensures

pub returns : goal.returns
returns g c = sends_all pair_text c.args.pairs.now c.loop-pair.pair-index (omega (arith, c.loop-pair-test.false)) c.loop-pair.invariant
