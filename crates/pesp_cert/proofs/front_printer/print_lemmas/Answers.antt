use Rattle.std.proofs.Common.{arith}
use Rattle.pesp_stream.proofs.Printing.{sends_nothing, sends_all}
use Rattle.pesp_cert.specs.FrontPrint.{lemma_text}
use Rattle.pesp_cert.proofs.front_printer.print_lemmas.Goals as goal

pub loop-lemma-init : goal.loop-lemma-init
loop-lemma-init g c = sends_nothing _

pub returns : goal.returns
returns g c = sends_all lemma_text c.args.lemmas.now c.loop-lemma.lemma-index (omega (arith, c.loop-lemma-test.false)) c.loop-lemma.invariant
