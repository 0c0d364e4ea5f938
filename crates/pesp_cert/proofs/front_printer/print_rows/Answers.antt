use Rattle.std.proofs.Common.{arith}
use Rattle.pesp_stream.proofs.Printing.{sends_nothing, sends_all, sends_more}
use Rattle.pesp_cert.specs.FrontPrint.{row_text}
use Rattle.pesp_cert.proofs.front_printer.print_rows.Goals as goal

pub loop-row-init : goal.loop-row-init
loop-row-init g c = sends_nothing _

pub returns : goal.returns
returns g c = sends_all row_text c.args.rows.now c.loop-row.row-index (omega (arith, c.loop-row-test.false)) c.loop-row.invariant

pub loop-row-preserved : goal.loop-row-preserved
loop-row-preserved g c = sends_more row_text c.args.rows.now c.loop-row.row-index _ c.loop-row-test.true
    c.loop-row.invariant c.print_row.ensures
