use Rattle.std.proofs.Common.{rules}
use Rattle.pesp_stream.proofs.printer.PrinterOutput.put.Goals as goal

pub invariant_of-self : goal.invariant_of-self
invariant_of-self g c = search rules

pub returns-then-not-self : goal.returns-then-not-self
returns-then-not-self g c = search rules
