use Rattle.std.proofs.Common.{rules}
use Rattle.pesp_stream.proofs.printer.Printer.finish.Goals as goal

pub returns-clause-text : goal.returns-clause-text
returns-clause-text g c = search rules
