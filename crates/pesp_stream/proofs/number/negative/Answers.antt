use Rattle.std.proofs.Common.{rules}
use Rattle.pesp_stream.proofs.number.negative.Goals as goal

pub returns-then-number-eq0 : goal.returns-then-number-eq0
returns-then-number-eq0 c = search rules
