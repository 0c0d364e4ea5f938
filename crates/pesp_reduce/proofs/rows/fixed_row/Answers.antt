use Rattle.std.proofs.Common.{rules}
use Rattle.pesp_reduce.proofs.rows.fixed_row.Goals as goal

pub returns : goal.returns
returns c = search rules
