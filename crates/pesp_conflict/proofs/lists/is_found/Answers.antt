use Rattle.pesp_conflict.proofs.Numbers.{is_there}
use Rattle.pesp_conflict.proofs.lists.is_found.Goals as goal

pub returns : goal.returns
returns c = is_there c.args.rows.now c.args.row c.contains.result c.contains.ensures.cases
