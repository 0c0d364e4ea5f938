use Rattle.std.proofs.Common.{rules}
use Rattle.pesp_branching.proofs.part_leaf.value_from.Goals as goal

pub returns-in_default-clause-start : goal.returns-in_default-clause-start
returns-in_default-clause-start c = search rules

pub returns-in_default-2-clause-start : goal.returns-in_default-2-clause-start
returns-in_default-2-clause-start c = search rules
