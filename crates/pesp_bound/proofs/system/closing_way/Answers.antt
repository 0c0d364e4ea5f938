use Rattle.std.proofs.Common.{rules}
use Rattle.pesp_bound.specs.Settling.{at}
use Rattle.pesp_bound.proofs.system.closing_way.Goals as goal

pub returns-in-Levels : goal.returns-in-Levels
returns-in-Levels c = (at c.in-Levels.field-0.items, search rules)

pub returns-then-are_settled : goal.returns-then-are_settled
returns-then-are_settled c = (at c.args.levels.now, search rules)
