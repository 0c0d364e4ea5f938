use Rattle.std.proofs.Common.{rules}
use Rattle.pesp_tree.proofs.queue.Queue.reserve.Goals as goal

pub returns-clause-numbers : goal.returns-clause-numbers
returns-clause-numbers c = search rules
