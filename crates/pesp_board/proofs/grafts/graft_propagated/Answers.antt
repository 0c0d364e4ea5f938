use Rattle.std.proofs.Common.{rules}
use Rattle.pesp_board.proofs.grafts.graft_propagated.Goals as goal

pub returns-then-not-branch : goal.returns-then-not-branch
returns-then-not-branch c = search rules

pub returns : goal.returns
returns c = search rules
