use Rattle.pesp_tree.proofs.Decided.{none_open_decides, decided_has_none_open}
use Rattle.pesp_tree.proofs.machine_laws.boards_without_open_leaves_are_decided.Goals as goal

pub returns-clause-decided : goal.returns-clause-decided
returns-clause-decided c = none_open_decides

pub returns-clause-closed : goal.returns-clause-closed
returns-clause-closed c p state path k a = decided_has_none_open p state k a path
