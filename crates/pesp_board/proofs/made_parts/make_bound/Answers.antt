use Rattle.std.proofs.Common.{rules}
use Rattle.pesp_board.proofs.made_parts.make_bound.Goals as goal

pub returns-in_ok-copy_of-in-Some-leaf_value : goal.returns-in_ok-copy_of-in-Some-leaf_value
returns-in_ok-copy_of-in-Some-leaf_value c = search rules

pub returns-in_ok-copy_of-in_default-leaf_value : goal.returns-in_ok-copy_of-in_default-leaf_value
returns-in_ok-copy_of-in_default-leaf_value c = search rules
