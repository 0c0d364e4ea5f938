use Rattle.std.proofs.Common.{◌≡◌, take}
use Rattle.pesp_conflict.specs.Insides.{rest_of}
use Rattle.pesp_conflict.proofs.lists.without.Given as goal

abbrev pub invariant-loop-row : goal.invariant-loop-row
invariant-loop-row l = l.rest.items ≡ rest_of (take l.row-index l.listed) l.others
