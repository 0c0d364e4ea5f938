use Rattle.std.proofs.Common.{◌≡◌, take}
use Rattle.pesp_truth.specs.Conflicts.{chosen}
use Rattle.pesp_conflict.proofs.lists.chosen.Given as goal

abbrev pub invariant-loop-place : goal.invariant-loop-place
invariant-loop-place l = l.rows.items ≡ chosen l.listed (take l.place-index l.places)
