use Rattle.std.proofs.Common.{◌≡◌, take, map}
use Rattle.pesp_conflict.specs.Lists.{listed_of}
use Rattle.pesp_conflict.proofs.listed.lines_of.Given as goal

abbrev pub invariant-loop-number : goal.invariant-loop-number
invariant-loop-number l = l.lines.items ≡ map (listed_of l.instance) (take l.number-index l.rows)
