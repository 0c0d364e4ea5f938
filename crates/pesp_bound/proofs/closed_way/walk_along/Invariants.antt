use Rattle.std.proofs.Common.{◌≡◌, take}
use Rattle.pesp_bound.specs.Differences.{walk_along}
use Rattle.pesp_bound.proofs.closed_way.walk_along.Given as goal

abbrev pub invariant-loop-k : goal.invariant-loop-k
invariant-loop-k l = l.walk.items ≡ walk_along l.rows (take l.k-index l.way)
