use Rattle.std.proofs.Common.{◌≡◌, ◌<◌, length, vec_len}
use Rattle.pesp_bound.proofs.Lifting.{Climbed, unmarked}
use Rattle.pesp_bound.proofs.passes.climb.Given as goal

abbrev pub invariant-loop-k : goal.invariant-loop-k
invariant-loop-k l = record {
  size : vec_len l.place ≡ length l.level;
  here : l.current < length l.level;
  climbed : Climbed l.edges l.level l.by l.place.items l.way.items l.current l.event;
}

abbrev pub decreases-loop-k : goal.decreases-loop-k
decreases-loop-k l = unmarked l.place.items
