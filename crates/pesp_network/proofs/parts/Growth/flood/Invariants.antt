use Rattle.std.proofs.Common.{◌≡◌, ◌<◌, vec_len}
use Rattle.pesp_network.specs.Growing.{at}
use Rattle.pesp_network.specs.Networks.{arcs_of_network}
use Rattle.pesp_network.specs.Floods.{GrownOver, IsCurrent, KeepsSeen, work_left}
use Rattle.pesp_network.proofs.parts.Growth.flood.Given as goal

abbrev pub invariant-events : goal.invariant-events
invariant-events l = record {
  grown : GrownOver (arcs_of_network l.rows) l.self;
  current : IsCurrent l.self l.current;
  seen : KeepsSeen l.fn.self l.self;
  started : 0 < at l.self.place.items l.start;
  events : vec_len l.self.up ≡ vec_len l.fn.self.up;
}

abbrev pub decreases-events : goal.decreases-events
decreases-events l = work_left l.self
