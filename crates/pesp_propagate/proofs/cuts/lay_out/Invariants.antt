use Rattle.std.proofs.Common.{◌≡◌, ◌<◌, ◌≤◌, length, vec_len, take}
use Rattle.std.specs.Prelude.{sum}
use Rattle.pesp_propagate.specs.Lists.{AreLaidOut}
use Rattle.pesp_propagate.proofs.cuts.lay_out.Given as goal

abbrev pub invariant-loop-cut : goal.invariant-loop-cut
invariant-loop-cut l = record {
  laid : AreLaidOut l.cut l.at l.cuts.starts.items l.cuts.ends.items;
  ends : vec_len l.cuts.ends ≡ length l.counts;
  starts : length l.counts < vec_len l.cuts.starts;
  room : l.at ≤ vec_len l.cuts.entries;
  so_far : l.at ≡ sum (take l.cut l.counts);
}
