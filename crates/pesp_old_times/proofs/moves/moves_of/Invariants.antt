use Rattle.std.proofs.Common.{◌≡◌, ◌≤◌}
use Rattle.pesp_old_times.specs.Moves.{farthest, count_moved}
use Rattle.pesp_old_times.proofs.moves.moves_of.Given as goal

abbrev pub invariant-loop-place : goal.invariant-loop-place
invariant-loop-place l = record {
  count : l.moved ≡ count_moved l.period l.wanted l.times l.place;
  small : l.moved ≤ l.place;
  top : l.most ≡ farthest l.period l.wanted l.times l.place;
}
