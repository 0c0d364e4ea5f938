use Rattle.std.proofs.Common.{◌≡◌, length}
use Rattle.pesp_judges.proofs.Placing.{ArePlaced}
use Rattle.pesp_judges.proofs.weights.weights_by_row.Given as goal

abbrev pub invariant-loop-pair : goal.invariant-loop-pair
invariant-loop-pair l = record {
  placed : ArePlaced l.weights l.own.items l.pair-index;
  long : length l.own.items ≡ l.rows;
}
