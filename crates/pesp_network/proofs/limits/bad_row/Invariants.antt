use Rattle.std.proofs.Common.{◌<◌, ◌≤◌, ℕ}
use Rattle.pesp_network.specs.Networks.{IsGoodAt}
use Rattle.pesp_network.proofs.limits.bad_row.Given as goal

abbrev pub invariant-loop-i : goal.invariant-loop-i
invariant-loop-i l = record {
  few : l.i ≤ 100000;
  good : (j : ℕ) → j < l.i → IsGoodAt l.period l.events l.rows j;
}
