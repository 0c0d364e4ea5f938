use Rattle.std.proofs.Common.{◌≡◌, ◌<◌, ◌+◌, ℕ, vec_len, get_or}
use Rattle.pesp_network.proofs.forest.all_numbers.Given as goal

abbrev pub invariant-loop-i : goal.invariant-loop-i
invariant-loop-i l = record {
  len : vec_len l.numbers ≡ l.i;
  each : (j : ℕ) → j < l.i → get_or l.numbers.items j 0 ≡ j + 1;
}
