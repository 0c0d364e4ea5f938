use Rattle.std.proofs.Common.{◌≤◌, ◌+◌, reverse, vec_len, vec_capacity}
use Rattle.pesp_board.proofs.Planted.{ArePlanted}
use Rattle.pesp_board.proofs.replacement.plant.Given as goal

abbrev pub invariant-loop-part : goal.invariant-loop-part
invariant-loop-part l = record {
  planted : ArePlanted l.initial.tree l.initial.queue (reverse l.initial.waiting.items)
      (reverse l.initial.left.items) l.tree l.queue (reverse l.waiting.items) (reverse l.left.items);
  memory : vec_len l.initial.left + 1 ≤ vec_capacity l.waiting;
  fewer : vec_len l.left ≤ vec_len l.initial.left;
}

abbrev pub decreases-loop-part : goal.decreases-loop-part
decreases-loop-part l = vec_len l.left
