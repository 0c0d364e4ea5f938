use Rattle.std.proofs.Common.{◌≡◌, ◌+◌, ◌≤◌, ◌++◌, length, map, take, vec_len, vec_capacity}
use Rattle.pesp_board.specs.declared.slot.Slot.TheVariants.{Lent as LentSlot}
use Rattle.pesp_board.proofs.lending_all.note_lent.Given as goal

abbrev pub invariant-loop-node : goal.invariant-loop-node
invariant-loop-node l = record {
  items : l.slots.items ≡ l.fn.slots.items ++ map LentSlot (take l.node-index l.nodes);
  memory : vec_len l.slots + length l.nodes ≤ vec_capacity l.slots + l.node-index;
}
