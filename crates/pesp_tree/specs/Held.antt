-- What holds of the parts of a queue.
use Rattle.std.specs.Prelude.{ℕ, ◌≤◌, List, length}
use Rattle.pesp_tree.specs.declared.entry.Entry.{Entry}
use Rattle.pesp_tree.specs.Heaps.{IsHeap, ArePlaced}

-- the entries, how many of them wait, the places, and how many entries there is room for, with memory for so many
pub record HeapIsHeld (entries : List Entry) (waiting : ℕ) (places : List ℕ) (room memory : ℕ) : Type 0 where
  pub within : waiting ≤ length entries
  pub heap : IsHeap entries waiting
  pub placed : ArePlaced entries places
  pub few : length entries ≤ room
  pub fits : room ≤ memory
  pub fewer : length entries ≤ length places
  pub small : length places ≤ 4294967295
