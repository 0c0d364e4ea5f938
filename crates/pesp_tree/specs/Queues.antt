-- Queues as their callers see them. But for which item waits in front, the order inside the two lists is of no promise.
use Rattle.std.specs.Prelude.{◌≡◌, ℕ, ◌<◌, ◌≤◌, List, ◌++◌, length, All, Option}
use Rattle.std.specs.List.{slice_get}
use Rattle.pesp_tree.specs.declared.entry.Entry.{Entry}
use Rattle.pesp_tree.specs.Entries.{ItemsDiffer}

-- the items that wait and those that are parked, each with its value
pub record QueueValue : Type 0 where
  pub waiting : List Entry
  pub parked : List Entry
  -- items have lesser numbers
  pub numbers : ℕ
  -- how many items there is room for
  pub room : ℕ

-- the entries of all items
abbrev pub all_of : QueueValue → List Entry
all_of q = q.waiting ++ q.parked

-- the item that waits in front, none where none waits
abbrev pub front : QueueValue → Option Entry
front q = slice_get q.waiting 0

-- no item stands in a queue twice, all have lesser numbers, none above 4294967294, and there is room for all
pub record QueueKeepsLimits (q : QueueValue) : Type 0 where
  pub differ : ItemsDiffer (all_of q)
  pub numbered : All (λ e. e.item < q.numbers) (all_of q)
  pub few : length (all_of q) ≤ q.room
  pub fewer : length (all_of q) ≤ q.numbers
  pub numbers : q.numbers ≤ 4294967295

-- what there is room for stays
abbrev pub KeepsRoom : QueueValue → QueueValue → Type 0
KeepsRoom old new = (new.numbers ≡ old.numbers) × (new.room ≡ old.room)
