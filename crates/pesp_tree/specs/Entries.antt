-- Lists of entries.
use Rattle.std.specs.Prelude.{◌≢◌, ℕ, ◌<◌, ◌≤◌, List, length, slice_index_or, All}
use Rattle.std.specs.List.{Contains}
use Rattle.pesp_tree.specs.declared.entry.Entry.{Entry}

-- an item with a value
abbrev pub entry : ℕ → ℕ → Entry
entry item value = record { item = item; value = value }

-- the entry at a place, from 0
abbrev pub entry_at : List Entry → ℕ → Entry
entry_at entries i = slice_index_or entries i (entry 0 0)

-- its item
abbrev pub item_at : List Entry → ℕ → ℕ
item_at entries i = (entry_at entries i).item

-- its value
abbrev pub entry_value_at : List Entry → ℕ → ℕ
entry_value_at entries i = (entry_at entries i).value

-- the item stands among them
abbrev pub HasItem : List Entry → ℕ → Type 0
HasItem entries item = (value : ℕ) × Contains entries (entry item value)

-- no item stands among them twice
abbrev pub ItemsDiffer : List Entry → Type 0
ItemsDiffer entries = (i j : ℕ) → i < j → j < length entries → item_at entries i ≢ item_at entries j

-- one of them, and none has a lesser value
abbrev pub IsFirst : List Entry → Entry → Type 0
IsFirst entries first = Contains entries first × All (λ e. first.value ≤ e.value) entries

-- the least of their values
abbrev pub IsLeastValue : List Entry → ℕ → Type 0
IsLeastValue entries least = (item : ℕ) × IsFirst entries (entry item least)
