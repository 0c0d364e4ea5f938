-- How a board is kept: a tree of numbered nodes, a slot for each number that was ever lent, and a queue of the nodes with
-- bound leaves by their values. What these lists mean, and what holds of them.
use Rattle.std.specs.Prelude.{◌≡◌, ℕ, ◌<◌, List, length, map, slice_index_or, Option, Some, None, option_map, Contains, sum_by}
use Rattle.pesp_problem.specs.declared.pair.Pair.{Pair}
use Rattle.pesp_truth.specs.Trees.{Bound, preorder}
use Rattle.pesp_network.specs.Networks.{KeepsNetLimits}
use Rattle.pesp_nodes.specs.Problems.{ProblemValue, IsSmallTable}
use Rattle.pesp_tree.specs.WorkTrees.{WorkTreeValue, IsWhole, path_to, leaf_at}
use Rattle.pesp_tree.specs.declared.entry.Entry.{Entry}
use Rattle.pesp_tree.specs.Entries.{HasItem}
use Rattle.pesp_tree.specs.Queues.{QueueValue, all_of}
use Rattle.pesp_tree.specs.BoardLeaves.{told}
use Rattle.pesp_tree.specs.Limits.{pairs_in}
use Rattle.pesp_tree.specs.States.{State, Ticket, Lent, Given, Recalled, value_at, best_cost}
use Rattle.pesp_tree.specs.Reached.{IsOrderly}
use Rattle.pesp_board.specs.declared.best.Best.{Best}
use Rattle.pesp_board.specs.declared.slot.Slot.{Slot}
use Rattle.pesp_board.specs.declared.slot.Slot.TheVariants.{Lent as LentSlot, Given as GivenSlot, Recalled as RecalledSlot}

-- ---- what the lists mean

-- what became of a number, by its slot
abbrev pub ticket_of : WorkTreeValue → Slot → Ticket
ticket_of t (LentSlot node) = Lent (path_to t node)
ticket_of t GivenSlot = Given
ticket_of t RecalledSlot = Recalled

-- the best times, where there are any
abbrev pub times_of : Option Best → Option (List ℕ)
times_of best = option_map (λ b. b.times.items) best

-- their cost
abbrev pub best_cost_of : Option Best → Option ℕ
best_cost_of best = option_map (λ b. b.cost) best

-- the state of a board that is kept so
abbrev pub state_of : WorkTreeValue → List Slot → Option (List ℕ) → State
state_of t slots times = record { tree = t.tree; numbers = map (ticket_of t) slots; best = times }

-- the slot of a number; that of one that was never lent is read as one that was recalled
abbrev pub slot_at : List Slot → ℕ → Slot
slot_at slots number = slice_index_or slots number RecalledSlot

-- a number is lent with the leaf of this node
abbrev pub IsLentNode : List Slot → ℕ → Type 0
IsLentNode slots node = (number : ℕ) × (slot_at slots number ≡ LentSlot node)

-- the node with whose leaf the number is lent, none where it isn't lent
abbrev pub LendsNode : List Slot → ℕ → Option ℕ → Type 0
LendsNode slots number (Some node) = (number < length slots) × (slot_at slots number ≡ LentSlot node)
LendsNode slots number None = (node : ℕ) → slot_at slots number ≡ LentSlot node → ⊥

-- ---- what holds of them

-- the item is a node with a bound leaf, and the value is the leaf's, as it is told
pub record IsWorth (p : ProblemValue) (t : WorkTreeValue) (e : Entry) : Type 0 where
  pub pairs : List Pair
  pub leaf : leaf_at t e.item ≡ Some (Bound pairs)
  pub worth : option_map told (value_at p (path_to t e.item) pairs) ≡ Some e.value

-- the queue has each node with a bound leaf and no other, with its value, parked exactly where its leaf is lent
pub record IsQueue (p : ProblemValue) (t : WorkTreeValue) (slots : List Slot) (q : QueueValue) : Type 0 where
  pub each : (e : Entry) → Contains (all_of q) e → IsWorth p t e
  pub has : (node : ℕ) (pairs : List Pair) → leaf_at t node ≡ Some (Bound pairs) → HasItem (all_of q) node
  pub lent : (node : ℕ) → IsLentNode slots node → HasItem q.parked node
  pub parked : (node : ℕ) → HasItem q.parked node → IsLentNode slots node

-- the problem keeps its limits, the tree is whole, the state is one that events lead to, and what is kept beside it is right:
-- the queue, the cost of the best times, and how many pairs the tree has
pub record IsBoard (p : ProblemValue) (t : WorkTreeValue) (slots : List Slot) (q : QueueValue) (best : Option Best)
    (count : ℕ) : Type 0 where
  pub network : KeepsNetLimits p.network
  pub table : IsSmallTable p.table
  pub whole : IsWhole t
  pub orderly : IsOrderly p (state_of t slots (times_of best))
  pub queue : IsQueue p t slots q
  pub cost : best_cost_of best ≡ best_cost p (state_of t slots (times_of best))
  pub pairs : count ≡ sum_by pairs_in (preorder t.tree)
