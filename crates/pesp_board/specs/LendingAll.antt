-- All open leaves are lent: which nodes they are, under which numbers, and what waits then.
use Rattle.std.specs.Prelude.{◌≡◌, ◌⊎◌, ℕ, ◌+◌, ◌<◌, ◌≤◌, List, [], ◌∷◌, ◌++◌, length, map, All, Contains, Option, IsSome, Result, Ok, Err}
use Rattle.std.specs.Global.{Vec}
use Rattle.std.specs.List.Sorted.{IsPermutation}
use Rattle.pesp_problem.specs.declared.limits.TheConstants.{MOST_LINES}
use Rattle.pesp_truth.specs.Leaves.{leaf_paths}
use Rattle.pesp_tree.specs.WorkTrees.{WorkTreeValue, path_to, leaf_at}
use Rattle.pesp_tree.specs.declared.entry.Entry.{Entry}
use Rattle.pesp_tree.specs.Entries.{entry}
use Rattle.pesp_tree.specs.Queues.{QueueValue, all_of}
use Rattle.pesp_tree.specs.declared.job.Job.{Job}
use Rattle.pesp_tree.specs.declared.refusal.LendRefusal.{LendRefusal}
use Rattle.pesp_tree.specs.declared.refusal.LendRefusal.TheVariants.{Memory, NumbersSpent}
use Rattle.pesp_tree.specs.Events.{IsCheaper}
use Rattle.pesp_tree.specs.Adopting.{AreNumbered}
use Rattle.pesp_board.specs.declared.best.Best.{Best}
use Rattle.pesp_board.specs.declared.slot.Slot.{Slot}
use Rattle.pesp_board.specs.declared.slot.Slot.TheVariants.{Lent as LentSlot}
use Rattle.pesp_board.specs.Insides.{best_cost_of}

-- the node waits with a value below the best cost
abbrev pub WaitsCheaper : QueueValue → Option Best → ℕ → Type 0
WaitsCheaper q best node = (value : ℕ) × Contains q.waiting (entry node value) × IsCheaper value (best_cost_of best)

-- those of the nodes that wait with a value below the best cost, in their order
abbrev pub AreWaitingOf : QueueValue → Option Best → List ℕ → List ℕ → Type 0
AreWaitingOf q best [] some = some ≡ []
AreWaitingOf q best (node ∷ nodes) some = ((rest : List ℕ) × WaitsCheaper q best node × (some ≡ node ∷ rest)
    × AreWaitingOf q best nodes rest) ⊎ ((WaitsCheaper q best node → ⊥) × AreWaitingOf q best nodes some)

-- those of the nodes with leaves, in the order of the tree's lines, that wait with a value below the best cost
pub record AreOpenNodes (t : WorkTreeValue) (q : QueueValue) (best : Option Best) (opens : List ℕ) : Type 0 where
  pub nodes : List ℕ
  pub paths : map (path_to t) nodes ≡ leaf_paths t.tree
  pub leaves : All (λ node. IsSome (leaf_at t node)) nodes
  pub those : AreWaitingOf q best nodes opens

-- the nodes are lent under the next numbers, in order, or nothing has changed
abbrev pub LendsNodes : WorkTreeValue → List Slot → List ℕ → Result (Vec Job) LendRefusal → List Slot → Type 0
LendsNodes t old nodes (Ok jobs) new = (new ≡ old ++ map LentSlot nodes)
    × AreNumbered (length old) jobs.items (map (path_to t) nodes) × (length old + length nodes ≤ MOST_LINES)
LendsNodes t old nodes (Err NumbersSpent) new = (new ≡ old) × (MOST_LINES < length old + length nodes)
LendsNodes t old nodes (Err Memory) new = new ≡ old

-- what waited with a value below the best cost is parked, and nothing else changes
pub record ParksOpen (q r : QueueValue) (best : Option Best) : Type 0 where
  pub same : IsPermutation (all_of r) (all_of q)
  pub kept : (e : Entry) → Contains q.parked e → Contains r.parked e
  pub opens : (e : Entry) → Contains q.waiting e → IsCheaper e.value (best_cost_of best) → Contains r.parked e
  pub only : (e : Entry) → Contains r.parked e → Contains q.parked e ⊎ (Contains q.waiting e × IsCheaper e.value (best_cost_of best))
