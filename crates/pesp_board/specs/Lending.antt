-- A waiting leaf is lent.
use Rattle.std.specs.Prelude.{◌≡◌, ◌<◌, ◌≤◌, List, [], ◌∷◌, ◌++◌, length, ℤ, Option, Some, None, Result, Ok, Err, ℕ}
use Rattle.pesp_problem.specs.declared.limits.TheConstants.{MOST_LINES}
use Rattle.pesp_problem.specs.declared.cut.Cut.{Cut}
use Rattle.pesp_problem.specs.declared.cut.Side.{Side}
use Rattle.pesp_nodes.specs.Problems.{ProblemValue}
use Rattle.pesp_problem.specs.declared.pair.Pair.{Pair}
use Rattle.pesp_truth.specs.Trees.{Bound}
use Rattle.pesp_tree.specs.WorkTrees.{WorkTreeValue, path_to, leaf_at}
use Rattle.pesp_tree.specs.declared.entry.Entry.{Entry}
use Rattle.pesp_tree.specs.declared.job.Job.{Job}
use Rattle.pesp_tree.specs.declared.refusal.LendRefusal.{LendRefusal}
use Rattle.pesp_tree.specs.declared.refusal.LendRefusal.TheVariants.{Memory, NumbersSpent}
use Rattle.pesp_tree.specs.BoardLeaves.{told}
use Rattle.pesp_tree.specs.States.{State, IsOpen, value_at}
use Rattle.pesp_tree.specs.Events.{IsCheaper}
use Rattle.pesp_board.specs.declared.best.Best.{Best}
use Rattle.pesp_board.specs.declared.slot.Slot.{Slot}
use Rattle.pesp_board.specs.declared.slot.Slot.TheVariants.{Lent as LentSlot}
use Rattle.pesp_board.specs.Insides.{best_cost_of}
use Rattle.pesp_board.specs.Giving.{AreCuts}

-- the path leads to an open leaf, and no open leaf has a lesser value, as values are told
pub record IsLeastOpen (p : ProblemValue) (state : State) (path : List (Cut × Side)) : Type 0 where
  pub opens : IsOpen p state path
  pub least : (other : List (Cut × Side)) (o : IsOpen p state other) (v w : ℤ)
      → value_at p path opens.pairs ≡ Some v → value_at p other o.pairs ≡ Some w → told v ≤ told w

-- the entry's node is lent under the next number, with the path to it
pub record LendsNext (t : WorkTreeValue) (best : Option Best) (old : List Slot) (e : Entry) (job : Job) (new : List Slot) : Type 0 where
  pub cheaper : IsCheaper e.value (best_cost_of best)
  pub left : length old < MOST_LINES
  pub number : job.number ≡ length old
  pub path : job.path.items ≡ path_to t e.item
  pub slots : new ≡ old ++ LentSlot e.item ∷ []

-- what becomes of a waiting entry: it is lent where its value is below the best cost and a number is left
abbrev pub LendsEntry : WorkTreeValue → Option Best → List Slot → Entry → Result (Option Job) LendRefusal → List Slot → Type 0
LendsEntry t best old e (Ok None) new = (new ≡ old) × (IsCheaper e.value (best_cost_of best) → ⊥)
LendsEntry t best old e (Ok (Some job)) new = LendsNext t best old e job new
LendsEntry t best old e (Err NumbersSpent) new = (new ≡ old) × IsCheaper e.value (best_cost_of best) × (MOST_LINES ≤ length old)
LendsEntry t best old e (Err Memory) new = new ≡ old

-- what is lent is open, and no open leaf has a lesser value
abbrev pub LendsFirst : ProblemValue → State → Result (Option Job) LendRefusal → Type 0
LendsFirst p old (Ok None) = Unit {0}
LendsFirst p old (Ok (Some job)) = IsLeastOpen p old job.path.items
LendsFirst p old (Err refusal) = Unit {0}

-- the cuts on the way to what is lent are cuts of the problem
abbrev pub LendsCuts : ProblemValue → Result (Option Job) LendRefusal → Type 0
LendsCuts p (Ok None) = Unit {0}
LendsCuts p (Ok (Some job)) = AreCuts p job.path.items
LendsCuts p (Err refusal) = Unit {0}

-- the reply has a job
abbrev pub HasJob : Result (Option Job) LendRefusal → Type 0
HasJob (Ok None) = ⊥
HasJob (Ok (Some job)) = Unit {0}
HasJob (Err refusal) = ⊥

-- the pairs of a node's bound leaf, none where it has no bound leaf
abbrev pub HasPairs : WorkTreeValue → ℕ → Option (List Pair) → Type 0
HasPairs t node (Some pairs) = leaf_at t node ≡ Some (Bound pairs)
HasPairs t node None = (pairs : List Pair) → leaf_at t node ≡ Some (Bound pairs) → ⊥
