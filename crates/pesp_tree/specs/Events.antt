-- The events of a board, and what each does to its state.
use Rattle.std.specs.Prelude.{◌≡◌, ℕ, ◌-◌, ◌<◌, ◌≤◌, List, Contains, [], ◌∷◌, ◌++◌, length, map, slice_set, ℤ, ◌≤ℤ◌, int_lt, Option, Some, None, IsNone, IsSome, IsSomeAnd, IfSome, Result, Ok, Err, Bool, true, false, if◌then◌else◌}
use Rattle.pesp_problem.specs.declared.limits.TheConstants.{MOST_LINES}
use Rattle.pesp_problem.specs.declared.pair.Pair.{Pair}
use Rattle.pesp_problem.specs.declared.cut.Cut.{Cut}
use Rattle.pesp_problem.specs.declared.cut.Side.{Side}
use Rattle.pesp_problem.specs.NetTimetables.{IsNetTimetable, net_cost}
use Rattle.pesp_problem.specs.Nodes.{Node, leaf_value, offsets_left, low_part, high_part, LeavesBoth}
use Rattle.pesp_truth.specs.Trees.{Plain, Tree, Leaf, Reason, Ends, Branch, Bound, Shut, ByPairs, ByGap, ByPropagation, CutExists, IsShut, preorder, line_of}
use Rattle.pesp_truth.specs.declared.tree.TreeLine.{TreeLine}
use Rattle.pesp_nodes.specs.Problems.{ProblemValue, problem_net, ArePairs}
use Rattle.pesp_tree.specs.declared.job.Job.{Job}
use Rattle.pesp_tree.specs.declared.work.Work.{Work}
use Rattle.pesp_tree.specs.declared.work.Work.TheVariants as works
use Rattle.pesp_tree.specs.declared.refusal.LendRefusal.{LendRefusal}
use Rattle.pesp_tree.specs.declared.refusal.LendRefusal.TheVariants as lending
use Rattle.pesp_tree.specs.declared.refusal.GiveRefusal.{GiveRefusal}
use Rattle.pesp_tree.specs.declared.refusal.GiveRefusal.TheVariants.{UnknownJob, AlreadyGiven, NotValid, Memory, TooLarge}
use Rattle.pesp_truth.specs.Leaves.{put}
use Rattle.pesp_tree.specs.Limits.{IsSmallTree, IsReasonOf}
use Rattle.pesp_tree.specs.States.{State, Lent, Given, Recalled, ticket, IsLentNumber, HasLeaf, IsOpen, node_at, best_cost}

-- ---- lend

-- an open leaf is lent under the next number
pub record LendsLeaf (p : ProblemValue) (old : State) (job : Job) (new : State) : Type 0 where
  pub opens : IsOpen p old job.path.items
  pub number : job.number ≡ length old.numbers
  pub left : length old.numbers < MOST_LINES
  pub state : new ≡ record old { numbers = old.numbers ++ Lent job.path.items ∷ [] }

-- nothing is lent where no leaf is open; a leaf is open, but 1000000 numbers are gone; or a growth was refused
abbrev pub Lends : ProblemValue → State → Result (Option Job) LendRefusal → State → Type 0
Lends p old (Ok None) new = (new ≡ old) × ((path : List (Cut × Side)) → IsOpen p old path → ⊥)
Lends p old (Ok (Some job)) new = LendsLeaf p old job new
Lends p old (Err lending.NumbersSpent) new = (new ≡ old) × ((path : List (Cut × Side)) × IsOpen p old path) × (MOST_LINES ≤ length old.numbers)
Lends p old (Err lending.Memory) new = new ≡ old

-- ---- give

-- the second value is greater than the first, where there is a first
abbrev pub is_better : Option ℤ → Option ℤ → Bool
is_better None new = true
is_better (Some old) None = false
is_better (Some old) (Some new) = int_lt old new

-- the pairs of the greater value at a node, the old ones where both are equal
abbrev pub better_pairs : ProblemValue → Node → List Pair → List Pair → List Pair
better_pairs p node old new = if is_better (leaf_value (problem_net p) p.table node old true)
    (leaf_value (problem_net p) p.table node new true) then new else old

-- a pair names the cycle
abbrev pub Uses : List Pair → ℕ → Type 0
Uses pairs cycle = (pair : Pair) × Contains pairs pair × (pair.cycle ≡ cycle)

-- at a part of a split the pairs are kept, or it is shut by one of their cycles that has no offset left
abbrev pub Keeps : ProblemValue → List Pair → Node → Leaf → Type 0
Keeps p pairs node (Bound kept) = (kept ≡ pairs) × IsSome (leaf_value (problem_net p) p.table node pairs true)
Keeps p pairs node (Shut reason) = (cycle : ℕ) × (reason ≡ ByGap cycle) × Uses pairs cycle
    × IsNone (offsets_left (problem_net p) p.table node (cycle - 1))

-- a cut makes a branch with two leaves of a leaf with these pairs
pub record Splits (p : ProblemValue) (node : Node) (pairs : List Pair) (cut : Cut) (new : Tree) : Type 0 where
  pub exists : CutExists (problem_net p) p.table cut
  pub both : LeavesBoth node cut
  pub low : Leaf
  pub high : Leaf
  pub keeps_low : Keeps p pairs (low_part node cut) low
  pub keeps_high : Keeps p pairs (high_part node cut) high
  pub tree : new ≡ Branch cut (Ends low) (Ends high)

-- a reason may shut a node: its pairs rise and keep their limits, what it names exists, and it holds there
abbrev pub MayShut : ProblemValue → Node → Reason → Type 0
MayShut p node reason = IsReasonOf p reason × IsShut (Plain None) (problem_net p) p.table reason node

-- a tree may stand at a node in the place of a bound leaf that is worth so much: its cuts leave both sides a value, its leaves
-- that are shut are so at their nodes, and its bound leaves have a value there that isn't below that worth
abbrev pub IsGraft : ProblemValue → Option ℤ → Node → Tree → Type 0
IsGraft p worth node (Ends (Bound pairs)) = ArePairs (length p.table) pairs
    × IsSomeAnd (leaf_value (problem_net p) p.table node pairs true) (λ v. IfSome worth (λ w. w ≤ℤ v))
IsGraft p worth node (Ends (Shut reason)) = MayShut p node reason
IsGraft p worth node (Branch cut low high) = CutExists (problem_net p) p.table cut × LeavesBoth node cut
    × IsGraft p worth (low_part node cut) low × IsGraft p worth (high_part node cut) high

-- the lines are a tree that may stand in the place of a bound leaf with these pairs
abbrev pub IsGraftedTree : ProblemValue → Node → List Pair → List TreeLine → Tree → Type 0
IsGraftedTree p node old lines new = (preorder new ≡ map line_of lines) × IsGraft p (leaf_value (problem_net p) p.table node old true) node new

-- a leaf that a reason shuts
abbrev pub Shuts : ProblemValue → Node → Reason → Tree → Type 0
Shuts p node reason new = MayShut p node reason × (new ≡ Ends (Shut reason))

-- what a work makes of a bound leaf with these pairs at a node: pairs that rise, keep their limits and have a value there;
-- a leaf that a reason shuts; a split; or a whole tree
abbrev pub Makes : ProblemValue → Node → List Pair → Work → Tree → Type 0
Makes p node old (works.Leaf pairs) new = ArePairs (length p.table) pairs
    × IsSome (leaf_value (problem_net p) p.table node pairs true) × (new ≡ Ends (Bound (better_pairs p node old pairs)))
Makes p node old (works.Nothing pairs) new = Shuts p node (ByPairs pairs) new
Makes p node old (works.Gap cycle) new = Shuts p node (ByGap cycle) new
Makes p node old works.Propagated new = Shuts p node ByPropagation new
Makes p node old (works.Split cut) new = Splits p node old cut new
Makes p node old (works.Tree lines) new = IsGraftedTree p node old lines.items new

-- what a work has to be to make something of a bound leaf with these pairs at a node
abbrev pub IsValidAt : ProblemValue → Node → List Pair → Work → Type 0
IsValidAt p node old (works.Leaf pairs) = ArePairs (length p.table) pairs × IsSome (leaf_value (problem_net p) p.table node pairs true)
IsValidAt p node old (works.Nothing pairs) = MayShut p node (ByPairs pairs)
IsValidAt p node old (works.Gap cycle) = MayShut p node (ByGap cycle)
IsValidAt p node old works.Propagated = MayShut p node ByPropagation
IsValidAt p node old (works.Split cut) = CutExists (problem_net p) p.table cut × LeavesBoth node cut
IsValidAt p node old (works.Tree lines) = (tree : Tree) × IsGraftedTree p node old lines.items tree

-- what the work makes of the leaf for which the number is lent stands in its place, and the number is given
pub record Takes (p : ProblemValue) (old : State) (number : ℕ) (work : Work) (new : State) : Type 0 where
  pub path : List (Cut × Side)
  pub pairs : List Pair
  pub leaf : HasLeaf old number path pairs
  pub part : Tree
  pub makes : Makes p (node_at p path) pairs work part
  pub small : IsSmallTree (put old.tree path part)
  pub state : new ≡ record old { tree = put old.tree path part; numbers = slice_set old.numbers number Given }

-- the number is lent, and the work makes nothing of its leaf
pub record MakesNothing (p : ProblemValue) (old : State) (number : ℕ) (work : Work) : Type 0 where
  pub path : List (Cut × Side)
  pub pairs : List Pair
  pub leaf : HasLeaf old number path pairs
  pub none : (part : Tree) → Makes p (node_at p path) pairs work part → ⊥

-- the number is lent, and with what the work makes of its leaf the tree would pass a limit
pub record MakesTooMuch (p : ProblemValue) (old : State) (number : ℕ) (work : Work) : Type 0 where
  pub path : List (Cut × Side)
  pub pairs : List Pair
  pub leaf : HasLeaf old number path pairs
  pub part : Tree
  pub makes : Makes p (node_at p path) pairs work part
  pub large : IsSmallTree (put old.tree path part) → ⊥

-- why a work isn't taken
abbrev pub IsRefusedFor : ProblemValue → State → ℕ → Work → GiveRefusal → Type 0
IsRefusedFor p state number work UnknownJob = ticket state number ≡ Recalled
IsRefusedFor p state number work AlreadyGiven = ticket state number ≡ Given
IsRefusedFor p state number work NotValid = MakesNothing p state number work
IsRefusedFor p state number work Memory = IsLentNumber state number
IsRefusedFor p state number work TooLarge = MakesTooMuch p state number work

-- the work is taken, or it is refused and nothing changes
abbrev pub Gives : ProblemValue → State → ℕ → Work → Result (Unit {0}) GiveRefusal → State → Type 0
Gives p old number work (Ok done) new = Takes p old number work new
Gives p old number work (Err refusal) new = (new ≡ old) × IsRefusedFor p old number work refusal

-- ---- recall and offer

-- a number that is lent is lent no more, and its leaf neither; any other number changes nothing
abbrev pub Recalls : State → ℕ → Bool → State → Type 0
Recalls old number true new = IsLentNumber old number × (new ≡ record old { numbers = slice_set old.numbers number Recalled })
Recalls old number false new = (IsLentNumber old number → ⊥) × (new ≡ old)

-- below the best cost, where there is one
abbrev pub IsCheaper : ℕ → Option ℕ → Type 0
IsCheaper c None = Unit {0}
IsCheaper c (Some best) = c < best

-- the times are a timetable that costs less than the best one
abbrev pub Improves : ProblemValue → State → List ℕ → Type 0
Improves p state times = IsNetTimetable (problem_net p) p.network.events times × IsCheaper (net_cost (problem_net p) times) (best_cost p state)

-- times that improve are kept, and others aren't
abbrev pub Offers : ProblemValue → State → List ℕ → Bool → State → Type 0
Offers p old times true new = Improves p old times × (new ≡ record old { best = Some times })
Offers p old times false new = (Improves p old times → ⊥) × (new ≡ old)

-- ---- runs

-- a call with its reply
pub data Event : Type 0 where
  Lend : Result (Option Job) LendRefusal → Event
  Give : ℕ → Work → Result (Unit {0}) GiveRefusal → Event
  Recall : ℕ → Bool → Event
  Offer : List ℕ → Bool → Event

-- the event leads from the one state to the other
abbrev pub Step : ProblemValue → State → Event → State → Type 0
Step p old (Lend reply) new = Lends p old reply new
Step p old (Give number work reply) new = Gives p old number work reply new
Step p old (Recall number reply) new = Recalls old number reply new
Step p old (Offer times reply) new = Offers p old times reply new

-- the events lead from the one state to the other
abbrev pub Run : ProblemValue → State → List Event → State → Type 0
Run p old [] new = new ≡ old
Run p old (event ∷ events) new = (between : State) × Step p old event between × Run p between events new
