-- What a work makes of a lent leaf, and what the board takes of it.
use Rattle.std.specs.Prelude.{◌≡◌, ◌<◌, ◌≤◌, ◌+◌, ℕ, ℤ, Bool, List, ◌∷◌, ◌++◌, length, All, sum_by, Some, Result, Ok, Err}
use Rattle.std.specs.Global.{Vec}
use Rattle.std.specs.List.Sorted.{IsPermutation}
use Rattle.pesp_problem.specs.declared.limits.TheConstants.{MOST_LINES, MOST_PAIRS}
use Rattle.pesp_problem.specs.declared.pair.Pair.{Pair}
use Rattle.pesp_problem.specs.declared.cut.Cut.{Cut}
use Rattle.pesp_problem.specs.declared.cut.Side.{Side}
use Rattle.pesp_problem.specs.Nodes.{Node, leaf_value, low_part, high_part}
use Rattle.pesp_truth.specs.Trees.{Tree, Ends, Branch, Bound, Line, preorder}
use Rattle.pesp_nodes.specs.Problems.{ProblemValue, problem_net, ArePairs, IsCutOf}
use Rattle.pesp_truth.specs.Leaves.{put}
use Rattle.pesp_tree.specs.Leaves.{leaf_of}
use Rattle.pesp_tree.specs.WorkTrees.{WorkTreeValue, path_to, leaf_at}
use Rattle.pesp_tree.specs.declared.entry.Entry.{Entry}
use Rattle.pesp_tree.specs.Entries.{entry}
use Rattle.pesp_tree.specs.Queues.{QueueValue}
use Rattle.pesp_tree.specs.declared.work.Work.{Work}
use Rattle.pesp_tree.specs.declared.refusal.GiveRefusal.{GiveRefusal}
use Rattle.pesp_tree.specs.declared.refusal.GiveRefusal.TheVariants.{UnknownJob, AlreadyGiven, NotValid, Memory, TooLarge}
use Rattle.pesp_tree.specs.Limits.{IsSmallTree, KeepsTreeLimits, pairs_in}
use Rattle.pesp_tree.specs.States.{root_of, node_at}
use Rattle.pesp_tree.specs.Events.{Makes, IsValidAt}
use Rattle.pesp_board.specs.declared.slot.Slot.{Slot}
use Rattle.pesp_board.specs.declared.slot.Slot.TheVariants.{Lent as LentSlot, Given as GivenSlot, Recalled as RecalledSlot}
use Rattle.pesp_board.specs.declared.part.Part.{Part}
use Rattle.pesp_board.specs.declared.part.Made.{Made}
use Rattle.pesp_board.specs.declared.part.Made.TheVariants.{Leaf as MadeLeaf, Branch as MadeBranch, Tree as MadeTree}
use Rattle.pesp_board.specs.Insides.{slot_at}
use Rattle.pesp_board.specs.Parts.{IsValued, MakesParts}

-- ---- the number

-- the node with whose leaf the number is lent, or why there is none
abbrev pub LendsOrRefuses : List Slot → ℕ → Result ℕ GiveRefusal → Type 0
LendsOrRefuses slots number (Ok node) = (number < length slots) × (slot_at slots number ≡ LentSlot node)
LendsOrRefuses slots number (Err UnknownJob) = slot_at slots number ≡ RecalledSlot
LendsOrRefuses slots number (Err AlreadyGiven) = slot_at slots number ≡ GivenSlot
LendsOrRefuses slots number (Err NotValid) = ⊥
LendsOrRefuses slots number (Err Memory) = ⊥
LendsOrRefuses slots number (Err TooLarge) = ⊥

-- ---- what is made

-- what the cuts of a path name exists, and they keep their limits
abbrev pub AreCuts : ProblemValue → List (Cut × Side) → Type 0
AreCuts p path = All (λ (step : Cut × Side). IsCutOf (root_of p) step.0) path

-- the pairs rise, keep their limits, and have this value at the node
abbrev pub HaveValue : ProblemValue → Node → List Pair → Bool → ℤ → Type 0
HaveValue p node pairs weighted v = ArePairs (length p.table) pairs × (leaf_value (problem_net p) p.table node pairs weighted ≡ Some v)

-- what a work makes of a bound leaf with these pairs at a node, or that it makes nothing
abbrev pub MakesOf : ProblemValue → Node → List Pair → Work → Result Made GiveRefusal → Type 0
MakesOf p node old work (Ok (MadeLeaf part)) = Makes p node old work (Ends (leaf_of part.leaf)) × IsValued p node part
MakesOf p node old work (Ok (MadeBranch cut low high)) =
    Makes p node old work (Branch cut (Ends (leaf_of low.leaf)) (Ends (leaf_of high.leaf)))
    × IsValued p (low_part node cut) low × IsValued p (high_part node cut) high
MakesOf p node old work (Ok (MadeTree parts)) = MakesParts p node old work parts.items
MakesOf p node old work (Err NotValid) = IsValidAt p node old work → ⊥
MakesOf p node old work (Err Memory) = Unit {0}
MakesOf p node old work (Err UnknownJob) = ⊥
MakesOf p node old work (Err AlreadyGiven) = ⊥
MakesOf p node old work (Err TooLarge) = ⊥

-- ---- its size

-- in place of a leaf of a tree with so many lines, and so many pairs beside those of that leaf, these lines keep the limits
pub record HasRoom (long rest : ℕ) (new : List Line) : Type 0 where
  pub lines : long + length new ≤ MOST_LINES + 1
  pub pairs : rest + sum_by pairs_in new ≤ MOST_PAIRS

-- the node has a bound leaf, the tree keeps its limits, and it has so many pairs
pub record IsWorkable (p : ProblemValue) (t : WorkTreeValue) (node n : ℕ) : Type 0 where
  pub pairs : List Pair
  pub leaf : leaf_at t node ≡ Some (Bound pairs)
  pub limits : KeepsTreeLimits p t.tree
  pub count : n ≡ sum_by pairs_in (preorder t.tree)

-- a work makes these parts of a node's bound leaf, and the tree keeps the limits with them and has so many pairs
pub record MakesPart (p : ProblemValue) (t : WorkTreeValue) (node : ℕ) (work : Work) (parts : List Part) (n : ℕ) : Type 0 where
  pub pairs : List Pair
  pub leaf : leaf_at t node ≡ Some (Bound pairs)
  pub made : MakesParts p (node_at p (path_to t node)) pairs work parts
  pub small : IsSmallTree (put t.tree (path_to t node) made.tree)
  pub count : n ≡ sum_by pairs_in (preorder (put t.tree (path_to t node) made.tree))

-- a work makes something of a node's bound leaf with which the tree passes a limit
pub record MakesLarge (p : ProblemValue) (t : WorkTreeValue) (node : ℕ) (work : Work) : Type 0 where
  pub pairs : List Pair
  pub leaf : leaf_at t node ≡ Some (Bound pairs)
  pub new : Tree
  pub makes : Makes p (node_at p (path_to t node)) pairs work new
  pub large : IsSmallTree (put t.tree (path_to t node) new) → ⊥

-- what a work makes of a node's bound leaf, with the number of pairs of the tree then, or why it isn't taken
abbrev pub MakesAt : ProblemValue → WorkTreeValue → ℕ → Work → Result (Vec Part × ℕ) GiveRefusal → Type 0
MakesAt p t node work (Ok part) = MakesPart p t node work part.0.items part.1
MakesAt p t node work (Err NotValid) = (pairs : List Pair) × (leaf_at t node ≡ Some (Bound pairs))
    × (IsValidAt p (node_at p (path_to t node)) pairs work → ⊥)
MakesAt p t node work (Err Memory) = Unit {0}
MakesAt p t node work (Err TooLarge) = MakesLarge p t node work
MakesAt p t node work (Err UnknownJob) = ⊥
MakesAt p t node work (Err AlreadyGiven) = ⊥

-- ---- what changes

-- a parked node's entry goes, and these wait
pub record Replaces (old : QueueValue) (node : ℕ) (entries : List Entry) (new : QueueValue) : Type 0 where
  pub value : ℕ
  pub parked : IsPermutation old.parked (entry node value ∷ new.parked)
  pub waiting : IsPermutation (entries ++ old.waiting) new.waiting

-- the same items wait and are parked
pub record IsSameQueue (old new : QueueValue) : Type 0 where
  pub waiting : new.waiting ≡ old.waiting
  pub parked : new.parked ≡ old.parked
