-- How turns end on a board in any state.
use Rattle.std.specs.Prelude.{◌≡◌, ◌⊎◌, ℕ, zero, suc, ◌+◌, ◌*◌, ◌≤◌, List, length, Bool}
use Rattle.pesp_problem.specs.declared.limits.TheConstants.{MOST_LINES}
use Rattle.pesp_problem.specs.declared.pair.Pair.{Pair}
use Rattle.pesp_problem.specs.declared.cut.Cut.{Cut}
use Rattle.pesp_problem.specs.declared.cut.Side.{Side}
use Rattle.pesp_truth.specs.Trees.{Bound}
use Rattle.pesp_truth.specs.Leaves.{IsLeafAt}
use Rattle.pesp_nodes.specs.Problems.{ProblemValue, problem_net}
use Rattle.pesp_tree.specs.declared.work.Work.{Work}
use Rattle.pesp_tree.specs.States.{State, Lent, IsBelow, ticket, node_at, value_at, best_cost}
use Rattle.pesp_tree.specs.Events.{MakesTooMuch}
use Rattle.pesp_reduce.specs.Reductions.{ReducedValue}
use Rattle.pesp_branching.specs.Settled.{IsSettled, HaveOffsetsLeft}
use Rattle.pesp_branching.specs.Turns.{splits_of}
use Rattle.pesp_turns.specs.Turning.{IsSplit, IsClosed, IsSettledTurn}
use Rattle.pesp_turns.specs.declared.ending.Ending.{Ending}
use Rattle.pesp_turns.specs.declared.ending.Ending.TheVariants.{StepsUsed, NoneOpen, NumbersSpent, TreeTooLarge, TurnsUsed}

-- nothing is left to cut at the node to which the path leads, and each cycle has an offset left there
pub record IsSettledAt (p : ProblemValue) (path : List (Cut × Side)) : Type 0 where
  pub settled : IsSettled (problem_net p) p.table (node_at p path)
  pub left : HaveOffsetsLeft (problem_net p) p.table (node_at p path)

-- it is so at each leaf that is lent
abbrev pub AreLentSettled : ProblemValue → State → Type 0
AreLentSettled p state = (number : ℕ) (path : List (Cut × Side)) → ticket state number ≡ Lent path → IsSettledAt p path

-- it is so at each bound leaf whose value is below the best cost: no leaf can be split that might hold something better
abbrev pub IsNoneLeft : ProblemValue → State → Type 0
IsNoneLeft p state = (path : List (Cut × Side)) (pairs : List Pair) → IsLeafAt state.tree path (Bound pairs)
    → IsBelow (value_at p path pairs) (best_cost p state) → IsSettledAt p path

-- with a work for a lent leaf that adds at most one branch, the tree would pass a limit
pub record IsTreeFull (p : ProblemValue) (state : State) : Type 0 where
  pub number : ℕ
  pub work : Work
  pub few : splits_of work ≤ 1
  pub large : MakesTooMuch p state number work

-- a turn that isn't the last: a leaf is lent, and split, closed, or kept as one at which nothing is left to cut
abbrev pub IsTurnOn : ProblemValue → ReducedValue → State → State → Type 0
IsTurnOn p r old new = IsSplit p old new ⊎ (IsClosed p old new ⊎ ((closed : Bool) × IsSettledTurn p r old closed new))

-- so many such turns, one after the other
abbrev pub TurnsLead : ProblemValue → ReducedValue → ℕ → State → State → Type 0
TurnsLead p r zero old new = new ≡ old
TurnsLead p r (suc n) old new = (mid : State) × TurnsLead p r n old mid × IsTurnOn p r mid new

-- at least so many turns lead from the one state to the other, and the leaves that are still lent are settled
pub record TakesTurns (p : ProblemValue) (r : ReducedValue) (least : ℕ) (old new : State) : Type 0 where
  pub settled : AreLentSettled p new
  pub count : ℕ
  pub many : least ≤ count
  pub lead : TurnsLead p r count old new

-- turns lead from the one state to the other, and 1000000 numbers are spent then
pub record SpendsNumbers (p : ProblemValue) (r : ReducedValue) (old new : State) : Type 0 where
  pub count : ℕ
  pub lead : TurnsLead p r count old new
  pub spent : MOST_LINES ≤ length new.numbers

-- how turns of at most so many splits end: all splits are used up, nothing is left to split, a limit is met, or all turns are taken
abbrev pub EndsAs : ProblemValue → ReducedValue → ℕ → State → ℕ → Ending → State → Type 0
EndsAs p r steps old used StepsUsed new = (used ≡ steps) × TakesTurns p r used old new
EndsAs p r steps old used NoneOpen new = IsNoneLeft p new
EndsAs p r steps old used NumbersSpent new = SpendsNumbers p r old new
EndsAs p r steps old used TreeTooLarge new = IsTreeFull p new
EndsAs p r steps old used TurnsUsed new = TakesTurns p r (2 * steps + 3) old new
