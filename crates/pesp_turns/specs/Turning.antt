-- A turn: a leaf is lent, and split, closed, or left as it is.
use Rattle.std.specs.Prelude.{◌≡◌, ◌⊎◌, ℕ, ◌≤◌, List, Bool, true, false, Err, Ok, Some, None}
use Rattle.pesp_problem.specs.Nodes.{Node}
use Rattle.pesp_nodes.specs.Problems.{ProblemValue, problem_net}
use Rattle.pesp_tree.specs.declared.job.Job.{Job}
use Rattle.pesp_tree.specs.declared.work.Work.{Work}
use Rattle.pesp_tree.specs.declared.work.Work.TheVariants as works
use Rattle.pesp_tree.specs.declared.refusal.LendRefusal.TheVariants as lending
use Rattle.pesp_problem.specs.declared.pair.Pair.{Pair}
use Rattle.pesp_tree.specs.States.{State, IsJobLeaf, node_at, best_cost}
use Rattle.pesp_tree.specs.Events.{Lends, LendsLeaf, Takes, MakesTooMuch, Offers, Recalls}
use Rattle.pesp_reduce.specs.Reductions.{ReducedValue}
use Rattle.pesp_branching.specs.Offering.{MayOffer}
use Rattle.pesp_branching.specs.Settled.{IsSettled, HaveOffsetsLeft}
use Rattle.pesp_branching.specs.Turns.{splits_of}
use Rattle.pesp_turns.specs.declared.ending.Ending.{Ending}
use Rattle.pesp_turns.specs.declared.ending.Ending.TheVariants.{StepsUsed, NoneOpen, NumbersSpent, TreeTooLarge, TurnsUsed}
use Rattle.pesp_turns.specs.declared.turn.Turn.{Turn}
use Rattle.pesp_turns.specs.declared.turn.Turn.TheVariants.{Split, Closed, GivenUp, Over}
use Rattle.pesp_turns.specs.Settling.{Settles, HaveLeastSlacks}
use Rattle.pesp_turns.specs.Handing.{IsStepGiven}

-- a leaf is lent and split, and times that were met with may be offered
pub record IsSplit (p : ProblemValue) (old new : State) : Type 0 where
  pub job : Job
  pub lent : State
  pub lends : LendsLeaf p old job lent
  pub split : State
  pub gives : IsStepGiven p lent job.number true split
  pub offers : MayOffer p split new

-- a leaf is lent and closed by a cycle that has no offset left
pub record IsClosed (p : ProblemValue) (old new : State) : Type 0 where
  pub job : Job
  pub lent : State
  pub lends : LendsLeaf p old job lent
  pub cycle : ℕ
  pub takes : Takes p lent job.number (works.Gap cycle) new

-- the number is lent with a leaf that is worth no less than the best times cost
pub record IsSettledByTimes (p : ProblemValue) (state : State) (number : ℕ) : Type 0 where
  pub cost : ℕ
  pub best : best_cost p state ≡ Some cost
  pub value : ℕ
  pub pairs : List Pair
  pub leaf : IsJobLeaf p state number value pairs
  pub reached : cost ≤ value

-- times are offered; where the node settles, they are those of the least slacks
pub record OffersTimes (p : ProblemValue) (r : ReducedValue) (node : Node) (old : State) (offered : State) : Type 0 where
  pub times : List ℕ
  pub least : Settles p r node → HaveLeastSlacks r node times
  pub kept : Bool
  pub offers : Offers p old times kept offered

-- times are offered that cost no more than the leaf of a number is worth, or the best ones do, and the number is given back
pub record OffersAndRecalls (p : ProblemValue) (r : ReducedValue) (node : Node) (old : State) (number : ℕ) (new : State) : Type 0 where
  pub offered : State
  pub offers : OffersTimes p r node old offered
  pub reached : IsSettledByTimes p offered number
  pub back : Bool
  pub recalls : Recalls offered number back new

-- times are offered that don't close the leaf of the number
pub record OffersInVain (p : ProblemValue) (r : ReducedValue) (node : Node) (old : State) (number : ℕ) (new : State) : Type 0 where
  pub offers : OffersTimes p r node old new
  pub unreached : IsSettledByTimes p new number → ⊥

-- times are found and close the leaf of a number, which is given back; or none do, and it stays lent
abbrev pub IsSettling : ProblemValue → ReducedValue → Node → State → ℕ → Bool → State → Type 0
IsSettling p r node old number true new = OffersAndRecalls p r node old number new
IsSettling p r node old number false new = ((new ≡ old) × (Settles p r node → ⊥)) ⊎ OffersInVain p r node old number new

-- a leaf is lent at whose node nothing is left to cut, and times close it or not
pub record IsSettledTurn (p : ProblemValue) (r : ReducedValue) (old : State) (found : Bool) (new : State) : Type 0 where
  pub job : Job
  pub lent : State
  pub lends : LendsLeaf p old job lent
  pub settled : IsSettled (problem_net p) p.table (node_at p job.path.items)
  pub left : HaveOffsetsLeft (problem_net p) p.table (node_at p job.path.items)
  pub settles : IsSettling p r (node_at p job.path.items) lent job.number found new

-- a leaf is lent, and the tree would pass a limit with what is found for it
pub record IsTooLarge (p : ProblemValue) (old new : State) : Type 0 where
  pub job : Job
  pub lends : LendsLeaf p old job new
  pub work : Work
  pub few : splits_of work ≤ 1
  pub large : MakesTooMuch p new job.number work

-- no turn is left: no leaf is open, the numbers are spent, or the tree is full
abbrev pub IsOver : ProblemValue → State → Ending → State → Type 0
IsOver p old StepsUsed new = ⊥
IsOver p old NoneOpen new = Lends p old (Ok None) new
IsOver p old NumbersSpent new = Lends p old (Err lending.NumbersSpent) new
IsOver p old TreeTooLarge new = IsTooLarge p old new
IsOver p old TurnsUsed new = ⊥

-- what a turn did where what closes a leaf is taken or not
abbrev pub turn_given : Bool → Turn
turn_given true = Closed
turn_given false = Over TreeTooLarge

-- and where times close a leaf or not
abbrev pub turn_found : Bool → Turn
turn_found true = Closed
turn_found false = GivenUp

-- what a turn does
abbrev pub IsTurn : ProblemValue → ReducedValue → State → Turn → State → Type 0
IsTurn p r old Split new = IsSplit p old new
IsTurn p r old Closed new = IsClosed p old new ⊎ IsSettledTurn p r old true new
IsTurn p r old GivenUp new = IsSettledTurn p r old false new
IsTurn p r old (Over ending) new = IsOver p old ending new

-- how many leaves a turn splits
abbrev pub splits_in : Turn → ℕ
splits_in Split = 1
splits_in Closed = 0
splits_in GivenUp = 0
splits_in (Over ending) = 0

-- why no other turn is taken with it
abbrev pub ending_after : Turn → Ending
ending_after Split = StepsUsed
ending_after Closed = TurnsUsed
ending_after GivenUp = TurnsUsed
ending_after (Over ending) = ending

-- what a turn does, as it is told: where it tells that a split was used, one leaf is split, and no other turn splits one
abbrev pub IsTold : ProblemValue → ReducedValue → State → ℕ → Ending → State → Type 0
IsTold p r old used StepsUsed new = (used ≡ 1) × IsSplit p old new
IsTold p r old used TurnsUsed new = (used ≡ 0) × (IsClosed p old new ⊎ ((closed : Bool) × IsSettledTurn p r old closed new))
IsTold p r old used NoneOpen new = (used ≡ 0) × IsOver p old NoneOpen new
IsTold p r old used NumbersSpent new = (used ≡ 0) × IsOver p old NumbersSpent new
IsTold p r old used TreeTooLarge new = (used ≡ 0) × IsOver p old TreeTooLarge new
