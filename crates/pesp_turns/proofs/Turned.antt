-- What a turn does with the leaf that was lent.
use Rattle.std.proofs.Common.{◌≡◌, ℕ, refl, inl, inr, Bool, true, false, arith, sym, ap, subst}
use Rattle.std.specs.Prelude.{Result, IfOk}
use Rattle.pesp_problem.specs.Nodes.{Node}
use Rattle.pesp_network.specs.Networks.{KeepsNetLimits}
use Rattle.pesp_nodes.specs.Problems.{ProblemValue, problem_net, IsSmallTable}
use Rattle.pesp_tree.specs.declared.job.Job.{Job}
use Rattle.pesp_tree.specs.declared.work.Work.TheVariants as works
use Rattle.pesp_tree.specs.States.{State, node_at}
use Rattle.pesp_tree.specs.Reached.{IsOrderly}
use Rattle.pesp_tree.specs.Events.{LendsLeaf, MakesTooMuch}
use Rattle.pesp_reduce.specs.Reductions.{ReducedValue}
use Rattle.pesp_branching.specs.Offering.{MayOffer}
use Rattle.pesp_branching.specs.Rooms.{branch_lines}
use Rattle.pesp_branching.specs.Settled.{IsSettled, HaveOffsetsLeft}
use Rattle.pesp_turns.specs.declared.ending.Ending.{Ending}
use Rattle.pesp_turns.specs.declared.ending.Ending.TheVariants.{StepsUsed, NoneOpen, NumbersSpent, TreeTooLarge, TurnsUsed}
use Rattle.pesp_turns.specs.declared.turn.Turn.{Turn}
use Rattle.pesp_turns.specs.declared.turn.Turn.TheVariants.{Split, Closed, GivenUp, Over}
use Rattle.pesp_turns.specs.Handing.{IsJustLent, IsGiven, IsStepGiven}
use Rattle.pesp_turns.specs.Turning.{IsSettling, IsSettledTurn, IsOver, IsTurn, IsTold, turn_given, turn_found, splits_in, ending_after}

-- a leaf was lent, on the way to a turn
pub record IsLentFrom (p : ProblemValue) (old mid : State) (job : Job) : Type 0 where
  pub limits : KeepsNetLimits p.network
  pub small : IsSmallTable p.table
  pub orderly : IsOrderly p old
  pub lends : LendsLeaf p old job mid

abbrev pub just : (p q : ProblemValue) (old mid : State) (job : Job) → q ≡ p → IsLentFrom p old mid job → IsJustLent q mid job
just p q old mid job e l = record {
  limits = subst (λ (x : ProblemValue). KeepsNetLimits x.network) (sym e) l.limits;
  small = subst (λ (x : ProblemValue). IsSmallTable x.table) (sym e) l.small;
  before = old;
  orderly = subst (λ (x : ProblemValue). IsOrderly x old) (sym e) l.orderly;
  lends = subst (λ (x : ProblemValue). LendsLeaf x old job mid) (sym e) l.lends;
}

pub lent_from : (p q : ProblemValue) (old mid : State) (job : Job) → q ≡ p → KeepsNetLimits q.network
    → IsSmallTable q.table → IsOrderly p old → LendsLeaf p old job mid → IsLentFrom p old mid job
lent_from p q old mid job e limits small orderly lends = record {
  limits = subst (λ (x : ProblemValue). KeepsNetLimits x.network) e limits;
  small = subst (λ (x : ProblemValue). IsSmallTable x.table) e small;
  orderly = orderly;
  lends = lends;
}

-- the turn on the leaf is a turn from there
pub turned : {E : Type 0} (p q : ProblemValue) (r : ReducedValue) (old mid new : State) (job : Job)
    (turn : Result Turn E) → q ≡ p → IsLentFrom p old mid job
    → ((lent : IsJustLent q mid job) → IfOk turn (λ t. IsTurn q r lent.before t new))
    → IfOk turn (λ t. IsTurn p r old t new)
turned p q r old mid new job turn e l goes = subst (λ (x : ProblemValue). IfOk turn (λ t. IsTurn x r old t new)) e
    (goes (just p q old mid job e l))

pub gap_turn : (p : ProblemValue) (r : ReducedValue) (mid new : State) (job : Job) (cycle : ℕ) (taken : Bool)
    (turn : Turn) (l : IsJustLent p mid job) → turn ≡ turn_given taken
    → IsGiven p mid job.number (works.Gap cycle) taken new → IsTurn p r l.before turn new
gap_turn p r mid new job cycle true turn l e g =
    subst (λ (t : Turn). IsTurn p r l.before t new) (sym e)
    (inl (record { job = job; lent = mid; lends = l.lends; cycle = cycle; takes = g }))
gap_turn p r mid new job cycle false turn l e g = subst (λ (t : Turn). IsTurn p r l.before t new) (sym e) (record {
  job = job;
  lends = subst (LendsLeaf p l.before job) (sym g.0) l.lends;
  work = works.Gap cycle;
  few = omega arith;
  large = subst (λ (s : State). MakesTooMuch p s job.number (works.Gap cycle)) (sym g.0) g.1;
})

-- nothing is left to cut at the leaf's node, and each cycle has an offset left
pub settled_here : (p q : ProblemValue) (r : ReducedValue) (node : Node) (mid new : State) (job : Job)
    (found : Bool) (l : IsJustLent p mid job) → node ≡ node_at p job.path.items → q ≡ p
    → IsSettled (problem_net p) p.table node → HaveOffsetsLeft (problem_net q) q.table node
    → IsSettling p r node mid job.number found new → IsSettledTurn p r l.before found new
settled_here p q r node mid new job found l at e settled left s = record {
  job = job;
  lent = mid;
  lends = l.lends;
  settled = subst (IsSettled (problem_net p) p.table) at settled;
  left = subst (HaveOffsetsLeft (problem_net p) p.table) at (subst (λ (x : ProblemValue). HaveOffsetsLeft (problem_net x) x.table node) e left);
  settles = subst (λ (n : Node). IsSettling p r n mid job.number found new) at s;
}

pub settled_turn : (p : ProblemValue) (r : ReducedValue) (old new : State) (found : Bool) (turn : Turn)
    → turn ≡ turn_found found → IsSettledTurn p r old found new → IsTurn p r old turn new
settled_turn p r old new true turn e s = subst (λ (t : Turn). IsTurn p r old t new) (sym e) (inr s)
settled_turn p r old new false turn e s = subst (λ (t : Turn). IsTurn p r old t new) (sym e) s

-- the step isn't taken, since the tree would pass a limit
pub large_turn : (p : ProblemValue) (r : ReducedValue) (mid new : State) (job : Job) (l : IsJustLent p mid job)
    → IsStepGiven p mid job.number false new → IsTurn p r l.before (Over TreeTooLarge) new
large_turn p r mid new job l g =
    let one = ap branch_lines g.step in
    record {
      job = job;
      lends = subst (LendsLeaf p l.before job) (sym g.given.0) l.lends;
      work = works.Tree g.lines;
      few = omega (arith, one);
      large = subst (λ (s : State). MakesTooMuch p s job.number (works.Tree g.lines)) (sym g.given.0) g.given.1;
    }

pub split_turn : (p q : ProblemValue) (r : ReducedValue) (mid split new : State) (job : Job)
    (l : IsJustLent p mid job) → IsStepGiven p mid job.number true split → q ≡ p → MayOffer q split new
    → IsTurn p r l.before Split new
split_turn p q r mid split new job l g e o = record {
  job = job;
  lent = mid;
  lends = l.lends;
  split = split;
  gives = g;
  offers = subst (λ (x : ProblemValue). MayOffer x split new) e o;
}

-- how a turn that is over is told
over_told : (p : ProblemValue) (r : ReducedValue) (ending : Ending) (old new : State) → IsOver p old ending new
    → IsTold p r old 0 ending new
over_told p r StepsUsed old new o = absurd o
over_told p r NoneOpen old new o = (refl, o)
over_told p r NumbersSpent old new o = (refl, o)
over_told p r TreeTooLarge old new o = (refl, o)
over_told p r TurnsUsed old new o = absurd o

-- how a turn is told
pub turn_told : (p : ProblemValue) (r : ReducedValue) (turn : Turn) (old new : State) → IsTurn p r old turn new
    → IsTold p r old (splits_in turn) (ending_after turn) new
turn_told p r Split old new t = (refl, t)
turn_told p r Closed old new (inl c) = (refl, inl c)
turn_told p r Closed old new (inr s) = (refl, inr (true, s))
turn_told p r GivenUp old new s = (refl, inr (false, s))
turn_told p r (Over ending) old new o = over_told p r ending old new o
