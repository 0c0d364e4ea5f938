-- What an event may change, and what runs keep.
use Rattle.std.proofs.Common.{◌≡◌, ℕ, List, [], ◌∷◌, sym, subst, true, false}
use Rattle.std.specs.Prelude.{Some, None, Ok, Err, slice_set}
use Rattle.pesp_nodes.specs.Problems.{ProblemValue}
use Rattle.pesp_tree.specs.declared.job.Job.{Job}
use Rattle.pesp_tree.specs.declared.work.Work.{Work}
use Rattle.pesp_tree.specs.declared.refusal.LendRefusal.TheVariants as lending
use Rattle.pesp_tree.specs.States.{State, Recalled, IsLentNumber}
use Rattle.pesp_tree.specs.Events.{Event, Lend, Give, Recall, Offer, Step, Run, LendsLeaf, Takes, Improves}

-- a leaf is lent, a work is taken, a number is recalled, times are kept, or nothing changes
pub data Change (p : ProblemValue) (old new : State) : Type 0 where
  Lends_leaf : (job : Job) → LendsLeaf p old job new → Change p old new
  Takes_work : (number : ℕ) (work : Work) → Takes p old number work new → Change p old new
  Recalls_number : (number : ℕ) → IsLentNumber old number
      → new ≡ record old { numbers = slice_set old.numbers number Recalled } → Change p old new
  Keeps_times : (times : List ℕ) → Improves p old times → new ≡ record old { best = Some times } → Change p old new
  Same : new ≡ old → Change p old new

pub change_of : (p : ProblemValue) (old : State) (event : Event) (new : State) → Step p old event new → Change p old new
change_of p old (Lend (Ok None)) new s = Same s.0
change_of p old (Lend (Ok (Some job))) new s = Lends_leaf job s
change_of p old (Lend (Err lending.NumbersSpent)) new s = Same s.0
change_of p old (Lend (Err lending.Memory)) new s = Same s
change_of p old (Give number work (Ok done)) new s = Takes_work number work s
change_of p old (Give number work (Err refusal)) new s = Same s.0
change_of p old (Recall number true) new s = Recalls_number number s.0 s.1
change_of p old (Recall number false) new s = Same s.1
change_of p old (Offer times true) new s = Keeps_times times s.0 s.1
change_of p old (Offer times false) new s = Same s.1

-- what each change keeps a run keeps
pub run_keeps : (p : ProblemValue) (P : State → Type 0) → ((old new : State) → P old → Change p old new → P new)
    → (events : List Event) (old new : State) → P old → Run p old events new → P new
run_keeps p P keeps [] old new k r = subst P (sym r) k
run_keeps p P keeps (event ∷ events) old new k r = run_keeps p P keeps events r.0 new (keeps old r.0 k (change_of p old event r.0 r.1)) r.2
