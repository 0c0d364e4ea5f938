-- Work on an open leaf of a certificate, as it is handed in.
use Rattle.std.specs.Prelude.{◌≡◌, ◌⊎◌, ⊤, ℕ, ℤ, ◌≤◌, List, [], length, map, sum_by, Contains, Option, Some, true}
use Rattle.std.specs.List.{list_all, AllZip}
use Rattle.std.specs.Global.{Vec}
use Rattle.pesp_problem.specs.declared.limits.TheConstants.{MOST_EVENTS}
use Rattle.pesp_problem.specs.declared.pair.Pair.{Pair}
use Rattle.pesp_problem.specs.declared.cut.Cut.{Cut}
use Rattle.pesp_problem.specs.declared.cut.Side.{Side}
use Rattle.pesp_problem.specs.Timetables.{Pesp, IsTimetable, cost}
use Rattle.pesp_truth.specs.declared.tree.TreeLine.{TreeLine}
use Rattle.pesp_truth.specs.Certificates.{Content, cost_of}
use Rattle.pesp_truth.specs.Trees.{line_of}
use Rattle.pesp_nodes.specs.Problems.{ProblemValue}
use Rattle.pesp_cert.specs.Limits.{is_time}
use Rattle.pesp_tree.specs.declared.job.Job.{Job}
use Rattle.pesp_tree.specs.declared.work.Work.TheVariants.{Tree}
use Rattle.pesp_tree.specs.States.{State, HasLeaf, IsJobLeaf, node_at}
use Rattle.pesp_tree.specs.Events.{IsValidAt, IsCheaper}
use Rattle.pesp_branching.specs.Rooms.{branch_lines}
use Rattle.pesp_cert_items.specs.declared.job.TheConstants.{MOST_JOB}
use Rattle.pesp_cert_items.specs.Works.{WorkValue, HasWorkText}
use Rattle.pesp_worker.specs.Lent.{IsLentFrom}
use Rattle.pesp_worker.specs.declared.refusal.WorkRefusal.{WorkRefusal}
use Rattle.pesp_worker.specs.declared.refusal.WorkRefusal.TheVariants.{Memory, NoSuchJob}

-- the labels are those of the events in order, and the times are a timetable that costs less than so much, where so much is known
pub record AreCheaperTimes (instance : Pesp) (known : Option ℕ) (times : List (ℤ × ℕ)) : Type 0 where
  pub labels : map (λ t. t.0) times ≡ instance.events
  pub timetable : IsTimetable instance (map (λ t. t.1) times)
  pub cheaper : IsCheaper (cost instance.period instance.rows (map (λ t. t.1) times)) known

-- no times, or such times
abbrev pub AreTimesFor : Pesp → Option ℕ → List (ℤ × ℕ) → Type 0
AreTimesFor instance known times = (times ≡ []) ⊎ AreCheaperTimes instance known times

-- the lines are a tree that may stand in the place of the leaf with which the number is lent
pub record StandsFor (p : ProblemValue) (state : State) (number : ℕ) (tree : List TreeLine) : Type 0 where
  pub path : List (Cut × Side)
  pub pairs : List Pair
  pub leaf : HasLeaf state number path pairs
  pub lines : Vec TreeLine
  pub are_lines : lines.items ≡ tree
  pub valid : IsValidAt p (node_at p path) pairs (Tree lines)

-- the lines are a tree with at most so many branches that may stand in the place of an open leaf of a base, all of
-- which are lent, in preorder
pub record IsTreeOn (instance : Pesp) (base : Content) (job steps : ℕ) (tree : List TreeLine) : Type 0 where
  pub problem : ProblemValue
  pub jobs : List Job
  pub lent : State
  pub begins : IsLentFrom instance base problem jobs lent
  pub stands : StandsFor problem lent job tree
  pub few : branch_lines (map line_of tree) ≤ steps

-- a work for an open leaf of a base: of this job, with such a tree, with no times or a timetable that costs less than
-- the base's, and with a text
pub record IsWorkOn (instance : Pesp) (base : Content) (job steps : ℕ) (work : WorkValue) : Type 0 where
  pub number : work.job ≡ job
  pub tree : IsTreeOn instance base job steps work.tree
  pub times : AreTimesFor instance (cost_of base.answer) work.times
  pub text : HasWorkText work

-- how many branches the tree of a work has
abbrev pub branches_of : WorkValue → ℕ
branches_of work = branch_lines (map line_of work.tree)

-- where a bound is named and the leaf of a number is worth at least so much, the tree for it has no branch
abbrev pub IsWholeFrom : ProblemValue → State → Option ℕ → ℕ → ℕ → Type 0
IsWholeFrom p state until number branches = (bound value : ℕ) (pairs : List Pair) → until ≡ Some bound
    → IsJobLeaf p state number value pairs → bound ≤ value → branches ≡ 0

-- where a bound is named, a work splits no open leaf of a base that is worth at least so much
pub record IsSplitBelow (instance : Pesp) (base : Content) (job : ℕ) (until : Option ℕ) (work : WorkValue) : Type 0 where
  pub problem : ProblemValue
  pub jobs : List Job
  pub lent : State
  pub begins : IsLentFrom instance base problem jobs lent
  pub whole : IsWholeFrom problem lent until job (branches_of work)

-- works for open leaves of a base: one for each of these jobs, in their order, that splits no leaf worth as much as the
-- bound, where one is named; and at most so many branches in all
pub record AreWorksOn (instance : Pesp) (base : Content) (jobs : List ℕ) (steps : ℕ) (until : Option ℕ)
    (works : List WorkValue) : Type 0 where
  pub each : AllZip (λ job work. IsWorkOn instance base job steps work × IsSplitBelow instance base job until work) jobs works
  pub few : sum_by branches_of works ≤ steps

-- the base has no more open leaves than so many
pub record HasNoJob (instance : Pesp) (base : Content) (job : ℕ) : Type 0 where
  pub problem : ProblemValue
  pub jobs : List Job
  pub lent : State
  pub begins : IsLentFrom instance base problem jobs lent
  pub few : length jobs ≤ job

-- when nothing is handed in
abbrev pub IsWorkRefusal : Pesp → Content → ℕ → WorkRefusal → Type 0
IsWorkRefusal instance base job Memory = ⊤
IsWorkRefusal instance base job NoSuchJob = HasNoJob instance base job

-- the same of several jobs: one of them isn't there
abbrev pub AreWorkRefusal : Pesp → Content → List ℕ → WorkRefusal → Type 0
AreWorkRefusal instance base jobs Memory = ⊤
AreWorkRefusal instance base jobs NoSuchJob = (job : ℕ) × Contains jobs job × HasNoJob instance base job

-- ---- how it is made

-- so many times, with such labels, as a text may have
abbrev pub AreShort : List (ℤ × ℕ) → Type 0
AreShort times = (length times ≤ MOST_EVENTS) × (list_all is_time times ≡ true)

-- a work without times
abbrev pub without_times : ℕ → List TreeLine → WorkValue
without_times job tree = record { job = job; times = []; tree = tree }

-- the lines may stand there, and with a number that a text may have they have a text
pub record Fits (p : ProblemValue) (state : State) (number : ℕ) (tree : List TreeLine) : Type 0 where
  pub stands : StandsFor p state number tree
  pub text : number ≤ MOST_JOB → HasWorkText (without_times number tree)

-- what was found for a job: of this number, with no times or a timetable that costs less than so much, and as many as a text may have
pub record IsFound (instance : Pesp) (known : Option ℕ) (job : ℕ) (work : WorkValue) : Type 0 where
  pub number : work.job ≡ job
  pub times : AreTimesFor instance known work.times
  pub short : AreShort work.times

-- what was found, with a tree that may stand in the place of its leaf
pub record IsJudged (p : ProblemValue) (state : State) (until : Option ℕ) (found work : WorkValue) : Type 0 where
  pub number : work.job ≡ found.job
  pub times : work.times ≡ found.times
  pub fits : Fits p state found.job work.tree
  pub whole : IsWholeFrom p state until found.job (branches_of work)

-- all that was found, with such trees that have at most so many branches in all
pub record AreHandedIn (p : ProblemValue) (state : State) (steps : ℕ) (until : Option ℕ) (found works : List WorkValue) : Type 0 where
  pub each : AllZip (IsJudged p state until) found works
  pub few : sum_by branches_of works ≤ steps
