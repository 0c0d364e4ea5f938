-- A board that takes a certificate up, and all open leaves lent at once.
use Rattle.std.specs.Prelude.{◌≡◌, ◌⊎◌, ℕ, ◌+◌, ◌≤◌, ◌<◌, List, [], ◌∷◌, ◌++◌, length, map, Option, Some, None, Result, Ok, Err}
use Rattle.std.specs.Global.{Vec}
use Rattle.pesp_problem.specs.declared.limits.TheConstants.{MOST_LINES}
use Rattle.pesp_problem.specs.declared.cut.Cut.{Cut}
use Rattle.pesp_problem.specs.declared.cut.Side.{Side}
use Rattle.pesp_truth.specs.declared.answer.Answer.{Answer}
use Rattle.pesp_truth.specs.declared.answer.Answer.TheVariants.{Optimal, Infeasible, Bounded}
use Rattle.pesp_truth.specs.Trees.{preorder}
use Rattle.pesp_truth.specs.Leaves.{leaf_paths}
use Rattle.pesp_truth.specs.Certificates.{Content, lines_of, shown_times}
use Rattle.pesp_nodes.specs.Problems.{ProblemValue}
use Rattle.pesp_tree.specs.declared.job.Job.{Job}
use Rattle.pesp_tree.specs.declared.refusal.LendRefusal.{LendRefusal}
use Rattle.pesp_tree.specs.declared.refusal.LendRefusal.TheVariants as lending
use Rattle.pesp_tree.specs.States.{State, Lent, IsOpen}
use Rattle.pesp_tree.specs.Events.{Event, Lend}

-- ---- a certificate that is taken up

-- the times that are shown, none where the answer has no cost
abbrev pub shown_best : Answer → List ℕ → Option (List ℕ)
shown_best (Optimal c) times = Some times
shown_best Infeasible times = None
shown_best (Bounded least None) times = None
shown_best (Bounded least (Some c)) times = Some times

-- the certificate's tree and times, and no number
pub record Adopts (content : Content) (state : State) : Type 0 where
  pub tree : preorder state.tree ≡ lines_of content
  pub numbers : state.numbers ≡ []
  pub best : state.best ≡ shown_best content.answer (shown_times content)

-- ---- all open leaves lent at once

-- those of the paths that lead to open leaves, in their order
abbrev pub AreOpenOf : ProblemValue → State → List (List (Cut × Side)) → List (List (Cut × Side)) → Type 0
AreOpenOf p state [] opens = opens ≡ []
AreOpenOf p state (path ∷ paths) opens = ((rest : List (List (Cut × Side))) × IsOpen p state path
    × (opens ≡ path ∷ rest) × AreOpenOf p state paths rest)
    ⊎ ((IsOpen p state path → ⊥) × AreOpenOf p state paths opens)

-- the jobs have these paths, and numbers from n on
abbrev pub AreNumbered : ℕ → List Job → List (List (Cut × Side)) → Type 0
AreNumbered n [] paths = paths ≡ []
AreNumbered n (job ∷ jobs) paths = (rest : List (List (Cut × Side))) × (job.number ≡ n)
    × (paths ≡ job.path.items ∷ rest) × AreNumbered (n + 1) jobs rest

-- each open leaf is lent, in preorder, under the next numbers
pub record LendsEach (p : ProblemValue) (old : State) (jobs : List Job) (new : State) : Type 0 where
  pub paths : List (List (Cut × Side))
  pub opens : AreOpenOf p old (leaf_paths old.tree) paths
  pub numbered : AreNumbered (length old.numbers) jobs paths
  pub left : length old.numbers + length paths ≤ MOST_LINES
  pub state : new ≡ record old { numbers = old.numbers ++ map Lent paths }

-- all open leaves are lent; or the numbers wouldn't last, or a growth was refused, and nothing is lent
abbrev pub LendsAll : ProblemValue → State → Result (Vec Job) LendRefusal → State → Type 0
LendsAll p old (Ok jobs) new = LendsEach p old jobs.items new
LendsAll p old (Err lending.NumbersSpent) new = (new ≡ old)
    × ((paths : List (List (Cut × Side))) × AreOpenOf p old (leaf_paths old.tree) paths
    × (MOST_LINES < length old.numbers + length paths))
LendsAll p old (Err lending.Memory) new = new ≡ old

-- the same as one lend after the other
abbrev pub lend_of : Job → Event
lend_of job = Lend (Ok (Some job))

-- the lends of these jobs, in order
abbrev pub lends_of : List Job → List Event
lends_of jobs = map lend_of jobs
