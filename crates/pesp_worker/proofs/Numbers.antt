-- The numbers of jobs.
use Rattle.std.proofs.Common.{◌≡◌, ℕ, suc, ◌+◌, ◌<◌, ◌≤◌, List, [], ◌∷◌, ◌++◌, length, get_or, map, sym, ap, ◌∙◌, arith}
use Rattle.std.proofs.lemmas.List.{get_or-map}
use Rattle.pesp_problem.specs.declared.cut.Cut.{Cut}
use Rattle.pesp_problem.specs.declared.cut.Side.{Side}
use Rattle.pesp_problem.specs.Timetables.{Pesp}
use Rattle.pesp_truth.specs.Certificates.{Content}
use Rattle.pesp_nodes.specs.Problems.{ProblemValue}
use Rattle.pesp_tree.specs.declared.job.Job.{Job}
use Rattle.pesp_tree.specs.Adopting.{AreNumbered}
use Rattle.pesp_tree.specs.States.{State, Ticket, Lent, Recalled, IsLentNumber}
use Rattle.pesp_worker.specs.Lent.{IsLentFrom}

-- a path for each job
as_many : (n : ℕ) (jobs : List Job) (paths : List (List (Cut × Side))) → AreNumbered n jobs paths → length jobs ≡ length paths
as_many n [] paths h = ap length (sym h)
as_many n (job ∷ jobs) paths h = ap suc (as_many (n + 1) jobs h.0 h.3) ∙ ap length (sym h.2)

-- the numbers below that of the jobs are lent, where no number was lent before
pub lent_below : (i : Pesp) (base : Content) (p : ProblemValue) (jobs : List Job) (state : State) (number : ℕ)
    → IsLentFrom i base p jobs state → number < length jobs → IsLentNumber state number
lent_below i base p jobs state number h below =
    let paths = h.lends.paths in
    let count = as_many (length h.opening.numbers) jobs paths h.lends.numbered in
    let tickets : state.numbers ≡ map Lent paths = ap (λ (s : State). s.numbers) h.lends.state
    ∙ ap (λ (ts : List Ticket). ts ++ map Lent paths) h.adopts.numbers in (
      get_or paths number [],
      ap (λ (ts : List Ticket). get_or ts number Recalled) tickets
          ∙ get_or-map Lent paths number [] Recalled (omega (arith, count, below)),
    )

-- and they are numbers that a text may have
pub few_jobs : (i : Pesp) (base : Content) (p : ProblemValue) (jobs : List Job) (state : State) (number : ℕ)
    → IsLentFrom i base p jobs state → number < length jobs → number ≤ 999999
few_jobs i base p jobs state number h below =
    let count = as_many (length h.opening.numbers) jobs h.lends.paths h.lends.numbered in
    let left = h.lends.left in
    omega (arith, count, left, below)
