-- Which limit was met where nothing is found.
use Rattle.std.specs.Prelude.{⊤, ℕ, ◌≤◌, List}
use Rattle.pesp_problem.specs.Timetables.{Pesp}
use Rattle.pesp_search.specs.Refusals.{MeetsLimit}
use Rattle.pesp_search.specs.Solving.{IsSearchRefusal}
use Rattle.pesp_search.specs.declared.refusal.SolveRefusal.{SolveRefusal}
use Rattle.pesp_search.specs.declared.refusal.SolveRefusal.TheVariants.{Memory, TableTooLarge, PairsTooMany}
use Rattle.pesp_truth.specs.Conflicts.{only_rows}
use Rattle.pesp_conflict.specs.Findings.{AreFit}

-- a search over listed rows alone, of at most so many steps, met the limit of this refusal
pub record MeetsLimitOver (p : Pesp) (steps : ℕ) (refusal : SolveRefusal) : Type 0 where
  pub rows : List ℕ
  pub fit : AreFit p rows
  pub few : ℕ
  pub within : few ≤ steps
  pub possible : IsSearchRefusal p steps refusal
  pub met : MeetsLimit (only_rows p rows) few refusal

-- when nothing is found
abbrev pub IsConflictRefusal : Pesp → ℕ → SolveRefusal → Type 0
IsConflictRefusal p steps Memory = ⊤
IsConflictRefusal p steps TableTooLarge = MeetsLimitOver p steps TableTooLarge
IsConflictRefusal p steps PairsTooMany = MeetsLimitOver p steps PairsTooMany
