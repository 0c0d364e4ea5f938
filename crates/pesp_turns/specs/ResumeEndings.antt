-- How a search that goes on from a certificate ends.
use Rattle.std.specs.Prelude.{◌≡◌, ◌⊎◌, ℕ, ◌<◌, ◌≤◌, Bool, true, false, List, length, Option, Some, None}
use Rattle.pesp_problem.specs.declared.limits.TheConstants.{MOST_LINES}
use Rattle.pesp_problem.specs.declared.cut.Cut.{Cut}
use Rattle.pesp_problem.specs.declared.cut.Side.{Side}
use Rattle.pesp_nodes.specs.Problems.{ProblemValue}
use Rattle.pesp_tree.specs.States.{State, IsOpen}
use Rattle.pesp_turns.specs.declared.ending.Ending.{Ending as TurnsEnding}
use Rattle.pesp_turns.specs.declared.ending.Ending.TheVariants as turns
use Rattle.pesp_reduce.specs.Reductions.{ReducedValue}
use Rattle.pesp_turns.specs.Endings.{IsNoneLeft, IsTreeFull, SpendsNumbers}
use Rattle.pesp_turns.specs.declared.resume_ending.ResumeEnding.{ResumeEnding}
use Rattle.pesp_turns.specs.declared.resume_ending.ResumeEnding.TheVariants.{StepsUsed, NoneOpen, Full, Stopped}

-- why the search ends, none where it goes on
abbrev pub ending_of : TurnsEnding → Option ResumeEnding
ending_of turns.StepsUsed = None
ending_of turns.NoneOpen = Some NoneOpen
ending_of turns.NumbersSpent = Some Full
ending_of turns.TreeTooLarge = Some Full
ending_of turns.TurnsUsed = None

-- the tree is full, or 1000000 numbers are spent by turns, each of which splits or closes a leaf or finds nothing left
-- to cut at one; without a split they are spent by looks
abbrev pub IsFullBoard : ProblemValue → ℕ → State → State → Type 0
IsFullBoard p steps opening state = IsTreeFull p state
    ⊎ (((r : ReducedValue) × SpendsNumbers p r opening state) ⊎ ((steps ≡ 0) × (MOST_LINES ≤ length state.numbers)))

-- no open leaf waits: each is lent, and was looked at
abbrev pub IsNoneWaiting : ProblemValue → State → Type 0
IsNoneWaiting p state = (path : List (Cut × Side)) → IsOpen p state path → ⊥

-- all splits are used up, and where there are none each open leaf was looked at; or nothing is left to split, a limit
-- is met, or the watcher ended it
abbrev pub IsEndedAs : ProblemValue → ℕ → Type 0 → State → State → ℕ → ResumeEnding → Type 0
IsEndedAs p steps stopped opening state used StepsUsed = (used ≡ steps) × (steps ≡ 0 → IsNoneWaiting p state)
IsEndedAs p steps stopped opening state used NoneOpen = IsNoneLeft p state
IsEndedAs p steps stopped opening state used Full = IsFullBoard p steps opening state
IsEndedAs p steps stopped opening state used Stopped = stopped

-- each number of leaves that were split was told, and the answer was to go on; but maybe the last one, where nothing is
-- left to split, a limit is met, or the answer was to end
abbrev pub AreTold : (ℕ → Bool → Type 0) → ℕ → ResumeEnding → Type 0
AreTold said used StepsUsed = (n : ℕ) → 1 ≤ n → n ≤ used → said n true
AreTold said used NoneOpen = (n : ℕ) → 1 ≤ n → n < used → said n true
AreTold said used Full = (n : ℕ) → 1 ≤ n → n < used → said n true
AreTold said used Stopped = ((n : ℕ) → 1 ≤ n → n < used → said n true) × said used false
