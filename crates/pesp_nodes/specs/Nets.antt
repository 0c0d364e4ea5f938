-- The net counts of the cycles, as the passages of one row after the other are added.
use Rattle.std.specs.Prelude.{◌≡◌, ℕ, ◌+◌, ◌<◌, List, if◌then◌else◌, ◌==◌, length, ℤ, pos, ◌+ℤ◌, All}
use Rattle.pesp_problem.specs.declared.nets.NetCount.{NetCount}
use Rattle.pesp_problem.specs.Nets.{sum_of, nets_at}
use Rattle.pesp_nodes.specs.declared.passages.Passage.{Passage}
use Rattle.pesp_nodes.specs.Passages.{sum_over}

-- a term of a row, for the passages of the cycle at place c alone
abbrev pub of_cycle : (ℕ → ℤ → ℤ) → ℕ → ℕ → ℕ → ℤ → ℤ
of_cycle term place c cycle count = if cycle == c + 1 then term place count else pos 0

-- the net counts of the cycles have the passages of one row more
pub record IsRowAdded (place : ℕ) (passages : List Passage) (before after : List (List NetCount)) : Type 0 where
  pub long : length after ≡ length before
  pub sums : (c : ℕ) → c < length before → (term : ℕ → ℤ → ℤ)
      → sum_of term (nets_at after c) ≡ sum_of term (nets_at before c) +ℤ sum_over (of_cycle term place c) passages
  pub places : (n : ℕ) → place < n → All (All (λ e. e.place < n)) before → All (All (λ e. e.place < n)) after
