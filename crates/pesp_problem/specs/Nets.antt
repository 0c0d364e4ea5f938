-- Net counts of a walk, each row once, and working numbers.
use Rattle.std.specs.Prelude.{◌≡◌, ℕ, ◌<◌, ◌≤◌, List, [], fold, length, slice_index_or, ℤ, pos, ◌+ℤ◌, unsigned_abs, All, sum_by, if◌then◌else◌, ◌==◌}
use Rattle.pesp_problem.specs.declared.limits.TheConstants.{MOST_SIGNED_ROWS}
use Rattle.pesp_problem.specs.declared.row.SignedRow.{SignedRow}
use Rattle.pesp_problem.specs.Sums.{sum_below}
use Rattle.pesp_problem.specs.Walks.{net_count}
use Rattle.pesp_problem.specs.Nodes.{cycle_at}
use Rattle.pesp_problem.specs.declared.nets.NetCount.{NetCount}

-- all numbers are 0
abbrev pub AreZeros : List ℤ → Type 0
AreZeros numbers = (i : ℕ) → i < length numbers → slice_index_or numbers i (pos 0) ≡ pos 0

-- the sum of a term over the entries
abbrev pub sum_of : (ℕ → ℤ → ℤ) → List NetCount → ℤ
sum_of term counts = fold (λ z e. z +ℤ term e.place e.count) (pos 0) counts

-- the entries at place i, added up
abbrev pub count_of : List NetCount → ℕ → ℤ
count_of counts i = sum_of (λ place count. if place == i then count else pos 0) counts

-- the sum of the counts by amount
abbrev pub amount : List NetCount → ℕ
amount counts = sum_by (λ e. unsigned_abs e.count) counts

-- entries of n rows, few enough that sums over them fit
abbrev pub AreSmallCounts : ℕ → List NetCount → Type 0
AreSmallCounts n counts = All (λ e. e.place < n) counts × (amount counts ≤ MOST_SIGNED_ROWS)

-- the net counts of a walk: what is 0 at 0 has the same sum over the entries as over all n rows
pub record AreNetCounts (n : ℕ) (walk : List SignedRow) (counts : List NetCount) : Type 0 where
  pub sums : (term : ℕ → ℤ → ℤ) → ((i : ℕ) → term i (pos 0) ≡ pos 0) → sum_of term counts ≡ sum_below n (λ i. term i (net_count walk i))
  pub small : AreSmallCounts n counts

-- the net counts of the cycle at place c
abbrev pub nets_at : List (List NetCount) → ℕ → List NetCount
nets_at table c = slice_index_or table c []

-- the net counts of each walk of a table
pub record AreNets (n : ℕ) (walks : List (List SignedRow)) (table : List (List NetCount)) : Type 0 where
  pub long : length table ≡ length walks
  pub each : (c : ℕ) → c < length table → AreNetCounts n (cycle_at walks c) (nets_at table c)
