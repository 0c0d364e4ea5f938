-- Working numbers by amount, whose sums up to an amount say what a shift by it costs and breaks.
use Rattle.std.specs.Prelude.{◌≡◌, ℕ, ◌+◌, ◌*◌, ◌<◌, ◌≤◌, List, length, ℤ, pos, ◌+ℤ◌, ◌*ℤ◌, unsigned_abs}
use Rattle.pesp_problem.specs.Sums.{sum_below}
use Rattle.pesp_propagate.specs.declared.crossing.Crossing.{Crossing}
use Rattle.pesp_propagate.specs.Shifts.{crossing_at, number_at, growth, row_change, barred, IsCrossing}

-- the sum of the first n numbers
abbrev pub prefix : ℕ → List ℤ → ℤ
prefix n xs = sum_below n (number_at xs)

-- one row's part of the sums to come
pub record TakesRow (period : ℕ) (row : Crossing) (old_costs costs old_bars bars : List ℤ) : Type 0 where
  pub costs_kept : length costs ≡ length old_costs
  pub bars_kept : length bars ≡ length old_bars
  pub cost : (d : ℕ) → d < period → prefix (d + 1) costs +ℤ pos row.weight *ℤ growth row d
      ≡ prefix (d + 1) old_costs +ℤ row_change period row d
  pub bar : (d : ℕ) → d < period → prefix (d + 1) bars ≡ prefix (d + 1) old_bars +ℤ barred period row d
  pub costs_small : (p : ℕ) → unsigned_abs (number_at costs p) ≤ unsigned_abs (number_at old_costs p) + 10000000000000
  pub costs_level : (d : ℕ) → unsigned_abs (prefix (d + 1) costs) ≤ unsigned_abs (prefix (d + 1) old_costs) + 10000000000000
  pub bars_level : (d : ℕ) → unsigned_abs (prefix (d + 1) bars) ≤ unsigned_abs (prefix (d + 1) old_bars) + 2
  pub bars_small : (p : ℕ) → unsigned_abs (number_at bars p) ≤ unsigned_abs (number_at old_bars p) + 2

-- the sums after the first i rows: what the prefixes and the slope give is how much dearer these rows become
pub record TakesRows (period : ℕ) (rows : List Crossing) (i : ℕ) (slope : ℤ) (costs bars : List ℤ) : Type 0 where
  pub costs_long : length costs ≡ period + 1
  pub bars_long : length bars ≡ period + 1
  pub cost : (d : ℕ) → d < period → prefix (d + 1) costs +ℤ slope *ℤ pos d ≡ sum_below i (λ k. row_change period (crossing_at rows k) d)
  pub bar : (d : ℕ) → d < period → prefix (d + 1) bars ≡ sum_below i (λ k. barred period (crossing_at rows k) d)
  pub costs_small : (p : ℕ) → unsigned_abs (number_at costs p) ≤ i * 10000000000000
  pub bars_small : (p : ℕ) → unsigned_abs (number_at bars p) ≤ i * 2
  pub costs_level : (d : ℕ) → unsigned_abs (prefix (d + 1) costs) ≤ i * 10000000000000
  pub bars_level : (d : ℕ) → unsigned_abs (prefix (d + 1) bars) ≤ i * 2
  pub slope_small : unsigned_abs slope ≤ i * 1000000000
  pub each : (k : ℕ) → k < i → IsCrossing period (crossing_at rows k)
