-- Rows that were judged one after the other.
use Rattle.std.proofs.Common.{◌≡◌, ℕ, ◌+◌, ◌*◌, ◌<◌, ◌≤◌, ◌⊎◌, List, take, length, arith, sym, ◌∙◌, inl, inr, ap}
use Rattle.std.specs.Prelude.{pos, ◌-ℤ◌, ◌≤ℤ◌, All, ◌↔◌}
use Rattle.std.proofs.Math.Nat.{mul-le-mul}
use Rattle.std.proofs.lemmas.List.{take_all, get_or_default}
use Rattle.std.proofs.lemmas.List.Elements.{All-get_or}
use Rattle.std.proofs.lemmas.List.Sums.{sum_by_more}
use Rattle.pesp_problem.specs.declared.row.Row.{Row}
use Rattle.pesp_problem.specs.Limits.{RowKeepsLimits}
use Rattle.pesp_problem.specs.Timetables.{Pesp, row_at, no_row, slack, cost, IsSatisfied, IsTimetableOfCost}
use Rattle.pesp_problem.specs.declared.grade.Score.TheVariants.{Feasible}

-- the rows before a place are satisfied, and this is what they cost
pub record Judged (period : ℕ) (rows : List Row) (times : List ℕ) (i total : ℕ) : Type 0 where
  pub satisfied : (j : ℕ) → j < i → pos (slack period times (row_at rows j)) ≤ℤ ((row_at rows j).upper -ℤ (row_at rows j).lower)
  pub sum : total ≡ cost period (take i rows) times
  pub small : total ≤ i * 9999000000000

lt-or-same : (k n : ℕ) → k < n + 1 → (k < n) ⊎ (k ≡ n)
lt-or-same k n h = grind arith

-- one more row
pub judged-more : (period : ℕ) (rows : List Row) (times : List ℕ) (i total y events : ℕ)
    → Judged period rows times i total → i < length rows → period ≤ 10000 → y < period
    → All (RowKeepsLimits events) rows
    → y ≡ slack period times (row_at rows i) → pos y ≤ℤ ((row_at rows i).upper -ℤ (row_at rows i).lower)
    → Judged period rows times (i + 1) (total + (row_at rows i).weight * y)
judged-more period rows times i total y events before there small below limits is fits =
    let keeps = All-get_or (RowKeepsLimits events) rows i no_row there limits in
    let least : y ≤ 9999 = omega arith in
    record {
      satisfied = λ j l.
          elim (lt-or-same j i l) [
            | inl m ↦ before.satisfied j m
            | inr e ↦ rw (e, ← is) fits
          ];
      sum = rw is (omega (arith, before.sum, sum_by_more (λ row. row.weight * slack period times row) rows i no_row there));
      small = omega (arith, before.small, mul-le-mul keeps.weight least);
    }

-- all rows
pub judged-all : (p : Pesp) (times : List ℕ) (i total : ℕ) → Judged p.period p.rows times i total
    → length p.rows ≤ i → All (λ row. IsSatisfied p times row) p.rows × (cost p.period p.rows times ≡ total)
judged-all p times i total before there = (
  λ k d l. rw (get_or_default p.rows k d no_row l) (before.satisfied k (omega arith)),
  ap (λ rows. cost p.period rows times) (sym (take_all i p.rows there)) ∙ sym before.sum,
)

-- a timetable has one cost
pub only_cost : (p : Pesp) (times : List ℕ) (total : ℕ) → IsTimetableOfCost p times total → (c : ℕ)
    → (Feasible total ≡ Feasible c) ↔ IsTimetableOfCost p times c
only_cost p times total t c = (λ e. let same : total ≡ c = cc in rw (← same) t, λ u. ap Feasible (sym t.1 ∙ u.1))
