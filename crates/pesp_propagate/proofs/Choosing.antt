-- The choice among all amounts.
use Rattle.std.proofs.Common.{◌≡◌, ◌⊎◌, inl, inr, ℕ, ℤ, pos, ◌<◌, ◌≤◌, ◌-ℤ◌, zero, suc, refl, ap, sym, ◌∙◌, arith, List, length, true, false}
use Rattle.std.specs.Prelude.{Bool, ◌≤ℤ◌, ◌<ℤ◌, All}
use Rattle.std.proofs.lemmas.Int.{ints}
use Rattle.pesp_propagate.specs.declared.crossing.Crossing.{Crossing}
use Rattle.pesp_propagate.specs.Shifts.{number_at, Became, moved, barred, bars_of, change, row_change, crossing_at, no_crossing, AllFit, IsCrossing, IsBestShift}
use Rattle.pesp_problem.specs.Sums.{sum_below}
use Rattle.pesp_problem.proofs.Integers.{lt-or-same, sum_below-zero}
use Rattle.pesp_propagate.proofs.Moving.{moved_in, moved_out}
use Rattle.pesp_propagate.proofs.Taking.{fits-barred, misses-barred}
use Rattle.pesp_propagate.proofs.Summing.{IsBest}
use Rattle.std.proofs.lemmas.Bool.{cases_lt}

barred_is : (period : ℕ) (row : Crossing) (d : ℕ)
    → ((barred period row d ≡ pos 0) × (moved period row d ≤ row.span)) ⊎ (barred period row d ≡ pos 1)
barred_is period row d =
    elim (cases_lt row.span (moved period row d)) [
      | inl m ↦ inr (misses-barred period row d (moved period row d) refl m)
      | inr m ↦ inl (fits-barred period row d (moved period row d) refl m, m)
    ]

some_barred : (n : ℕ) (f : ℕ → ℤ) → ((i : ℕ) → (f i ≡ pos 0) ⊎ (f i ≡ pos 1)) → pos 0 ≤ℤ sum_below n f
some_barred zero f h = omega (arith, ints)
some_barred (suc n) f h =
    let r = some_barred n f h in
    elim (h n) [ inl e ↦ omega (arith, ints) | inr e ↦ omega (arith, ints) ]

none_barred : (n : ℕ) (f : ℕ → ℤ) → ((i : ℕ) → (f i ≡ pos 0) ⊎ (f i ≡ pos 1)) → sum_below n f ≡ pos 0 → (i : ℕ) → i < n → f i ≡ pos 0
none_barred zero f h z i l = absurd (omega arith)
none_barred (suc n) f h z i l =
    let r = some_barred n f h in
    let last : f n ≡ pos 0 = elim (h n) [ inl e ↦ e | inr e ↦ omega (arith, ints) ] in
    let rest : sum_below n f ≡ pos 0 = omega (arith, ints) in
    elim (lt-or-same i n (omega arith)) [ inl m ↦ none_barred n f h rest i m | inr e ↦ ap f e ∙ last ]

pub free_fits : (period : ℕ) (rows : List Crossing) (d : ℕ) → bars_of period rows d ≡ pos 0 → AllFit period rows d
free_fits period rows d z i l =
    let none = none_barred (length rows) (λ k. barred period (crossing_at rows k) d)
    (λ k. elim (barred_is period (crossing_at rows k) d) [ inl e ↦ inl e.0 | inr e ↦ inr e ]) z i l in
    elim (barred_is period (crossing_at rows i) d) [ inl e ↦ e.1 | inr e ↦ absurd (omega (arith, ints)) ]

pub fits_free : (period : ℕ) (rows : List Crossing) (d : ℕ) → AllFit period rows d → bars_of period rows d ≡ pos 0
fits_free period rows d h = sum_below-zero (length rows) (λ k. barred period (crossing_at rows k) d)
    (λ i l. fits-barred period (crossing_at rows i) d (moved period (crossing_at rows i) d) refl (h i l))

moved_none : (period : ℕ) (row : Crossing) → row.slack < period → moved period row 0 ≡ row.slack
moved_none period row l = go row.inward refl
  where
    go : (b : Bool) → row.inward ≡ b → moved period row 0 ≡ row.slack
    go true e = let m = moved_in period row 0 e (omega arith) in omega arith
    go false e = let m = moved_out period row 0 e (omega arith) l in omega arith

slack_less : (period : ℕ) (row : Crossing) → IsCrossing period row → row.slack < period
slack_less period row h = let a = h.slack in let b = h.span in omega arith

pub none_fits : (period : ℕ) (rows : List Crossing) → All (IsCrossing period) rows → AllFit period rows 0
none_fits period rows h i l =
    let r = h i no_crossing l in
    let m = moved_none period (crossing_at rows i) (slack_less period (crossing_at rows i) r) in
    rw m (r.slack)

pub none_changes : (period : ℕ) (rows : List Crossing) → All (IsCrossing period) rows → change period rows 0 ≡ pos 0
none_changes period rows h =
    sum_below-zero (length rows) (λ k. row_change period (crossing_at rows k) 0) (λ i l.
    let r = h i no_crossing l in let m = moved_none period (crossing_at rows i)
    (slack_less period (crossing_at rows i) r) in same period (crossing_at rows i) m)
  where
    same : (p : ℕ) (row : Crossing) → moved p row 0 ≡ row.slack → row_change p row 0 ≡ pos 0
    same p row m = rw m (let e : pos row.slack -ℤ pos row.slack ≡ pos 0 = omega (arith, ints) in rw e (omega (arith, ints)))

pub best_none : (costs bars : List ℤ) → number_at bars 0 ≡ pos 0 → IsBest costs bars 0 1
best_none costs bars h = record {
  below = omega arith;
  free = h;
  least = λ d l e. (let z : d ≡ 0 = omega arith in rw z (omega (arith, ints)));
  cheaper = λ l. absurd (omega arith);
}

pub best_is : (period : ℕ) (rows : List Crossing) (costs bars : List ℤ) (best i d : ℕ) → i ≡ period
    → Became period (change period rows) costs → Became period (bars_of period rows) bars
    → IsBest costs bars best i → d < period → AllFit period rows d → change period rows best ≤ℤ change period rows d
best_is period rows costs bars best i d same c b h l f =
    let below = h.below in
    let e = c d l in let g = c best (omega arith) in
    let q : number_at bars d ≡ pos 0 = b d l ∙ fits_free period rows d f in
    rw (sym e, sym g) (h.least d (omega arith) q)

pub best_is_none : (period : ℕ) (rows : List Crossing) (best : ℕ) (z : ℤ) → All (IsCrossing period) rows → best ≡ 0
    → change period rows best ≤ℤ z → pos 0 ≤ℤ z
best_is_none period rows best z h e l =
    let c : change period rows best ≡ pos 0 = ap (change period rows) e ∙ none_changes period rows h in
    omega (arith, ints)

best_is_cheaper : (period : ℕ) (rows : List Crossing) (costs : List ℤ) (best : ℕ) → All (IsCrossing period) rows
    → Became period (change period rows) costs → best < period → number_at costs best <ℤ number_at costs 0
    → change period rows best <ℤ pos 0
best_is_cheaper period rows costs best each c l h =
    let e = c best l in let none = c 0 (omega arith) in let z = none_changes period rows each in
    omega (arith, ints)

-- the loop over the amounts leaves the best one
pub best_is_best : (period : ℕ) (rows : List Crossing) (costs bars : List ℤ) (best i : ℕ) → i ≡ period
    → All (IsCrossing period) rows → Became period (change period rows) costs
    → Became period (bars_of period rows) bars → IsBest costs bars best i → IsBestShift period rows best
best_is_best period rows costs bars best i same each c b h =
    let below = h.below in
    let least : (d : ℕ) → d < period → AllFit period rows d
    → change period rows best ≤ℤ change period rows d =
    λ d l f. best_is period rows costs bars best i d same c b h l f in
    record {
      small = omega arith;
      fits = free_fits period rows best (sym (b best (omega arith)) ∙ h.free);
      least = least;
      none = λ d l f z. best_is_none period rows best (change period rows d) each z (least d l f);
      cheaper = λ l. best_is_cheaper period rows costs best each c (omega arith) (h.cheaper l);
    }
