-- The rates of a marked walk as they are added up.
use Rattle.std.proofs.Common.{◌≡◌, inl, inr, ℕ, ◌+◌, ◌*◌, ◌^◌, ◌<◌, ◌≤◌, arith, refl, ap, sym, ◌∙◌, List, length, get_or, set, drop, Bool, true, false}
use Rattle.std.specs.Prelude.{ℤ, pos, ◌+ℤ◌, ◌*ℤ◌, unsigned_abs, if◌then◌else◌, ◌==◌, ◌&&◌, not}
use Rattle.std.proofs.lemmas.Int.{ints}
use Rattle.std.proofs.lemmas.Bool.{cases_eq}
use Rattle.std.proofs.lemmas.List.{get_or-set_same, get_or-set_other, length-set}
use Rattle.pesp_problem.proofs.Integers.{mul-add}
use Rattle.pesp_problem.proofs.Counts.{eq-true, eq-false}
use Rattle.pesp_problem.specs.declared.marked.MarkedRow.{MarkedRow}
use Rattle.pesp_problem.specs.Marked.{walk_sum, rate}
use Rattle.pesp_problem.specs.declared.rates.Rates.{Rates}
use Rattle.pesp_problem.specs.Rates.{none, rates_at, rate_of, more_of, passed}
use Rattle.pesp_problem.proofs.Along.{along_more, along_done}

-- the first k rows of the walk are added
pub record AreRated (period alpha : ℕ) (walk : List MarkedRow) (mult : ℤ) (initial rates : List Rates) (k : ℕ) : Type 0 where
  pub sum : (i : ℕ) (flipped : Bool) → i < length rates
      → rate_of flipped (rates_at rates i) +ℤ mult *ℤ walk_sum (drop k walk) (passed period alpha i flipped)
      ≡ rate_of flipped (rates_at initial i) +ℤ mult *ℤ walk_sum walk (passed period alpha i flipped)
  pub size : (i : ℕ) (flipped : Bool) → i < length rates
      → unsigned_abs (rate_of flipped (rates_at rates i))
      ≤ unsigned_abs (rate_of flipped (rates_at initial i)) + k * 10 ^ 16

pub rated_none : (period alpha : ℕ) (walk : List MarkedRow) (mult : ℤ) (rates : List Rates) → AreRated period alpha walk mult rates rates 0
rated_none period alpha walk mult rates = record { sum = λ i flipped l. refl; size = λ i flipped l. omega arith }

-- a row that passes, or does not
here_term : (t c : Bool) (k by mult : ℤ) → by ≡ mult *ℤ k → t ≡ true → mult *ℤ (if t && c then k else pos 0) ≡ (if c then by else pos 0)
here_term true true k by mult e t = sym e
here_term true false k by mult e t = omega (arith, ints)
here_term false c k by mult e t = cc

there_term : (t c : Bool) (k mult : ℤ) → t ≡ false → mult *ℤ (if t && c then k else pos 0) ≡ pos 0
there_term true c k mult t = cc
there_term false c k mult t = omega (arith, ints)

by_small : (c : Bool) (by : ℤ) → unsigned_abs (if c then by else pos 0) ≤ unsigned_abs by
by_small true by = omega arith
by_small false by = omega arith

go_on : (old now more left term all mult_left mult_all : ℤ) → old +ℤ left ≡ all → left ≡ term +ℤ mult_left
    → now ≡ old +ℤ more → more ≡ term → now +ℤ mult_left ≡ all
go_on old now more left term all mult_left mult_all h k e f = omega (arith, ints)

pub rated_more : (period alpha : ℕ) (walk : List MarkedRow) (mult : ℤ) (initial rates : List Rates) (k at : ℕ)
    (d : MarkedRow) (by : ℤ) (next : Rates) → k < length walk → (get_or walk k d).signed.row ≡ at + 1
    → at < length rates → by ≡ mult *ℤ pos (rate period alpha (get_or walk k d)) → unsigned_abs by ≤ 10 ^ 16
    → ((b : Bool) → rate_of b next ≡ rate_of b (rates_at rates at) +ℤ more_of (get_or walk k d).flipped by b)
    → AreRated period alpha walk mult initial rates k → AreRated period alpha walk mult initial (set rates at next) (k + 1)
rated_more period alpha walk mult initial rates k at d by next h is inside e small more before =
    let s = get_or walk k d in
    let passes : Bool → Bool = λ b. if b then s.flipped else not s.flipped in
    let apart : (i : ℕ) (flipped : Bool) → mult *ℤ walk_sum (drop k walk) (passed period alpha i flipped)
    ≡ mult *ℤ passed period alpha i flipped s +ℤ mult *ℤ walk_sum (drop (k + 1) walk)
    (passed period alpha i flipped) = λ i flipped.
    ap (λ (z : ℤ). mult *ℤ z) (along_more walk k d (passed period alpha i flipped) h)
    ∙ mul-add mult (passed period alpha i flipped s)
    (walk_sum (drop (k + 1) walk) (passed period alpha i flipped)) in
    record {
      sum = λ i flipped l.
          let l' : i < length rates = omega (arith, length-set rates at next) in
          elim (cases_eq i at) [
            | inl same ↦
                let read : rates_at (set rates at next) i ≡ next = ap (rates_at (set rates at next)) same
                ∙ get_or-set_same rates at next none inside in
                let now : rate_of flipped (rates_at (set rates at next) i)
                ≡ rate_of flipped (rates_at rates i) +ℤ more_of s.flipped by flipped = ap (rate_of flipped) read
                ∙ more flipped ∙ ap (λ (j : ℕ). rate_of flipped (rates_at rates j)
                +ℤ more_of s.flipped by flipped) (sym same) in
                let here = here_term (s.signed.row == i + 1) (passes flipped) (pos (rate period alpha s)) by mult e
                (eq-true s.signed.row (i + 1) (is ∙ ap (λ (j : ℕ). j + 1) (sym same))) in
                go_on _ _ _ _ _ _ _ (pos 0) (before.sum i flipped l') (apart i flipped) now (sym here)
            | inr other ↦
                let now : rate_of flipped (rates_at (set rates at next) i)
                ≡ rate_of flipped (rates_at rates i) = ap (rate_of flipped)
                (get_or-set_other rates at i next none other) in
                let there = there_term (s.signed.row == i + 1) (passes flipped) (pos (rate period alpha s)) mult
                (eq-false s.signed.row (i + 1) (λ f. other (omega (arith, sym f ∙ is)))) in
                let plus_none : rate_of flipped (rates_at (set rates at next) i)
                ≡ rate_of flipped (rates_at rates i) +ℤ pos 0 = omega (arith, ints, now) in
                go_on _ _ _ _ _ _ _ (pos 0) (before.sum i flipped l') (apart i flipped) plus_none (sym there)
          ];
      size = λ i flipped l.
          let l' : i < length rates = omega (arith, length-set rates at next) in
          let old = before.size i flipped l' in
          elim (cases_eq i at) [
            | inl same ↦
                let read : rates_at (set rates at next) i ≡ next = ap (rates_at (set rates at next)) same
                ∙ get_or-set_same rates at next none inside in
                let now : rate_of flipped (rates_at (set rates at next) i)
                ≡ rate_of flipped (rates_at rates i) +ℤ more_of s.flipped by flipped = ap (rate_of flipped) read
                ∙ more flipped ∙ ap (λ (j : ℕ). rate_of flipped (rates_at rates j)
                +ℤ more_of s.flipped by flipped) (sym same) in
                let b = by_small (passes flipped) by in
                grown (rate_of flipped (rates_at rates i)) (rate_of flipped (rates_at (set rates at next) i))
                (more_of s.flipped by flipped) (rate_of flipped (rates_at initial i)) by k now b small old
            | inr other ↦
                let now : rate_of flipped (rates_at (set rates at next) i)
                ≡ rate_of flipped (rates_at rates i) = ap (rate_of flipped)
                (get_or-set_other rates at i next none other) in
                kept (rate_of flipped (rates_at rates i)) (rate_of flipped (rates_at (set rates at next) i))
                (rate_of flipped (rates_at initial i)) k now old
          ];
    }
  where
    grown : (old now more first by : ℤ) (k : ℕ) → now ≡ old +ℤ more → unsigned_abs more ≤ unsigned_abs by
        → unsigned_abs by ≤ 10 ^ 16 → unsigned_abs old ≤ unsigned_abs first + k * 10 ^ 16
        → unsigned_abs now ≤ unsigned_abs first + (k + 1) * 10 ^ 16
    grown old now more first by k e b small h = omega (arith, ints)

    kept : (old now first : ℤ) (k : ℕ) → now ≡ old → unsigned_abs old ≤ unsigned_abs first + k * 10 ^ 16
        → unsigned_abs now ≤ unsigned_abs first + (k + 1) * 10 ^ 16
    kept old now first k e h = omega (arith, ints, ap unsigned_abs e)

-- the whole walk is added
pub rated_all : (period alpha : ℕ) (walk : List MarkedRow) (mult : ℤ) (initial rates : List Rates) (k i : ℕ)
    (flipped : Bool) → length walk ≤ k → i < length rates → AreRated period alpha walk mult initial rates k
    → rate_of flipped (rates_at rates i) ≡ rate_of flipped (rates_at initial i)
    +ℤ mult *ℤ walk_sum walk (passed period alpha i flipped)
rated_all period alpha walk mult initial rates k i flipped done l h =
    let none_left : mult *ℤ walk_sum (drop k walk) (passed period alpha i flipped)
    ≡ mult *ℤ pos 0 = ap (λ (z : ℤ). mult *ℤ z) (along_done walk k (passed period alpha i flipped) done) in
    let whole = h.sum i flipped l in
    done_sum _ _ _ mult none_left whole
  where
    done_sum : (now left all mult : ℤ) → left ≡ mult *ℤ pos 0 → now +ℤ left ≡ all → now ≡ all
    done_sum now left all mult e h = omega (arith, ints)
