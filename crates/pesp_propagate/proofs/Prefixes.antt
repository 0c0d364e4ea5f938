-- Sums of the first numbers of a list.
use Rattle.std.proofs.Common.{◌≡◌, inl, inr, ℕ, ℤ, pos, ◌+◌, ◌<◌, ◌≤◌, ◌+ℤ◌, zero, suc, ap, sym, arith, List, length, set}
use Rattle.std.specs.Prelude.{unsigned_abs}
use Rattle.std.proofs.lemmas.Int.{ints}
use Rattle.std.proofs.lemmas.Grind.{get_or-set_at}
use Rattle.std.proofs.lemmas.List.{get_or-set_other}
use Rattle.pesp_propagate.specs.Shifts.{number_at}
use Rattle.pesp_propagate.specs.Tallies.{prefix}
use Rattle.pesp_problem.proofs.Integers.{sum_below-same, lt-or-same}
use Rattle.std.proofs.lemmas.Bool.{cases_eq, cases_lt}

-- what is raised at a place past the end of the sum
pub prefix-past : (n at : ℕ) (xs : List ℤ) (v : ℤ) → n ≤ at → prefix n (set xs at v) ≡ prefix n xs
prefix-past n at xs v h = sum_below-same n (number_at (set xs at v)) (number_at xs)
    (λ i l. get_or-set_other xs at i v (pos 0) (λ e. omega arith))

-- and at a place within it
pub prefix-within : (n at : ℕ) (xs : List ℤ) (by : ℤ) → at < n → at < length xs
    → prefix n (set xs at (number_at xs at +ℤ by)) ≡ prefix n xs +ℤ by
prefix-within zero at xs by h inside = absurd (omega arith)
prefix-within (suc n) at xs by h inside =
    elim (lt-or-same at n (omega arith)) [
      | inl m ↦
          let rest = prefix-within n at xs by m inside in
          let last : number_at (set xs at (number_at xs at +ℤ by)) n
          ≡ number_at xs n = get_or-set_other xs at n _ (pos 0) (λ e. omega arith) in
          omega (arith, ints)
      | inr e ↦
          let rest = prefix-past n at xs (number_at xs at +ℤ by) (omega arith) in
          let last : number_at (set xs at (number_at xs at +ℤ by)) n
          ≡ number_at xs at +ℤ by = get_or-set_at xs at n _ (pos 0) (sym e) inside in
          let same : number_at xs at ≡ number_at xs n = ap (number_at xs) e in
          omega (arith, ints)
    ]

-- no number grows by more than what was raised
pub raised-small : (xs : List ℤ) (at p : ℕ) (by : ℤ) → at < length xs
    → unsigned_abs (number_at (set xs at (number_at xs at +ℤ by)) p)
    ≤ unsigned_abs (number_at xs p) + unsigned_abs by
raised-small xs at p by inside =
    elim (cases_eq p at) [
      | inl e ↦ rw (get_or-set_at xs at p (number_at xs at +ℤ by) (pos 0) e inside)
          (let same : number_at xs p ≡ number_at xs at = ap (number_at xs) e in rw same (omega (arith, ints)))
      | inr ne ↦ rw (get_or-set_other xs at p (number_at xs at +ℤ by) (pos 0) ne) (omega arith)
    ]

pub abs-add : (a b : ℤ) → unsigned_abs (a +ℤ b) ≤ unsigned_abs a + unsigned_abs b
abs-add a b = omega (arith, ints)

pub prefix-raised : (n at : ℕ) (xs : List ℤ) (by : ℤ) → at < length xs
    → unsigned_abs (prefix n (set xs at (number_at xs at +ℤ by))) ≤ unsigned_abs (prefix n xs) + unsigned_abs by
prefix-raised n at xs by inside =
    elim (cases_lt at n) [
      | inl m ↦ rw (prefix-within n at xs by m inside) (abs-add (prefix n xs) by)
      | inr m ↦ rw (prefix-past n at xs (number_at xs at +ℤ by) m) (omega arith)
    ]
