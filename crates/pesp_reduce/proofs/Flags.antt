-- Flags at the places of numbers.
use Rattle.std.proofs.Common.{◌≡◌, ℕ, zero, suc, ◌+◌, ◌-◌, ◌<◌, ◌≤◌, inl, inr, refl, sym, ◌∙◌, ap, arith, List, length, set, replicate, true, false, Bool}
use Rattle.std.specs.Prelude.{slice_index, Contains}
use Rattle.std.proofs.lemmas.Bool.{cases_eq}
use Rattle.std.proofs.lemmas.List.{get_or-set_same, get_or-set_other, length-set, length-replicate, get_or_default}
use Rattle.pesp_problem.specs.Walks.{Names}
use Rattle.pesp_problem.proofs.Integers.{lt-or-same}
use Rattle.pesp_reduce.specs.Rows.{flag}
use Rattle.pesp_reduce.specs.Contractions.{AreFlags}

-- the first j numbers are flagged
pub record AreFlaggedUpTo (count j : ℕ) (numbers : List ℕ) (flags : List Bool) : Type 0 where
  pub count_is : length flags ≡ count
  pub only : (i : ℕ) → flag flags i ≡ true → Contains numbers (i + 1)
  pub done : (k : ℕ) → k < j → flag flags (slice_index numbers k - 1) ≡ true

unflagged : (n i : ℕ) → flag (replicate n false) i ≡ false
unflagged zero i = refl
unflagged (suc n) zero = refl
unflagged (suc n) (suc i) = unflagged n i

pub flags_none : (count : ℕ) (numbers : List ℕ) → AreFlaggedUpTo count 0 numbers (replicate count false)
flags_none count numbers = record {
  count_is = length-replicate count false;
  only = λ i e. absurd (let f = unflagged count i in cc);
  done = λ k h. absurd (omega arith);
}

pub flags_more : (count j x : ℕ) (numbers : List ℕ) (flags : List Bool) → AreFlaggedUpTo count j numbers flags
    → j < length numbers → x ≡ slice_index numbers j → Names count x
    → AreFlaggedUpTo count (j + 1) numbers (set flags (x - 1) true)
flags_more count j x numbers flags s l e n =
    let p = x - 1 in
    let inside : p < length flags = omega (arith, s.count_is, n) in
    let here = get_or-set_same flags p true false inside in
    record {
      count_is = length-set flags p true ∙ s.count_is;
      only = λ i t. elim (cases_eq i p) [
        | inl q ↦
            let is : i + 1 ≡ x = omega (arith, n) in
            (j, l, get_or_default numbers j (i + 1) 0 l ∙ sym e ∙ sym is)
        | inr ne ↦ s.only i (sym (get_or-set_other flags p i true false ne) ∙ t)
      ];
      done = λ k h. elim (lt-or-same k j h) [
        | inl m ↦
            let q = slice_index numbers k - 1 in
            elim (cases_eq q p) [
              | inl same ↦ ap (flag (set flags p true)) same ∙ here
              | inr ne ↦ get_or-set_other flags p q true false ne ∙ s.done k m
            ]
        | inr same ↦
            let at : slice_index numbers k - 1 ≡ p = ap (λ y. slice_index numbers y - 1) same ∙ ap (λ y. y - 1) (sym e) in
            ap (flag (set flags p true)) at ∙ here
      ];
    }

pub flags_all : (count j : ℕ) (numbers : List ℕ) (flags : List Bool) → AreFlaggedUpTo count j numbers flags
    → length numbers ≤ j → AreFlags count numbers flags
flags_all count j numbers flags s l = record {
  count_is = s.count_is;
  only = s.only;
  all = λ k c. let at : slice_index numbers c.0 ≡ k = get_or_default numbers c.0 0 k c.1 ∙ c.2 in
      ap (λ y. flag flags (y - 1)) (sym at) ∙ s.done c.0 (omega (arith, c.1));
}
