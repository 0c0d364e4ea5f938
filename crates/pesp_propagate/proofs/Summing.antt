-- Loops over the numbers for all amounts.
use Rattle.std.proofs.Common.{◌≡◌, inl, inr, ℕ, ℤ, pos, negsuc, ◌+◌, ◌*◌, ◌-◌, ◌<◌, ◌≤◌, ◌+ℤ◌, ◌*ℤ◌, zero, suc, refl, ap, sym, ◌∙◌, arith, List, length, set, [], ◌∷◌, add-one}
use Rattle.std.specs.Prelude.{unsigned_abs, neg_ℤ, ◌≤ℤ◌, ◌<ℤ◌}
use Rattle.std.proofs.lemmas.Int.{ints}
use Rattle.std.proofs.lemmas.Bool.{cases_eq, cases_lt}
use Rattle.std.proofs.lemmas.Grind.{get_or-set_at}
use Rattle.std.proofs.lemmas.List.{get_or-set_other, length-set}
use Rattle.pesp_propagate.specs.Shifts.{number_at}
use Rattle.pesp_propagate.specs.Tallies.{prefix}

-- the numbers below i, and at least the first, became sums, and the others are as they were
pub record SumsUp (old now : List ℤ) (i : ℕ) : Type 0 where
  pub some : 0 < i
  pub long : length now ≡ length old
  pub done : (d : ℕ) → d < i → number_at now d ≡ prefix (d + 1) old
  pub left : (d : ℕ) → i ≤ d → number_at now d ≡ number_at old d

pub sums_none : (old : List ℤ) → SumsUp old old 1
sums_none old = record {
  some = omega arith;
  long = refl;
  done = λ d l. (let z : d ≡ 0 = omega arith in rw z (omega (arith, ints)));
  left = λ d l. refl;
}

prefix-more : (n : ℕ) (xs : List ℤ) → prefix (n + 1) xs ≡ prefix n xs +ℤ number_at xs n
prefix-more n xs = rw (add-one n) refl

pub sums_next : (old now : List ℤ) (i : ℕ) → SumsUp old now i → number_at now (i - 1) +ℤ number_at now i ≡ prefix (i + 1) old
sums_next old now i h =
    let s = h.some in
    let a : number_at now (i - 1) ≡ prefix (i - 1 + 1) old = h.done (i - 1) (omega arith) in
    let e : i - 1 + 1 ≡ i = omega arith in
    let b = h.left i (omega arith) in
    let p = prefix-more i old in
    let a2 : number_at now (i - 1) ≡ prefix i old = a ∙ ap (λ (n : ℕ). prefix n old) e in
    omega (arith, ints)

pub sums_more : (old now : List ℤ) (i : ℕ) → i < length now → SumsUp old now i
    → SumsUp old (set now i (number_at now (i - 1) +ℤ number_at now i)) (i + 1)
sums_more old now i l h =
    let v = number_at now (i - 1) +ℤ number_at now i in
    record {
      some = omega arith;
      long = length-set now i v ∙ h.long;
      done = λ d k. elim (cases_eq d i) [
        | inl e ↦ rw (get_or-set_at now i d v (pos 0) e l) (sums_next old now i h ∙ ap (λ (n : ℕ). prefix (n + 1) old) (sym e))
        | inr ne ↦ rw (get_or-set_other now i d v (pos 0) ne) (h.done d (omega arith))
      ];
      left = λ d k. rw (get_or-set_other now i d v (pos 0) (λ e. omega arith)) (h.left d (omega arith));
    }

pub record Slants (slope : ℤ) (old now : List ℤ) (i : ℕ) : Type 0 where
  pub long : length now ≡ length old
  pub done : (d : ℕ) → d < i → number_at now d ≡ number_at old d +ℤ slope *ℤ pos d
  pub left : (d : ℕ) → i ≤ d → number_at now d ≡ number_at old d

pub slants_none : (slope : ℤ) (old : List ℤ) → Slants slope old old 0
slants_none slope old = record { long = refl; done = λ d l. absurd (omega arith); left = λ d l. refl }

pub slants_more : (slope : ℤ) (old now : List ℤ) (i : ℕ) → i < length now → Slants slope old now i
    → Slants slope old (set now i (number_at now i +ℤ slope *ℤ pos i)) (i + 1)
slants_more slope old now i l h =
    let v = number_at now i +ℤ slope *ℤ pos i in
    record {
      long = length-set now i v ∙ h.long;
      done = λ d k. elim (cases_eq d i) [
        | inl e ↦ rw (get_or-set_at now i d v (pos 0) e l, e) (ap (λ (z : ℤ). z +ℤ slope *ℤ pos i) (h.left i (omega arith)))
        | inr ne ↦ rw (get_or-set_other now i d v (pos 0) ne) (h.done d (omega arith))
      ];
      left = λ d k. rw (get_or-set_other now i d v (pos 0) (λ e. omega arith)) (h.left d (omega arith));
    }

-- the best of the amounts below i
pub record IsBest (costs bars : List ℤ) (best i : ℕ) : Type 0 where
  pub below : best < i
  pub free : number_at bars best ≡ pos 0
  pub least : (d : ℕ) → d < i → number_at bars d ≡ pos 0 → number_at costs best ≤ℤ number_at costs d
  pub cheaper : 0 < best → number_at costs best <ℤ number_at costs 0

-- the sign is taken apart
pub risen_up : (s x : ℤ) (at m : ℕ) → pos 0 ≤ℤ s → m ≡ unsigned_abs s * at → x +ℤ pos m ≡ x +ℤ s *ℤ pos at
risen_up (pos n) x at m h e = omega (arith, ints)
risen_up (negsuc n) x at m h e = absurd (omega (arith, ints))

pub risen_down : (s x : ℤ) (at m : ℕ) → (s ≤ℤ pos 0) → m ≡ unsigned_abs s * at → x +ℤ neg_ℤ (pos m) ≡ x +ℤ s *ℤ pos at
risen_down (pos zero) x at m h e = omega (arith, ints)
risen_down (pos (suc n)) x at m h e = absurd (omega (arith, ints))
risen_down (negsuc n) x at m h e = omega (arith, ints)

pub record Clears (old now : List ℤ) (i : ℕ) : Type 0 where
  pub long : length now ≡ length old
  pub done : (d : ℕ) → d < i → number_at now d ≡ pos 0

pub clears_none : (old : List ℤ) → Clears old old 0
clears_none old = record { long = refl; done = λ d l. absurd (omega arith) }

pub clears_more : (old now : List ℤ) (i : ℕ) → i < length now → Clears old now i → Clears old (set now i (pos 0)) (i + 1)
clears_more old now i l h =
    record {
      long = length-set now i (pos 0) ∙ h.long;
      done = λ d k. elim (cases_eq d i) [
        | inl e ↦ get_or-set_at now i d (pos 0) (pos 0) e l
        | inr ne ↦ rw (get_or-set_other now i d (pos 0) (pos 0) ne) (h.done d (omega arith))
      ];
    }

past_end : (xs : List ℤ) (p : ℕ) → length xs ≤ p → number_at xs p ≡ pos 0
past_end [] p h = refl
past_end (x ∷ xs) zero h = absurd (omega arith)
past_end (x ∷ xs) (suc p) h = past_end xs p (omega arith)

pub clears_all : (old now : List ℤ) (i : ℕ) → length now ≤ i → Clears old now i → (p : ℕ) → number_at now p ≡ pos 0
clears_all old now i l h p = elim (cases_lt p i) [ inl m ↦ h.done p m | inr m ↦ past_end now p (omega arith) ]
