-- The sets of events and the places of their differences.
use Rattle.std.proofs.Common.{◌≡◌, ◌≢◌, ℕ, ◌+◌, ◌*◌, ◌/◌, ◌<◌, ◌≤◌, ◌⊎◌, inl, inr, List, length, ap, sym, ◌∙◌, arith, Bool, true, false}
use Rattle.std.specs.Prelude.{nat_lt, ◌&&◌}
use Rattle.std.proofs.Math.Nat.{mul-le-mul_left}
use Rattle.std.proofs.lemmas.Bool.{cases_lt}
use Rattle.std.proofs.lemmas.Bool.Decides.{nat_tests}
use Rattle.pesp_truth.specs.Sets.{is_set, padded_period, family_at}

is_lt : (x n : ℕ) → x < n → nat_lt x n ≡ true
is_lt x n h = grind (arith, nat_tests)

not_lt : (x n : ℕ) → n ≤ x → nat_lt x n ≡ false
not_lt x n h = grind (arith, nat_tests)

pub span_most : (t : ℕ) → t ≤ padded_period t
unfolding padded_period
span_most t = omega arith

pub span_is : (t n : ℕ) → n ≡ (t + 63) / 64 → padded_period t ≡ n * 64
unfolding padded_period
span_is t n e = ap (λ x. x * 64) (sym e)

pub spans : (t events n : ℕ) → n ≡ (t + 63) / 64 → events * padded_period t ≡ 64 * (events * n)
spans t events n e = ap (λ x. events * x) (span_is t n e) ∙ omega arith

-- a difference's word is there
pub place_within : (ws : List ℕ) (t event d place : ℕ) → d < t → event * padded_period t + padded_period t ≤ 64 * length ws
    → place ≡ event * padded_period t + d → place / 64 < length ws
place_within ws t event d place l long e = let m = span_most t in omega arith

-- below the period a difference has its place
pub at_place : (t event d : ℕ) (ws : List ℕ) → d < t → family_at t ws event d ≡ is_set ws (event * padded_period t + d)
unfolding family_at
at_place t event d ws l = ap (λ b. b && is_set ws (event * padded_period t + d)) (is_lt d t l)

pub past : (t event d : ℕ) (ws : List ℕ) → t ≤ d → family_at t ws event d ≡ false
unfolding family_at
past t event d ws l = ap (λ b. b && is_set ws (event * padded_period t + d)) (not_lt d t l)

pub true_or_false : (b : Bool) → b ≡ true → b ≡ false → ⊥
true_or_false b e f = absurd (cc)

pub below : (t event d : ℕ) (ws : List ℕ) → family_at t ws event d ≡ true → d < t
below t event d ws e = elim (cases_lt d t) [ inl l ↦ l | inr m ↦ absurd (true_or_false _ e (past t event d ws m)) ]

-- two events and differences have two places
pub places_apart : (t e f d g : ℕ) → d < t → g < t → e ≢ f → e * padded_period t + d ≢ f * padded_period t + g
places_apart t e f d g ld lg ne = let m = span_most t in apart (padded_period t) e f d g (omega arith) (omega arith) ne
  where
    order : (e f : ℕ) → e ≢ f → (e + 1 ≤ f) ⊎ (f + 1 ≤ e)
    order e f n = grind arith

    apart : (w e f d g : ℕ) → d < w → g < w → e ≢ f → e * w + d ≢ f * w + g
    apart w e f d g ld lg ne q = elim (order e f ne) [
      | inl l ↦ let m : w * (e + 1) ≤ w * f = mul-le-mul_left w l in absurd (omega arith)
      | inr l ↦ let m : w * (f + 1) ≤ w * e = mul-le-mul_left w l in absurd (omega arith)
    ]

-- where places are the same, sets are
pub same_places : (t event d : ℕ) (xs ys : List ℕ)
    → (d < t → is_set ys (event * padded_period t + d) ≡ is_set xs (event * padded_period t + d))
    → family_at t ys event d ≡ family_at t xs event d
same_places t event d xs ys h = elim (cases_lt d t) [
  | inl l ↦ at_place t event d ys l ∙ (h l ∙ sym (at_place t event d xs l))
  | inr m ↦ past t event d ys m ∙ sym (past t event d xs m)
]
