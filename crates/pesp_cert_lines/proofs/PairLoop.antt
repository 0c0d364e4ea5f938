-- The loop over the pairs of a leaf line.
use Rattle.std.proofs.Common.{◌≡◌, ℕ, suc, ◌+◌, ◌<◌, ◌≤◌, Bool, true, false, cond, ◌&&◌, List, [], ◌∷◌, length, Option, Some, None, Err, refl, sym, ap, ◌∙◌, arith}
use Rattle.std.specs.Prelude.{ℤ, pos, negsuc, nat_abs, nat_le, not, ◌==◌, FitsSigned}
use Rattle.std.specs.Option.{option_map, option_and_then}
use Rattle.std.specs.Int.{w64}
use Rattle.std.proofs.lemmas.Option.{option_and_then_some, cond_some}
use Rattle.std.proofs.lemmas.Bool.Decides.{nat_tests}
use Rattle.std.proofs.lemmas.Int.{ints}
use Rattle.pesp_stream.proofs.Digits.{whole_spells}
use Rattle.pesp_problem.specs.declared.pair.Pair.{Pair}
use Rattle.pesp_cert_lines.specs.declared.fault.LineFault.TheVariants.{Number}
use Rattle.pesp_stream.specs.Number.{NATURALS, natural_of, whole_of}
use Rattle.pesp_cert_lines.specs.Pairs.{pair_at, pairs_from, is_pair_within, counted_pairs, count_of_pairs, all_within, pairs_left, pairs_are_good, BeginsPairs}
use Rattle.pesp_cert_lines.proofs.Tests.{and_left, and_right}

-- what two words say that are a pair
pub record IsPairAt (least : ℕ) (c m : List ℕ) (n : ℕ) (z : ℤ) : Type 0 where
  pub cycle : natural_of c ≡ Some n
  pub mult : whole_of m ≡ Some z
  pub rises : least ≤ n
  pub nonzero : 0 < nat_abs z

tested_pair : (b : Bool) (x y : ℕ × ℤ) → cond b (Some x) None ≡ Some y → (b ≡ true) × (x ≡ y)
tested_pair b x y h = cond_some b x y h

pub pair_parts : (least : ℕ) (c m : List ℕ) (n : ℕ) (z : ℤ) → pair_at least c m ≡ Some (n, z) → IsPairAt least c m n z
unfolding pair_at
pair_parts least c m n z h =
    option_and_then_some (λ (a : ℕ). option_and_then
    (λ (b : ℤ). cond (nat_le least a && not (nat_abs b == 0)) (Some (a, b)) None) (whole_of m)) (natural_of c)
    (n, z) h (λ a cycle h2.
    option_and_then_some (λ (b : ℤ). cond (nat_le least a && not (nat_abs b == 0)) (Some (a, b)) None) (whole_of m) (n, z) h2 (λ b mult h3.
    let t = cond_some (nat_le least a && not (nat_abs b == 0)) (a, b) (n, z) h3 in
    let first : a ≡ n = ap (λ (p : ℕ × ℤ). p.0) t.1 in
    let second : b ≡ z = ap (λ (p : ℕ × ℤ). p.1) t.1 in
    record {
      cycle = cycle ∙ ap Some first;
      mult = mult ∙ ap Some second;
      rises = rw (← first) (grind (arith, nat_tests, t.0));
      nonzero = rw (← second) (grind (arith, nat_tests, t.0));
    }))

-- what the rest gives behind the pairs so far is what all gives
pub record IsJudgedTo (all rest : List (List ℕ)) (least : ℕ) (within : Bool) (number : ℕ) : Type 0 where
  pub same : counted_pairs number within (pairs_from least rest) ≡ count_of_pairs (pairs_from 0 all)
  pub count : number + number + length rest ≡ length all
  pub below : least ≤ NATURALS

pub judged_start : (all : List (List ℕ)) → IsJudgedTo all all 0 true 0
judged_start all = record { same = refl; count = omega arith; below = omega arith }

pub judged_end : (all : List (List ℕ)) (least : ℕ) (within : Bool) (number : ℕ)
    → IsJudgedTo all [] least within number → counted_pairs number within (Some [])
    ≡ count_of_pairs (pairs_from 0 all)
unfolding pairs_from
judged_end all least within number so_far = so_far.same

pub judged_odd : (all : List (List ℕ)) (w : List ℕ) (least : ℕ) (within : Bool) (number : ℕ)
    → IsJudgedTo all (w ∷ []) least within number → Err Number ≡ count_of_pairs (pairs_from 0 all)
unfolding pairs_from
judged_odd all w least within number so_far = so_far.same

pub judged_bad : (all ws : List (List ℕ)) (v w : List ℕ) (least : ℕ) (within : Bool) (number : ℕ)
    → None ≡ pair_at least v w → IsJudgedTo all (v ∷ w ∷ ws) least within number
    → Err Number ≡ count_of_pairs (pairs_from 0 all)
unfolding pairs_from
judged_bad all ws v w least within number bad so_far = (rw (sym bad) refl) ∙ so_far.same

step : (ps : Option (List Pair)) (p : Pair) (within : Bool) (number : ℕ)
    → counted_pairs (number + 1) (within && is_pair_within p) ps
    ≡ counted_pairs number within (option_map (λ qs. p ∷ qs) ps)
step None p within number = refl
step (Some ps) p false number = refl
step (Some ps) p true number =
    let more : number + 1 + length ps ≡ number + suc (length ps) = omega arith in
    rw more refl

pub judged_more : (all ws : List (List ℕ)) (v w : List ℕ) (least n : ℕ) (z : ℤ) (within : Bool) (number : ℕ)
    → Some (n, z) ≡ pair_at least v w → n < NATURALS → IsJudgedTo all (v ∷ w ∷ ws) least within number
    → IsJudgedTo all ws (n + 1) (within && is_pair_within (record { cycle = n; mult = z })) (number + 1)
unfolding pairs_from
judged_more all ws v w least n z within number good lt so_far =
    record {
      same = step (pairs_from (n + 1) ws) (record { cycle = n; mult = z }) within number ∙ (rw (sym good) refl) ∙ so_far.same;
      count = omega (arith, so_far.count);
      below = omega arith;
    }

fits : (z : ℤ) → nat_abs z < NATURALS → FitsSigned w64 z
fits (pos n) lt = omega (arith, ints)
fits (negsuc n) lt = omega (arith, ints)

pub mult_fits : (least : ℕ) (c m : List ℕ) (n : ℕ) (z : ℤ) → Some (n, z) ≡ pair_at least c m → FitsSigned w64 z
mult_fits least c m n z h = fits z (whole_spells m z (pair_parts least c m n z (sym h)).mult).0

-- ---- the pairs that are left

pub no_pair : (least : ℕ) → BeginsPairs None least [] []
unfolding pairs_from
no_pair least = (refl, refl, refl)

pub odd_pair : (least : ℕ) (v : List ℕ) → pairs_are_good (pairs_from least (v ∷ [])) ≡ true → ⊥
unfolding pairs_from
odd_pair least v h = cc

pub bad_pair : (least : ℕ) (v w : List ℕ) (ws : List (List ℕ)) → None ≡ pair_at least v w
    → pairs_are_good (pairs_from least (v ∷ w ∷ ws)) ≡ true → ⊥
unfolding pairs_from
bad_pair least v w ws bad h = let none : false ≡ true = rw (sym bad) at h in cc

pair_step : (p : Pair) (rest : Option (List Pair)) → pairs_are_good (option_map (λ qs. p ∷ qs) rest) ≡ true
    → (is_pair_within p ≡ true) × (pairs_are_good rest ≡ true)
    × (pairs_left (option_map (λ qs. p ∷ qs) rest) ≡ p ∷ pairs_left rest)
pair_step p None h = absurd cc
pair_step p (Some ps) h = (and_left (is_pair_within p) (all_within ps) h, and_right (is_pair_within p) (all_within ps) h, refl)

pub first_pair : (least : ℕ) (v w : List ℕ) (ws : List (List ℕ)) (n : ℕ) (z : ℤ) → Some (n, z) ≡ pair_at least v w
    → pairs_are_good (pairs_from least (v ∷ w ∷ ws)) ≡ true
    → (is_pair_within (record { cycle = n; mult = z }) ≡ true) × BeginsPairs (Some (record { cycle = n; mult = z })) least (v ∷ w ∷ ws) ws
unfolding pairs_from
first_pair least v w ws n z good h =
    let p : Pair = record { cycle = n; mult = z } in
    let s = pair_step p (pairs_from (n + 1) ws) (rw (sym good) at h) in
    rw (sym good) (s.0, (s.1, s.2))

pub cycle_small : (n : ℕ) (z : ℤ) → is_pair_within (record { cycle = n; mult = z }) ≡ true → n ≤ 100000
cycle_small n z h = grind (arith, nat_tests, h)
