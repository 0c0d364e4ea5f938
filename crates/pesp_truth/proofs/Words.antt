-- Sets as the bits of one word.
use Rattle.std.proofs.Common.{◌≡◌, ◌≢◌, ℕ, ◌+◌, ◌-◌, ◌*◌, ◌/◌, ◌%◌, ◌^◌, ◌<◌, ◌≤◌, ◌⊎◌, inl, inr, List, length, get_or, ap, sym, ◌∙◌, arith, true, get_or-set_same, get_or-set_other}
use Rattle.std.specs.Prelude.{bit_and, bit_or, max, min, nat_eq}
use Rattle.std.specs.Int.{bit_at, bit_not, w64, trailing_zeros}
use Rattle.std.proofs.Math.ListN.{set}
use Rattle.std.proofs.Math.Nat.{mod-eq_of_lt}
use Rattle.std.proofs.lemmas.Bool.Decides.{nat_tests}
use Rattle.std.proofs.lemmas.Nat.{and_le_l, shr-shr, shr_split, pow_pos}
use Rattle.std.proofs.lemmas.Nat.Bits.{bit_at_or, bit_at_and, bit_at_not, bit_at_cat_low, bit_at_cat_high, bit_at-zero, bit_at-lt, bit_at-trailing_zeros, bit_at_ones, bit_at_ones_above}
use Rattle.pesp_problem.proofs.Shifts.{mod_more, mod_same, mod_inner}
use Rattle.pesp_truth.specs.Sets.{is_set, padded_period, family_at}
use Rattle.pesp_truth.specs.Visits.{HasSome}
use Rattle.pesp_truth.specs.Windows.{NarrowsFamily}
use Rattle.pesp_truth.specs.Words.{IsCutBelow, IsTurned, HavePartners, SetIsKept}
use Rattle.pesp_truth.proofs.Placing.{at_place, past}
use Rattle.pesp_truth.proofs.Placing as placing

bit_shr : (n r j : ℕ) → bit_at (n / 2 ^ r) j ≡ bit_at n (r + j)
bit_shr n r j = ap (λ (m : ℕ). m % 2) (shr-shr n r j)

bit_mod : (n w j : ℕ) → j < w → bit_at (n % 2 ^ w) j ≡ bit_at n j
bit_mod n w j h = sym (bit_at_cat_low (n / 2 ^ w) w (n % 2 ^ w) j h) ∙ ap (λ (m : ℕ). bit_at m j) (shr_split n w)

bit_shl_low : (n s j : ℕ) → j < 64 → j < s → bit_at (n * 2 ^ s % 2 ^ 64) j ≡ 0
bit_shl_low n s j h l =
    let e : n * 2 ^ s + 0 ≡ n * 2 ^ s = omega arith in
    bit_mod (n * 2 ^ s) 64 j h ∙ (ap (λ (m : ℕ). bit_at m j) (sym e) ∙ (bit_at_cat_low n s 0 j l ∙ bit_at-zero j))

bit_shl_high : (n s j : ℕ) → j < 64 → s ≤ j → bit_at (n * 2 ^ s % 2 ^ 64) j ≡ bit_at n (j - s)
bit_shl_high n s j h l =
    let e : n * 2 ^ s + 0 ≡ n * 2 ^ s = omega arith in
    bit_mod (n * 2 ^ s) 64 j h ∙ (ap (λ (m : ℕ). bit_at m j) (sym e) ∙ bit_at_cat_high n s 0 j (pow_pos s) l)

split : (n k : ℕ) → (n < k) ⊎ (k ≤ n)
split n k = grind arith

-- ---- the part of a word below the period

pub is_below : (t word : ℕ) → 0 < t → t ≤ 64 → IsCutBelow t word (bit_and word (18446744073709551615 / 2 ^ (64 - t)))
is_below t word p l = record {
  inside = λ d m.
      let e : bit_at (18446744073709551615 / 2 ^ (64 - t)) d ≡ 1 = bit_shr 18446744073709551615 (64 - t) d
      ∙ bit_at_ones 64 (64 - t + d) (omega arith) in
      let b : bit_at word d < 2 = bit_at-lt word d in
      bit_at_and word (18446744073709551615 / 2 ^ (64 - t)) d ∙ (ap (λ (m : ℕ). min (bit_at word d) m) e ∙ least (bit_at word d) b);
  above = λ d m.
      let e : bit_at (18446744073709551615 / 2 ^ (64 - t)) d ≡ 0 = bit_shr 18446744073709551615 (64 - t) d
      ∙ bit_at_ones_above 64 (64 - t + d) (omega arith) in
      bit_at_and word (18446744073709551615 / 2 ^ (64 - t)) d ∙ (ap (λ (m : ℕ). min (bit_at word d) m) e ∙ none (bit_at word d));
}
  where
    least : (b : ℕ) → b < 2 → min b 1 ≡ b
    least b l = omega arith

    none : (b : ℕ) → min b 0 ≡ 0
    none b = omega arith

-- ---- turning

pub turned_none : (t shift set : ℕ) → shift ≡ 0 → ((d : ℕ) → t ≤ d → bit_at set d ≡ 0) → IsTurned t shift set set
turned_none t shift set e above = record {
  inside = λ d l. let q : d + shift ≡ d = omega arith in ap (λ (m : ℕ). bit_at set m) (sym (mod_same (d + shift) d t q ∙ mod-eq_of_lt l));
  above = above;
}

pub is_turned : (t shift set round : ℕ) → t ≤ 64 → shift < t → ((d : ℕ) → t ≤ d → bit_at set d ≡ 0)
    → IsCutBelow t (set * 2 ^ (t - shift) % 2 ^ 64) round → IsTurned t shift set (bit_or (set / 2 ^ shift) round)
is_turned t shift set round few l above h = record {
  inside = λ d m. elim (split (d + shift) t) [
    | inl k ↦
        let a : bit_at (set / 2 ^ shift) d ≡ bit_at set (shift + d) = bit_shr set shift d in
        let b : bit_at round d ≡ 0 = h.inside d m ∙ bit_shl_low set (t - shift) d (omega arith) (omega arith) in
        let q : shift + d ≡ (d + shift) % t = let u : shift + d ≡ d + shift = omega arith in u ∙ sym (mod-eq_of_lt k) in
        bit_at_or (set / 2 ^ shift) round d ∙ (first _ _ b ∙ (a ∙ ap (λ (m : ℕ). bit_at set m) q))
    | inr k ↦
        let a : bit_at (set / 2 ^ shift) d ≡ 0 = bit_shr set shift d ∙ above (shift + d) (omega arith) in
        let b : bit_at round d ≡ bit_at set (d - (t - shift)) = h.inside d m ∙ bit_shl_high set (t - shift) d (omega arith) (omega arith) in
        let u : d + shift ≡ d - (t - shift) + t = omega arith in
        let v : d - (t - shift) < t = omega arith in
        let q : d - (t - shift) ≡ (d + shift) % t = sym (mod_same _ _ t u ∙ (mod_more (d - (t - shift)) t ∙ mod-eq_of_lt v)) in
        bit_at_or (set / 2 ^ shift) round d ∙ (second _ _ a ∙ (b ∙ ap (λ (m : ℕ). bit_at set m) q))
  ];
  above = λ d m.
      let a : bit_at (set / 2 ^ shift) d ≡ 0 = bit_shr set shift d ∙ above (shift + d) (omega arith) in
      bit_at_or (set / 2 ^ shift) round d ∙ (second _ _ a ∙ h.above d m);
}
  where
    first : (a b : ℕ) → b ≡ 0 → max a b ≡ a
    first a b e = omega arith

    second : (a b : ℕ) → a ≡ 0 → max a b ≡ b
    second a b e = omega arith

-- ---- joining

-- where a shift leads from where another leads
led : (t first d k j : ℕ) → 0 < t → (d + (first + (k + j))) % t ≡ ((d + k) % t + (first + j)) % t
led t first d k j p =
    let a : d + (first + (k + j)) ≡ (first + j) + (d + k) = omega arith in
    let b : (first + j) + (d + k) % t ≡ (d + k) % t + (first + j) = omega arith in
    mod_same _ _ t a ∙ (sym (mod_inner (first + j) (d + k) t p) ∙ mod_same _ _ t b)

along : (set a b : ℕ) → a ≡ b → bit_at set b ≡ 1 → bit_at set a ≡ 1
along set a b e s = ap (λ (m : ℕ). bit_at set m) e ∙ s

never : {A : Type 0} (b : ℕ) → b ≡ 0 → b ≡ 1 → A
never b e f = absurd (omega arith)

pub partners_none : (t first set count : ℕ) → count ≡ 0 → HavePartners t first count set 0
partners_none t first set count e = record {
  found = λ d s. never (bit_at 0 d) (bit_at-zero d) s;
  all = λ d l h. let m = h.1 in absurd (omega arith);
  above = λ d l. bit_at-zero d;
}

pub partners_one : (t first set new : ℕ) → IsTurned t first set new → HavePartners t first 1 set new
partners_one t first set new h = record {
  found = λ d s. elim (split d t) [
    | inl l ↦ let q : d + (first + 0) ≡ d + first = omega arith in
        (0, (let o : 0 < 1 = omega arith in o), along set _ _ (mod_same _ _ t q) (sym (h.inside d l) ∙ s))
    | inr m ↦ never (bit_at new d) (h.above d m) s
  ];
  all = λ d l k. let m = k.1 in let q : d + first ≡ d + (first + k.0) = omega arith in
      h.inside d l ∙ along set _ _ (mod_same _ _ t q) (k.2);
  above = h.above;
}

pub partners_more : (t first n k set old more : ℕ) → 0 < t → k ≤ n → HavePartners t first n set old
    → IsTurned t k old more → HavePartners t first (n + k) set (bit_or old more)
partners_more t first n k set old more p few h m = record {
  found = λ d s. elim (either (bit_at old d) (bit_at more d) (bit_at-lt old d) (bit_at-lt more d) (sym (bit_at_or old more d) ∙ s)) [
    | inl a ↦ let f = h.found d a in let l = f.1 in (f.0, (let o : f.0 < n + k = omega arith in o), f.2)
    | inr b ↦ elim (split d t) [
      | inl l ↦
          let f = h.found ((d + k) % t) (sym (m.inside d l) ∙ b) in
          let o = f.1 in
          (k + f.0, (let q : k + f.0 < n + k = omega arith in q), along set _ _ (led t first d k f.0 p) (f.2))
      | inr a ↦ never (bit_at more d) (m.above d a) b
    ]
  ];
  all = λ d l f. elim (split (f.0) n) [
    | inl o ↦ bit_at_or old more d ∙ left_one _ _ (bit_at-lt more d) (h.all d l (f.0, o, f.2))
    | inr o ↦
        let b = f.1 in
        let i : ℕ = f.0 - k in
        let q : d + (first + (k + i)) ≡ d + (first + f.0) = omega arith in
        let e : ((d + k) % t + (first + i)) % t ≡ (d + (first + f.0)) % t = sym (led t first d k i p) ∙ mod_same _ _ t q in
        let u : (d + k) % t < t = omega arith in
        let v : i < n = omega arith in
        bit_at_or old more d ∙ right_one _ _ (bit_at-lt old d) (m.inside d l ∙ h.all ((d + k) % t) u (i, v, along set _ _ e (f.2)))
  ];
  above = λ d l. bit_at_or old more d ∙ both_zero _ _ (h.above d l) (m.above d l);
}
  where
    either : (a b : ℕ) → a < 2 → b < 2 → max a b ≡ 1 → (a ≡ 1) ⊎ (b ≡ 1)
    either a b l m e = grind arith

    left_one : (a b : ℕ) → b < 2 → a ≡ 1 → max a b ≡ 1
    left_one a b l e = omega arith

    right_one : (a b : ℕ) → a < 2 → b ≡ 1 → max a b ≡ 1
    right_one a b l e = omega arith

    both_zero : (a b : ℕ) → a ≡ 0 → b ≡ 0 → max a b ≡ 0
    both_zero a b e f = omega arith

-- ---- keeping

pub is_kept : (t event others part : ℕ) (ws : List ℕ) → t ≤ 64 → event < length ws → others < 2 ^ 64
    → part < 2 ^ 64 → IsCutBelow t (get_or ws event 0) part
    → SetIsKept t event others ws (set ws event (bit_and (get_or ws event 0)
    (bit_not w64 (bit_and part (bit_not w64 others)))))
is_kept t event others part ws few l lo lp h =
    let w : ℕ = get_or ws event 0 in
    let gone : ℕ = bit_and part (bit_not w64 others) in
    let lg : gone < 2 ^ 64 = let m = and_le_l part (bit_not w64 others) in omega arith in
    record {
      else = λ i ne. get_or-set_other ws event i (bit_and w (bit_not w64 gone)) 0 ne;
      bits = λ d m.
          let b : d < 64 = omega arith in
          let e : get_or (set ws event (bit_and w (bit_not w64 gone))) event 0
          ≡ bit_and w (bit_not w64 gone) = get_or-set_same ws event (bit_and w (bit_not w64 gone)) 0 l in
          let x : bit_at gone d ≡ min (bit_at part d) (1 - bit_at others d) =
          bit_at_and part (bit_not w64 others) d ∙ ap (λ (m : ℕ). min (bit_at part d) m)
          (bit_at_not w64 others d lo b) in
          let y : bit_at (bit_and w (bit_not w64 gone)) d
          ≡ min (bit_at w d) (1 - bit_at gone d) = bit_at_and w (bit_not w64 gone) d
          ∙ ap (λ (m : ℕ). min (bit_at w d) m) (bit_at_not w64 gone d lg b) in
          ap (λ (m : ℕ). bit_at m d) e ∙ (y ∙ bits (bit_at w d) (bit_at part d) (bit_at others d) (bit_at gone d)
          (bit_at-lt w d) (bit_at-lt others d) (h.inside d m) x);
    }
  where
    bits : (w p o g : ℕ) → w < 2 → o < 2 → p ≡ w → g ≡ min p (1 - o) → min w (1 - g) ≡ min w o
    bits w p o g lw lo e f = omega arith

-- ---- the sets of events

span_one : (t : ℕ) → 0 < t → t ≤ 64 → padded_period t ≡ 64
unfolding padded_period
span_one t p l = omega arith

pub word_within : (ws : List ℕ) (t event : ℕ) → 0 < t → t ≤ 64 → event * padded_period t + padded_period t ≤ 64 * length ws → event < length ws
word_within ws t event p l h =
    let e : padded_period t ≡ 64 = span_one t p l in
    let m : event * padded_period t ≡ event * 64 = ap (λ x. event * x) e in
    omega arith

at_word : (ws : List ℕ) (event d place : ℕ) → place / 64 ≡ event → place % 64 ≡ d
    → is_set ws place ≡ nat_eq (bit_at (get_or ws event 0) d) 1
unfolding is_set
at_word ws event d place q r = ap (λ (m : ℕ). nat_eq (bit_at (get_or ws m 0) (place % 64)) 1) q
    ∙ ap (λ (m : ℕ). nat_eq (bit_at (get_or ws event 0) m) 1) r

-- a set is in its event's word
in_word : (t event d : ℕ) (ws : List ℕ) → 0 < t → t ≤ 64 → d < t → family_at t ws event d ≡ nat_eq (bit_at (get_or ws event 0) d) 1
in_word t event d ws p l m =
    let e : event * padded_period t ≡ event * 64 = ap (λ x. event * x) (span_one t p l) in
    at_place t event d ws m ∙ at_word ws event d (event * padded_period t + d) (omega arith) (omega arith)

one_is : (b : ℕ) → b ≡ 1 → nat_eq b 1 ≡ true
one_is b e = grind (arith, nat_tests)

is_one : (b : ℕ) → nat_eq b 1 ≡ true → b ≡ 1
is_one b e = grind (arith, nat_tests)

has_bit : (t event d : ℕ) (ws : List ℕ) → 0 < t → t ≤ 64 → family_at t ws event d ≡ true → bit_at (get_or ws event 0) d ≡ 1
has_bit t event d ws p l s = is_one _ (sym (in_word t event d ws p l (placing.below t event d ws s)) ∙ s)

bit_has : (t event d : ℕ) (ws : List ℕ) → 0 < t → t ≤ 64 → d < t → bit_at (get_or ws event 0) d ≡ 1 → family_at t ws event d ≡ true
bit_has t event d ws p l m s = in_word t event d ws p l m ∙ one_is _ s

pub narrowed_word : (t kept other first count set partners : ℕ) (xs ys : List ℕ) → 0 < t → t ≤ 64
    → IsCutBelow t (get_or xs other 0) set → HavePartners t first count set partners → SetIsKept t kept partners xs ys
    → NarrowsFamily t kept other first count (family_at t xs) (family_at t ys)
narrowed_word t kept other first count set partners xs ys p l h m k = record {
  else = λ event d ne. elim (split d t) [
    | inl b ↦ in_word t event d ys p l b ∙ (ap (λ (w : ℕ). nat_eq (bit_at w d) 1) (k.else event ne) ∙ sym (in_word t event d xs p l b))
    | inr b ↦ past t event d ys b ∙ sym (past t event d xs b)
  ];
  was = λ d s.
      let b = placing.below t kept d ys s in
      bit_has t kept d xs p l b (both _ _ _ (bit_at-lt _ _) (bit_at-lt _ _) (k.bits d b) (has_bit t kept d ys p l s)).0;
  found = λ d s.
      let b = placing.below t kept d ys s in
      let f = m.found d (both _ _ _ (bit_at-lt _ _) (bit_at-lt _ _) (k.bits d b) (has_bit t kept d ys p l s)).1 in
      let u : (d + (first + f.0)) % t < t = omega arith in
      (f.0, f.1, bit_has t other _ xs p l u (sym (h.inside _ u) ∙ f.2));
  all = λ d s f.
      let b = placing.below t kept d xs s in
      let u : (d + (first + f.0)) % t < t = omega arith in
      let o : bit_at partners d ≡ 1 = m.all d b (f.0, f.1, h.inside _ u ∙ has_bit t other _ xs p l (f.2)) in
      bit_has t kept d ys p l b (k.bits d b ∙ least _ _ (has_bit t kept d xs p l s) o);
}
  where
    both : (a b c : ℕ) → a < 2 → b < 2 → c ≡ min a b → c ≡ 1 → (a ≡ 1) × (b ≡ 1)
    both a b c la lb e f = (let x : a ≡ 1 = omega arith in x, let y : b ≡ 1 = omega arith in y)

    least : (a b : ℕ) → a ≡ 1 → b ≡ 1 → min a b ≡ 1
    least a b e f = omega arith

-- ---- a set with a number

pub some_number : (t event set : ℕ) (ws : List ℕ) → 0 < t → t ≤ 64 → set < 2 ^ 64
    → IsCutBelow t (get_or ws event 0) set → set ≢ 0 → HasSome (family_at t ws) event
some_number t event set ws p l b h ne =
    let f = bit_at-trailing_zeros w64 set (positive set ne) b in
    let d : ℕ = trailing_zeros w64 set in
    elim (split d t) [
      | inl m ↦ (d, bit_has t event d ws p l m (sym (h.inside d m) ∙ f.1))
      | inr m ↦ never (bit_at set d) (h.above d m) (f.1)
    ]
  where
    positive : (n : ℕ) → n ≢ 0 → 0 < n
    positive n h = omega arith

pub no_number : (t event set : ℕ) (ws : List ℕ) → 0 < t → t ≤ 64 → IsCutBelow t (get_or ws event 0) set
    → HasSome (family_at t ws) event → set ≢ 0
no_number t event set ws p l h s e =
    let m = placing.below t event s.0 ws s.1 in
    let o : bit_at set s.0 ≡ 1 = h.inside s.0 m ∙ has_bit t event s.0 ws p l s.1 in
    never (bit_at set s.0) (ap (λ (n : ℕ). bit_at n s.0) e ∙ bit_at-zero s.0) o
