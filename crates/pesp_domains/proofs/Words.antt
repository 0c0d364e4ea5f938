-- Bits of words under shifts.
use Rattle.std.proofs.Common.{◌≡◌, ℕ, ◌+◌, ◌-◌, ◌*◌, ◌/◌, ◌%◌, ◌^◌, ◌<◌, ◌≤◌, ◌⊎◌, ◌≢◌, List, length, get_or, refl, ap, sym, ◌∙◌, arith, inl, inr, get_or-set_same, get_or-set_other, add-zero, subst, Bool, true, false, sum}
use Rattle.std.proofs.Math.ListN.{set}
use Rattle.std.proofs.Math.Nat.{div-one, add-mul-mod_self_left, mod-eq_of_lt}
use Rattle.std.proofs.lemmas.List.{get_or_past, set-get_or}
use Rattle.std.proofs.lemmas.List.Sums.{sum_by-set}
use Rattle.std.proofs.lemmas.Bool.Decides.{nat_tests}
use Rattle.std.specs.Int.Bits.{or_zero_r}
use Rattle.std.specs.Prelude.{◌||◌, not, ◌==◌, bit_or, bit_and, max, min}
use Rattle.std.specs.Int.{bit_at, w64, trailing_zeros}
use Rattle.std.proofs.lemmas.Nat.{and_le_l, one_shl, shr-shr, shr_split, pow_pos}
use Rattle.std.proofs.lemmas.Nat.Bits.{bit_at_or, bit_at_and, bit_at_cat_low, bit_at_cat_high, bit_at_above, bit_at-zero, bit_at-lt, bit_at-trailing_zeros, bit_at_ones, bit_at_ones_above}
use Rattle.pesp_problem.specs.Words.{IsLess}
use Rattle.pesp_domains.specs.Bits.{bit, ahead, IsWindow, IsTwice, IsTwiceAt, KeepsShifted, KeepsShiftedAt, KeepsSupported}

pub bit_shr : (n r j : ℕ) → bit_at (n / 2 ^ r) j ≡ bit_at n (r + j)
bit_shr n r j = ap (λ (m : ℕ). m % 2) (shr-shr n r j)

pub bit_mod : (n w j : ℕ) → j < w → bit_at (n % 2 ^ w) j ≡ bit_at n j
bit_mod n w j h = sym (bit_at_cat_low (n / 2 ^ w) w (n % 2 ^ w) j h) ∙ ap (λ (m : ℕ). bit_at m j) (shr_split n w)

pub bit_shl_low : (n s j : ℕ) → j < 64 → j < s → bit_at (n * 2 ^ s % 2 ^ 64) j ≡ 0
bit_shl_low n s j h l =
    let e : n * 2 ^ s + 0 ≡ n * 2 ^ s = omega arith in
    bit_mod (n * 2 ^ s) 64 j h ∙ (ap (λ (m : ℕ). bit_at m j) (sym e) ∙ (bit_at_cat_low n s 0 j l ∙ bit_at-zero j))

pub bit_shl_high : (n s j : ℕ) → j < 64 → s ≤ j → bit_at (n * 2 ^ s % 2 ^ 64) j ≡ bit_at n (j - s)
bit_shl_high n s j h l =
    let e : n * 2 ^ s + 0 ≡ n * 2 ^ s = omega arith in
    bit_mod (n * 2 ^ s) 64 j h ∙ (ap (λ (m : ℕ). bit_at m j) (sym e) ∙ bit_at_cat_high n s 0 j (pow_pos s) l)

max_zero : (a : ℕ) → max a 0 ≡ a
max_zero a = omega arith

zero_max : (a : ℕ) → max 0 a ≡ a
zero_max a = omega arith

pub bit_ahead_low : (lo hi r j : ℕ) → j < 64 → r + j < 64 → bit_at (bit_or (lo / 2 ^ r) (hi * 2 ^ (64 - r) % 2 ^ 64)) j ≡ bit_at lo (r + j)
bit_ahead_low lo hi r j h l =
    let low : bit_at (lo / 2 ^ r) j ≡ bit_at lo (r + j) = bit_shr lo r j in
    let high : bit_at (hi * 2 ^ (64 - r) % 2 ^ 64) j ≡ 0 = bit_shl_low hi (64 - r) j h (omega arith) in
    bit_at_or (lo / 2 ^ r) (hi * 2 ^ (64 - r) % 2 ^ 64) j
    ∙ (ap (λ (m : ℕ). max (bit_at (lo / 2 ^ r) j) m) high ∙ (max_zero (bit_at (lo / 2 ^ r) j) ∙ low))

pub bit_ahead_high : (lo hi r j : ℕ) → lo < 2 ^ 64 → j < 64 → r < 64 → 64 ≤ r + j
    → bit_at (bit_or (lo / 2 ^ r) (hi * 2 ^ (64 - r) % 2 ^ 64)) j ≡ bit_at hi (j - (64 - r))
bit_ahead_high lo hi r j w h k l =
    let low : bit_at (lo / 2 ^ r) j ≡ 0 = bit_shr lo r j ∙ bit_at_above lo 64 (r + j) w l in
    let high : bit_at (hi * 2 ^ (64 - r) % 2 ^ 64) j ≡ bit_at hi (j - (64 - r)) = bit_shl_high hi (64 - r) j h (omega arith) in
    bit_at_or (lo / 2 ^ r) (hi * 2 ^ (64 - r) % 2 ^ 64) j
    ∙ (ap (λ (m : ℕ). max m (bit_at (hi * 2 ^ (64 - r) % 2 ^ 64) j)) low
    ∙ (zero_max (bit_at (hi * 2 ^ (64 - r) % 2 ^ 64) j) ∙ high))

-- bit j of the 64 bits from p on is the bit p + j
pub bit-ahead : (ws : List ℕ) (p j : ℕ) → ((m : ℕ) → get_or ws m 0 < 2 ^ 64) → j < 64 → bit_at (ahead ws p) j ≡ bit ws (p + j)
bit-ahead ws p j w h =
    elim (split (p % 64 + j)) [
      | inl l ↦
          let q : (p + j) / 64 ≡ p / 64 = omega arith in
          let r : (p + j) % 64 ≡ p % 64 + j = omega arith in
          bit_ahead_low (get_or ws (p / 64) 0) (get_or ws (p / 64 + 1) 0) (p % 64) j h l ∙ cong ws q r
      | inr l ↦
          let q : (p + j) / 64 ≡ p / 64 + 1 = omega arith in
          let r : (p + j) % 64 ≡ j - (64 - p % 64) = omega arith in
          bit_ahead_high (get_or ws (p / 64) 0) (get_or ws (p / 64 + 1) 0) (p % 64) j (w (p / 64)) h (omega arith) l ∙ cong ws q r
    ]
  where
    split : (n : ℕ) → (n < 64) ⊎ (64 ≤ n)
    split n = grind arith

    cong : (ws : List ℕ) {a b c d : ℕ} → b ≡ a → d ≡ c → bit_at (get_or ws a 0) c ≡ bit_at (get_or ws b 0) d
    cong ws q r = cc

pub ahead_whole : (ws : List ℕ) (p : ℕ) → p % 64 ≡ 0 → get_or ws (p / 64) 0 ≡ ahead ws p
ahead_whole ws p h = sym (step (get_or ws (p / 64) 0) (get_or ws (p / 64 + 1) 0) (p % 64) h)
  where
    plain : (lo hi : ℕ) → bit_or (lo / 2 ^ 0) (hi * 2 ^ (64 - 0) % 2 ^ 64) ≡ lo
    plain lo hi =
        let e : lo / 2 ^ 0 ≡ lo = div-one lo in
        let z : hi * 2 ^ (64 - 0) % 2 ^ 64 ≡ 0 = omega arith in
        ap (λ (m : ℕ). bit_or m (hi * 2 ^ (64 - 0) % 2 ^ 64)) e ∙ (ap (λ (m : ℕ). bit_or lo m) z ∙ or_zero_r lo)

    step : (lo hi r : ℕ) → r ≡ 0 → bit_or (lo / 2 ^ r) (hi * 2 ^ (64 - r) % 2 ^ 64) ≡ lo
    step lo hi r e = let P : ℕ → Type 0 = λ r. bit_or (lo / 2 ^ r) (hi * 2 ^ (64 - r) % 2 ^ 64) ≡ lo in subst P (sym e) (plain lo hi)

-- one word more was joined with what is ahead of it
pub record Joins (first old : List ℕ) (k by : ℕ) : Type 0 where
  pub done : (d : ℕ) → d / 64 < k → bit old d ≡ max (bit first d) (bit first (d + by))
  pub left : (m : ℕ) → k ≤ m → get_or old m 0 ≡ get_or first m 0

bit_same : (xs ys : List ℕ) (d e : ℕ) → d ≡ e → get_or xs (d / 64) 0 ≡ get_or ys (d / 64) 0 → bit xs d ≡ bit ys e
bit_same xs ys d e p q = ap (λ (m : ℕ). bit_at m (d % 64)) q ∙ ap (λ (m : ℕ). bit ys m) p

pub bit_set_here : (xs : List ℕ) (k v d : ℕ) → k < length xs → d / 64 ≡ k → bit (set xs k v) d ≡ bit_at v (d % 64)
bit_set_here xs k v d l e = ap (λ (m : ℕ). bit_at m (d % 64)) (ap (λ (m : ℕ). get_or (set xs k v) m 0) e ∙ get_or-set_same xs k v 0 l)

pub bit_set_else : (xs : List ℕ) (k v d : ℕ) → d / 64 ≢ k → bit (set xs k v) d ≡ bit xs d
bit_set_else xs k v d ne = bit_same (set xs k v) xs d d refl (get_or-set_other xs k (d / 64) v 0 ne)

lt-or-same : (k n : ℕ) → k < n + 1 → (k < n) ⊎ (k ≡ n)
lt-or-same k n h = grind arith

pub joins_more : (first old : List ℕ) (k by more : ℕ)
    → ((j : ℕ) → j < 64 → bit_at more j ≡ bit old (64 * k + by + j)) → k < length old → Joins first old k by
    → Joins first (set old k (bit_or (get_or old k 0) more)) (k + 1) by
joins_more first old k by more w l h = let v : ℕ = bit_or (get_or old k 0) more in record {
  done = λ d b.
      elim (lt-or-same (d / 64) k b) [
        | inl m ↦ bit_set_else old k v d (λ e. omega arith) ∙ h.done d m
        | inr e ↦
            let low : bit_at (get_or old k 0) (d % 64)
            ≡ bit first d = ap (λ (m : ℕ). bit_at m (d % 64))
            (h.left k (omega arith) ∙ ap (λ (m : ℕ). get_or first m 0) (sym e)) in
            let place : 64 * k + by + d % 64 ≡ d + by = omega arith in
            let high : bit_at more (d % 64) ≡ bit first (d + by) = w (d % 64) (omega arith)
            ∙ bit_same old first (64 * k + by + d % 64) (d + by) place
            (h.left ((64 * k + by + d % 64) / 64) (omega arith)) in
            bit_set_here old k v d l e ∙ (bit_at_or (get_or old k 0) more (d % 64)
            ∙ (ap (λ (m : ℕ). max m (bit_at more (d % 64))) low ∙ ap (λ (m : ℕ). max (bit first d) m) high))
      ];
  left = λ m b. get_or-set_other old k m v 0 (λ e. omega arith) ∙ h.left m (omega arith);
}

pub bit_past : (ws : List ℕ) (d : ℕ) → length ws ≤ d / 64 → bit ws d ≡ 0
bit_past ws d h = ap (λ (m : ℕ). bit_at m (d % 64)) (get_or_past ws (d / 64) 0 h) ∙ bit_at-zero (d % 64)

pub joins_all : (first last : List ℕ) (k by : ℕ) → length last ≡ length first → length first ≤ k
    → Joins first last k by → (d : ℕ) → bit last d ≡ max (bit first d) (bit first (d + by))
joins_all first last k by e l h d =
    elim (split (d / 64) k) [
      | inl m ↦ h.done d m
      | inr m ↦
          let a : bit last d ≡ 0 = bit_past last d (omega arith) in
          let b : bit first d ≡ 0 = bit_past first d (omega arith) in
          let c : bit first (d + by) ≡ 0 = bit_past first (d + by) (omega arith) in
          zeros (bit last d) (bit first d) (bit first (d + by)) a b c
    ]
  where
    split : (n k : ℕ) → (n < k) ⊎ (k ≤ n)
    split n k = grind arith

    zeros : (a b c : ℕ) → a ≡ 0 → b ≡ 0 → c ≡ 0 → a ≡ max b c
    zeros a b c p q r = omega arith

split_at : (n k : ℕ) → (n < k) ⊎ (k ≤ n)
split_at n k = grind arith

pub window_none : (old new : List ℕ) → ((d : ℕ) → bit new d ≡ 0) → IsWindow old new 0
window_none old new h = record { found = λ d s. let z : bit new d ≡ 0 = h d in absurd (omega arith); all = λ d j l s. absurd (omega arith) }

pub cleared : (ws : List ℕ) (k : ℕ) → length ws ≤ k → ((m : ℕ) → m < k → get_or ws m 0 ≡ 0) → (d : ℕ) → bit ws d ≡ 0
cleared ws k l h d =
    elim (split_at (d / 64) k) [
      | inl m ↦ ap (λ (n : ℕ). bit_at n (d % 64)) (h (d / 64) m) ∙ bit_at-zero (d % 64)
      | inr m ↦ bit_past ws d (omega arith)
    ]

pub window_one : (ws : List ℕ) → IsWindow ws ws 1
window_one ws = record {
  found = λ d h. (0, omega arith, ap (λ (m : ℕ). bit ws m) (add-zero d) ∙ h);
  all = λ d j l h. let e : d + j ≡ d = omega arith in sym (ap (λ (m : ℕ). bit ws m) e) ∙ h;
}

one_of : (a b : ℕ) → a < 2 → b < 2 → max a b ≡ 1 → (a ≡ 1) ⊎ (b ≡ 1)
one_of a b h k e = grind arith

max_left : (a b : ℕ) → b < 2 → a ≡ 1 → max a b ≡ 1
max_left a b l h = omega arith

max_right : (a b : ℕ) → a < 2 → b ≡ 1 → max a b ≡ 1
max_right a b l h = omega arith

pub bit-lt : (ws : List ℕ) (d : ℕ) → bit ws d < 2
bit-lt ws d = bit_at-lt (get_or ws (d / 64) 0) (d % 64)

pub window_more : (first old new : List ℕ) (count by : ℕ) → 0 < by → by ≤ count → IsWindow first old count
    → ((d : ℕ) → bit new d ≡ max (bit old d) (bit old (d + by))) → IsWindow first new (count + by)
window_more first old new count by l h w e = record {
  found = λ d s.
      elim (one_of (bit old d) (bit old (d + by)) (bit-lt old d) (bit-lt old (d + by)) (sym (e d) ∙ s)) [
        | inl p ↦ let f = w.found d p in (f.0, omega (arith, f.1), f.2)
        | inr p ↦ let f = w.found (d + by) p in let q : d + by + f.0 ≡ d + (by + f.0) = omega arith in
            (by + f.0, omega (arith, f.1), sym (ap (λ (m : ℕ). bit first m) q) ∙ f.2)
      ];
  all = λ d j b s.
      elim (split j count) [
        | inl m ↦ e d ∙ max_left (bit old d) (bit old (d + by)) (bit-lt old (d + by)) (w.all d j m s)
        | inr m ↦
            let q : d + j ≡ d + by + (j - by) = omega arith in
            e d ∙ max_right (bit old d) (bit old (d + by)) (bit-lt old d)
            (w.all (d + by) (j - by) (omega arith) (sym (ap (λ (m : ℕ). bit first m) q) ∙ s))
      ];
}
  where
    split : (n k : ℕ) → (n < k) ⊎ (k ≤ n)
    split n k = grind arith

pub behind_high : (ws : List ℕ) (w k by j : ℕ) → w ≡ get_or ws 0 0 → 64 * k < by → by - 64 * k < 64 → j < 64
    → by ≤ 64 * k + j → bit_at (w * 2 ^ (by - 64 * k) % 2 ^ 64) j ≡ bit ws (64 * k + j - by)
behind_high ws w k by j e a s h l =
    let q : (64 * k + j - by) / 64 ≡ 0 = omega arith in
    let r : (64 * k + j - by) % 64 ≡ j - (by - 64 * k) = omega arith in
    let x : bit_at w (j - (by - 64 * k)) ≡ bit_at (get_or ws 0 0) (j - (by - 64 * k)) = ap (λ (m : ℕ). bit_at m (j - (by - 64 * k))) e in
    let y : bit_at (get_or ws ((64 * k + j - by) / 64) 0) ((64 * k + j - by) % 64)
    ≡ bit_at (get_or ws 0 0) (j - (by - 64 * k)) =
    ap (λ (m : ℕ). bit_at (get_or ws m 0) ((64 * k + j - by) % 64)) q
    ∙ ap (λ (m : ℕ). bit_at (get_or ws 0 0) m) r in
    bit_shl_high w (by - 64 * k) j h (omega arith) ∙ (x ∙ sym y)

-- the bits of a word from a place on, of the set moved up
pub record IsBehind (ws : List ℕ) (k by v : ℕ) : Type 0 where
  pub above : (j : ℕ) → j < 64 → by ≤ 64 * k + j → bit_at v j ≡ bit ws (64 * k + j - by)
  pub below : (j : ℕ) → j < 64 → 64 * k + j < by → bit_at v j ≡ 0

mod_once : (d t : ℕ) → d < t → d % t ≡ d
mod_once d t h = mod-eq_of_lt h

mod_more : (d t : ℕ) → (d + t) % t ≡ d % t
mod_more d t = let e : d + t * 1 ≡ d + t = omega arith in ap (λ (m : ℕ). m % t) (sym e) ∙ add-mul-mod_self_left d t 1

mod_less : (d t : ℕ) → t ≤ d → d < 2 * t → d % t ≡ d - t
mod_less d t h l = let e : d - t + t ≡ d = omega arith in
    ap (λ (m : ℕ). m % t) (sym e) ∙ (mod_more (d - t) t ∙ mod_once (d - t) t (omega arith))

pub record Laying (period : ℕ) (old first new : List ℕ) (k : ℕ) : Type 0 where
  pub done : (d : ℕ) → d / 64 < k → IsTwiceAt period old new d

either : (n a b : ℕ) → n ≡ max a b → a < 2 → b < 2 → n ≡ 1 → (a ≡ 1) ⊎ (b ≡ 1)
either n a b e h k l = one_of a b h k (sym e ∙ l)

twice_at : (period : ℕ) (old new : List ℕ) (d a b : ℕ) → 0 < period → ((d : ℕ) → period ≤ d → bit old d ≡ 0)
    → bit new d ≡ max a b → a ≡ bit old d → (period ≤ d → b ≡ bit old (d - period)) → (d < period → b ≡ 0)
    → IsTwiceAt period old new d
twice_at period old new d a b p clear e ea eb ez =
    elim (split_at d period) [
      | inl l ↦
          let z : b ≡ 0 = ez l in
          let r : d % period ≡ d = mod_once d period l in
          let n : bit new d ≡ a = omega arith in
          let o : bit old (d % period) ≡ a = ap (λ (m : ℕ). bit old m) r ∙ sym ea in
          record { found = λ s. (omega arith, o ∙ (sym n ∙ s)); all = λ _ s. n ∙ (sym o ∙ s) }
      | inr l ↦
          let z : a ≡ 0 = ea ∙ clear d l in
          let y : b ≡ bit old (d - period) = eb l in
          let n : bit new d ≡ bit old (d - period) = omega arith in
          record {
            found = λ s.
                elim (split_at (d - period) period) [
                  | inl m ↦ (omega arith, ap (λ (m : ℕ). bit old m) (mod_less d period l (omega arith)) ∙ (sym n ∙ s))
                  | inr m ↦ let q : bit old (d - period) ≡ 0 = clear (d - period) m in absurd (omega arith)
                ];
            all = λ m s. n ∙ (sym (ap (λ (m : ℕ). bit old m) (mod_less d period l m)) ∙ s);
          }
    ]

twice_kept : (period : ℕ) (old xs ys : List ℕ) (d : ℕ) → bit ys d ≡ bit xs d → IsTwiceAt period old xs d → IsTwiceAt period old ys d
twice_kept period old xs ys d e h = record { found = λ s. h.found (sym e ∙ s); all = λ l s. e ∙ h.all l s }

pub laying_more : (period : ℕ) (old first new : List ℕ) (k once again : ℕ) → 0 < period
    → ((d : ℕ) → period ≤ d → bit old d ≡ 0) → k < length new
    → ((j : ℕ) → j < 64 → bit_at once j ≡ bit old (64 * k + j)) → IsBehind old k period again
    → Laying period old first new k → Laying period old first (set new k (bit_or once again)) (k + 1)
laying_more period old first new k once again p clear l ho ha h = record {
  done = λ d b.
      elim (lt-or-same (d / 64) k b) [
        | inl m ↦ twice_kept period old new (set new k (bit_or once again)) d
            (bit_set_else new k (bit_or once again) d (λ e. omega arith)) (h.done d m)
        | inr e ↦
            let q : 64 * k + d % 64 ≡ d = omega arith in
            let j : d % 64 < 64 = omega arith in
            twice_at period old (set new k (bit_or once again)) d (bit_at once (d % 64)) (bit_at again (d % 64)) p clear
            (bit_set_here new k (bit_or once again) d l e ∙ bit_at_or once again (d % 64))
            (ho (d % 64) j ∙ ap (λ (m : ℕ). bit old m) q)
            (λ g. ha.above (d % 64) j (omega arith) ∙ ap (λ (m : ℕ). bit old (m - period)) q)
            (λ g. ha.below (d % 64) j (omega arith))
      ];
}

pub laying_all : (period : ℕ) (old first last : List ℕ) (k : ℕ) → 2 * period ≤ 64 * length last → length last ≤ k
    → Laying period old first last k → IsTwice period old last
laying_all period old first last k r l h d =
    elim (split_at (d / 64) k) [
      | inl m ↦ h.done d m
      | inr m ↦
          let z : bit last d ≡ 0 = bit_past last d (omega arith) in
          record { found = λ s. absurd (omega arith); all = λ b s. absurd (omega arith) }
    ]

pub record Shifting (old new wide : List ℕ) (down up k : ℕ) : Type 0 where
  pub done : (d : ℕ) → d / 64 < k → KeepsShiftedAt old new wide down up d
  pub left : (m : ℕ) → k ≤ m → get_or new m 0 ≡ get_or old m 0

shifted_at : (old new wide : List ℕ) (down up d o a b : ℕ) → o < 2 → a < 2 → b < 2 → bit new d ≡ min o (max a b)
    → o ≡ bit old d → a ≡ bit wide (d + down) → (up ≤ d → b ≡ bit wide (d - up)) → (d < up → b ≡ 0)
    → KeepsShiftedAt old new wide down up d
shifted_at old new wide down up d o a b ho ha hb e eo ea eb ez = record {
  was = λ s. omega arith;
  found = λ s.
      let k : max a b ≡ 1 = omega arith in
      elim (one_of a b ha hb k) [
        | inl x ↦ inl (sym ea ∙ x)
        | inr x ↦
            elim (split_at d up) [
              | inl m ↦ let z : b ≡ 0 = ez m in absurd (omega arith)
              | inr m ↦ inr (m, sym (eb m) ∙ x)
            ]
      ];
  low = λ s t. omega arith;
  high = λ s m t. let y : b ≡ bit wide (d - up) = eb m in omega arith;
}

shifted_kept : (old xs ys wide : List ℕ) (down up d : ℕ) → bit ys d ≡ bit xs d
    → KeepsShiftedAt old xs wide down up d → KeepsShiftedAt old ys wide down up d
shifted_kept old xs ys wide down up d e h = record {
  was = λ s. h.was (sym e ∙ s);
  found = λ s. h.found (sym e ∙ s);
  low = λ s t. e ∙ h.low s t;
  high = λ s m t. e ∙ h.high s m t;
}

pub shifting_more : (old new wide : List ℕ) (down up k below above : ℕ) → k < length new
    → ((j : ℕ) → j < 64 → bit_at below j ≡ bit wide (64 * k + down + j)) → IsBehind wide k up above
    → Shifting old new wide down up k → Shifting old (set new k (bit_and (get_or new k 0) (bit_or below above))) wide down up (k + 1)
shifting_more old new wide down up k below above l hb ha h = let v : ℕ = bit_and (get_or new k 0) (bit_or below above) in record {
  done = λ d b.
      elim (lt-or-same (d / 64) k b) [
        | inl m ↦ shifted_kept old new (set new k v) wide down up d (bit_set_else new k v d (λ e. omega arith)) (h.done d m)
        | inr e ↦
            let j : d % 64 < 64 = omega arith in
            let q : 64 * k + d % 64 ≡ d = omega arith in
            let r : 64 * k + down + d % 64 ≡ d + down = omega arith in
            shifted_at old (set new k v) wide down up d (bit_at (get_or new k 0) (d % 64)) (bit_at below (d % 64))
            (bit_at above (d % 64)) (bit_at-lt _ _) (bit_at-lt _ _) (bit_at-lt _ _)
            (bit_set_here new k v d l e ∙ (bit_at_and (get_or new k 0) (bit_or below above) (d % 64)
            ∙ ap (λ (m : ℕ). min (bit_at (get_or new k 0) (d % 64)) m) (bit_at_or below above (d % 64))))
            (ap (λ (m : ℕ). bit_at m (d % 64)) (h.left k (omega arith) ∙ ap (λ (m : ℕ). get_or old m 0) (sym e)))
            (hb (d % 64) j ∙ ap (λ (m : ℕ). bit wide m) r)
            (λ g. ha.above (d % 64) j (omega arith) ∙ ap (λ (m : ℕ). bit wide (m - up)) q)
            (λ g. ha.below (d % 64) j (omega arith))
      ];
  left = λ m b. get_or-set_other new k m v 0 (λ e. omega arith) ∙ h.left m (omega arith);
}

pub shifting_all : (old last wide : List ℕ) (down up k : ℕ) → length last ≡ length old → length old ≤ k
    → Shifting old last wide down up k → KeepsShifted old last wide down up
shifting_all old last wide down up k e l h d =
    elim (split_at (d / 64) k) [
      | inl m ↦ h.done d m
      | inr m ↦
          let z : bit last d ≡ 0 = bit_past last d (omega arith) in
          let y : bit old d ≡ 0 = bit_past old d (omega arith) in
          record {
            was = λ s. absurd (omega arith);
            found = λ s. absurd (omega arith);
            low = λ s t. absurd (omega arith);
            high = λ s b t. absurd (omega arith);
          }
    ]

below_period : (ws : List ℕ) (t d : ℕ) → ((d : ℕ) → t ≤ d → bit ws d ≡ 0) → bit ws d ≡ 1 → d < t
below_period ws t d clear s =
    elim (split_at d t) [ inl m ↦ m | inr m ↦ let z : bit ws d ≡ 0 = clear d m in absurd (omega arith) ]

bit_along : (ws : List ℕ) (a b : ℕ) → a ≡ b → bit ws a ≡ 1 → bit ws b ≡ 1
bit_along ws a b e s = sym (ap (λ (m : ℕ). bit ws m) e) ∙ s

pub supported_kept : (t first count : ℕ) (old others twice wide new : List ℕ) → 0 < t → first < t → count ≤ t
    → ((d : ℕ) → t ≤ d → bit old d ≡ 0)
    → IsTwice t others twice → IsWindow twice wide count → KeepsShifted old new wide first (t - first)
    → KeepsSupported t first count old others new
supported_kept t first count old others twice wide new p f c clear tw wi ks = record {
  was = λ d. (ks d).was;
  found = λ d s.
      elim ((ks d).found s) [
        | inl x ↦
            let w = wi.found (d + first) x in
            let r : d + first + w.0 ≡ d + (first + w.0) = omega arith in
            (w.0, w.1, bit_along others _ _ (ap (λ (m : ℕ). m % t) r) (((tw (d + first + w.0)).found w.2).1))
        | inr x ↦
            let w = wi.found (d - (t - first)) (x.1) in
            let up : t - first ≤ d = x.0 in
            let r : d - (t - first) + w.0 + t ≡ d + (first + w.0) = omega arith in
            let m : (d - (t - first) + w.0) % t
            ≡ (d + (first + w.0)) % t = sym (mod_more (d - (t - first) + w.0) t) ∙ ap (λ (m : ℕ). m % t) r in
            (w.0, w.1, bit_along others _ _ m (((tw (d - (t - first) + w.0)).found w.2).1))
      ];
  all = λ d s h.
      let b : d < t = below_period old t d clear s in
      let jc : h.0 < count = h.1 in
      elim (split_at (d + first) t) [
        | inl l ↦
            let r : d + (first + h.0) ≡ d + first + h.0 = omega arith in
            (ks d).low s (wi.all (d + first) h.0 h.1
            ((tw (d + first + h.0)).all (omega arith) (bit_along others _ _ (ap (λ (m : ℕ). m % t) r) (h.2))))
        | inr l ↦
            let r : d - (t - first) + h.0 + t ≡ d + (first + h.0) = omega arith in
            let m : (d + (first + h.0)) % t ≡ (d - (t - first) + h.0) % t = ap (λ (m : ℕ). m % t) (sym r)
            ∙ mod_more (d - (t - first) + h.0) t in
            (ks d).high s (omega arith) (wi.all (d - (t - first)) h.0 h.1
            ((tw (d - (t - first) + h.0)).all (omega arith) (bit_along others _ _ m (h.2))))
      ];
}

eq_of : (a b : ℕ) → true ≡ (a == b) → a ≡ b
eq_of a b h = grind (arith, nat_tests)

ne_of : (a b : ℕ) → false ≡ (a == b) → a ≢ b
ne_of a b h = grind (arith, nat_tests)

set_sum : (xs : List ℕ) (i y : ℕ) → i < length xs → sum (set xs i y) + get_or xs i 0 ≡ sum xs + y
set_sum xs i y h = sum_by-set (λ (n : ℕ). n) xs i y 0 h

pub less_more : (first old : List ℕ) (k m : ℕ) (changed : Bool) → k < length old → IsLess first old changed
    → IsLess first (set old k (bit_and (get_or old k 0) m)) (changed || not (bit_and (get_or old k 0) m == get_or old k 0))
less_more first old k m changed l h =
    let e : sum (set old k (bit_and (get_or old k 0) m)) + get_or old k 0 ≡ sum old + bit_and (get_or old k 0) m = set_sum old k _ l in
    let b : bit_and (get_or old k 0) m ≤ get_or old k 0 = and_le_l _ _ in
    cases first old k (bit_and (get_or old k 0) m) changed _ refl e b h
  where
    cases : (first old : List ℕ) (k v : ℕ) (changed here : Bool) → here ≡ (v == get_or old k 0)
        → sum (set old k v) + get_or old k 0 ≡ sum old + v → v ≤ get_or old k 0 → IsLess first old changed
        → IsLess first (set old k v) (changed || not here)
    cases first old k v true here t e b h = record {
      same = λ f. cc;
      less = λ _. let m : sum first ≡ sum first = refl in let l : sum old < sum first = h.less refl in
          omega arith;
    }
    cases first old k v false true t e b h = record {
      same =
          λ _. ap (λ (m : ℕ). set old k m) (eq_of v (get_or old k 0) t) ∙ (set-get_or old k 0 ∙ h.same refl);
      less = λ f. cc;
    }
    cases first old k v false false t e b h =
        let n : v ≢ get_or old k 0 = ne_of v (get_or old k 0) t in
        let q : sum old ≡ sum first = ap sum (h.same refl) in
        record { same = λ f. cc; less = λ _. omega arith }

-- a word that is not 0 has a bit
pub some_bit : (ws : List ℕ) (k word : ℕ) → word ≡ get_or ws k 0 → (word ≡ 0 → ⊥) → word < 2 ^ 64 → (d : ℕ) × (bit ws d ≡ 1)
some_bit ws k word e ne l =
    let f = bit_at-trailing_zeros w64 word (positive word ne) l in
    let t : ℕ = trailing_zeros w64 word in
    let b : t < 64 = f.0 in
    let q : (64 * k + t) / 64 ≡ k = omega arith in
    let r : (64 * k + t) % 64 ≡ t = omega arith in (
      64 * k + t,
      ap (λ (m : ℕ). bit_at (get_or ws m 0) ((64 * k + t) % 64)) q
          ∙ (ap (λ (m : ℕ). bit_at (get_or ws k 0) m) r ∙ (ap (λ (m : ℕ). bit_at m t) (sym e) ∙ f.1)),
    )
  where
    positive : (n : ℕ) → (n ≡ 0 → ⊥) → 0 < n
    positive n h = omega arith

-- the first words are filled up to a count
pub record Fills (ws : List ℕ) (count k : ℕ) : Type 0 where
  pub ones : (d : ℕ) → d / 64 < k → d < count → bit ws d ≡ 1
  pub zeros : (d : ℕ) → d / 64 < k → count ≤ d → bit ws d ≡ 0

pub fills_more : (ws : List ℕ) (count k word rest : ℕ) → k < length ws → rest ≡ count - 64 * k
    → ((j : ℕ) → j < 64 → j < rest → bit_at word j ≡ 1) → ((j : ℕ) → j < 64 → rest ≤ j → bit_at word j ≡ 0)
    → Fills ws count k → Fills (set ws k word) count (k + 1)
fills_more ws count k word rest l r one none h = record {
  ones = λ d b c.
      elim (lt-or-same (d / 64) k b) [
        | inl m ↦ bit_set_else ws k word d (λ e. omega arith) ∙ h.ones d m c
        | inr e ↦ bit_set_here ws k word d l e ∙ one (d % 64) (omega arith) (omega arith)
      ];
  zeros = λ d b c.
      elim (lt-or-same (d / 64) k b) [
        | inl m ↦ bit_set_else ws k word d (λ e. omega arith) ∙ h.zeros d m c
        | inr e ↦ bit_set_here ws k word d l e ∙ none (d % 64) (omega arith) (omega arith)
      ];
}

pub all_zeros : (ws : List ℕ) (count k : ℕ) → length ws ≤ k → Fills ws count k → (d : ℕ) → count ≤ d → bit ws d ≡ 0
all_zeros ws count k l h d c = elim (split_at (d / 64) k) [ inl m ↦ h.zeros d m c | inr m ↦ bit_past ws d (omega arith) ]

pub low_ones : (n j : ℕ) → n < 64 → j < n → bit_at (1 * 2 ^ n % 2 ^ 64 - 1) j ≡ 1
low_ones n j h l = ap (λ (m : ℕ). bit_at (m - 1) j) (one_shl n 64 h) ∙ bit_at_ones n j l

pub low_zeros : (n j : ℕ) → n < 64 → n ≤ j → bit_at (1 * 2 ^ n % 2 ^ 64 - 1) j ≡ 0
low_zeros n j h l = ap (λ (m : ℕ). bit_at (m - 1) j) (one_shl n 64 h) ∙ bit_at_ones_above n j l
