-- A word of digits read from the left, one digit after another.
use Rattle.std.proofs.Common.{◌≡◌, ◌≢◌, ℕ, zero, suc, ◌+◌, ◌-◌, ◌*◌, ◌^◌, ◌<◌, ◌≤◌, Bool, true, false, not, ◌&&◌, List, [], ◌∷◌, length, get_or, take, drop, refl, sym, ap, ◌∙◌, arith, add-one, drop-cons, rules, inl, inr}
use Rattle.std.specs.Prelude.{◌↔◌, Option, Some, None, slice_index, ◌||◌, ◌==◌, nat_lt, nat_le, decimal, ◌⊎◌, ℤ, pos, negsuc}
use Rattle.std.specs.Str.{all_ascii_digits}
use Rattle.std.specs.Char.{is_ascii_digit}
use Rattle.std.proofs.lemmas.Grind.{pow_more}
use Rattle.std.proofs.lemmas.Bool.Decides.{nat_tests}
use Rattle.std.proofs.lemmas.Bool.{ne_eqb, eqb-true}
use Rattle.std.proofs.lemmas.List.{drop_all, take_all, length-drop}
use Rattle.std.proofs.Math.Nat.{pow-le-pow_right}
use Rattle.std.proofs.lemmas.Str.Parse.{IsNumeralModel, numerals_by_fold, digits_value_short}
use Rattle.std.proofs.lemmas.Fmt.{decimal-digits_value, digits_decimal, digits_value-decimal, length-decimal-le, decimal_nonempty, first_decimal, decimal_digit}
use Rattle.std.proofs.lemmas.Option.{cond_some, same_Some}
use Rattle.pesp_stream.specs.Number.{NATURALS, is_natural, natural_of, read_on, SpellsNatural, SpellsWhole, whole_of, as_whole, negated}

-- the digits from i on, behind the number so far, give the whole word's number
pub record IsReadTo (w : List ℕ) (i n : ℕ) : Type 0 where
  pub value : read_on n (drop i w) ≡ read_on 0 w
  pub digits : all_ascii_digits (drop i w) ≡ all_ascii_digits w
  pub bound : n < 10 ^ i

pub is_read_start : (w : List ℕ) → IsReadTo w 0 0
is_read_start w = record { value = refl; digits = refl; bound = omega arith }

pub digit_range : (c : ℕ) → is_ascii_digit c ≡ true → (48 ≤ c) × (c ≤ 57)
digit_range c h = grind (arith, nat_tests)

and_left : (a b : Bool) → (a && b) ≡ true → a ≡ true
and_left true b h = refl
and_left false b h = absurd cc

and_right : (a b : Bool) → (a && b) ≡ true → b ≡ true
and_right true b h = h
and_right false b h = absurd cc

and_both : (a b : Bool) → a ≡ true → b ≡ true → (a && b) ≡ true
and_both a b h k = rw (h, k) refl

head_digit : (c : ℕ) (cs : List ℕ) → is_ascii_digit c ≡ true → all_ascii_digits (c ∷ cs) ≡ all_ascii_digits cs
head_digit c cs h = grind (arith, h)

head_other : (c : ℕ) (cs : List ℕ) → is_ascii_digit c ≡ false → all_ascii_digits (c ∷ cs) ≡ false
head_other c cs h = grind (arith, h)

pub is_read_more : (w : List ℕ) (i n c : ℕ) → i < length w → c ≡ get_or w i 0 → is_ascii_digit c ≡ true
    → IsReadTo w i n → IsReadTo w (i + 1) (n * 10 + (c - 48))
is_read_more w i n c lt is digit so_far =
    let cut : drop i w ≡ c ∷ drop (i + 1) w = rw (add-one, is) (drop-cons w i 0 lt) in
    let range = digit_range c digit in
    record {
      value = rw cut at so_far.value;
      digits = sym (head_digit c (drop (i + 1) w) digit) ∙ (rw cut at so_far.digits);
      bound = omega (arith, pow_more 10 i, so_far.bound, range.1);
    }

pub not_natural : (w : List ℕ) → is_natural w ≡ false → None ≡ natural_of w
unfolding natural_of
not_natural w h = rw h refl

pub empty_is_none : (w : List ℕ) → length w ≡ 0 → None ≡ natural_of w
unfolding is_natural
empty_is_none w h = not_natural w (rw h refl)

pub long_is_none : (w : List ℕ) → 18 < length w → None ≡ natural_of w
unfolding is_natural
long_is_none w h = not_natural w (grind (arith, nat_tests))

pub zero_led_is_none : (w : List ℕ) → get_or w 0 0 ≡ 48 → length w ≢ 1 → None ≡ natural_of w
unfolding is_natural
zero_led_is_none w h k = not_natural w (grind (arith, nat_tests))

pub other_is_none : (w : List ℕ) (i n : ℕ) → i < length w → is_ascii_digit (get_or w i 0) ≡ false → IsReadTo w i n → None ≡ natural_of w
unfolding is_natural
other_is_none w i n lt other so_far =
    let cut : drop i w ≡ get_or w i 0 ∷ drop (i + 1) w = rw (add-one) (drop-cons w i 0 lt) in
    let none : all_ascii_digits w ≡ false = sym (rw cut at so_far.digits) ∙ head_other (get_or w i 0) (drop (i + 1) w) other in
    not_natural w (grind (arith, none))

pub all_is_some : (w : List ℕ) (i n : ℕ) → length w ≤ i → 0 < length w → length w ≤ 18
    → (get_or w 0 0 ≡ 48 → length w ≡ 1) → IsReadTo w i n → Some n ≡ natural_of w
unfolding natural_of is_natural
all_is_some w i n past some short led so_far =
    let nil : drop i w ≡ [] = drop_all i w past in
    let value : n ≡ read_on 0 w = rw nil at so_far.value in
    let digits : all_ascii_digits w ≡ true = sym (rw nil at so_far.digits) in
    let test : is_natural w ≡ true = grind (arith, nat_tests, digits) in
    rw (test, value) refl

-- ---- the two laws

own : IsNumeralModel (λ ds. all_ascii_digits ds ≡ true) (read_on 0)
own = numerals_by_fold _ (search rules) read_on (search rules)

zero_led : (n : ℕ) → n < 2 ^ 64 → get_or (decimal n) 0 0 ≡ 48 → length (decimal n) ≡ 1
zero_led zero fits h = rw (decimal_digit 0 (omega arith)) refl
zero_led (suc n) fits h = absurd (omega (arith, first_decimal (suc n) (omega arith) fits))

natural_parts : (w : List ℕ) (n : ℕ) → natural_of w ≡ Some n → (is_natural w ≡ true) × (read_on 0 w ≡ n)
unfolding natural_of
natural_parts w n h = cond_some (is_natural w) (read_on 0 w) n h

-- what natural_of reads is spelled so
pub natural_spells : (w : List ℕ) (n : ℕ) → natural_of w ≡ Some n → SpellsNatural w n
unfolding is_natural
natural_spells w n h =
    let p = natural_parts w n h in
    let a = and_right (nat_lt 0 (length w) && nat_le (length w) 18 && all_ascii_digits w)
    (not (slice_index w 0 == 48) || length w == 1) p.0 in
    let b = and_left (nat_lt 0 (length w) && nat_le (length w) 18 && all_ascii_digits w)
    (not (slice_index w 0 == 48) || length w == 1) p.0 in
    let digits = and_right (nat_lt 0 (length w) && nat_le (length w) 18) (all_ascii_digits w) b in
    let c = and_left (nat_lt 0 (length w) && nat_le (length w) 18) (all_ascii_digits w) b in
    let some : 0 < length w = grind (arith, nat_tests, c) in
    let short : length w ≤ 18 = grind (arith, nat_tests, c) in
    let led : get_or w 0 0 ≡ 48 → length w ≡ 1 = λ z. grind (arith, nat_tests, a, z) in
    let below : read_on 0 w < 10 ^ 18 = digits_value_short own w 18 digits short in
    let text : decimal (read_on 0 w) ≡ w = decimal-digits_value own w digits some led (omega (arith, below)) in
    (omega (arith, below, p.1), sym text ∙ ap decimal p.1)

-- what spells a natural is read
pub natural_read : (w : List ℕ) (n : ℕ) → SpellsNatural w n → natural_of w ≡ Some n
unfolding natural_of is_natural
natural_read w n h =
    let fits : n < 2 ^ 64 = omega (arith, h.0) in
    let digits : all_ascii_digits w ≡ true = rw h.1 (digits_decimal own n fits) in
    let value : read_on 0 w ≡ n = rw h.1 (digits_value-decimal own n fits) in
    let short : length w ≤ 18 = rw h.1 (length-decimal-le 18 n (omega arith) (omega (arith, h.0)) fits) in
    let some : 0 < length w = rw h.1 (decimal_nonempty n fits) in
    let led : get_or w 0 0 ≡ 48 → length w ≡ 1 = rw h.1 (zero_led n fits) in
    let test : is_natural w ≡ true = grind (arith, nat_tests, digits) in
    rw (test, value) refl

-- one more digit stays below the limit
pub more_fits : (i n len : ℕ) → n < 10 ^ i → i < len → len ≤ 18 → n * 10 + 9 < NATURALS
more_fits i n len below lt short =
    let k : i + 1 ≤ 18 = omega arith in
    let most : 10 ^ (i + 1) ≤ 10 ^ 18 = pow-le-pow_right {n = 10} (omega arith) {i = i + 1} {j = 18} k in
    omega (arith, pow_more 10 i, below, most)

pub all_is_below : (i n len : ℕ) → n < 10 ^ i → i ≤ len → len ≤ 18 → n < NATURALS
all_is_below i n len below lt short =
    let k : i ≤ 18 = omega arith in
    let most : 10 ^ i ≤ 10 ^ 18 = pow-le-pow_right {n = 10} (omega arith) {i = i} {j = 18} k in
    omega (arith, below, most)

-- ---- whole numbers

pub minus_gives : (w : List ℕ) (o : Option ℕ) → get_or w 0 0 ≡ 45 → o ≡ natural_of (take (length w - 1) (drop 1 w)) → whole_of w ≡ negated o
unfolding whole_of
minus_gives w o h e =
    let all : take (length w - 1) (drop 1 w) ≡ drop 1 w = take_all (length w - 1) (drop 1 w) (omega (arith, length-drop 1 w)) in
    rw (h, e, all) refl

pub plain_gives : (w : List ℕ) (o : Option ℕ) → get_or w 0 0 ≢ 45 → o ≡ natural_of w → whole_of w ≡ as_whole o
unfolding whole_of
plain_gives w o h e = rw (ne_eqb (get_or w 0 0) 45 h, e) refl

-- an empty word has no minus either
pub no_minus : (w : List ℕ) → ((length w ≡ 0) ⊎ (get_or w 0 0 ≢ 45)) → get_or w 0 0 ≢ 45
no_minus [] h e = absurd (omega arith)
no_minus (c ∷ w) (inl z) e = absurd (omega arith)
no_minus (c ∷ w) (inr n) e = n e

cases : (b : Bool) → (b ≡ true) ⊎ (b ≡ false)
cases true = inl refl
cases false = inr refl

minus_spells : (w : List ℕ) (o : Option ℕ) (z : ℤ) → get_or w 0 0 ≡ 45
    → ((n : ℕ) → o ≡ Some n → SpellsNatural (drop 1 w) n) → negated o ≡ Some z → SpellsWhole w z
minus_spells w None z h spells e = absurd cc
minus_spells w (Some zero) z h spells e = absurd cc
minus_spells [] (Some (suc n)) z h spells e = absurd (omega arith)
minus_spells (c ∷ w) (Some (suc n)) z h spells e =
    let is : negsuc n ≡ z = same_Some (negsuc n) z e in
    let s = spells (suc n) refl in
    rw (sym is) (s.0, rw (h, s.1) refl)

plain_spells : (w : List ℕ) (o : Option ℕ) (z : ℤ) → ((n : ℕ) → o ≡ Some n → SpellsNatural w n) → as_whole o ≡ Some z → SpellsWhole w z
plain_spells w None z spells e = absurd cc
plain_spells w (Some n) z spells e =
    let is : pos n ≡ z = same_Some (pos n) z e in
    rw (sym is) (spells n refl)

-- what whole_of reads is spelled so
pub whole_spells : (w : List ℕ) (z : ℤ) → whole_of w ≡ Some z → SpellsWhole w z
unfolding whole_of
whole_spells w z h =
    elim (cases (get_or w 0 0 == 45)) [
      | inl is ↦ minus_spells w (natural_of (drop 1 w)) z (eqb-true (get_or w 0 0) 45 is)
          (λ n e. natural_spells (drop 1 w) n e) (rw is at h)
      | inr isnt ↦ plain_spells w (natural_of w) z (λ n e. natural_spells w n e) (rw isnt at h)
    ]

not_minus : (n : ℕ) → n < 2 ^ 64 → get_or (decimal n) 0 0 ≢ 45
not_minus zero fits h = let one : get_or (decimal 0) 0 0 ≡ 48 = rw (decimal_digit 0 (omega arith)) refl in absurd (omega (arith, one))
not_minus (suc n) fits h = absurd (omega (arith, first_decimal (suc n) (omega arith) fits))

-- what spells a whole number is read
pub whole_read : (w : List ℕ) (z : ℤ) → SpellsWhole w z → whole_of w ≡ Some z
unfolding whole_of
whole_read w (pos n) h =
    let plain : get_or w 0 0 ≢ 45 = rw h.1 (not_minus n (omega (arith, h.0))) in
    rw (ne_eqb (get_or w 0 0) 45 plain, natural_read w n h) refl
whole_read w (negsuc n) h = rw h.1 (rw (natural_read (decimal (suc n)) (suc n) (h.0, refl)) refl)

pub decimal_digits : (n : ℕ) → n < 2 ^ 64 → all_ascii_digits (decimal n) ≡ true
decimal_digits n fits = digits_decimal own n fits

pub decimal_some : (n : ℕ) → n < 2 ^ 64 → 0 < length (decimal n)
decimal_some n fits = decimal_nonempty n fits

pub natural_iff : (w : List ℕ) (o : Option ℕ) (n : ℕ) → o ≡ natural_of w → (o ≡ Some n) ↔ SpellsNatural w n
natural_iff w o n h = (λ e. natural_spells w n (sym h ∙ e), λ s. h ∙ natural_read w n s)

pub whole_iff : (w : List ℕ) (o : Option ℤ) (z : ℤ) → o ≡ whole_of w → (o ≡ Some z) ↔ SpellsWhole w z
whole_iff w o z h = (λ e. whole_spells w z (sym h ∙ e), λ s. h ∙ whole_read w z s)
