-- A field spells the number that `number_of` reads, and no other.
use Rattle.std.proofs.Common.{◌≡◌, ◌↔◌, ◌∙◌, refl, sym, ap, Bool, true, false, cond, ◌==◌, ℕ, ◌+◌, ◌≤◌, ℤ, pos, neg_ℤ, List, [], ◌∷◌, ◌++◌, length, drop, take, arith, Option, Some, None, if◌then◌else◌, one-add, le-leb, leb-true, eqb-true, nat_le, take-append-drop, length-take}
use Rattle.std.proofs.lemmas.List.Sums.{prefix_len-le-length}
use Rattle.std.specs.List.{list_all, prefix_len}
use Rattle.std.specs.Str.Parse.{digits_value}
use Rattle.std.proofs.lemmas.Bool.Decides.{nat_tests}
use Rattle.pesp_instance.specs.Number.{IsFraction, IsSign, Spells, no_fraction, zeros_only, no_sign, plus, minus, all_blank, digit_count, has_minus, is_blank, is_digit, may_follow_digits, number_of, past_blanks, past_sign, unsigned_number, with_sign}
use Rattle.pesp_instance.proofs.Leads.{and-left, and-right}

-- a run that passes a test, and then a byte that does not
span : (p : ℕ → Bool) (xs ys : List ℕ) → list_all p xs ≡ true → prefix_len p ys ≡ 0 → prefix_len p (xs ++ ys) ≡ length xs
span p [] ys h z = z
span p (x ∷ xs) ys h z = let v = and-left (p x) (list_all p xs) h in
    let more = span p xs ys (and-right (p x) (list_all p xs) h) z in rw (v, more, one-add) refl

drop-run : (xs ys : List ℕ) → drop (length xs) (xs ++ ys) ≡ ys
drop-run [] ys = refl
drop-run (x ∷ xs) ys = drop-run xs ys

take-run : (xs ys : List ℕ) → take (length xs) (xs ++ ys) ≡ xs
take-run [] ys = refl
take-run (x ∷ xs) ys = ap (λ (l : List ℕ). x ∷ l) (take-run xs ys)

stops : (p : ℕ → Bool) (y : ℕ) (ys : List ℕ) → p y ≡ false → prefix_len p (y ∷ ys) ≡ 0
stops p y ys h = rw h refl

blank-no-digit : (b : ℕ) → is_blank b ≡ true → is_digit b ≡ false
blank-no-digit b h = grind (arith, nat_tests)

blank-no-zero : (b : ℕ) → is_blank b ≡ true → (b == 48) ≡ false
blank-no-zero b h = grind (arith, nat_tests)

blank-no-dot : (b : ℕ) → is_blank b ≡ true → (b == 46) ≡ false
blank-no-dot b h = grind (arith, nat_tests)

digit-no-blank : (d : ℕ) → is_digit d ≡ true → is_blank d ≡ false
digit-no-blank d h = grind (arith, nat_tests)

digit-no-plus : (d : ℕ) → is_digit d ≡ true → (d == 43) ≡ false
digit-no-plus d h = grind (arith, nat_tests)

digit-no-minus : (d : ℕ) → is_digit d ≡ true → (d == 45) ≡ false
digit-no-minus d h = grind (arith, nat_tests)

blanks-stop : (p : ℕ → Bool) → ((b : ℕ) → is_blank b ≡ true → p b ≡ false) → (after : List ℕ)
    → all_blank after ≡ true → prefix_len p after ≡ 0
blanks-stop p fails [] h = refl
blanks-stop p fails (b ∷ after) h = stops p b after (fails b (and-left (is_blank b) (all_blank after) h))

-- what follows the digits ends the number
ends : (fraction after : List ℕ) → IsFraction fraction → all_blank after ≡ true → may_follow_digits (fraction ++ after) ≡ true
ends [] [] f h = refl
ends [] (b ∷ after) f h = let d = blank-no-dot b (and-left (is_blank b) (all_blank after) h) in rw d h
ends (x ∷ xs) after (zeros_only zeros z) h =
    let s = span (λ c. c == 48) zeros after z (blanks-stop (λ c. c == 48) blank-no-zero after h) in
    rw (s, drop-run zeros after) h

ends-digits : (fraction after : List ℕ) → IsFraction fraction → all_blank after ≡ true → prefix_len is_digit (fraction ++ after) ≡ 0
ends-digits [] after f h = blanks-stop is_digit blank-no-digit after h
ends-digits (x ∷ xs) after (zeros_only zeros z) h = refl

unsigned : (digits fraction after : List ℕ) → list_all is_digit digits ≡ true → 1 ≤ length digits
    → length digits ≤ 18 → IsFraction fraction → all_blank after ≡ true
    → unsigned_number (digits ++ (fraction ++ after)) ≡ Some (digits_value 10 digits)
unsigned digits fraction after a low high f h =
    let rest : List ℕ = fraction ++ after in
    let n = span is_digit digits rest a (ends-digits fraction after f h) in
    rw (
      n,
      le-leb 1 (length digits) low,
      le-leb (length digits) 18 high,
      drop-run digits rest,
      take-run digits rest,
      ends fraction after f h,
    ) refl

after-blanks : (before rest : List ℕ) → all_blank before ≡ true → prefix_len is_blank rest ≡ 0 → past_blanks (before ++ rest) ≡ rest
after-blanks before rest h z = let n = span is_blank before rest h z in rw (n, drop-run before rest) refl

signed-start : (sign digits rest : List ℕ) (negative : Bool) → IsSign sign negative → list_all is_digit digits ≡ true → 1 ≤ length digits
    → (prefix_len is_blank (sign ++ (digits ++ rest)) ≡ 0) × (has_minus (sign ++ (digits ++ rest)) ≡ negative)
    × (past_sign (sign ++ (digits ++ rest)) ≡ digits ++ rest)
signed-start sign [] rest negative s a low = absurd (omega arith)
signed-start [] (d ∷ ds) rest false no_sign a low =
    let v = and-left (is_digit d) (list_all is_digit ds) a in
    let b = digit-no-blank d v in
    let p = digit-no-plus d v in
    let m = digit-no-minus d v in
    (rw b refl, m, rw (p, m) refl)
signed-start [] (d ∷ ds) rest true s a low = elim s [ ]
signed-start (x ∷ xs) (d ∷ ds) rest false plus a low = (refl, refl, refl)
signed-start (x ∷ xs) (d ∷ ds) rest true minus a low = (refl, refl, refl)

pub reads-spelling : (field : List ℕ) (n : ℤ) → Spells field n → number_of field ≡ Some n
reads-spelling field n s =
    let start = signed-start s.sign s.digits (s.fraction ++ s.after) s.negative s.signed s.are_digits s.some_digits in
    let b = after-blanks s.before (s.sign ++ (s.digits ++ (s.fraction ++ s.after))) s.blank_before start.0 in
    let u = unsigned s.digits s.fraction s.after s.are_digits s.some_digits s.few_digits s.fractioned s.blank_after in
    ap number_of s.whole
    ∙ ap (λ (t : List ℕ). with_sign (has_minus t) (unsigned_number (past_sign t))) b
    ∙ ap (λ (x : Bool). with_sign x (unsigned_number (past_sign (s.sign ++ (s.digits ++ (s.fraction ++ s.after)))))) start.1
    ∙ ap (λ (t : List ℕ). with_sign s.negative (unsigned_number t)) start.2
    ∙ ap (with_sign s.negative) u
    ∙ ap Some (sym s.value)

front-run : (p : ℕ → Bool) (xs : List ℕ) → list_all p (take (prefix_len p xs) xs) ≡ true
front-run p [] = refl
front-run p (x ∷ xs) = by (p x) refl (front-run p xs)
  where
    by : (r : Bool) → p x ≡ r → list_all p (take (prefix_len p xs) xs) ≡ true
        → list_all p (take (cond (p x) (1 + prefix_len p xs) 0) (x ∷ xs)) ≡ true
    by true e more = rw (e, one-add) (rw (e, more) refl)
    by false e more = rw e refl

record SplitSign (t : List ℕ) : Type 0 where
  sign : List ℕ
  signed : IsSign sign (has_minus t)
  split : t ≡ sign ++ past_sign t

sign-split : (t : List ℕ) → SplitSign t
sign-split [] = record { sign = []; signed = no_sign; split = refl }
sign-split (b ∷ t) = by (b == 43) (b == 45) refl refl
  where
    by : (x y : Bool) → (b == 43) ≡ x → (b == 45) ≡ y → SplitSign (b ∷ t)
    by true y e f = let p : b ≡ 43 = eqb-true b 43 e in rw p (record { sign = 43 ∷ []; signed = plus; split = refl })
    by false true e f = let p : b ≡ 45 = eqb-true b 45 f in rw p (record { sign = 45 ∷ []; signed = minus; split = refl })
    by false false e f = record { sign = []; signed = rw f no_sign; split = rw (e, f) refl }

record SplitEnd (r : List ℕ) : Type 0 where
  fraction : List ℕ
  after : List ℕ
  fractioned : IsFraction fraction
  split : r ≡ fraction ++ after
  blank : all_blank after ≡ true

end-split : (r : List ℕ) → may_follow_digits r ≡ true → SplitEnd r
end-split [] e = record { fraction = []; after = []; fractioned = no_fraction; split = refl; blank = refl }
end-split (b ∷ r) e = by (b == 46) refl e
  where
    by : (x : Bool) → (b == 46) ≡ x → may_follow_digits (b ∷ r) ≡ true → SplitEnd (b ∷ r)
    by true f h =
        let p : b ≡ 46 = eqb-true b 46 f in
        let g : all_blank (drop (prefix_len (λ c. c == 48) r) r) ≡ true = rw f at h in
        let zeros : List ℕ = take (prefix_len (λ c. c == 48) r) r in
        record {
          fraction = 46 ∷ zeros;
          after = drop (prefix_len (λ c. c == 48) r) r;
          fractioned = zeros_only zeros (front-run (λ c. c == 48) r);
          split = rw p (ap (λ (l : List ℕ). 46 ∷ l) (sym (take-append-drop (prefix_len (λ c. c == 48) r) r)));
          blank = g;
        }
    by false f h = let g : all_blank (b ∷ r) ≡ true = rw f at h in
        record { fraction = []; after = b ∷ r; fractioned = no_fraction; split = refl; blank = g }

record SplitNumber (u : List ℕ) (v : ℕ) : Type 0 where
  low : 1 ≤ digit_count u
  high : digit_count u ≤ 18
  ends : may_follow_digits (drop (digit_count u) u) ≡ true
  value : v ≡ digits_value 10 (take (digit_count u) u)

number-split : (u : List ℕ) (v : ℕ) → unsigned_number u ≡ Some v → SplitNumber u v
number-split u v e = by (nat_le 1 (digit_count u)) (nat_le (digit_count u) 18) (may_follow_digits (drop (digit_count u) u)) refl refl refl e
  where
    by : (x y z : Bool) → nat_le 1 (digit_count u) ≡ x → nat_le (digit_count u) 18 ≡ y
        → may_follow_digits (drop (digit_count u) u) ≡ z → unsigned_number u ≡ Some v → SplitNumber u v
    by true true true a b c h =
        let g : ◌≡◌ {A = Option ℕ} (Some (digits_value 10 (take (digit_count u) u))) (Some v) = rw (a, b, c) at h in
        record { low = leb-true 1 (digit_count u) a; high = leb-true (digit_count u) 18 b; ends = c; value = cc }
    by true true false a b c h = let g : ◌≡◌ {A = Option ℕ} None (Some v) = rw (a, b, c) at h in cc
    by true false z a b c h = let g : ◌≡◌ {A = Option ℕ} None (Some v) = rw (a, b) at h in cc
    by false y z a b c h = let g : ◌≡◌ {A = Option ℕ} None (Some v) = rw a at h in cc

pub spelling-read : (field : List ℕ) (n : ℤ) → number_of field ≡ Some n → Spells field n
spelling-read field n e = by (unsigned_number (past_sign (past_blanks field))) refl e
  where
    by : (o : Option ℕ) → unsigned_number (past_sign (past_blanks field)) ≡ o
        → with_sign (has_minus (past_blanks field)) (unsigned_number (past_sign (past_blanks field))) ≡ Some n
        → Spells field n
    by None w h = let g : ◌≡◌ {A = Option ℤ} None (Some n) = rw w at h in cc
    by (Some v) w h =
        let t : List ℕ = past_blanks field in
        let u : List ℕ = past_sign t in
        let k : ℕ = digit_count u in
        let s = sign-split t in
        let d = number-split u v w in
        let f = end-split (drop k u) d.ends in
        let g : ◌≡◌ {A = Option ℤ} (Some (if has_minus t then neg_ℤ (pos v) else pos v)) (Some n) = rw w at h in
        let same : (if has_minus t then neg_ℤ (pos v) else pos v) ≡ n = cc in
        record {
          before = take (prefix_len is_blank field) field;
          sign = s.sign;
          digits = take k u;
          fraction = f.fraction;
          after = f.after;
          negative = has_minus t;
          whole = sym (take-append-drop (prefix_len is_blank field) field)
              ∙ ap (λ (l : List ℕ). take (prefix_len is_blank field) field ++ l)
              (s.split ∙ ap (λ (l : List ℕ). s.sign ++ l)
              (sym (take-append-drop k u) ∙ ap (λ (l : List ℕ). take k u ++ l) f.split));
          blank_before = front-run is_blank field;
          signed = s.signed;
          are_digits = front-run is_digit u;
          some_digits = omega (arith, length-take k u, d.low, prefix_len-le-length is_digit u);
          few_digits = omega (arith, length-take k u, d.high);
          fractioned = f.fractioned;
          blank_after = f.blank;
          value = sym same ∙ ap (λ (m : ℕ). if has_minus t then neg_ℤ (pos m) else pos m) d.value;
        }

pub number-spells : (field : List ℕ) (r : Option ℤ) → r ≡ number_of field → (n : ℤ) → (r ≡ Some n) ↔ Spells field n
number-spells field r e n = (λ h. spelling-read field n (sym e ∙ h), λ s. e ∙ reads-spelling field n s)
