-- Delimiters, blank records and their first bytes.
use Rattle.std.proofs.Common.{◌≡◌, refl, sym, ap, Bool, true, false, ◌&&◌, ◌==◌, ℕ, ◌+◌, ◌<◌, List, [], ◌∷◌, length, drop, get_or, arith, true≢false, Some, None, slice_get, add-one, drop-cons, if◌then◌else◌, eqb-true, ne_eqb}
use Rattle.std.specs.List.{list_all}
use Rattle.csv.specs.Reading.{is_bom, strip_bom}
use Rattle.csv.specs.Records.{field_at}
use Rattle.pesp_instance.specs.Number.{all_blank, past_blanks}
use Rattle.pesp_instance.specs.Records.{delimiter_of, has_byte, lead_of}

pub and-left : (x y : Bool) → x && y ≡ true → x ≡ true
and-left true y e = refl
and-left false y e = e

pub and-right : (x y : Bool) → x && y ≡ true → y ≡ true
and-right true y e = e
and-right false y e = absurd (true≢false (sym e))

-- a byte order mark has no byte below 128
pub strip-has : (d : ℕ) (text : List ℕ) → d < 128 → has_byte d (strip_bom text) ≡ has_byte d text
unfolding strip_bom
strip-has d [] h = refl
strip-has d (a ∷ []) h = refl
strip-has d (a ∷ b ∷ []) h = refl
strip-has d (a ∷ b ∷ c ∷ rest) h = by (is_bom a b c) refl
  where
    by : (r : Bool) → is_bom a b c ≡ r → has_byte d (if is_bom a b c then rest else a ∷ b ∷ c ∷ rest) ≡ has_byte d (a ∷ b ∷ c ∷ rest)
    by true e =
        let ab = and-left ((a == 239) && (b == 187)) (c == 191) e in
        let ea : a ≡ 239 = eqb-true a 239 (and-left (a == 239) (b == 187) ab) in
        let eb : b ≡ 187 = eqb-true b 187 (and-right (a == 239) (b == 187) ab) in
        let ec : c ≡ 191 = eqb-true c 191 (and-right ((a == 239) && (b == 187)) (c == 191) e) in
        let na : (a == d) ≡ false = ne_eqb a d (omega arith) in
        let nb : (b == d) ≡ false = ne_eqb b d (omega arith) in
        let nc : (c == d) ≡ false = ne_eqb c d (omega arith) in
        rw (e, na, nb, nc) refl
    by false e = rw e refl

pub delimiter-strip : (text : List ℕ) → delimiter_of (strip_bom text) ≡ delimiter_of text
delimiter-strip text = rw (strip-has 59 text (omega arith), strip-has 9 text (omega arith)) refl

module _ (fields : List (List ℕ)) (i : ℕ) (there : i < length fields) where
  next-one : drop i fields ≡ get_or fields i [] ∷ drop (i + 1) fields
  next-one = rw (add-one i) (drop-cons fields i [] there)

  pub blank-more : all_blank (get_or fields i []) ≡ true → list_all all_blank (drop i fields) ≡ list_all all_blank (drop (i + 1) fields)
  blank-more e = rw (next-one, e) refl

  pub blank-stops : all_blank (get_or fields i []) ≡ false → list_all all_blank (drop i fields) ≡ false
  blank-stops e = rw (next-one, e) refl

pub lead-none : (fields : List (List ℕ)) → field_at fields 0 ≡ None → lead_of fields ≡ None
unfolding field_at
lead-none [] e = refl
lead-none (f ∷ fs) e = cc e

pub lead-some : (fields : List (List ℕ)) (f : List ℕ) → field_at fields 0 ≡ Some f → lead_of fields ≡ slice_get (past_blanks f) 0
unfolding field_at
lead-some [] f e = cc e
lead-some (g ∷ fs) f e = let s : g ≡ f = cc e in ap (λ (t : List ℕ). slice_get (past_blanks t) 0) s
