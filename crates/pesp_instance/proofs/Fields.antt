-- The numbers of the fields of a record.
use Rattle.std.proofs.Common.{append-nil, append_assoc, length-append, Result, ok_or, ◌≡◌, ◌∙◌, refl, sym, ap, Bool, true, false, cond, ℕ, zero, suc, ◌+◌, ◌<◌, ◌≤◌, ℤ, pos, negsuc, List, [], ◌∷◌, ◌++◌, length, drop, get_or, arith, Option, Some, None, Ok, Err, add-one, drop-cons}
use Rattle.csv.specs.Records.{field_at}
use Rattle.pesp_instance.specs.Number.{number_of}
use Rattle.pesp_instance.specs.Activities.{and_then, is_within, numbers_from, out_of_range, unless_refused}
use Rattle.std.proofs.lemmas.Bool.Decides.{nat_tests}
use Rattle.pesp_instance.specs.declared.refusal.ReadRefusal.{ReadRefusal}
use Rattle.pesp_instance.specs.declared.refusal.ReadRefusal.TheVariants.{NotANumber, OutOfRange}

-- the field at a place that the record has
pub field-there : (fields : List (List ℕ)) (i : ℕ) → i < length fields → field_at fields i ≡ Some (get_or fields i [])
unfolding field_at
field-there [] i h = absurd (omega arith)
field-there (f ∷ fs) zero h = refl
field-there (f ∷ fs) (suc i) h = field-there fs i (omega arith)

-- the numbers of fields, after those of the fields before them, or the first field that spells none
unfoldable pub numbers_after : ℕ → List ℤ → List (List ℕ) → Result (List ℤ) ReadRefusal
numbers_after at before [] = Ok before
numbers_after at before (field ∷ rest) =
    and_then (ok_or (number_of field) (NotANumber at (length before + 1))) (λ n. numbers_after at (before ++ n ∷ []) rest)

joined : (before : List ℤ) (n : ℤ) (rest : Result (List ℤ) ReadRefusal)
    → and_then rest (λ ns. Ok ((before ++ n ∷ []) ++ ns)) ≡ and_then (and_then rest (λ ns. Ok (n ∷ ns))) (λ ns. Ok (before ++ ns))
joined before n (Ok ns) = ap Ok (append_assoc before (n ∷ []) ns)
joined before n (Err e) = refl

numbers-behind : (at : ℕ) (before : List ℤ) (fields : List (List ℕ))
    → numbers_after at before fields ≡ and_then (numbers_from at (length before + 1) fields)
    (λ ns. Ok (before ++ ns))
unfolding numbers_after numbers_from
numbers-behind at before [] = ap Ok (sym (append-nil before))
numbers-behind at before (field ∷ rest) = by (number_of field) (λ n. numbers-behind at (before ++ n ∷ []) rest)
  where
    by : (o : Option ℤ) → ((n : ℤ) → numbers_after at (before ++ n ∷ []) rest
        ≡ and_then (numbers_from at (length (before ++ n ∷ []) + 1) rest) (λ ns. Ok ((before ++ n ∷ []) ++ ns)))
        → and_then (ok_or o (NotANumber at (length before + 1))) (λ n. numbers_after at (before ++ n ∷ []) rest)
        ≡ and_then (and_then (ok_or o (NotANumber at (length before + 1)))
        (λ n. and_then (numbers_from at (length before + 1 + 1) rest) (λ ns. Ok (n ∷ ns))))
        (λ ns. Ok (before ++ ns))
    by None more = refl
    by (Some n) more =
        let longer : length (before ++ n ∷ []) + 1 ≡ length before + 1 + 1 = omega (arith, length-append before (n ∷ [])) in
        more n ∙ rw longer (joined before n (numbers_from at (length before + 1 + 1) rest))

again : (r : Result (List ℤ) ReadRefusal) → and_then r (λ ns. Ok ns) ≡ r
again (Ok ns) = refl
again (Err e) = refl

-- from the first field on they are what the definition says
pub numbers-start : (at : ℕ) (fields : List (List ℕ)) → numbers_from at 1 fields ≡ numbers_after at [] fields
numbers-start at fields = sym (numbers-behind at [] fields ∙ again (numbers_from at 1 fields))

module _ (at : ℕ) (fields : List (List ℕ)) (before : List ℤ) (i : ℕ) (there : i < length fields) where
  -- the field at hand is the next one
  next-field : drop i fields ≡ get_or fields i [] ∷ drop (i + 1) fields
  next-field = rw (add-one i) (drop-cons fields i [] there)

  -- one more number
  pub numbers-more : (n : ℤ) → number_of (get_or fields i []) ≡ Some n
      → numbers_after at before (drop i fields) ≡ numbers_after at (before ++ n ∷ []) (drop (i + 1) fields)
  unfolding numbers_after
  numbers-more n e = rw (next-field, e) refl

  -- a field that spells none
  pub numbers-none : number_of (get_or fields i []) ≡ None
      → numbers_after at before (drop i fields) ≡ Err (NotANumber at (length before + 1))
  unfolding numbers_after
  numbers-none e = rw (next-field, e) refl

-- all fields were numbers
pub numbers-all : (at : ℕ) (before : List ℤ) → numbers_after at before [] ≡ Ok before
unfolding numbers_after
numbers-all at before = refl

module _ (at field : ℕ) (ns : List ℤ) (i : ℕ) (there : i < length ns) where
  next-number : drop i ns ≡ get_or ns i (pos 0) ∷ drop (i + 1) ns
  next-number = rw (add-one i) (drop-cons ns i (pos 0) there)

  -- a number within its limits
  pub range-more : is_within field (get_or ns i (pos 0)) ≡ true
      → out_of_range at field (drop i ns) ≡ out_of_range at (field + 1) (drop (i + 1) ns)
  unfolding out_of_range
  range-more e = rw (next-number, e) refl

  -- a number past them
  pub range-stops : is_within field (get_or ns i (pos 0)) ≡ false → out_of_range at field (drop i ns) ≡ Some (OutOfRange at field)
  unfolding out_of_range
  range-stops e = rw (next-number, e) refl

pub range-all : (at field : ℕ) → out_of_range at field [] ≡ None
unfolding out_of_range
range-all at field = refl

-- each number keeps its limits
pub range-at : (at field : ℕ) (ns : List ℤ) (i : ℕ) → out_of_range at field ns ≡ None → i < length ns
    → is_within (field + i) (get_or ns i (pos 0)) ≡ true
unfolding out_of_range
range-at at field [] i e h = absurd (omega arith)
range-at at field (n ∷ ns) i e h = by (is_within field n) refl i e h (range-at at (field + 1) ns)
  where
    by : (b : Bool) → is_within field n ≡ b → (i : ℕ)
        → cond (is_within field n) (out_of_range at (field + 1) ns) (Some (OutOfRange at field)) ≡ None
        → i < length (n ∷ ns)
        → ((j : ℕ) → out_of_range at (field + 1) ns ≡ None → j < length ns → is_within (field + 1 + j) (get_or ns j (pos 0)) ≡ true)
        → is_within (field + i) (get_or (n ∷ ns) i (pos 0)) ≡ true
    by true w zero e h more = let z : field + 0 ≡ field = omega arith in rw z w
    by true w (suc i) e h more = let g : out_of_range at (field + 1) ns ≡ None = rw w at e in
        let z : field + suc i ≡ field + 1 + i = omega arith in rw z (more i g (omega arith))
    by false w i e h more = let g : ◌≡◌ {A = Option ReadRefusal} (Some (OutOfRange at field)) None = rw w at e in cc

pub unless-none : {A E : Type 0} (o : Option E) (x y : A) → unless_refused o x ≡ Ok y → o ≡ None
unless-none None x y e = refl
unless-none (Some r) x y e = cc

-- six numbers within their limits have a weight that is a natural number
pub weight-natural : (n : ℤ) → is_within 6 n ≡ true → (m : ℕ) × (n ≡ pos m) × (m ≤ 1000000000)
weight-natural (pos m) e = (m, refl, grind (arith, nat_tests))
weight-natural (negsuc m) e = cc e

pub ok-weight : (at : ℕ) (ns : List ℤ) (u : Unit {0}) → length ns ≡ 6
    → Ok u ≡ unless_refused (out_of_range at 1 ns) tt → (m : ℕ) × (get_or ns 5 (pos 0) ≡ pos m) × (m ≤ 1000000000)
ok-weight at ns u six e =
    let none = unless-none (out_of_range at 1 ns) tt u (sym e) in
    weight-natural (get_or ns 5 (pos 0)) (range-at at 1 ns 5 none (omega arith))

pub unless-same : {A E : Type 0} (o : Option E) (x y : A) → unless_refused o x ≡ Ok y → x ≡ y
unless-same None x y e = cc
unless-same (Some r) x y e = cc e
