-- Lists with the same entries in other orders.
use Rattle.std.proofs.Common.{◌≡◌, ℕ, suc, ◌+◌, ◌<◌, inl, inr, Bool, true, false, cond, ◌&&◌, ◌==◌, List, [], ◌∷◌, length, get_or, arith, ap, refl}
use Rattle.std.specs.List.{sum_by, remove}
use Rattle.std.specs.List.Sorted.{IsPermutation}
use Rattle.std.proofs.lemmas.Bool.{and_parts, and_from, eqb-true, eq-eqb, cases_Bool}
use Rattle.std.proofs.lemmas.List.Sums.{sum_by-cons}
use Rattle.std.proofs.lemmas.List.Sorted.{IsPermutation-refl, IsPermutation-sym, IsPermutation-trans, IsPermutation-cons, IsPermutation-remove, sum_by-IsPermutation}
use Rattle.pesp_tree.specs.declared.entry.Entry.{Entry}
use Rattle.pesp_tree.specs.Entries.{entry}

abbrev is_same : Entry → Entry → Bool
is_same a b = (a.item == b.item) && (a.value == b.value)

same-true : (a b : Entry) → is_same a b ≡ true → a ≡ b
same-true a b h =
    let p = and_parts (a.item == b.item) (a.value == b.value) h in
    let e = eqb-true a.item b.item p.0 in
    let f = eqb-true a.value b.value p.1 in
    λ i. entry (e i) (f i)

same_itself : (a : Entry) → is_same a a ≡ true
same_itself a = and_from (a.item == a.item) (a.value == a.value) (eq-eqb a.item a.item refl) (eq-eqb a.value a.value refl)

abbrev once : Bool → ℕ
once b = cond b 1 0

-- how often an entry stands in a list
abbrev count : Entry → List Entry → ℕ
count x = sum_by (λ y. once (is_same x y))

count-cons : (z x : Entry) (xs : List Entry) → count z (x ∷ xs) ≡ once (is_same z x) + count z xs
count-cons z x xs = sum_by-cons (λ y. once (is_same z y)) x xs

one_more : (x : Entry) (xs : List Entry) → count x (x ∷ xs) ≡ suc (count x xs)
one_more x xs = let e : once (is_same x x) ≡ once true = ap once (same_itself x) in omega (arith, e, count-cons x x xs)

stands : (x : Entry) (xs : List Entry) → 0 < count x xs → (k : ℕ) × (k < length xs) × (x ≡ get_or xs k x)
stands x [] some = absurd (omega (arith, some))
stands x (y ∷ ys) some = elim (cases_Bool (is_same x y)) [
  | inl e ↦ (0, omega arith, same-true x y e)
  | inr e ↦
      let none : once (is_same x y) ≡ once false = ap once e in
      let r = stands x ys (omega (arith, some, none, count-cons x y ys)) in
      (suc r.0, omega (arith, r.1), r.2)
]

moved : (z : Entry) (xs ys : List Entry) → IsPermutation xs ys → count z ys ≡ count z xs
moved z xs ys p = sum_by-IsPermutation (λ y. once (is_same z y)) xs ys p

-- lists that have each entry equally often
counted_alike : (xs ys : List Entry) → ((x : Entry) → count x xs ≡ count x ys) → IsPermutation xs ys
counted_alike [] [] same = IsPermutation-refl []
counted_alike [] (y ∷ ys) same = absurd (omega (arith, same y, one_more y ys))
counted_alike (x ∷ xs) ys same =
    let s = stands x ys (omega (arith, same x, one_more x xs)) in
    let zs = remove ys s.0 in
    let p = IsPermutation-remove ys s.0 x s.1 s.2 in
    let rest = counted_alike xs zs (λ z. omega (arith, same z, moved z ys (x ∷ zs) p, count-cons z x xs, count-cons z x zs)) in
    IsPermutation-trans _ _ _ (IsPermutation-cons x _ _ rest) (IsPermutation-sym _ _ p)

pub same_left : (x : Entry) (xs ys : List Entry) → IsPermutation (x ∷ xs) (x ∷ ys) → IsPermutation xs ys
same_left x xs ys p = counted_alike xs ys (λ z. omega (arith, moved z (x ∷ xs) (x ∷ ys) p, count-cons z x xs, count-cons z x ys))
