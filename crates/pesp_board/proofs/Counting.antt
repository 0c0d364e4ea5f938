-- No item stands in a queue twice: how often it stands there, counted.
use Rattle.std.proofs.Common.{◌≡◌, ◌≢◌, ℕ, suc, ◌+◌, ◌<◌, ◌≤◌, inl, inr, cond, ◌==◌, List, [], ◌∷◌, ◌++◌, length, refl, sym, ap, ◌∙◌, arith}
use Rattle.std.specs.List.{sum_by}
use Rattle.std.specs.List.Sorted.{IsPermutation}
use Rattle.std.proofs.lemmas.Bool.{cases_eq, eq-eqb, ne_eqb}
use Rattle.std.proofs.lemmas.List.Sums.{sum_by-cons, sum_by-append, get_or-le-sum_by}
use Rattle.std.proofs.lemmas.List.Sorted.{sum_by-IsPermutation}
use Rattle.pesp_tree.specs.declared.entry.Entry.{Entry}
use Rattle.pesp_tree.specs.Entries.{entry, item_at, HasItem, ItemsDiffer}

abbrev once : ℕ → Entry → ℕ
once item e = cond (e.item == item) 1 0

-- how often an item stands in a list
abbrev times : ℕ → List Entry → ℕ
times item xs = sum_by (once item) xs

times-cons : (item : ℕ) (x : Entry) (xs : List Entry) → times item (x ∷ xs) ≡ once item x + times item xs
times-cons item x xs = sum_by-cons (once item) x xs

once_is : (item : ℕ) (x : Entry) → x.item ≡ item → once item x ≡ 1
once_is item x e = ap (λ b. cond b 1 0) (eq-eqb x.item item e)

once_not : (item : ℕ) (x : Entry) → x.item ≢ item → once item x ≡ 0
once_not item x n = ap (λ b. cond b 1 0) (ne_eqb x.item item n)

never : (item : ℕ) (xs : List Entry) → ((j : ℕ) → j < length xs → item_at xs j ≢ item) → times item xs ≡ 0
never item [] h = refl
never item (x ∷ xs) h =
    let rest = never item xs (λ j l. h (suc j) (omega (arith, l))) in
    let first = once_not item x (h 0 (omega arith)) in
    omega (arith, rest, first, times-cons item x xs)

tail_differs : (x : Entry) (xs : List Entry) → ItemsDiffer (x ∷ xs) → ItemsDiffer xs
tail_differs x xs h i j l w = h (suc i) (suc j) (omega (arith, l)) (omega (arith, w))

at_most_once : (item : ℕ) (xs : List Entry) → ItemsDiffer xs → times item xs ≤ 1
at_most_once item [] h = omega arith
at_most_once item (x ∷ xs) h =
    elim (cases_eq x.item item) [
      | inl same ↦ (let rest = never item xs (λ j l e.
          h 0 (suc j) (omega arith) (omega (arith, l)) (same ∙ sym e)) in
          omega (arith, rest, once_is item x same, times-cons item x xs))
      | inr other ↦ omega (arith, at_most_once item xs (tail_differs x xs h), once_not item x other, times-cons item x xs)
    ]

counted : (item : ℕ) (xs : List Entry) → HasItem xs item → 0 < times item xs
counted item xs h =
    let some = once_is item (entry item h.0) refl in
    let same = ap (once item) h.1.2 in
    omega (arith, get_or-le-sum_by (once item) xs h.1.0 (entry item h.0) h.1.1, some, same)

-- where no item stands twice, one that is taken out of the second list stands in none
pub gone : (a b d : List Entry) (item value : ℕ) → ItemsDiffer (a ++ b) → IsPermutation b (entry item value ∷ d) → HasItem (a ++ d) item → ⊥
gone a b d item value differ taken has =
    let most = at_most_once item (a ++ b) differ in
    let moved = sum_by-IsPermutation (once item) b (entry item value ∷ d) taken in
    omega (
      arith,
      most,
      moved,
      times-cons item (entry item value) d,
      once_is item (entry item value) refl,
      sum_by-append (once item) a b,
      sum_by-append (once item) a d,
      counted item (a ++ d) has,
    )
