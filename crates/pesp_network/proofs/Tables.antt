-- The table of the fundamental walks.
use Rattle.std.proofs.Common.{◌≡◌, ℕ, zero, suc, ◌+◌, ◌-◌, ◌<◌, ◌≤◌, inl, inr, refl, sym, ◌∙◌, ap, arith, subst, List, [], ◌∷◌, ◌++◌, length, map, get_or, true, false, Bool, All, add-one}
use Rattle.std.specs.Prelude.{if◌then◌else◌, ◌==◌, ◌||◌, Contains}
use Rattle.std.specs.List.Sorted.{IsStrictlyIncreasing}
use Rattle.std.proofs.lemmas.Bool.{cases_lt, cases_Bool, eq-eqb, eqb-true, or_cases, or_parts, cond-true, cond-false}
use Rattle.std.proofs.lemmas.List.{map-append, length_push, get_or-append_right}
use Rattle.std.proofs.lemmas.List.Sums.{sum_by-append}
use Rattle.std.proofs.lemmas.Grind.{common_steps}
use Rattle.std.proofs.lemmas.List.Elements.{All-nil, All-push, All-weaker, All-map, All-contains, All-get_or, Contains-append_left, Contains-push}
use Rattle.pesp_problem.specs.declared.row.SignedRow.{SignedRow}
use Rattle.pesp_problem.specs.declared.arc.Arc.{Arc}
use Rattle.pesp_problem.specs.Walks.{Names}
use Rattle.pesp_problem.specs.Forests.{KeepsTo, IsFundamental, AreFundamental, IsSimple, IsSpanningForest, own_row}
use Rattle.pesp_network.specs.declared.row.NetRow.{NetRow}
use Rattle.pesp_network.specs.declared.parts.Forest.{Forest}
use Rattle.pesp_network.specs.Networks.{arcs_of_network, signed_rows, no_net_row, AreTooMany}
use Rattle.pesp_network.specs.Growing.{at}
use Rattle.pesp_problem.specs.Arcs.{tail_of, head_of}
use Rattle.pesp_network.specs.Rooted.{IsForest, IsTreeRow, AreTreeRows}
use Rattle.pesp_network.specs.Ways.{joins_upwards, outside, walk_of, walks_of}
use Rattle.pesp_network.proofs.Places.{tail_more, head_more}
use Rattle.pesp_problem.proofs.Spanning.{roots_span}
use Rattle.pesp_network.proofs.Spanning.{as_roots, are_roots, event_below}
use Rattle.pesp_network.proofs.Paths.{walk_facts, walk_simple}

-- ---- rows of the forest and rows outside it

pub kept_true : (arcs : List Arc) (g : Forest) (k : ℕ) → 0 < k → joins_upwards arcs g k ≡ true → IsTreeRow g k
kept_true arcs g k s e = elim (or_cases (at g.by.items (tail_of arcs k) == k) (at g.by.items (head_of arcs k) == k) e) [
  | inl w ↦ let q = eqb-true _ _ w in (tail_of arcs k, omega arith, q)
  | inr w ↦ let q = eqb-true _ _ w in (head_of arcs k, omega arith, q)
]

pub kept_false : (n : ℕ) (arcs : List Arc) (g : Forest) (k : ℕ) → IsForest n arcs g → joins_upwards arcs g k ≡ false → IsTreeRow g k → ⊥
kept_false n arcs g k f e t =
    let w = or_parts (at g.by.items (tail_of arcs k) == k) (at g.by.items (head_of arcs k) == k) e in
    let x = t.0 in
    elim (f.grown.by_ends x t.1) [
      | inl v ↦ let q = sym (eq-eqb (at g.by.items (tail_of arcs k)) k
          (ap (λ j. at g.by.items (tail_of arcs j)) (sym t.2) ∙ ap (at g.by.items) v.0 ∙ t.2)) ∙ w.0 in cc
      | inr v ↦ let q = sym (eq-eqb (at g.by.items (head_of arcs k)) k
          (ap (λ j. at g.by.items (head_of arcs j)) (sym t.2) ∙ ap (at g.by.items) v.0 ∙ t.2)) ∙ w.1 in cc
    ]

-- a row outside the forest, among the first i
pub record IsOutside (g : Forest) (i k : ℕ) : Type 0 where
  pub some : 1 ≤ k
  pub most : k ≤ i
  pub free : IsTreeRow g k → ⊥

later : (g : Forest) (i k : ℕ) → IsOutside g i k → IsOutside g (suc i) k
later g i k o = record { some = o.some; most = let m = o.most in omega arith; free = o.free }

pub outside_all : (n : ℕ) (arcs : List Arc) (g : Forest) → IsForest n arcs g → (i : ℕ) → All (IsOutside g i) (outside arcs g i)
outside_all n arcs g f zero = All-nil (IsOutside g zero)
outside_all n arcs g f (suc i) =
    let before = All-weaker (IsOutside g i) (IsOutside g (suc i)) (later g i) (outside arcs g i) (outside_all n arcs g f i) in
    let P : Bool → Type 0 = λ b. All (IsOutside g (suc i)) (if b then outside arcs g i else outside arcs g i ++ suc i ∷ []) in
    elim (cases_Bool (joins_upwards arcs g (suc i))) [
      | inl e ↦ subst P (sym e) before
      | inr e ↦ subst P (sym e) (All-push (IsOutside g (suc i)) (outside arcs g i) (suc i) before
          (record { some = omega arith; most = omega arith; free = kept_false n arcs g (suc i) f e }))
    ]

get_or-append_left : (xs ys : List ℕ) (i : ℕ) → i < length xs → get_or (xs ++ ys) i 0 ≡ get_or xs i 0
get_or-append_left xs ys i h = grind (arith, common_steps)

rising_push : (xs : List ℕ) (v : ℕ) → IsStrictlyIncreasing xs → All (λ x. x < v) xs → IsStrictlyIncreasing (xs ++ v ∷ [])
rising_push xs v r a k h =
    let l = length_push xs v in
    let here = get_or-append_left xs (v ∷ []) k (omega arith) in
    elim (cases_lt (k + 1) (length xs)) [
      | inl w ↦ let next = get_or-append_left xs (v ∷ []) (k + 1) w in let q = r k w in omega arith
      | inr w ↦
          let e : k + 1 - length xs ≡ 0 = omega arith in
          let next = get_or-append_right xs (v ∷ []) (length xs) (k + 1) 0 refl (omega arith) ∙ ap (λ i. get_or (v ∷ []) i 0) e in
          let q = All-get_or (λ x. x < v) xs k 0 (omega arith) a in omega arith
    ]

pub outside_rising : (n : ℕ) (arcs : List Arc) (g : Forest) → IsForest n arcs g → (i : ℕ) → IsStrictlyIncreasing (outside arcs g i)
outside_rising n arcs g f zero = λ k h. absurd (omega arith)
outside_rising n arcs g f (suc i) =
    let before = outside_rising n arcs g f i in
    let P : Bool → Type 0 = λ b. IsStrictlyIncreasing (if b then outside arcs g i else outside arcs g i ++ suc i ∷ []) in
    elim (cases_Bool (joins_upwards arcs g (suc i))) [
      | inl e ↦ subst P (sym e) before
      | inr e ↦ subst P (sym e) (rising_push (outside arcs g i) (suc i) before
          (All-weaker (IsOutside g i) (λ x. x < suc i) (λ x o. let m = o.most in omega arith) (outside arcs g i)
          (outside_all n arcs g f i)))
    ]

pub outside_has : (arcs : List Arc) (g : Forest) (i k : ℕ) → 1 ≤ k → k ≤ i → (IsTreeRow g k → ⊥) → Contains (outside arcs g i) k
outside_has arcs g zero k s m free = absurd (omega arith)
outside_has arcs g (suc i) k s m free =
    let P : Bool → Type 0 = λ b. Contains (if b then outside arcs g i else outside arcs g i ++ suc i ∷ []) k in
    elim (cases_Bool (joins_upwards arcs g (suc i))) [
      | inl e ↦ subst P (sym e) (elim (cases_lt k (suc i)) [
        | inl w ↦ outside_has arcs g i k s (omega arith) free
        | inr w ↦ let q : suc i ≡ k = omega arith in let Q : ℕ → Type 0 = λ j. IsTreeRow g j in
            absurd (free (subst Q q (kept_true arcs g (suc i) (omega arith) e)))
      ])
      | inr e ↦ subst P (sym e) (elim (cases_lt k (suc i)) [
        | inl w ↦ Contains-append_left (outside arcs g i) (suc i ∷ []) k (outside_has arcs g i k s (omega arith) free)
        | inr w ↦ let q : suc i ≡ k = omega arith in
            let Q : ℕ → Type 0 = λ j. Contains (outside arcs g i ++ suc i ∷ []) j in
            subst Q q (Contains-push (outside arcs g i) (suc i))
      ])
    ]

-- ---- the walks

pub keeps_to : (n : ℕ) (arcs : List Arc) (g : Forest) (rows : List ℕ) → IsForest n arcs g → AreTreeRows n g rows
    → (way : List SignedRow) → All (λ (s : SignedRow). IsTreeRow g s.row) way → KeepsTo rows way
keeps_to n arcs g rows f t way a =
    let P : ℕ → Type 0 = λ k. Contains rows k in
    All-weaker (λ (s : SignedRow). IsTreeRow g s.row) (λ (s : SignedRow). Contains rows s.row)
    (λ s h. subst P h.2 (t.all h.0 (event_below n arcs g h.0 f h.1) h.1)) way a

pub fundamental : (n : ℕ) (arcs : List Arc) (g : Forest) (rows : List ℕ) (k : ℕ) → IsForest n arcs g
    → AreTreeRows n g rows → Names (length arcs) k → IsFundamental arcs rows k (walk_of arcs g k)
fundamental n arcs g rows k f t r =
    let w = walk_facts n arcs g k f r in
    record { closes = w.closes; back = w.back; begins = w.begins; keeps = keeps_to n arcs g rows f t w.back w.tree }

own_rows : (arcs : List Arc) (g : Forest) (ks : List ℕ) → map own_row (map (walk_of arcs g) ks) ≡ ks
own_rows arcs g [] = refl
own_rows arcs g (k ∷ ks) = ap (λ xs. k ∷ xs) (own_rows arcs g ks)

names_of : (arcs : List Arc) (g : Forest) (k : ℕ) → IsOutside g (length arcs) k → Names (length arcs) k
names_of arcs g k o = (o.some, o.most)

pub spanning : (n : ℕ) (arcs : List Arc) (g : Forest) (rows : List ℕ) → IsForest n arcs g → AreTreeRows n g rows
    → IsSpanningForest arcs rows
spanning n arcs g rows f t = roots_span n arcs (as_roots g) rows (are_roots n arcs g f) (record {
  apart = t.apart;
  listed = t.all;
  joined = λ k c. let w = All-contains (IsTreeRow g) rows k t.tree c in (w.0, event_below n arcs g w.0 f w.1, w.1, w.2);
})

pub not_listed : (g : Forest) (n : ℕ) (rows : List ℕ) (k : ℕ) → AreTreeRows n g rows → (IsTreeRow g k → ⊥) → Contains rows k → ⊥
not_listed g n rows k t free h = free (All-contains (IsTreeRow g) rows k t.tree h)

pub not_tree : (n : ℕ) (arcs : List Arc) (g : Forest) (rows : List ℕ) (k : ℕ) → IsForest n arcs g
    → AreTreeRows n g rows → (Contains rows k → ⊥) → IsTreeRow g k → ⊥
not_tree n arcs g rows k f t free h =
    let P : ℕ → Type 0 = λ j. Contains rows j in
    free (subst P h.2 (t.all h.0 (event_below n arcs g h.0 f h.1) h.1))

pub table_fundamental : (n : ℕ) (arcs : List Arc) (g : Forest) (rows : List ℕ) → IsForest n arcs g
    → AreTreeRows n g rows → AreFundamental arcs rows (walks_of arcs g (length arcs))
table_fundamental n arcs g rows f t =
    let m = length arcs in
    let outs = outside arcs g m in
    let own = own_rows arcs g outs in
    let all = outside_all n arcs g f m in
    let P : List ℕ → Type 0 = λ ks. IsStrictlyIncreasing ks in
    record {
      each = All-map (λ walk. IsFundamental arcs rows (own_row walk) walk) (walk_of arcs g) outs
          (All-weaker (IsOutside g m) (λ k. IsFundamental arcs rows k (walk_of arcs g k))
          (λ k o. fundamental n arcs g rows k f t (names_of arcs g k o)) outs all);
      rising = subst P (sym own) (outside_rising n arcs g f m);
      outside = λ k names free. let Q : List ℕ → Type 0 = λ ks. Contains ks k in
          subst Q (sym own) (outside_has arcs g m k names.0 names.1 (not_tree n arcs g rows k f t free));
      others = λ k has listed. let Q : List ℕ → Type 0 = λ ks. Contains ks k in
          let o = All-contains (IsOutside g m) outs k all (subst Q own has) in
          o.free (All-contains (IsTreeRow g) rows k t.tree listed);
    }

pub table_simple : (n : ℕ) (arcs : List Arc) (g : Forest) → IsForest n arcs g → All (IsSimple arcs) (walks_of arcs g (length arcs))
table_simple n arcs g f =
    let m = length arcs in let outs = outside arcs g m in
    All-map (IsSimple arcs) (walk_of arcs g) outs
    (All-weaker (IsOutside g m) (λ k. IsSimple arcs (walk_of arcs g k))
    (λ k o. walk_simple n arcs g k f (names_of arcs g k o) o.free) outs (outside_all n arcs g f m))

pub too_many : (n : ℕ) (arcs : List Arc) (g : Forest) (rows : List ℕ) → IsForest n arcs g → AreTreeRows n g rows
    → 10000000 < signed_rows (walks_of arcs g (length arcs)) → AreTooMany arcs rows
too_many n arcs g rows f t h = record {
  table = walks_of arcs g (length arcs);
  fundamental = table_fundamental n arcs g rows f t;
  simple = table_simple n arcs g f;
  many = h;
}

-- ---- one row more

kept_same : (arcs : List Arc) (g : Forest) (i : ℕ) → joins_upwards arcs g (suc i) ≡ true → walks_of arcs g (suc i) ≡ walks_of arcs g i
kept_same arcs g i e = ap (map (walk_of arcs g)) (cond-true (joins_upwards arcs g (suc i)) (outside arcs g i) (outside arcs g i ++ suc i ∷ []) e)

free_more : (arcs : List Arc) (g : Forest) (i : ℕ) → joins_upwards arcs g (suc i) ≡ false
    → walks_of arcs g (suc i) ≡ walks_of arcs g i ++ walk_of arcs g (suc i) ∷ []
free_more arcs g i e = ap (map (walk_of arcs g))
    (cond-false (joins_upwards arcs g (suc i)) (outside arcs g i) (outside arcs g i ++ suc i ∷ []) e)
    ∙ map-append (walk_of arcs g) (outside arcs g i) (suc i ∷ [])

pub kept_next : (arcs : List Arc) (g : Forest) (i : ℕ) → joins_upwards arcs g (i + 1) ≡ true → walks_of arcs g (i + 1) ≡ walks_of arcs g i
kept_next arcs g i e = let q = add-one i in ap (walks_of arcs g) q ∙ kept_same arcs g i (sym (ap (joins_upwards arcs g) q) ∙ e)

pub free_next : (arcs : List Arc) (g : Forest) (i : ℕ) → joins_upwards arcs g (i + 1) ≡ false
    → walks_of arcs g (i + 1) ≡ walks_of arcs g i ++ walk_of arcs g (i + 1) ∷ []
free_next arcs g i e = let q = add-one i in ap (walks_of arcs g) q
    ∙ free_more arcs g i (sym (ap (joins_upwards arcs g) q) ∙ e)
    ∙ ap (λ j. walks_of arcs g i ++ walk_of arcs g j ∷ []) (sym q)

one_more : (table : List (List SignedRow)) (walk : List SignedRow) → signed_rows (table ++ walk ∷ []) ≡ signed_rows table + length walk
one_more table walk = let e = sum_by-append length table (walk ∷ []) in omega (arith, e)

pub total_more : (arcs : List Arc) (g : Forest) (i : ℕ) → joins_upwards arcs g (i + 1) ≡ false
    → signed_rows (walks_of arcs g (i + 1)) ≡ signed_rows (walks_of arcs g i) + length (walk_of arcs g (i + 1))
total_more arcs g i e = ap signed_rows (free_next arcs g i e) ∙ one_more (walks_of arcs g i) (walk_of arcs g (i + 1))

total_rises : (arcs : List Arc) (g : Forest) (i : ℕ) → signed_rows (walks_of arcs g i) ≤ signed_rows (walks_of arcs g (suc i))
total_rises arcs g i = elim (cases_Bool (joins_upwards arcs g (suc i))) [
  | inl e ↦ let q = ap signed_rows (kept_same arcs g i e) in omega arith
  | inr e ↦ let q = ap signed_rows (free_more arcs g i e) ∙ one_more (walks_of arcs g i) (walk_of arcs g (suc i)) in omega arith
]

rises_to : (arcs : List Arc) (g : Forest) (i d m : ℕ) → m ≡ i + d → signed_rows (walks_of arcs g i) ≤ signed_rows (walks_of arcs g m)
rises_to arcs g i zero m e = let q : m ≡ i = omega arith in let w = ap (λ j. signed_rows (walks_of arcs g j)) q in omega arith
rises_to arcs g i (suc d) zero e = absurd (omega arith)
rises_to arcs g i (suc d) (suc m) e = let w = rises_to arcs g i d m (omega arith) in let s = total_rises arcs g m in omega arith

pub total_at_most : (arcs : List Arc) (g : Forest) (i m : ℕ) → i ≤ m → signed_rows (walks_of arcs g i) ≤ signed_rows (walks_of arcs g m)
total_at_most arcs g i m h = rises_to arcs g i (m - i) m (omega arith)

-- the test of a row by its ends
pub kept_is : (rows : List NetRow) (g : Forest) (i : ℕ) → i < length rows
    → ((at g.by.items (get_or rows i no_net_row).tail == i + 1)
    || (at g.by.items (get_or rows i no_net_row).head == i + 1)) ≡ joins_upwards (arcs_of_network rows) g (i + 1)
kept_is rows g i h = ap (λ x. (at g.by.items x == i + 1)
    || (at g.by.items (get_or rows i no_net_row).head == i + 1)) (tail_more rows i h)
    ∙ ap (λ x. (at g.by.items (tail_of (arcs_of_network rows) (i + 1)) == i + 1) || (at g.by.items x == i + 1))
    (head_more rows i h)
