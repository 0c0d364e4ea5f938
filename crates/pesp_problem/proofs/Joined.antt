-- Events that are joined, and the first event of each component.
use Rattle.std.proofs.Common.{◌≡◌, ◌≢◌, ℕ, zero, suc, ◌+◌, ◌-◌, ◌<◌, ◌≤◌, ◌⊎◌, inl, inr, List, [], ◌∷◌, ◌++◌, length, min, max, add-one, refl, ap, arith, sym, ◌∙◌, subst, Bool, true, false}
use Rattle.std.specs.Prelude.{nat_eq, if◌then◌else◌, ◌||◌}
use Rattle.std.proofs.lemmas.Bool.{cases_lt}
use Rattle.std.proofs.lemmas.Bool.Decides.{nat_tests}
use Rattle.std.proofs.lemmas.List.Elements.{All-nil, All-cons, All-append, All-head, All-tail}
use Rattle.pesp_problem.specs.declared.row.SignedRow.{SignedRow}
use Rattle.pesp_problem.specs.declared.arc.Arc.{Arc}
use Rattle.pesp_problem.specs.Arcs.{arc_at}
use Rattle.pesp_problem.specs.Walks.{start, finish, Leads, AreRows, RowExists, Names}
use Rattle.pesp_problem.specs.Forests.{AreJoined, IsFirstOf}

-- ---- ways

pub joined_same : (arcs : List Arc) (a : ℕ) → AreJoined arcs a a
joined_same arcs a = ([], All-nil (RowExists arcs), refl)

leads_both : (arcs : List Arc) (xs ys : List SignedRow) (a b c : ℕ) → Leads arcs a xs b → Leads arcs b ys c → Leads arcs a (xs ++ ys) c
leads_both arcs [] ys a b c l m = let P : ℕ → Type 0 = λ x. Leads arcs x ys c in subst P (sym l) m
leads_both arcs (s ∷ xs) ys a b c l m = (l.0, leads_both arcs xs ys (finish arcs s) b c l.1 m)

pub joined_both : (arcs : List Arc) (a b c : ℕ) → AreJoined arcs a b → AreJoined arcs b c → AreJoined arcs a c
joined_both arcs a b c h k = (h.0 ++ k.0, All-append (RowExists arcs) h.0 k.0 h.1 k.1, leads_both arcs h.0 k.0 a b c h.2 k.2)

joined_row : (arcs : List Arc) (s : SignedRow) → RowExists arcs s → AreJoined arcs (start arcs s) (finish arcs s)
joined_row arcs s e = (s ∷ [], All-cons (RowExists arcs) s [] e (All-nil (RowExists arcs)), (refl, refl))

turned : (arcs : List Arc) (row : ℕ) (plus : Bool) → Names (length arcs) row
    → AreJoined arcs (finish arcs (record { row = row; plus = plus }))
    (start arcs (record { row = row; plus = plus }))
turned arcs row true e = joined_row arcs (record { row = row; plus = false }) e
turned arcs row false e = joined_row arcs (record { row = row; plus = true }) e

pub joined_back : (arcs : List Arc) (way : List SignedRow) (a b : ℕ) → AreRows arcs way → Leads arcs a way b → AreJoined arcs b a
joined_back arcs [] a b rows l = let P : ℕ → Type 0 = λ x. AreJoined arcs x a in subst P l (joined_same arcs a)
joined_back arcs (s ∷ way) a b rows l =
    let P : ℕ → Type 0 = λ x. AreJoined arcs b x in
    subst P l.0 (joined_both arcs b (finish arcs s) (start arcs s)
    (joined_back arcs way (finish arcs s) b (All-tail (RowExists arcs) s way rows) l.1)
    (turned arcs s.row s.plus (All-head (RowExists arcs) s way rows)))

-- both ends of a row are joined
pub ends_joined : (arcs : List Arc) (i : ℕ) → i < length arcs → AreJoined arcs (arc_at arcs i).tail (arc_at arcs i).head
ends_joined arcs i l =
    let e : i + 1 - 1 ≡ i = omega arith in
    let P : ℕ → Type 0 = λ k. AreJoined arcs (arc_at arcs k).tail (arc_at arcs k).head in
    subst P e (joined_row arcs (record { row = i + 1; plus = true }) (omega arith, omega arith))

-- ---- the first event

-- the class that two classes become
pub merged : ℕ → ℕ → ℕ → ℕ
merged a b f = if nat_eq f a || nat_eq f b then min a b else f

-- the first event that is joined with x by the first k rows
pub first_in : List Arc → ℕ → ℕ → ℕ
first_in arcs zero x = x
first_in arcs (suc k) x = merged (first_in arcs k (arc_at arcs k).tail) (first_in arcs k (arc_at arcs k).head) (first_in arcs k x)

merged_cases : (a b f : ℕ) → (((f ≡ a) ⊎ (f ≡ b)) × (merged a b f ≡ min a b)) ⊎ (merged a b f ≡ f)
unfolding merged
merged_cases a b f = by (nat_eq f a) (nat_eq f b) refl refl
  where
    is : (x y : ℕ) → nat_eq x y ≡ true → x ≡ y
    is x y h = grind (arith, nat_tests)

    by : (u v : Bool) → nat_eq f a ≡ u → nat_eq f b ≡ v
        → (((f ≡ a) ⊎ (f ≡ b)) × ((if nat_eq f a || nat_eq f b then min a b else f) ≡ min a b))
        ⊎ ((if nat_eq f a || nat_eq f b then min a b else f) ≡ f)
    by true v e g = inl (inl (is f a e), ap (λ (w : Bool). if w || nat_eq f b then min a b else f) e)
    by false true e g = inl (
      inr (is f b g),
      ap (λ (w : Bool). if w || nat_eq f b then min a b else f) e
          ∙ ap (λ (w : Bool). if false || w then min a b else f) g,
    )
    by false false e g = inr (ap (λ (w : Bool). if w || nat_eq f b then min a b else f) e
        ∙ ap (λ (w : Bool). if false || w then min a b else f) g)

merged_left : (a b : ℕ) → merged a b a ≡ min a b
unfolding merged
merged_left a b = let e : nat_eq a a ≡ true = same a in ap (λ (w : Bool). if w || nat_eq a b then min a b else a) e
  where
    same : (a : ℕ) → nat_eq a a ≡ true
    same a = grind (arith, nat_tests)

merged_right : (a b : ℕ) → merged a b b ≡ min a b
unfolding merged
merged_right a b = pick (nat_eq b a) (nat_eq b b) (same b)
  where
    same : (a : ℕ) → nat_eq a a ≡ true
    same a = grind (arith, nat_tests)

    pick : (u v : Bool) → v ≡ true → (if u || v then min a b else b) ≡ min a b
    pick true v e = refl
    pick false v e = ap (λ (w : Bool). if w then min a b else b) e

-- the greater class becomes the lesser, and every other stays
pub merged_most : (a b f : ℕ) → f ≡ max a b → merged a b f ≡ min a b
merged_most a b f e = elim (which a b) [
  | inl q ↦ ap (λ x. merged a b x) (e ∙ q) ∙ merged_left a b
  | inr q ↦ ap (λ x. merged a b x) (e ∙ q) ∙ merged_right a b
]
  where
    which : (a b : ℕ) → (max a b ≡ a) ⊎ (max a b ≡ b)
    which a b = grind arith

pub merged_else : (a b f : ℕ) → f ≢ max a b → merged a b f ≡ f
merged_else a b f n = elim (merged_cases a b f) [
  | inl h ↦ h.1 ∙ elim h.0 [
    | inl e ↦ let m : min a b ≡ f = lesser a b f (inl e) n in
        m
    | inr e ↦ let m : min a b ≡ f = lesser a b f (inr e) n in m
  ]
  | inr h ↦ h
]
  where
    lesser : (a b f : ℕ) → (f ≡ a) ⊎ (f ≡ b) → f ≢ max a b → min a b ≡ f
    lesser a b f (inl e) n = omega arith
    lesser a b f (inr e) n = omega arith

pub first_none : (arcs : List Arc) (x : ℕ) → first_in arcs 0 x ≡ x
unfolding first_in
first_none arcs x = refl

pub first_more : (arcs : List Arc) (k x : ℕ) → first_in arcs (k + 1) x
    ≡ merged (first_in arcs k (arc_at arcs k).tail) (first_in arcs k (arc_at arcs k).head) (first_in arcs k x)
unfolding first_in
first_more arcs k x = ap (λ (m : ℕ). first_in arcs m x) (add-one k)

first_low : (arcs : List Arc) (k x : ℕ) → first_in arcs k x ≤ x
unfolding first_in
first_low arcs zero x = omega arith
first_low arcs (suc k) x =
    let a = first_in arcs k (arc_at arcs k).tail in
    let b = first_in arcs k (arc_at arcs k).head in
    let l : first_in arcs k x ≤ x = first_low arcs k x in
    low a b (first_in arcs k x) x l (merged_cases a b (first_in arcs k x))
  where
    low : (a b f x : ℕ) → f ≤ x → (((f ≡ a) ⊎ (f ≡ b)) × (merged a b f ≡ min a b)) ⊎ (merged a b f ≡ f) → merged a b f ≤ x
    low a b f x l (inr e) = omega arith
    low a b f x l (inl (inl q, e)) = omega arith
    low a b f x l (inl (inr q, e)) = omega arith

first_same : (arcs : List Arc) (k i : ℕ) → i < k → first_in arcs k (arc_at arcs i).tail ≡ first_in arcs k (arc_at arcs i).head
unfolding first_in
first_same arcs zero i l = absurd (omega arith)
first_same arcs (suc k) i l =
    let a = first_in arcs k (arc_at arcs k).tail in
    let b = first_in arcs k (arc_at arcs k).head in
    elim (cases_lt i k) [
      | inl m ↦ ap (λ (f : ℕ). merged a b f) (first_same arcs k i m)
      | inr m ↦
          let e : i ≡ k = omega arith in
          ap (λ (j : ℕ). merged a b (first_in arcs k (arc_at arcs j).tail)) e
          ∙ (merged_left a b ∙ (sym (merged_right a b)
          ∙ ap (λ (j : ℕ). merged a b (first_in arcs k (arc_at arcs j).head)) (sym e)))
    ]

first_joined : (arcs : List Arc) (k x : ℕ) → k ≤ length arcs → AreJoined arcs x (first_in arcs k x)
unfolding first_in
first_joined arcs zero x l = joined_same arcs x
first_joined arcs (suc k) x l =
    let t = (arc_at arcs k).tail in
    let h = (arc_at arcs k).head in
    let ja = first_joined arcs k t (omega arith) in
    let jb = first_joined arcs k h (omega arith) in
    let jx = first_joined arcs k x (omega arith) in
    let row = ends_joined arcs k (omega arith) in
    let ab = joined_both arcs _ t _ (joined_back arcs ja.0 t _ ja.1 ja.2) (joined_both arcs t h _ row jb) in
    let ba = joined_back arcs ab.0 _ _ ab.1 ab.2 in
    reach (first_in arcs k t) (first_in arcs k h) (first_in arcs k x) jx ab ba
    (merged_cases (first_in arcs k t) (first_in arcs k h) (first_in arcs k x))
  where
    least : (a b : ℕ) → (min a b ≡ a) ⊎ (min a b ≡ b)
    least a b = grind arith

    to : (a b m : ℕ) → m ≡ min a b → AreJoined arcs x a → AreJoined arcs x b → AreJoined arcs x m
    to a b m e ja jb =
        let P : ℕ → Type 0 = λ y. AreJoined arcs x y in
        elim (least a b) [ inl q ↦ subst P (sym (e ∙ q)) ja | inr q ↦ subst P (sym (e ∙ q)) jb ]

    reach : (a b f : ℕ) → AreJoined arcs x f → AreJoined arcs a b → AreJoined arcs b a
        → (((f ≡ a) ⊎ (f ≡ b)) × (merged a b f ≡ min a b)) ⊎ (merged a b f ≡ f) → AreJoined arcs x (merged a b f)
    reach a b f jx ab ba (inr e) = let P : ℕ → Type 0 = λ y. AreJoined arcs x y in subst P (sym e) jx
    reach a b f jx ab ba (inl (inl q, e)) = let P : ℕ → Type 0 = λ y. AreJoined arcs x y in
        let ja = subst P q jx in to a b (merged a b f) e ja (joined_both arcs x a b ja ab)
    reach a b f jx ab ba (inl (inr q, e)) = let P : ℕ → Type 0 = λ y. AreJoined arcs x y in
        let jb = subst P q jx in to a b (merged a b f) e (joined_both arcs x b a jb ba) jb

-- the first event of a component
pub first_event : List Arc → ℕ → ℕ
first_event arcs x = first_in arcs (length arcs) x

along : (arcs : List Arc) (way : List SignedRow) (a b : ℕ) → AreRows arcs way → Leads arcs a way b → first_event arcs a ≡ first_event arcs b
unfolding first_event
along arcs [] a b rows l = ap (λ (x : ℕ). first_in arcs (length arcs) x) l
along arcs (s ∷ way) a b rows l =
    let e : Names (length arcs) s.row = All-head (RowExists arcs) s way rows in
    ap (λ (x : ℕ). first_in arcs (length arcs) x) (sym l.0)
    ∙ (over s.row s.plus e ∙ along arcs way (finish arcs s) b (All-tail (RowExists arcs) s way rows) l.1)
  where
    over : (row : ℕ) (plus : Bool) → Names (length arcs) row
        → first_in arcs (length arcs) (start arcs (record { row = row; plus = plus }))
        ≡ first_in arcs (length arcs) (finish arcs (record { row = row; plus = plus }))
    over row true e = let l : row - 1 < length arcs = below row e.0 e.1 in first_same arcs (length arcs) (row - 1) l
      where
        below : (row : ℕ) → 1 ≤ row → row ≤ length arcs → row - 1 < length arcs
        below row a b = omega arith
    over row false e = let l : row - 1 < length arcs = below row e.0 e.1 in sym (first_same arcs (length arcs) (row - 1) l)
      where
        below : (row : ℕ) → 1 ≤ row → row ≤ length arcs → row - 1 < length arcs
        below row a b = omega arith

pub first_is : (arcs : List Arc) (x : ℕ) → IsFirstOf arcs x (first_event arcs x)
unfolding first_event
first_is arcs x = record {
  joined = first_joined arcs (length arcs) x (omega arith);
  least = λ other j. let e = along arcs j.0 x other j.1 j.2 in let l = first_low arcs (length arcs) other in omega arith;
}

pub first_all : (arcs : List Arc) (x f : ℕ) → f ≡ first_in arcs (length arcs) x → IsFirstOf arcs x f
unfolding first_event
first_all arcs x f e = subst (λ (y : ℕ). IsFirstOf arcs x y) (sym e) (first_is arcs x)

pub one_first : (arcs : List Arc) (x f : ℕ) → IsFirstOf arcs x f → f ≡ first_event arcs x
one_first arcs x f h = let o = first_is arcs x in
    let a : f ≤ first_event arcs x = h.least (first_event arcs x) o.joined in
    let b : first_event arcs x ≤ f = o.least f h.joined in omega arith

pub row_first : (arcs : List Arc) (i : ℕ) → i < length arcs → first_event arcs (arc_at arcs i).tail ≡ first_event arcs (arc_at arcs i).head
unfolding first_event
row_first arcs i l = first_same arcs (length arcs) i l
