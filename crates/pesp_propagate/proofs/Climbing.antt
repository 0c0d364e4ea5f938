-- A row is climbed from both its ends until they meet, and each cut that it crosses is passed once.
use Rattle.std.proofs.Common.{◌≡◌, ◌≢◌, ◌⊎◌, inl, inr, ℕ, ◌+◌, ◌<◌, ◌≤◌, suc, refl, ap, sym, ◌∙◌, arith, subst, List, [], ◌∷◌, ◌++◌, true, false, Bool, add-one, append-nil}
use Rattle.std.proofs.lemmas.Bool.{false≢true, cases_eq}
use Rattle.pesp_problem.specs.declared.arc.Arc.{Arc}
use Rattle.pesp_problem.specs.Arcs.{arc_at}
use Rattle.pesp_propagate.specs.declared.crossing.Entry.{Entry}
use Rattle.pesp_propagate.specs.declared.cuts.Cuts.{Cuts}
use Rattle.pesp_propagate.specs.Entries.{entry_if, cut_entries}
use Rattle.pesp_problem.specs.Roots.{Roots, AreRoots, below}
use Rattle.pesp_propagate.specs.Lists.{pushed, Puts, if_same, IsClimbed, IsStep, AreListed}
use Rattle.pesp_problem.proofs.Below.{below_here, below_up, not_below}
use Rattle.pesp_propagate.proofs.Listing.{pushed_here, pushed_other, same_lists}

same : {A : Type 0} (p q : Bool) (a b : A) → p ≡ q → if_same p q a b ≡ a
same true true a b e = refl
same true false a b e = absurd (false≢true (sym e))
same false true a b e = absurd (false≢true e)
same false false a b e = refl

apart : {A : Type 0} (p q : Bool) (a b : A) → (p ≡ q → ⊥) → if_same p q a b ≡ b
apart true true a b e = absurd (e refl)
apart true false a b e = refl
apart false true a b e = refl
apart false false a b e = absurd (e refl)

none_if_same : (i : ℕ) (h t : Bool) → h ≡ t → entry_if i h t ≡ []
none_if_same i true true e = refl
none_if_same i true false e = absurd (false≢true (sym e))
none_if_same i false true e = absurd (false≢true e)
none_if_same i false false e = refl

-- where the row doesn't cross, its list stays
stays : (side : ℕ → Bool) (arcs : List Arc) (i : ℕ) → side (arc_at arcs i).head ≡ side (arc_at arcs i).tail
    → cut_entries side arcs (suc i) ≡ cut_entries side arcs i
stays side arcs i e = ap (λ xs. cut_entries side arcs i ++ xs) (none_if_same i _ _ e) ∙ append-nil (cut_entries side arcs i)

same_or_not : (p q : Bool) → (p ≡ q) ⊎ (p ≡ q → ⊥)
same_or_not true true = inl refl
same_or_not true false = inr (λ e. false≢true (sym e))
same_or_not false true = inr (λ e. false≢true e)
same_or_not false false = inl refl

-- as the climb begins
pub begins : (n : ℕ) (arcs : List Arc) (r : Roots) (i : ℕ) (cuts : Cuts) → AreListed n arcs r i cuts
    → IsClimbed n arcs r i (arc_at arcs i).head (arc_at arcs i).tail cuts
begins n arcs r i cuts h = record {
  lists = same_lists n _ _ _ (λ c. cut_entries (below r c) arcs i) _ h
      (λ c l. elim (same_or_not (below r c (arc_at arcs i).head) (below r c (arc_at arcs i).tail)) [
        | inl e ↦ sym (same (below r c (arc_at arcs i).head) (below r c (arc_at arcs i).tail)
            (cut_entries (below r c) arcs (suc i)) (cut_entries (below r c) arcs i) e ∙ stays (below r c) arcs i e)
        | inr ne ↦ sym (apart (below r c (arc_at arcs i).head) (below r c (arc_at arcs i).tail)
            (cut_entries (below r c) arcs (suc i)) (cut_entries (below r c) arcs i) ne)
      ]);
  left = λ c l ne. (refl, refl);
}

-- as the two ends have met
pub met : (n : ℕ) (arcs : List Arc) (r : Roots) (i x y : ℕ) (cuts : Cuts) → x ≡ y → IsClimbed n arcs r i x y cuts
    → AreListed n arcs r (i + 1) cuts
met n arcs r i x y cuts e h =
    same_lists n _ _ _ (λ c. if_same (below r c x) (below r c y) (cut_entries (below r c) arcs (suc i))
    (cut_entries (below r c) arcs i)) _ h.lists
    (λ c l. same (below r c x) (below r c y) (cut_entries (below r c) arcs (suc i)) (cut_entries (below r c) arcs i)
    (ap (below r c) e) ∙ ap (cut_entries (below r c) arcs) (sym (add-one i)))

-- the list of a cut before and after the climb passes x
list_passed : (n : ℕ) (arcs : List Arc) (r : Roots) (i x y : ℕ) (e : Entry) → AreRoots n arcs r → x < n → y < n
    → 0 < r.by x → r.depth y ≤ r.depth x → y ≢ x
    → cut_entries (below r x) arcs (suc i) ≡ cut_entries (below r x) arcs i ++ e ∷ [] → (c : ℕ) → c < n
    → pushed (λ c. if_same (below r c x) (below r c y) (cut_entries (below r c) arcs (suc i)) (cut_entries (below r c) arcs i)) x e c
    ≡ if_same (below r c (r.up x)) (below r c y) (cut_entries (below r c) arcs (suc i)) (cut_entries (below r c) arcs i)
list_passed n arcs r i x y e a lx ly j dy ne grown c l =
    let f : ℕ → List Entry = λ c. if_same (below r c x) (below r c y) (cut_entries (below r c) arcs (suc i))
    (cut_entries (below r c) arcs i) in
    let climbs = a.climbs x lx j in
    elim (cases_eq c x) [
      | inl q ↦
          let nu : r.up x ≢ x = λ z. let d = ap r.depth z in omega arith in
          let out : below r x y ≡ false = not_below n arcs r x y a lx ly dy ne in
          let up : below r x (r.up x) ≡ false = not_below n arcs r x (r.up x) a lx (a.above x lx j) (omega arith) nu in
          let here : below r x x ≡ true = below_here r x x refl in
          let P : ℕ → Type 0 = λ z. pushed f x e z
          ≡ if_same (below r z (r.up x)) (below r z y) (cut_entries (below r z) arcs (suc i))
          (cut_entries (below r z) arcs i) in
          subst P (sym q) (
          pushed_here f x e x refl
          ∙ ap (λ xs. xs ++ e ∷ []) (apart (below r x x) (below r x y) (cut_entries (below r x) arcs (suc i))
          (cut_entries (below r x) arcs i) (λ z. false≢true (sym out ∙ sym z ∙ here)))
          ∙ sym grown
          ∙ sym (same (below r x (r.up x)) (below r x y) (cut_entries (below r x) arcs (suc i))
          (cut_entries (below r x) arcs i) (up ∙ sym out)))
      | inr nc ↦
          pushed_other f x e c nc
          ∙ ap (λ t. if_same t (below r c y) (cut_entries (below r c) arcs (suc i)) (cut_entries (below r c) arcs i))
          (below_up n arcs r c x a lx j (λ z. nc (sym z)))
    ]

turned : {A : Type 0} (p q : Bool) (a b : A) → if_same p q a b ≡ if_same q p a b
turned true true a b = refl
turned true false a b = refl
turned false true a b = refl
turned false false a b = refl

pushed_same : (f g : ℕ → List Entry) (cut : ℕ) (e : Entry) (c : ℕ) → f c ≡ g c → pushed f cut e c ≡ pushed g cut e c
pushed_same f g cut e c q = elim (cases_eq c cut) [
  | inl h ↦ pushed_here f cut e c h ∙ ap (λ xs. xs ++ e ∷ []) q ∙ sym (pushed_here g cut e c h)
  | inr ne ↦ pushed_other f cut e c ne ∙ q ∙ sym (pushed_other g cut e c ne)
]

inward_if : (i : ℕ) (h t : Bool) → h ≡ true → t ≡ false → entry_if i h t ≡ record { row = i; inward = true } ∷ []
inward_if i true true e f = absurd (false≢true (sym f))
inward_if i true false e f = refl
inward_if i false t e f = absurd (false≢true e)

outward_if : (i : ℕ) (h t : Bool) → h ≡ false → t ≡ true → entry_if i h t ≡ record { row = i; inward = false } ∷ []
outward_if i false false e f = absurd (false≢true f)
outward_if i false true e f = refl
outward_if i true t e f = absurd (false≢true (sym e))

-- the end that comes from the head goes up
pub step_head : (n : ℕ) (arcs : List Arc) (r : Roots) (i x y up : ℕ) (old new : Cuts) → AreRoots n arcs r → x < n
    → y < n → x ≢ y → r.depth y ≤ r.depth x → 0 < r.by x → up ≡ r.up x
    → Puts old new x (record { row = i; inward = true })
    → IsStep n arcs r i x y old new (up, y)
step_head n arcs r i x y up old new a lx ly ne dy j is puts =
    let e : Entry = record { row = i; inward = true } in
    let climbs = a.climbs x lx j in
    let P : ℕ → Type 0 = λ u. IsStep n arcs r i x y old new (u, y) in
    let ny : y ≢ x = λ q. ne (sym q) in
    subst P (sym is) (record {
      inside = (a.above x lx j, ly);
      nearer = omega arith;
      climbed = λ h.
          let out : below r x y ≡ false = not_below n arcs r x y a lx ly dy ny in
          let here : below r x x ≡ true = below_here r x x refl in
          let w = h.left x lx (λ z. false≢true (sym out ∙ sym z ∙ here)) in
          let grown : cut_entries (below r x) arcs (suc i)
          ≡ cut_entries (below r x) arcs i ++ e ∷ [] =
          ap (λ xs. cut_entries (below r x) arcs i ++ xs) (inward_if i _ _ (sym w.0 ∙ here) (sym w.1 ∙ out)) in
          record {
            lists = same_lists n _ _ _ _ _ (puts n _ lx h.lists) (list_passed n arcs r i x y e a lx ly j dy ny grown);
            left = λ c l apart_still. elim (cases_eq c x) [
              | inl q ↦
                  let nu : r.up x ≢ x = λ z. let d = ap r.depth z in omega arith in
                  let up_out : below r x (r.up x) ≡ false = not_below n arcs r x (r.up x) a lx (a.above x lx j) (omega arith) nu in
                  let Q : ℕ → Type 0 = λ z. below r z (r.up x) ≡ below r z y in
                  absurd (apart_still (subst Q (sym q) (up_out ∙ sym out)))
              | inr nc ↦
                  let keep = below_up n arcs r c x a lx j (λ z. nc (sym z)) in
                  let v = h.left c l (λ z. apart_still (sym keep ∙ z)) in
                  (sym keep ∙ v.0, v.1)
            ];
          };
    })

-- the end that comes from the tail goes up
pub step_tail : (n : ℕ) (arcs : List Arc) (r : Roots) (i x y up : ℕ) (old new : Cuts) → AreRoots n arcs r → x < n
    → y < n → x ≢ y → r.depth x ≤ r.depth y → 0 < r.by y → up ≡ r.up y
    → Puts old new y (record { row = i; inward = false })
    → IsStep n arcs r i x y old new (x, up)
step_tail n arcs r i x y up old new a lx ly ne dx j is puts =
    let e : Entry = record { row = i; inward = false } in
    let climbs = a.climbs y ly j in
    let P : ℕ → Type 0 = λ u. IsStep n arcs r i x y old new (x, u) in
    subst P (sym is) (record {
      inside = (lx, a.above y ly j);
      nearer = omega arith;
      climbed = λ h.
          let out : below r y x ≡ false = not_below n arcs r y x a ly lx dx ne in
          let here : below r y y ≡ true = below_here r y y refl in
          let w = h.left y ly (λ z. false≢true (sym out ∙ z ∙ here)) in
          let grown : cut_entries (below r y) arcs (suc i)
          ≡ cut_entries (below r y) arcs i ++ e ∷ [] =
          ap (λ xs. cut_entries (below r y) arcs i ++ xs) (outward_if i _ _ (sym w.0 ∙ out) (sym w.1 ∙ here)) in
          let f : ℕ → List Entry = λ c. if_same (below r c x) (below r c y) (cut_entries (below r c) arcs (suc i))
          (cut_entries (below r c) arcs i) in
          let g : ℕ → List Entry = λ c. if_same (below r c y) (below r c x) (cut_entries (below r c) arcs (suc i))
          (cut_entries (below r c) arcs i) in
          record {
            lists = same_lists n _ _ _ _ _ (puts n f ly h.lists) (λ c l.
                pushed_same f g y e c (turned (below r c x) (below r c y) _ _)
                ∙ list_passed n arcs r i y x e a ly lx j dx ne grown c l
                ∙ turned (below r c (r.up y)) (below r c x) _ _);
            left = λ c l apart_still. elim (cases_eq c y) [
              | inl q ↦
                  let nu : r.up y ≢ y = λ z. let d = ap r.depth z in omega arith in
                  let up_out : below r y (r.up y) ≡ false = not_below n arcs r y (r.up y) a ly (a.above y ly j) (omega arith) nu in
                  let Q : ℕ → Type 0 = λ z. below r z x ≡ below r z (r.up y) in
                  absurd (apart_still (subst Q (sym q) (out ∙ sym up_out)))
              | inr nc ↦
                  let keep = below_up n arcs r c y a ly j (λ z. nc (sym z)) in
                  let v = h.left c l (λ z. apart_still (z ∙ keep)) in
                  (v.0, sym keep ∙ v.1)
            ];
          };
    })
