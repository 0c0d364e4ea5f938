-- Each side of a fundamental cut is, but for whole components, what hangs below a forest row or the rest.
use Rattle.std.proofs.Common.{◌≡◌, ◌≢◌, inl, inr, ℕ, ◌<◌, zero, suc, refl, ap, sym, ◌∙◌, arith, List, true, false}
use Rattle.std.specs.Prelude.{Bool}
use Rattle.std.proofs.lemmas.Bool.{false≢true, cases_eq}
use Rattle.pesp_problem.specs.declared.arc.Arc.{Arc}
use Rattle.pesp_problem.specs.Arcs.{tail_of, head_of}
use Rattle.pesp_propagate.specs.Local.{IsFundamentalSide}
use Rattle.pesp_problem.specs.Roots.{Roots, AreRoots, AreTreeRows, below}
use Rattle.pesp_problem.proofs.Below.{some_or_none, below_here, below_up, below_root, not_below}

differ : (a b : Bool) → a ≡ true → b ≡ false → a ≡ b → {A : Type 0} → A
differ a b e f g = absurd (false≢true (sym f ∙ sym g ∙ e))

-- a row joins one event upwards
pub once : (n : ℕ) (arcs : List Arc) (r : Roots) (x y : ℕ) → AreRoots n arcs r → x < n → y < n → 0 < r.by x → r.by x ≡ r.by y → x ≡ y
once n arcs r x y a lx ly j e =
    let jy : 0 < r.by y = omega arith in
    let cx = a.climbs x lx j in let cy = a.climbs y ly jy in
    let t = ap (tail_of arcs) e in let h = ap (head_of arcs) e in
    elim (a.ends x lx j) [
      | inl p ↦ elim (a.ends y ly jy) [
        | inl q ↦ sym p.0 ∙ t ∙ q.0
        | inr q ↦ absurd (let u : r.up x ≡ y = sym p.1 ∙ h ∙ q.0 in let v : r.up y ≡ x = sym q.1 ∙ sym t ∙ p.0 in
            let du = ap r.depth u in let dv = ap r.depth v in omega arith)
      ]
      | inr p ↦ elim (a.ends y ly jy) [
        | inl q ↦ absurd (let u : r.up x ≡ y = sym p.1 ∙ t ∙ q.0 in let v : r.up y ≡ x = sym q.1 ∙ sym h ∙ p.0 in
            let du = ap r.depth u in let dv = ap r.depth v in omega arith)
        | inr q ↦ sym p.0 ∙ h ∙ q.0
      ]
    ]

-- the side doesn't change upwards, but at c
keeps_up : (n : ℕ) (arcs : List Arc) (forest : List ℕ) (r : Roots) (side : ℕ → Bool) (c x : ℕ) → AreRoots n arcs r
    → AreTreeRows n r forest → IsFundamentalSide arcs forest (r.by c) side → c < n → 0 < r.by c → x < n
    → 0 < r.by x → x ≢ c → side x ≡ side (r.up x)
keeps_up n arcs forest r side c x a tree f lc jc lx jx ne =
    let other : r.by x ≢ r.by c = λ e. ne (once n arcs r x c a lx lc jx e) in
    let k = f.keeps (r.by x) (tree.listed x lx jx) other in
    elim (a.ends x lx jx) [
      | inl e ↦ sym (ap side e.0) ∙ k ∙ ap side e.1
      | inr e ↦ sym (ap side e.0) ∙ sym k ∙ ap side e.1
    ]

changes_at : (n : ℕ) (arcs : List Arc) (forest : List ℕ) (r : Roots) (side : ℕ → Bool) (c : ℕ) → AreRoots n arcs r
    → IsFundamentalSide arcs forest (r.by c) side → c < n → 0 < r.by c → side c ≢ side (r.up c)
changes_at n arcs forest r side c a f lc jc e =
    elim (a.ends c lc jc) [
      | inl q ↦ f.crosses (ap side q.0 ∙ e ∙ sym (ap side q.1))
      | inr q ↦ f.crosses (ap side q.1 ∙ sym e ∙ sym (ap side q.0))
    ]

-- what isn't below c is on the side of its root
pub outside : (m n : ℕ) (arcs : List Arc) (forest : List ℕ) (r : Roots) (side : ℕ → Bool) (c x : ℕ)
    → AreRoots n arcs r → AreTreeRows n r forest → IsFundamentalSide arcs forest (r.by c) side → c < n → 0 < r.by c
    → r.depth x < m → x < n → below r c x ≡ false → side x ≡ side (r.root x)
outside zero n arcs forest r side c x a tree f lc jc l lx e = absurd (omega arith)
outside (suc m) n arcs forest r side c x a tree f lc jc l lx e =
    let ne : x ≢ c = λ q. differ (below r c c) (below r c x) (below_here r c c refl) e (ap (below r c) (sym q)) in
    elim (some_or_none (r.by x)) [
      | inl j ↦
          let lu = a.above x lx j in let cl = a.climbs x lx j in
          let ih = outside m n arcs forest r side c (r.up x) a tree f lc jc (omega arith) lu (sym (below_up n arcs r c x a lx j ne) ∙ e) in
          keeps_up n arcs forest r side c x a tree f lc jc lx j ne ∙ ih ∙ ap side (a.same_root x lx j)
      | inr z ↦ sym (ap side (a.own_root x lx z))
    ]

-- what is below c is on its side, and has its root
pub within : (m n : ℕ) (arcs : List Arc) (forest : List ℕ) (r : Roots) (side : ℕ → Bool) (c x : ℕ)
    → AreRoots n arcs r → AreTreeRows n r forest → IsFundamentalSide arcs forest (r.by c) side → c < n → 0 < r.by c
    → r.depth x < m → x < n → below r c x ≡ true → (side x ≡ side c) × (r.root x ≡ r.root c)
within zero n arcs forest r side c x a tree f lc jc l lx e = absurd (omega arith)
within (suc m) n arcs forest r side c x a tree f lc jc l lx e =
    elim (cases_eq x c) [
      | inl q ↦ (ap side q, ap r.root q)
      | inr ne ↦ elim (some_or_none (r.by x)) [
        | inl j ↦
            let lu = a.above x lx j in let cl = a.climbs x lx j in
            let ih = within m n arcs forest r side c (r.up x) a tree f lc jc (omega arith) lu (sym (below_up n arcs r c x a lx j ne) ∙ e) in
            (keeps_up n arcs forest r side c x a tree f lc jc lx j ne ∙ ih.0, sym (a.same_root x lx j) ∙ ih.1)
        | inr z ↦ differ (below r c x) (below r c x) e (below_root r c x z ne) refl
      ]
    ]

-- the side of c is not that of its root
pub parted : (n : ℕ) (arcs : List Arc) (forest : List ℕ) (r : Roots) (side : ℕ → Bool) (c : ℕ) → AreRoots n arcs r
    → AreTreeRows n r forest → IsFundamentalSide arcs forest (r.by c) side → c < n → 0 < r.by c
    → side c ≢ side (r.root c)
parted n arcs forest r side c a tree f lc jc e =
    let l = a.climbs c lc jc in
    let lu = a.above c lc jc in
    let ne : r.up c ≢ c = λ q. let d = ap r.depth q in omega arith in
    let up = outside (suc (r.depth (r.up c))) n arcs forest r side c (r.up c) a tree f lc jc (omega arith) lu
    (not_below n arcs r c (r.up c) a lc lu (omega arith) ne) in
    changes_at n arcs forest r side c a f lc jc (e ∙ sym (ap side (a.same_root c lc jc)) ∙ sym up)
