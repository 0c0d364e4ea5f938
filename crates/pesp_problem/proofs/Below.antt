-- What hangs below an event of a rooted forest.
use Rattle.std.proofs.Common.{◌≡◌, ◌≢◌, ◌⊎◌, inl, inr, ℕ, ◌-◌, ◌<◌, ◌≤◌, zero, suc, refl, ap, sym, ◌∙◌, arith, List, true, false}
use Rattle.std.proofs.lemmas.Bool.{false≢true, cases_eq, cases_Bool, eq-eqb, ne_eqb}
use Rattle.pesp_problem.specs.declared.arc.Arc.{Arc}
use Rattle.pesp_problem.specs.Roots.{Roots, AreRoots, meets, below}

pub some_or_none : (n : ℕ) → (0 < n) ⊎ (n ≡ 0)
some_or_none zero = inr refl
some_or_none (suc n) = inl (omega arith)

meets_here : (r : Roots) (fuel c x : ℕ) → x ≡ c → meets r fuel c x ≡ true
unfolding meets
meets_here r zero c x e = eq-eqb x c e
meets_here r (suc fuel) c x e = rw (eq-eqb x c e) refl

meets_up : (r : Roots) (fuel c x : ℕ) → x ≢ c → 0 < r.by x → meets r (suc fuel) c x ≡ meets r fuel c (r.up x)
unfolding meets
meets_up r fuel c x ne j = rw (ne_eqb x c ne, ne_eqb (r.by x) 0 (λ e. omega arith)) refl

meets_root : (r : Roots) (fuel c x : ℕ) → x ≢ c → r.by x ≡ 0 → meets r fuel c x ≡ false
unfolding meets
meets_root r zero c x ne z = ne_eqb x c ne
meets_root r (suc fuel) c x ne z = rw (ne_eqb x c ne, eq-eqb (r.by x) 0 z) refl

-- more steps than the depth make no difference
meets_more : (n : ℕ) (arcs : List Arc) (r : Roots) (fuel more c x : ℕ) → AreRoots n arcs r → x < n
    → r.depth x ≤ fuel → r.depth x ≤ more → meets r fuel c x ≡ meets r more c x
meets_more n arcs r zero more c x a lx h k =
    elim (cases_eq x c) [
      | inl e ↦ meets_here r zero c x e ∙ sym (meets_here r more c x e)
      | inr ne ↦ elim (some_or_none (r.by x)) [
        | inl j ↦ absurd (let l = a.climbs x lx j in omega arith)
        | inr z ↦ meets_root r zero c x ne z ∙ sym (meets_root r more c x ne z)
      ]
    ]
meets_more n arcs r (suc fuel) zero c x a lx h k =
    elim (cases_eq x c) [
      | inl e ↦ meets_here r (suc fuel) c x e ∙ sym (meets_here r zero c x e)
      | inr ne ↦ elim (some_or_none (r.by x)) [
        | inl j ↦ absurd (let l = a.climbs x lx j in omega arith)
        | inr z ↦ meets_root r (suc fuel) c x ne z ∙ sym (meets_root r zero c x ne z)
      ]
    ]
meets_more n arcs r (suc fuel) (suc more) c x a lx h k =
    elim (cases_eq x c) [
      | inl e ↦ meets_here r (suc fuel) c x e ∙ sym (meets_here r (suc more) c x e)
      | inr ne ↦ elim (some_or_none (r.by x)) [
        | inl j ↦
            let l = a.climbs x lx j in
            meets_up r fuel c x ne j ∙ meets_more n arcs r fuel more c (r.up x) a (a.above x lx j) (omega arith)
            (omega arith) ∙ sym (meets_up r more c x ne j)
        | inr z ↦ meets_root r (suc fuel) c x ne z ∙ sym (meets_root r (suc more) c x ne z)
      ]
    ]

pub below_here : (r : Roots) (c x : ℕ) → x ≡ c → below r c x ≡ true
unfolding below
below_here r c x e = meets_here r (r.depth x) c x e

-- other events are below c as the event above them is
pub below_up : (n : ℕ) (arcs : List Arc) (r : Roots) (c x : ℕ) → AreRoots n arcs r → x < n → 0 < r.by x → x ≢ c
    → below r c x ≡ below r c (r.up x)
unfolding below
below_up n arcs r c x a lx j ne =
    let l = a.climbs x lx j in
    let d = r.depth x - 1 in
    let e : r.depth x ≡ suc d = omega arith in
    ap (λ (fuel : ℕ). meets r fuel c x) e ∙ meets_up r d c x ne j
    ∙ meets_more n arcs r d (r.depth (r.up x)) c (r.up x) a (a.above x lx j) (omega arith) (omega arith)

pub below_root : (r : Roots) (c x : ℕ) → r.by x ≡ 0 → x ≢ c → below r c x ≡ false
unfolding below
below_root r c x z ne = meets_root r (r.depth x) c x ne z

-- what hangs below c is no higher
deeper : (n : ℕ) (arcs : List Arc) (r : Roots) (m c x : ℕ) → AreRoots n arcs r → x < n → r.depth x < m
    → below r c x ≡ true → r.depth c ≤ r.depth x
deeper n arcs r zero c x a lx h b = absurd (omega arith)
deeper n arcs r (suc m) c x a lx h b =
    elim (cases_eq x c) [
      | inl e ↦ let q = ap r.depth e in omega arith
      | inr ne ↦ elim (some_or_none (r.by x)) [
        | inl j ↦
            let l = a.climbs x lx j in
            let i = deeper n arcs r m c (r.up x) a (a.above x lx j) (omega arith) (sym (below_up n arcs r c x a lx j ne) ∙ b) in omega arith
        | inr z ↦ absurd (false≢true (sym (below_root r c x z ne) ∙ b))
      ]
    ]

-- no event is below another that is as deep
pub not_below : (n : ℕ) (arcs : List Arc) (r : Roots) (c x : ℕ) → AreRoots n arcs r → c < n → x < n
    → r.depth x ≤ r.depth c → x ≢ c → below r c x ≡ false
not_below n arcs r c x a lc lx h ne =
    elim (some_or_none (r.by x)) [
      | inl j ↦ elim (cases_Bool (below r c x)) [
        | inl b ↦ absurd (
            let l = a.climbs x lx j in
            let d = deeper n arcs r (suc (r.depth (r.up x))) c (r.up x) a (a.above x lx j) (omega arith)
            (sym (below_up n arcs r c x a lx j ne) ∙ b) in omega arith)
        | inr f ↦ f
      ]
      | inr z ↦ below_root r c x z ne
    ]
