-- A walk crosses a cut as often one way as the other.
use Rattle.std.proofs.Common.{◌≡◌, ◌≢◌, ℕ, ◌+◌, ◌-◌, ◌⊎◌, inl, inr, refl, sym, ◌∙◌, ap, arith, subst, List, [], ◌∷◌, All}
use Rattle.std.specs.Prelude.{pos, negsuc, ◌-ℤ◌, ◌*ℤ◌}
use Rattle.std.proofs.lemmas.Bool.{cases_eq}
use Rattle.std.proofs.lemmas.Int.{ints}
use Rattle.std.proofs.lemmas.List.Elements.{All-head, All-tail}
use Rattle.pesp_problem.specs.declared.row.SignedRow.{SignedRow}
use Rattle.pesp_problem.specs.declared.arc.Arc.{Arc}
use Rattle.pesp_problem.specs.Arcs.{arc_at, tail_of, head_of}
use Rattle.pesp_problem.specs.Walks.{Leads, IsWalk, start, sign, net_count}
use Rattle.pesp_problem.proofs.Integers.{mul_comm, add-mul, zero-mul}
use Rattle.pesp_problem.proofs.Walks.{step, step_same, step_other, net_count-cons, sum_along, rise, telescope}

-- d tells the sides of a cut: it is the same at both ends of a row, unless that is the row at place i
abbrev pub KeepsSide : List Arc → (ℕ → ℕ) → ℕ → SignedRow → Type 0
KeepsSide arcs d i s = s.row ≢ i + 1 → d (tail_of arcs s.row) ≡ d (head_of arcs s.row)

-- between the ends of the row at place i it changes by one
abbrev pub Crosses : List Arc → (ℕ → ℕ) → ℕ → Type 0
Crosses arcs d i = (d (arc_at arcs i).head ≡ d (arc_at arcs i).tail + 1) ⊎ (d (arc_at arcs i).tail ≡ d (arc_at arcs i).head + 1)

one_crossing : (arcs : List Arc) (d : ℕ → ℕ) (i : ℕ) (s : SignedRow) → KeepsSide arcs d i s
    → sign s *ℤ rise arcs (λ x. pos (d x)) (s.row - 1) ≡ step s i *ℤ rise arcs (λ x. pos (d x)) i
one_crossing arcs d i s keeps =
    let g = rise arcs (λ x. pos (d x)) in
    elim (cases_eq s.row (i + 1)) [
      | inl e ↦ let p : s.row - 1 ≡ i = omega arith in ap (λ x. sign s *ℤ g x) p ∙ ap (λ z. z *ℤ g i) (sym (step_same s i e))
      | inr ne ↦
          let none : g (s.row - 1) ≡ pos 0 = omega (arith, ints, keeps ne) in
          ap (λ z. sign s *ℤ z) none ∙ mul_comm (sign s) (pos 0) ∙ zero-mul (sign s)
          ∙ sym (ap (λ z. z *ℤ g i) (step_other s i ne) ∙ zero-mul (g i))
    ]

along_cut : (arcs : List Arc) (d : ℕ → ℕ) (i : ℕ) (way : List SignedRow) → All (KeepsSide arcs d i) way
    → sum_along way (rise arcs (λ x. pos (d x))) ≡ net_count way i *ℤ rise arcs (λ x. pos (d x)) i
along_cut arcs d i [] k = sym (zero-mul (rise arcs (λ x. pos (d x)) i))
along_cut arcs d i (s ∷ way) k =
    let g = rise arcs (λ x. pos (d x)) in
    let first = one_crossing arcs d i s (All-head (KeepsSide arcs d i) s way k) in
    let rest = along_cut arcs d i way (All-tail (KeepsSide arcs d i) s way k) in
    let whole = ap (λ z. z *ℤ g i) (net_count-cons s way i) ∙ add-mul (step s i) (net_count way i) (g i) in
    omega (arith, ints, first, rest, whole)

-- what a way gains is what it gains at the crossing row
pub crossing : (arcs : List Arc) (d : ℕ → ℕ) (i a b : ℕ) (way : List SignedRow) → Leads arcs a way b
    → All (KeepsSide arcs d i) way → net_count way i *ℤ rise arcs (λ x. pos (d x)) i ≡ pos (d b) -ℤ pos (d a)
crossing arcs d i a b way h k = sym (along_cut arcs d i way k) ∙ telescope arcs (λ x. pos (d x)) way a b h

-- a way that passes the crossing row as often one way as the other ends on the side where it begins
pub same_side : (arcs : List Arc) (d : ℕ → ℕ) (i a b : ℕ) (way : List SignedRow) → Leads arcs a way b
    → All (KeepsSide arcs d i) way → net_count way i ≡ pos 0 → d a ≡ d b
same_side arcs d i a b way h k none =
    let g = rise arcs (λ x. pos (d x)) in
    let gained = sym (crossing arcs d i a b way h k) ∙ ap (λ z. z *ℤ g i) none ∙ zero-mul (g i) in
    omega (arith, ints, gained)

-- a walk passes a row that alone crosses a cut as often one way as the other
pub cut_walk : (arcs : List Arc) (d : ℕ → ℕ) (i : ℕ) (walk : List SignedRow) → Crosses arcs d i → IsWalk arcs walk
    → All (KeepsSide arcs d i) walk → net_count walk i ≡ pos 0
cut_walk arcs d i [] c w k = absurd w
cut_walk arcs d i (s ∷ walk) c w k =
    let g = rise arcs (λ x. pos (d x)) in
    let none = crossing arcs d i (start arcs s) (start arcs s) (s ∷ walk) w.1 k in
    elim c [
      | inl u ↦ let one : g i ≡ pos 1 = omega (arith, ints, u) in
          let whole = ap (λ z. net_count (s ∷ walk) i *ℤ z) one in omega (arith, ints, none, whole)
      | inr u ↦ let one : g i ≡ negsuc 0 = omega (arith, ints, u) in
          let whole = ap (λ z. net_count (s ∷ walk) i *ℤ z) one in omega (arith, ints, none, whole)
    ]

-- a way along rows of which P holds doesn't pass the row at place i, or P holds of that row
pub passes : (P : ℕ → Type 0) (i : ℕ) (way : List SignedRow) → All (λ (s : SignedRow). P s.row) way → (net_count way i ≡ pos 0) ⊎ P (i + 1)
passes P i [] a = inl refl
passes P i (s ∷ way) a =
    let Q : SignedRow → Type 0 = λ x. P x.row in
    elim (cases_eq s.row (i + 1)) [
      | inl e ↦ inr (subst P e (All-head Q s way a))
      | inr ne ↦ elim (passes P i way (All-tail Q s way a)) [
        | inl z ↦ inl (omega (arith, ints, net_count-cons s way i, step_other s i ne, z))
        | inr t ↦ inr t
      ]
    ]
