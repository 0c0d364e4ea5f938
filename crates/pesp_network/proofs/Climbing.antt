-- Up and down in a rooted forest.
use Rattle.std.proofs.Common.{◌≡◌, ◌≢◌, ℕ, zero, suc, ◌-◌, ◌<◌, ◌≤◌, inl, inr, sym, ◌∙◌, ap, arith, List, length}
use Rattle.std.proofs.lemmas.Bool.{cases_lt}
use Rattle.pesp_problem.specs.declared.arc.Arc.{Arc}
use Rattle.pesp_problem.specs.Walks.{Names}
use Rattle.pesp_network.specs.declared.parts.Forest.{Forest}
use Rattle.pesp_network.specs.Growing.{at}
use Rattle.pesp_problem.specs.Arcs.{tail_of, head_of}
use Rattle.pesp_problem.specs.ArcLimits.{HaveEnds}
use Rattle.pesp_network.specs.Rooted.{Under, IsForest}

pub self_inside : (n : ℕ) (arcs : List Arc) (g : Forest) (x : ℕ) → IsForest n arcs g → 0 < at g.place.items x → Under g x x
self_inside n arcs g x f s = (omega arith, f.grown.lasts x s)

-- two names of one event
swap_inside : (g : Forest) (x y z : ℕ) → x ≡ y → Under g x z → Under g y z
swap_inside g x y z e i = let p = ap (at g.place.items) e in let q = ap (at g.last.items) e in (omega arith, omega arith)

root_seen : (n : ℕ) (arcs : List Arc) (g : Forest) (f : IsForest n arcs g) (k x : ℕ) → at g.place.items x ≤ k
    → x < n → 0 < at g.place.items (at g.root.items x)
root_seen n arcs g f zero x h b = absurd (let s = f.all_seen x b in omega arith)
root_seen n arcs g f (suc k) x h b =
    let s = f.all_seen x b in
    elim (cases_lt 0 (at g.by.items x)) [
      | inl j ↦
          let p = at g.up.items x in
          let c = f.grown.climbs x j in
          let pb : p < n = let w = f.grown.seen_below p (f.grown.by_seen x j) in let e = f.events in omega arith in
          let i = root_seen n arcs g f k p (omega arith) pb in
          let q = ap (at g.place.items) (f.grown.same_root x j) in omega arith
      | inr z ↦ let q = ap (at g.place.items) (f.grown.own_root x s (omega arith)) in omega arith
    ]

under_root : (n : ℕ) (arcs : List Arc) (g : Forest) (f : IsForest n arcs g) (k x : ℕ) → at g.place.items x ≤ k
    → x < n → Under g (at g.root.items x) x
under_root n arcs g f zero x h b = absurd (let s = f.all_seen x b in omega arith)
under_root n arcs g f (suc k) x h b =
    let s = f.all_seen x b in
    elim (cases_lt 0 (at g.by.items x)) [
      | inl j ↦
          let p = at g.up.items x in
          let c = f.grown.climbs x j in
          let pb : p < n = let w = f.grown.seen_below p (f.grown.by_seen x j) in let e = f.events in omega arith in
          let i = under_root n arcs g f k p (omega arith) pb in
          let r = f.grown.same_root x j in
          let i2 = swap_inside g (at g.root.items p) (at g.root.items x) p r i in
          let rs : 0 < at g.place.items (at g.root.items x) = let v = root_seen n arcs g f k p (omega arith) pb in
          let q = ap (at g.place.items) r in omega arith in
          f.grown.inner_down (at g.root.items x) x rs j (λ e. let q = ap (at g.place.items) e in omega arith) i2
      | inr z ↦ let r = f.grown.own_root x s (omega arith) in swap_inside g x (at g.root.items x) x (sym r) (self_inside n arcs g x f s)
    ]

pub root_inside : (n : ℕ) (arcs : List Arc) (g : Forest) (x : ℕ) → IsForest n arcs g → x < n → Under g (at g.root.items x) x
root_inside n arcs g x f b = under_root n arcs g f (at g.place.items x) x (omega arith) b

-- an event that isn't above another one of its tree is no root
pub climbs_on : (n : ℕ) (arcs : List Arc) (g : Forest) (u t : ℕ) → IsForest n arcs g → u < n → t < n
    → at g.root.items u ≡ at g.root.items t → (Under g u t → ⊥) → 0 < at g.by.items u
climbs_on n arcs g u t f bu bt e apart = elim (cases_lt 0 (at g.by.items u)) [
  | inl j ↦ j
  | inr z ↦ absurd (let r = f.grown.own_root u (f.all_seen u bu) (omega arith) in
      apart (swap_inside g (at g.root.items t) u t (sym e ∙ r) (root_inside n arcs g t f bt)))
]

-- nor is one below another one
pub descends_on : (n : ℕ) (arcs : List Arc) (g : Forest) (u v : ℕ) → IsForest n arcs g → u < n → v < n
    → Under g u v → v ≢ u → 0 < at g.by.items v
descends_on n arcs g u v f bu bv i ne = elim (cases_lt 0 (at g.by.items v)) [
  | inl j ↦ j
  | inr z ↦ absurd (ne (sym (f.grown.inner_root u v (f.all_seen u bu) (f.all_seen v bv) (omega arith) i)))
]

pub up_below : (n : ℕ) (arcs : List Arc) (g : Forest) (v : ℕ) → IsForest n arcs g → 0 < at g.by.items v → at g.up.items v < n
up_below n arcs g v f j = let w = f.grown.seen_below (at g.up.items v) (f.grown.by_seen v j) in let e = f.events in omega arith

pub still_above : (n : ℕ) (arcs : List Arc) (g : Forest) (u v : ℕ) → IsForest n arcs g → u < n
    → 0 < at g.by.items v → v ≢ u → Under g u v → Under g u (at g.up.items v)
still_above n arcs g u v f bu j ne i = f.grown.inner_up u v (f.all_seen u bu) j (λ e. ne (sym e)) i

pub ends_of : (n : ℕ) (arcs : List Arc) (k : ℕ) → HaveEnds n arcs → Names (length arcs) k → (tail_of arcs k < n) × (head_of arcs k < n)
ends_of n arcs k h r = let a = r.0 in let b = r.1 in h (k - 1) (omega arith)

-- both ends of a row are in one tree
pub one_tree : (n : ℕ) (arcs : List Arc) (g : Forest) (k : ℕ) → IsForest n arcs g → Names (length arcs) k
    → at g.root.items (head_of arcs k) ≡ at g.root.items (tail_of arcs k)
one_tree n arcs g k f r = sym (f.met k r)
