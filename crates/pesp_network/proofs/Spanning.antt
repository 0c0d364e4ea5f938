-- A network's forest as a forest with roots, and the cuts of its rows.
use Rattle.std.proofs.Common.{◌≡◌, ◌≢◌, ℕ, ◌+◌, ◌-◌, ◌<◌, ◌⊎◌, inl, inr, sym, ◌∙◌, ap, arith, List, length, cond, ◌&&◌, nat_le}
use Rattle.std.proofs.lemmas.Bool.{cases_lt}
use Rattle.std.proofs.lemmas.Bool.Decides.{nat_tests}
use Rattle.pesp_problem.specs.declared.arc.Arc.{Arc}
use Rattle.pesp_problem.specs.declared.row.SignedRow.{SignedRow}
use Rattle.pesp_problem.specs.Arcs.{arc_at, tail_of, head_of}
use Rattle.pesp_problem.specs.Walks.{Names}
use Rattle.pesp_problem.specs.Roots.{Roots, AreRoots}
use Rattle.pesp_problem.specs.Roots.{IsTreeRow as JoinsUpwards}
use Rattle.pesp_problem.proofs.Ways.{WayOver, way_weaker}
use Rattle.pesp_problem.proofs.Crossings.{KeepsSide, Crosses}
use Rattle.pesp_problem.proofs.Spanning.{tree_way}
use Rattle.pesp_network.specs.declared.parts.Forest.{Forest}
use Rattle.pesp_network.specs.Growing.{at}
use Rattle.pesp_network.specs.Rooted.{Under, IsRooted, IsForest, IsTreeRow}
use Rattle.pesp_network.proofs.Climbing.{self_inside, ends_of, one_tree, up_below}

-- ---- its roots

-- an event is as deep as its place in preorder
abbrev pub as_roots : Forest → Roots
as_roots g = record { up = at g.up.items; by = at g.by.items; depth = at g.place.items; root = at g.root.items }

pub are_roots : (n : ℕ) (arcs : List Arc) (g : Forest) → IsForest n arcs g → AreRoots n arcs (as_roots g)
are_roots n arcs g f = record {
  row = λ x l. f.grown.by_row x;
  ends = λ x l j. f.grown.by_ends x j;
  above = λ x l j. up_below n arcs g x f j;
  climbs = λ x l j. f.grown.climbs x j;
  same_root = λ x l j. f.grown.same_root x j;
  own_root = λ x l z. f.grown.own_root x (f.all_seen x l) z;
  inside = f.ends;
  spans = λ i l.
      let e : i + 1 - 1 ≡ i = omega arith in
      let met = f.met (i + 1) (omega arith, omega arith) in
      ap (λ k. at g.root.items (arc_at arcs k).tail) (sym e) ∙ met ∙ ap (λ k. at g.root.items (arc_at arcs k).head) e;
}

pub seen_joined : (n : ℕ) (arcs : List Arc) (g : Forest) (x : ℕ) → IsForest n arcs g → 0 < at g.by.items x → 0 < at g.place.items x
seen_joined n arcs g x f j = let c = f.grown.climbs x j in omega arith

pub event_below : (n : ℕ) (arcs : List Arc) (g : Forest) (x : ℕ) → IsForest n arcs g → 0 < at g.by.items x → x < n
event_below n arcs g x f j = f.grown.seen_below x (seen_joined n arcs g x f j)

-- a way along the forest between the ends of a row
pub loop_of : (n : ℕ) (arcs : List Arc) (g : Forest) (k : ℕ) → IsForest n arcs g → Names (length arcs) k
    → WayOver arcs (IsTreeRow g) (head_of arcs k) (tail_of arcs k)
loop_of n arcs g k f r =
    let e = ends_of n arcs k f.ends r in
    let roots = as_roots g in
    way_weaker arcs (JoinsUpwards n roots) (IsTreeRow g) (head_of arcs k) (tail_of arcs k) (λ row t. (t.0, t.2, t.3))
    (tree_way n arcs roots (head_of arcs k) (tail_of arcs k) (are_roots n arcs g f) e.1 e.0 (one_tree n arcs g k f r))

-- ---- cuts of its rows

-- 1 at e and below it, 0 elsewhere
pub side : Forest → ℕ → ℕ → ℕ
side s e x = cond (nat_le (at s.place.items e) (at s.place.items x) && nat_le (at s.place.items x) (at s.last.items e)) 1 0

pub side_in : (s : Forest) (e x : ℕ) → Under s e x → side s e x ≡ 1
unfolding side
side_in s e x i = let a = i.0 in let b = i.1 in grind (arith, nat_tests)

pub side_out : (s : Forest) (e x : ℕ) → (Under s e x → ⊥) → side s e x ≡ 0
unfolding side
side_out s e x no_in = elim (cases_lt (at s.place.items x) (at s.place.items e)) [
  | inl h ↦ grind (arith, nat_tests)
  | inr h ↦ elim (cases_lt (at s.last.items e) (at s.place.items x)) [ inl k ↦ grind (arith, nat_tests) | inr k ↦ absurd (no_in (h, k)) ]
]

pub cases_inside : (s : Forest) (e x : ℕ) → Under s e x ⊎ (Under s e x → ⊥)
cases_inside s e x = elim (cases_lt (at s.place.items x) (at s.place.items e)) [
  | inl h ↦ inr (λ i. let a = i.0 in omega arith)
  | inr h ↦ elim (cases_lt (at s.last.items e) (at s.place.items x)) [ inl k ↦ inr (λ i. let a = i.1 in omega arith) | inr k ↦ inl (h, k) ]
]

pub side_same : (s : Forest) (e x y : ℕ) → (Under s e x → Under s e y) → (Under s e y → Under s e x) → side s e x ≡ side s e y
side_same s e x y to from = elim (cases_inside s e x) [
  | inl i ↦ let a = side_in s e x i in let b = side_in s e y (to i) in omega arith
  | inr o ↦ let a = side_out s e x o in let b = side_out s e y (λ j. o (from j)) in omega arith
]

-- an event that is joined upwards is on the other side of its own cut than the event above it
side_own : (n : ℕ) (arcs : List Arc) (g : Forest) (e : ℕ) → IsForest n arcs g → 0 < at g.by.items e
    → (side g e e ≡ 1) × (side g e (at g.up.items e) ≡ 0)
side_own n arcs g e f j = (
  side_in g e e (self_inside n arcs g e f (let c = f.grown.climbs e j in omega arith)),
  side_out g e (at g.up.items e) (λ i. let c = f.grown.climbs e j in let a = i.0 in omega arith),
)

-- the row that joins e to the one above it crosses e's cut
pub own_cut : (n : ℕ) (arcs : List Arc) (g : Forest) (e i : ℕ) → IsForest n arcs g → 0 < at g.by.items e
    → at g.by.items e ≡ i + 1 → Crosses arcs (side g e) i
own_cut n arcs g e i f j q =
    let d = side g e in
    let o = side_own n arcs g e f j in
    let p : at g.by.items e - 1 ≡ i = omega arith in
    let t = ap (λ k. d (arc_at arcs k).tail) p in let h = ap (λ k. d (arc_at arcs k).head) p in
    elim (f.grown.by_ends e j) [
      | inl w ↦ inr (let a = ap d w.0 in let b = ap d w.1 in omega arith)
      | inr w ↦ inl (let a = ap d w.0 in let b = ap d w.1 in omega arith)
    ]

-- no other row of the forest does
pub tree_keeps : (n : ℕ) (arcs : List Arc) (g : Forest) (e i : ℕ) → IsForest n arcs g → 0 < at g.by.items e
    → at g.by.items e ≡ i + 1 → (s : SignedRow) → IsTreeRow g s.row → KeepsSide arcs (side g e) i s
tree_keeps n arcs g e i f j q s t ne =
    let d = side g e in
    let x = t.0 in
    let other : e ≢ x = λ u. ne (sym t.2 ∙ ap (at g.by.items) (sym u) ∙ q) in
    let se = seen_joined n arcs g e f j in
    let same = side_same g e x (at g.up.items x) (f.grown.inner_up e x se t.1 other) (f.grown.inner_down e x se t.1 other) in
    let tt = ap (λ r. d (tail_of arcs r)) t.2 in let th = ap (λ r. d (head_of arcs r)) t.2 in
    elim (f.grown.by_ends x t.1) [
      | inl w ↦ let a = ap d w.0 in let b = ap d w.1 in omega arith
      | inr w ↦ let a = ap d w.0 in let b = ap d w.1 in omega arith
    ]

-- a row joins one event at most to the one above it
pub one_below : (n m : ℕ) (T H : ℕ → ℕ) (g : Forest) (x y : ℕ) → IsRooted n m T H g → 0 < at g.by.items x
    → at g.by.items x ≡ at g.by.items y → x ≡ y
one_below n m T H g x y r h e =
    let j : 0 < at g.by.items y = omega arith in
    let tails = ap T e in
    let heads = ap H e in
    let above = r.climbs x h in
    let below = r.climbs y j in
    elim (r.by_ends x h) [
      | inl a ↦
          elim (r.by_ends y j) [
            | inl b ↦ sym a.0 ∙ tails ∙ b.0
            | inr b ↦
                let up = ap (at g.place.items) (sym a.1 ∙ heads ∙ b.0) in
                let down = ap (at g.place.items) (sym b.1 ∙ sym tails ∙ a.0) in
                absurd (omega (arith, up, down, above, below))
          ]
      | inr a ↦
          elim (r.by_ends y j) [
            | inl b ↦
                let up = ap (at g.place.items) (sym a.1 ∙ tails ∙ b.0) in
                let down = ap (at g.place.items) (sym b.1 ∙ sym heads ∙ a.0) in
                absurd (omega (arith, up, down, above, below))
            | inr b ↦ sym a.0 ∙ heads ∙ b.0
          ]
    ]
