-- The rows of a rooted forest have no cycle, and join what the arcs join.
use Rattle.std.proofs.Common.{◌≡◌, ◌≢◌, ℕ, zero, suc, ◌+◌, ◌-◌, ◌<◌, inl, inr, refl, sym, ◌∙◌, ap, arith, subst, List, [], ◌∷◌, length, get_or, All, true, false, Bool, cond, pos}
use Rattle.std.specs.Prelude.{Contains}
use Rattle.std.proofs.lemmas.List.Elements.{All-head, All-tail, All-weaker, Contains-get_or}
use Rattle.std.proofs.lemmas.Bool.Decides.{Decides-eqb}
use Rattle.std.proofs.lemmas.Map.Made.{IsDistinct-from_AllPairs}
use Rattle.pesp_problem.specs.declared.arc.Arc.{Arc}
use Rattle.pesp_problem.specs.declared.row.SignedRow.{SignedRow}
use Rattle.pesp_problem.specs.Arcs.{arc_at, tail_of, head_of}
use Rattle.pesp_problem.specs.Walks.{Names, RowExists, AreRows, start, finish, Leads, IsWalk, net_count}
use Rattle.pesp_problem.specs.Forests.{IsSpanningForest}
use Rattle.pesp_problem.specs.Roots.{Roots, AreRoots, AreTreeRows, IsTreeRow, below}
use Rattle.pesp_problem.proofs.Below.{some_or_none, below_here, below_up, not_below}
use Rattle.pesp_problem.proofs.Ways.{WayOver, no_way, one_row, way_joined, way_back}
use Rattle.pesp_problem.proofs.Crossings.{KeepsSide, Crosses, cut_walk, passes}

-- ---- no cycle

-- 1 at e and below it, 0 elsewhere
side : Roots → ℕ → ℕ → ℕ
side r e x = cond (below r e x) 1 0

side_is : (r : Roots) (e x : ℕ) (b : Bool) → below r e x ≡ b → side r e x ≡ cond b 1 0
unfolding side
side_is r e x b h = ap (λ t. cond t 1 0) h

-- an event that is joined upwards is on the other side of its own cut than the event above it
side_own : (n : ℕ) (arcs : List Arc) (r : Roots) (e : ℕ) → AreRoots n arcs r → e < n → 0 < r.by e
    → (side r e e ≡ 1) × (side r e (r.up e) ≡ 0)
side_own n arcs r e a l j =
    let c = a.climbs e l j in
    let ne : r.up e ≢ e = λ q. let d = ap r.depth q in omega arith in (
      side_is r e e true (below_here r e e refl),
      side_is r e (r.up e) false (not_below n arcs r e (r.up e) a l (a.above e l j) (omega arith) ne),
    )

-- the row that joins e to the one above it crosses e's cut
own_cut : (n : ℕ) (arcs : List Arc) (r : Roots) (e i : ℕ) → AreRoots n arcs r → e < n → 0 < r.by e → r.by e ≡ i + 1
    → Crosses arcs (side r e) i
own_cut n arcs r e i a l j q =
    let d = side r e in
    let o = side_own n arcs r e a l j in
    let p : r.by e - 1 ≡ i = omega arith in
    let t = ap (λ k. d (arc_at arcs k).tail) p in let h = ap (λ k. d (arc_at arcs k).head) p in
    elim (a.ends e l j) [
      | inl w ↦ inr (let u = ap d w.0 in let v = ap d w.1 in omega arith)
      | inr w ↦ inl (let u = ap d w.0 in let v = ap d w.1 in omega arith)
    ]

-- no other row of the forest does
tree_keeps : (n : ℕ) (arcs : List Arc) (r : Roots) (e i : ℕ) → AreRoots n arcs r → e < n → 0 < r.by e
    → r.by e ≡ i + 1 → (s : SignedRow) → IsTreeRow n r s.row → KeepsSide arcs (side r e) i s
tree_keeps n arcs r e i a l j q s t ne =
    let d = side r e in
    let x = t.0 in
    let other : x ≢ e = λ u. ne (sym t.3 ∙ ap r.by u ∙ q) in
    let same : d x ≡ d (r.up x) = side_is r e x (below r e (r.up x)) (below_up n arcs r e x a t.1 t.2 other)
    ∙ sym (side_is r e (r.up x) (below r e (r.up x)) refl) in
    let tt = ap (λ y. d (tail_of arcs y)) t.3 in let th = ap (λ y. d (head_of arcs y)) t.3 in
    elim (a.ends x t.1 t.2) [
      | inl w ↦ let u = ap d w.0 in let v = ap d w.1 in omega arith
      | inr w ↦ let u = ap d w.0 in let v = ap d w.1 in omega arith
    ]

no_cycle : (n : ℕ) (arcs : List Arc) (r : Roots) (walk : List SignedRow) (i : ℕ) → AreRoots n arcs r
    → IsWalk arcs walk → All (λ (s : SignedRow). IsTreeRow n r s.row) walk → net_count walk i ≡ pos 0
no_cycle n arcs r walk i a w keeps =
    elim (passes (IsTreeRow n r) i walk keeps) [
      | inl z ↦ z
      | inr t ↦ cut_walk arcs (side r t.0) i walk (own_cut n arcs r t.0 i a t.1 t.2 t.3) w
          (All-weaker (λ (s : SignedRow). IsTreeRow n r s.row) (KeepsSide arcs (side r t.0) i)
          (tree_keeps n arcs r t.0 i a t.1 t.2 t.3) walk keeps)
    ]

-- ---- ways along the forest

pub tree_row_exists : (n : ℕ) (arcs : List Arc) (r : Roots) (k : ℕ) → AreRoots n arcs r → IsTreeRow n r k → Names (length arcs) k
tree_row_exists n arcs r k a t = let m = a.row t.0 t.1 in let some = t.2 in let e = t.3 in (omega arith, omega arith)

way_up : (n : ℕ) (arcs : List Arc) (r : Roots) (x : ℕ) → AreRoots n arcs r → x < n → 0 < r.by x → WayOver arcs (IsTreeRow n r) x (r.up x)
way_up n arcs r x a l j = elim (a.ends x l j) [
  | inl w ↦ one_row arcs (IsTreeRow n r) x (r.up x) (record { row = r.by x; plus = true }) (x, l, j, refl) w.0 w.1
  | inr w ↦ one_row arcs (IsTreeRow n r) x (r.up x) (record { row = r.by x; plus = false }) (x, l, j, refl) w.0 w.1
]

pub to_root : (n : ℕ) (arcs : List Arc) (r : Roots) → AreRoots n arcs r → (m x : ℕ) → r.depth x < m → x < n
    → WayOver arcs (IsTreeRow n r) x (r.root x)
to_root n arcs r a zero x h l = absurd (omega arith)
to_root n arcs r a (suc m) x h l =
    elim (some_or_none (r.by x)) [
      | inl j ↦
          let c = a.climbs x l j in
          let rest = to_root n arcs r a m (r.up x) (omega arith) (a.above x l j) in
          way_joined arcs (IsTreeRow n r) x (r.up x) (r.root x) (way_up n arcs r x a l j)
          (subst (λ y. WayOver arcs (IsTreeRow n r) (r.up x) y) (a.same_root x l j) rest)
      | inr z ↦ no_way arcs (IsTreeRow n r) x (r.root x) (sym (a.own_root x l z))
    ]

-- two events of one tree
pub tree_way : (n : ℕ) (arcs : List Arc) (r : Roots) (a b : ℕ) → AreRoots n arcs r → a < n → b < n
    → r.root a ≡ r.root b → WayOver arcs (IsTreeRow n r) a b
tree_way n arcs r a b t la lb e =
    let P = IsTreeRow n r in
    let up = to_root n arcs r t (suc (r.depth a)) a (omega arith) la in
    let other = to_root n arcs r t (suc (r.depth b)) b (omega arith) lb in
    way_joined arcs P a (r.root a) b up (way_back arcs P b (r.root a) (subst (λ y. WayOver arcs P b y) (sym e) other))

-- the start and the end of a signed row
spanned : (n : ℕ) (arcs : List Arc) (r : Roots) (row : ℕ) (b : Bool) → AreRoots n arcs r → Names (length arcs) row
    → let s : SignedRow = record { row = row; plus = b } in
    (start arcs s < n) × (finish arcs s < n) × (r.root (start arcs s) ≡ r.root (finish arcs s))
spanned n arcs r row true a w = let p = w.0 in let q = w.1 in let i = a.inside (row - 1) (omega arith) in
    (i.0, i.1, a.spans (row - 1) (omega arith))
spanned n arcs r row false a w = let p = w.0 in let q = w.1 in let i = a.inside (row - 1) (omega arith) in
    (i.1, i.0, sym (a.spans (row - 1) (omega arith)))

-- a way stays in one tree
pub along : (n : ℕ) (arcs : List Arc) (r : Roots) (a b : ℕ) (way : List SignedRow) → AreRoots n arcs r → a < n
    → AreRows arcs way → Leads arcs a way b → (b < n) × (r.root a ≡ r.root b)
along n arcs r a b [] t l rows h = (omega arith, ap r.root h)
along n arcs r a b (s ∷ way) t l rows h =
    let w = spanned n arcs r s.row s.plus t (All-head (RowExists arcs) s way rows) in
    let i = along n arcs r (finish arcs s) b way t w.1 (All-tail (RowExists arcs) s way rows) h.1 in
    (i.0, ap r.root (sym h.0) ∙ w.2 ∙ i.1)

-- where a way leads, a way along the forest leads
joins : (n : ℕ) (arcs : List Arc) (r : Roots) (a b : ℕ) (way : List SignedRow) → AreRoots n arcs r
    → AreRows arcs way → Leads arcs a way b → WayOver arcs (IsTreeRow n r) a b
joins n arcs r a b [] t rows h = no_way arcs (IsTreeRow n r) a b h
joins n arcs r a b (s ∷ way) t rows h =
    let w = spanned n arcs r s.row s.plus t (All-head (RowExists arcs) s way rows) in
    let l : a < n = (let e = h.0 in let q = w.0 in omega arith) in
    let i = along n arcs r a b (s ∷ way) t l rows h in
    tree_way n arcs r a b t l i.0 i.1

pub roots_span : (n : ℕ) (arcs : List Arc) (r : Roots) (forest : List ℕ) → AreRoots n arcs r
    → AreTreeRows n r forest → IsSpanningForest arcs forest
roots_span n arcs r forest a t = record {
  exist = λ i d l. tree_row_exists n arcs r _ a (t.joined (get_or forest i d) (Contains-get_or forest i d l));
  once = IsDistinct-from_AllPairs Decides-eqb forest t.apart;
  no_cycle = λ walk i w keeps. no_cycle n arcs r walk i a w
      (All-weaker (λ (s : SignedRow). Contains forest s.row) (λ (s : SignedRow). IsTreeRow n r s.row)
      (λ s c. t.joined s.row c) walk keeps);
  joins = λ p q way rows h.
      let w = joins n arcs r p q way a rows h in
      let P : ℕ → Type 0 = λ k. Contains forest k in (
        w.way,
        All-weaker (λ (s : SignedRow). IsTreeRow n r s.row) (λ (s : SignedRow). Contains forest s.row)
            (λ s x. subst P x.3 (t.listed x.0 x.1 x.2)) w.way w.over,
        w.leads,
      );
}
