-- Which arcs are bridges.
use Rattle.std.proofs.Common.{◌≡◌, ◌≢◌, ℕ, zero, suc, ◌-◌, ◌<◌, ◌≤◌, ◌⊎◌, inl, inr, refl, sym, ◌∙◌, ap, arith, subst, ◌+◌, pos, List, ◌∷◌, length, true, Bool, IsTrue, ◌↔◌}
use Rattle.std.proofs.lemmas.Bool.{cases_eq, cases_lt}
use Rattle.std.proofs.lemmas.List.Elements.{All-cons, All-weaker}
use Rattle.std.proofs.lemmas.Int.{ints}
use Rattle.pesp_problem.specs.declared.arc.Arc.{Arc}
use Rattle.pesp_problem.specs.declared.row.SignedRow.{SignedRow}
use Rattle.pesp_problem.specs.Walks.{Names, RowExists, IsWalk, net_count}
use Rattle.pesp_problem.specs.Forests.{IsBridge}
use Rattle.pesp_network.specs.declared.parts.Forest.{Forest}
use Rattle.pesp_network.specs.Growing.{at}
use Rattle.pesp_problem.specs.Arcs.{arc_at, tail_of, head_of, HasEnds}
use Rattle.pesp_network.specs.Rooted.{Under, IsForest, IsTreeRow, AreReaches, IsReachedPlace}
use Rattle.pesp_network.proofs.Climbing.{self_inside, ends_of}
use Rattle.pesp_problem.proofs.Walks.{step_same, step_other, net_count-cons}
use Rattle.pesp_problem.proofs.Ways.{WayOver, closed, is_walk}
use Rattle.pesp_problem.proofs.Crossings.{KeepsSide, same_side, cut_walk, passes}
use Rattle.pesp_network.proofs.Spanning.{side, side_in, side_out, side_same, own_cut, tree_keeps, loop_of, seen_joined}

pub tree_is_row : (n : ℕ) (arcs : List Arc) (g : Forest) → IsForest n arcs g → (s : SignedRow) → IsTreeRow g s.row
    → Names (length arcs) s.row
tree_is_row n arcs g f s t = let b = f.grown.by_row t.0 in let p = t.1 in let e = t.2 in (omega arith, omega arith)

-- a row and the way along the forest from its head back to its tail
loop_walks : (n : ℕ) (arcs : List Arc) (g : Forest) (j : ℕ) → IsForest n arcs g → Names (length arcs) j
    → (w : WayOver arcs (IsTreeRow g) (head_of arcs j) (tail_of arcs j))
    → IsWalk arcs (record { row = j; plus = true } ∷ w.way)
loop_walks n arcs g j f r w = is_walk arcs (tail_of arcs j) (record { row = j; plus = true }) w.way
    (All-cons (RowExists arcs) (record { row = j; plus = true }) w.way r
    (All-weaker (λ (s : SignedRow). IsTreeRow g s.row) (λ (s : SignedRow). Names (length arcs) s.row)
    (tree_is_row n arcs g f) w.way w.over)) (refl, w.leads)

-- another row that crosses the cut of e closes a walk with e's row
pub no_bridge : (n : ℕ) (arcs : List Arc) (g : Forest) (e k j : ℕ) → IsForest n arcs g → 0 < at g.by.items e
    → at g.by.items e ≡ k → Names (length arcs) j → j ≢ k
    → (side g e (tail_of arcs j) ≡ side g e (head_of arcs j) → ⊥) → IsBridge arcs k → ⊥
no_bridge n arcs g e k j f b q r ne differ bridge =
    let w = loop_of n arcs g j f r in
    let s : SignedRow = record { row = j; plus = true } in
    let i = k - 1 in
    let own : at g.by.items e ≡ i + 1 = omega arith in
    let keeps = All-weaker (λ (x : SignedRow). IsTreeRow g x.row) (KeepsSide arcs (side g e) i)
    (tree_keeps n arcs g e i f b own) w.way w.over in
    let none : net_count w.way i ≡ pos 0 = omega (
      arith,
      ints,
      bridge (s ∷ w.way) (loop_walks n arcs g j f r w),
      net_count-cons s w.way i,
      step_other s i (λ z. ne (omega arith)),
    ) in
    differ (sym (same_side arcs (side g e) i (head_of arcs j) (tail_of arcs j) w.way w.leads keeps none))

-- a row outside the forest is none
pub outside_no_bridge : (n : ℕ) (arcs : List Arc) (g : Forest) (k : ℕ) → IsForest n arcs g → Names (length arcs) k
    → (IsTreeRow g k → ⊥) → IsBridge arcs k → ⊥
outside_no_bridge n arcs g k f r outside bridge =
    let w = loop_of n arcs g k f r in
    let s : SignedRow = record { row = k; plus = true } in
    let i = k - 1 in
    let own : k ≡ i + 1 = let z = r.0 in omega arith in
    elim (passes (IsTreeRow g) i w.way w.over) [
      | inl z ↦ absurd (omega (
        arith,
        ints,
        bridge (s ∷ w.way) (loop_walks n arcs g k f r w),
        net_count-cons s w.way i,
        step_same s i own,
        z,
      ))
      | inr t ↦ outside (subst (λ (m : ℕ). IsTreeRow g m) (sym own) t)
    ]

-- no other row crosses the cut of e
pub a_bridge : (n : ℕ) (arcs : List Arc) (g : Forest) (e k : ℕ) → IsForest n arcs g → 0 < at g.by.items e → at g.by.items e ≡ k
    → ((j x y : ℕ) → Names (length arcs) j → j ≢ k → HasEnds (arc_at arcs (j - 1)) x y → Under g e x → Under g e y) → IsBridge arcs k
a_bridge n arcs g e k f b q inside walk w =
    let i = k - 1 in
    let own : at g.by.items e ≡ i + 1 = omega arith in
    cut_walk arcs (side g e) i walk (own_cut n arcs g e i f b own) w
    (All-weaker (RowExists arcs) (KeepsSide arcs (side g e) i)
    (λ s r ne.
    let other : s.row ≢ k = λ z. ne (omega arith) in
    side_same g e (tail_of arcs s.row) (head_of arcs s.row)
    (inside s.row (tail_of arcs s.row) (head_of arcs s.row) r other (inl (refl, refl)))
    (inside s.row (head_of arcs s.row) (tail_of arcs s.row) r other (inr (refl, refl)))) walk (closed arcs walk w).rows)

-- what is reached from below is reached
low_below : (n : ℕ) (arcs : List Arc) (g : Forest) (low high : List ℕ) (f : IsForest n arcs g)
    (o : AreReaches n arcs g low high) (e : ℕ) → 0 < at g.place.items e → (k x : ℕ) → at g.place.items x ≤ k
    → 0 < at g.place.items x → Under g e x → (at low e ≤ at low x) × (at high x ≤ at high e)
low_below n arcs g low high f o e se zero x h sx i = absurd (omega arith)
low_below n arcs g low high f o e se (suc k) x h sx i =
    elim (cases_eq e x) [
      | inl q ↦ let a = ap (at low) q in let b = ap (at high) q in (omega arith, omega arith)
      | inr ne ↦ elim (cases_lt 0 (at g.by.items x)) [
        | inl j ↦
            let c = f.grown.climbs x j in
            let w = low_below n arcs g low high f o e se k (at g.up.items x) (omega arith) (f.grown.by_seen x j)
            (f.grown.inner_up e x se j ne i) in
            let a = o.up_low x j in let b = o.up_high x j in (omega arith, omega arith)
        | inr z ↦ absurd (ne (f.grown.inner_root e x se sx (omega arith) i))
      ]
    ]

pub end_seen : (n : ℕ) (arcs : List Arc) (g : Forest) (j x y : ℕ) → IsForest n arcs g → Names (length arcs) j
    → HasEnds (arc_at arcs (j - 1)) x y → (0 < at g.place.items x) × (x < n)
end_seen n arcs g j x y f r (inl h) = let e = ends_of n arcs j f.ends r in
    let l : x < n = (let a = h.0 in omega arith) in (f.all_seen x l, l)
end_seen n arcs g j x y f r (inr h) = let e = ends_of n arcs j f.ends r in
    let l : x < n = (let a = h.0 in omega arith) in (f.all_seen x l, l)

-- the other end of the row that joins x to the one above it
above : (n : ℕ) (arcs : List Arc) (g : Forest) (j x y : ℕ) → IsForest n arcs g → 0 < at g.by.items x
    → at g.by.items x ≡ j → HasEnds (arc_at arcs (j - 1)) x y → y ≡ at g.up.items x
above n arcs g j x y f b q ends =
    let t = ap (tail_of arcs) q in let h = ap (head_of arcs) q in
    elim (f.grown.by_ends x b) [
      | inl w ↦ elim ends [
        | inl v ↦ (let a1 = w.1 in let a2 = v.1 in omega arith)
        | inr v ↦
            (let a1 = w.0 in let a2 = v.0 in let a3 = w.1 in let a4 = v.1 in omega arith)
      ]
      | inr w ↦ elim ends [
        | inl v ↦ (let a1 = w.0 in let a2 = v.0 in let a3 = w.1 in let a4 = v.1 in
            omega arith)
        | inr v ↦ (let a1 = w.1 in let a2 = v.1 in omega arith)
      ]
    ]

-- nothing outside is reached
pub tells_bridge : (n : ℕ) (arcs : List Arc) (g : Forest) (low high : List ℕ) (e k : ℕ) → IsForest n arcs g
    → AreReaches n arcs g low high → 0 < at g.by.items e → at g.by.items e ≡ k → 0 < k
    → at g.place.items e ≤ at low e → at high e ≤ at g.last.items e → IsBridge arcs k
tells_bridge n arcs g low high e k f o b q kp a c =
    a_bridge n arcs g e k f b q (λ j x y r ne ends i.
    let se = seen_joined n arcs g e f b in
    let sx = end_seen n arcs g j x y f r ends in
    elim (cases_eq (at g.by.items x) j) [
      | inl w ↦
          let bx : 0 < at g.by.items x = (let z = r.0 in omega arith) in
          let u = above n arcs g j x y f bx w ends in
          let other : e ≢ x = λ v. ne (sym w ∙ ap (at g.by.items) (sym v) ∙ q) in
          let j2 = f.grown.inner_up e x se bx other i in
          let pu = ap (at g.place.items) u in (omega arith, omega arith)
      | inr w ↦
          let l = low_below n arcs g low high f o e se (at g.place.items x) x (omega arith) sx.0 i in
          let l1 = o.row_low j x y r ends w in let l2 = o.row_high j x y r ends w in
          (omega arith, omega arith)
    ])

reached_outside : (n : ℕ) (arcs : List Arc) (g : Forest) (e k v : ℕ) → IsForest n arcs g → 0 < at g.by.items e
    → at g.by.items e ≡ k → IsReachedPlace arcs g e v → ((at g.place.items e ≤ v) × (v ≤ at g.last.items e) → ⊥)
    → IsBridge arcs k → ⊥
reached_outside n arcs g e k v f b q (inl h) out bridge = let i = h.1 in let p = h.2 in out (omega arith, omega arith)
reached_outside n arcs g e k v f b q (inr h) out bridge =
    let z = h.0 in let j = h.1 in let y = h.2 in let i = h.3 in let r = h.4 in let ends = h.5 in let apart = h.6 in let pv = h.7 in
    let d = side g e in
    let dz = side_in g e z i in
    let dy = side_out g e y (λ w. let w0 = w.0 in let w1 = w.1 in out (omega arith, omega arith)) in
    let ne : j ≢ k = λ w. elim (cases_eq z e) [
      | inl u ↦ apart (ap (at g.by.items) u ∙ q ∙ sym w)
      | inr u ↦
          let c = f.grown.climbs e b in
          let t = ap (tail_of arcs) (q ∙ sym w) in let hh = ap (head_of arcs) (q ∙ sym w) in
          let up_z : z ≡ at g.up.items e = elim (f.grown.by_ends e b) [
            | inl m ↦ elim ends [
              | inl p ↦ absurd (u (let a1 = m.0 in let a2 = p.0 in omega arith))
              | inr p ↦
                  (let a1 = m.1 in let a2 = p.0 in omega arith)
            ]
            | inr m ↦ elim ends [
              | inl p ↦ (let a1 = m.1 in let a2 = p.0 in omega arith)
              | inr p ↦
                  absurd (u (let a1 = m.0 in let a2 = p.0 in omega arith))
            ]
          ] in
          let pz = ap (at g.place.items) up_z in let i0 = i.0 in absurd (omega arith)
    ] in
    no_bridge n arcs g e k j f b q r ne
    (λ same. elim ends [
      | inl p ↦ let a1 = ap d p.0 in let a2 = ap d p.1 in omega arith
      | inr p ↦ let a1 = ap d p.0 in let a2 = ap d p.1 in omega arith
    ]) bridge

-- something outside is reached
pub tells_no_bridge : (n : ℕ) (arcs : List Arc) (g : Forest) (low high : List ℕ) (e k : ℕ) → IsForest n arcs g
    → AreReaches n arcs g low high → e < n → 0 < at g.by.items e → at g.by.items e ≡ k
    → (at low e < at g.place.items e) ⊎ (at g.last.items e < at high e) → IsBridge arcs k → ⊥
tells_no_bridge n arcs g low high e k f o l b q (inl h) bridge =
    reached_outside n arcs g e k (at low e) f b q (o.low_reached e l) (λ w. let w0 = w.0 in omega arith) bridge
tells_no_bridge n arcs g low high e k f o l b q (inr h) bridge =
    reached_outside n arcs g e k (at high e) f b q (o.high_reached e l) (λ w. let w1 = w.1 in omega arith) bridge

pub inside_trans : (n : ℕ) (arcs : List Arc) (g : Forest) (f : IsForest n arcs g) (p x : ℕ)
    → 0 < at g.place.items p → 0 < at g.place.items x → Under g p x → (k z : ℕ) → at g.place.items z ≤ k
    → 0 < at g.place.items z → Under g x z → Under g p z
inside_trans n arcs g f p x sp sx i zero z h sz j = absurd (omega arith)
inside_trans n arcs g f p x sp sx i (suc k) z h sz j =
    elim (cases_eq x z) [
      | inl q ↦ let a = ap (at g.place.items) q in let i0 = i.0 in let i1 = i.1 in (omega arith, omega arith)
      | inr ne ↦ elim (cases_lt 0 (at g.by.items z)) [
        | inl b ↦
            let c = f.grown.climbs z b in
            let w = inside_trans n arcs g f p x sp sx i k (at g.up.items z) (omega arith) (f.grown.by_seen z b)
            (f.grown.inner_up x z sx b ne j) in
            elim (cases_eq p z) [
              | inl q ↦ let a = ap (at g.place.items) q in let w0 = w.0 in absurd (omega arith)
              | inr np ↦ f.grown.inner_down p z sp b np w
            ]
        | inr z0 ↦ absurd (ne (f.grown.inner_root x z sx sz (omega arith) j))
      ]
    ]

-- what an event reaches, the event above it reaches
pub reached_up : (n : ℕ) (arcs : List Arc) (g : Forest) (x v : ℕ) → IsForest n arcs g → 0 < at g.by.items x
    → IsReachedPlace arcs g x v → IsReachedPlace arcs g (at g.up.items x) v
reached_up n arcs g x v f b h =
    let sx = seen_joined n arcs g x f b in
    let p = at g.up.items x in
    let sp = f.grown.by_seen x b in
    let np : p ≢ x = λ q. let a = ap (at g.place.items) q in let c = f.grown.climbs x b in omega arith in
    let i = f.grown.inner_down p x sp b np (self_inside n arcs g p f sp) in
    let up : (z : ℕ) → Under g x z → Under g p z =
    λ z j. inside_trans n arcs g f p x sp sx i (at g.place.items z) z (omega arith)
    (let j0 = j.0 in omega arith) j in
    elim h [ inl w ↦ inl (w.0, up w.0 w.1, w.2) | inr w ↦ inr (w.0, w.1, w.2, up w.0 w.3, w.4, w.5, w.6, w.7) ]

pub tells : (n : ℕ) (arcs : List Arc) (g : Forest) (low high : List ℕ) (e k : ℕ) (r : Bool) → IsForest n arcs g
    → AreReaches n arcs g low high → e < n → at g.by.items e ≡ k → Names (length arcs) k
    → (IsTrue r ↔ ((at g.place.items e ≤ at low e) × (at high e ≤ at g.last.items e))) → IsTrue r ↔ IsBridge arcs k
tells n arcs g low high e k r f o l q row t =
    let k0 = row.0 in
    let b : 0 < at g.by.items e = omega arith in (
      (λ yes. let w = t.0 yes in tells_bridge n arcs g low high e k f o b q k0 w.0 w.1),
      (λ bridge. elim (cases_lt (at low e) (at g.place.items e)) [
        | inl h ↦ absurd (tells_no_bridge n arcs g low high e k f o l b q (inl h) bridge)
        | inr h ↦ elim (cases_lt (at g.last.items e) (at high e)) [
          | inl j ↦ absurd (tells_no_bridge n arcs g low high e k f o l b q (inr j) bridge)
          | inr j ↦ t.1 (h, j)
        ]
      ]),
    )

-- a row that joins neither of its ends upwards isn't one of the forest
pub tells_outside : (n : ℕ) (arcs : List Arc) (g : Forest) (k : ℕ) → IsForest n arcs g → Names (length arcs) k
    → at g.by.items (tail_of arcs k) ≢ k → at g.by.items (head_of arcs k) ≢ k → IsBridge arcs k → ⊥
tells_outside n arcs g k f r a b bridge = outside_no_bridge n arcs g k f r (λ t.
    let x = t.0 in let tt = ap (tail_of arcs) t.2 in let th = ap (head_of arcs) t.2 in
    elim (f.grown.by_ends x t.1) [
      | inl w ↦ let w0 = w.0 in let e : tail_of arcs k ≡ x = omega arith in a (ap (at g.by.items) e ∙ t.2)
      | inr w ↦ let w0 = w.0 in let e : head_of arcs k ≡ x = omega arith in b (ap (at g.by.items) e ∙ t.2)
    ]) bridge
