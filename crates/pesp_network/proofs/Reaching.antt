-- The places that are reached, taken in row by row and then upwards.
use Rattle.std.proofs.Common.{◌≡◌, ◌≢◌, ℕ, ◌+◌, ◌-◌, ◌<◌, ◌≤◌, inl, inr, refl, sym, ◌∙◌, ap, arith, subst, List, length, vec_len}
use Rattle.std.proofs.lemmas.Bool.{cases_eq, cases_lt}
use Rattle.pesp_problem.specs.declared.arc.Arc.{Arc}
use Rattle.pesp_problem.specs.declared.arc.Arc.{Arc}
use Rattle.pesp_problem.specs.Walks.{Names}
use Rattle.pesp_network.specs.declared.parts.Forest.{Forest}
use Rattle.pesp_network.specs.Growing.{at}
use Rattle.pesp_problem.specs.Arcs.{arc_at, tail_of, head_of, HasEnds}
use Rattle.pesp_network.specs.Rooted.{IsForest, AreReaches, IsReachedPlace, ReachesRows, TakesPlaces, TakesUp}
use Rattle.pesp_network.proofs.Climbing.{self_inside}
use Rattle.pesp_network.proofs.Bridging.{reached_up, end_seen}

pub record TakenRow (g : Forest) (k x y : ℕ) (low high low2 high2 : List ℕ) : Type 0 where
  pub kept : at g.by.items x ≡ k → (low2 ≡ low) × (high2 ≡ high)
  pub takes : at g.by.items x ≢ k → TakesPlaces low high low2 high2 x (at g.place.items y) (at g.place.items y)

reached_same : (arcs : List Arc) (g : Forest) (x v w : ℕ) → w ≡ v → IsReachedPlace arcs g x v → IsReachedPlace arcs g x w
reached_same arcs g x v w e h = let P : ℕ → Type 0 = λ z. IsReachedPlace arcs g x z in subst P (sym e) h

reached_at : (arcs : List Arc) (g : Forest) (x z v : ℕ) → z ≡ x → IsReachedPlace arcs g x v → IsReachedPlace arcs g z v
reached_at arcs g x z v e h = let P : ℕ → Type 0 = λ u. IsReachedPlace arcs g u v in subst P (sym e) h

by_row_end : (n : ℕ) (arcs : List Arc) (g : Forest) (k x y : ℕ) → IsForest n arcs g → Names (length arcs) k
    → HasEnds (arc_at arcs (k - 1)) x y → at g.by.items x ≢ k → IsReachedPlace arcs g x (at g.place.items y)
by_row_end n arcs g k x y f r ends ne = inr (x, k, y, self_inside n arcs g x f (end_seen n arcs g k x y f r ends).0, r, ends, ne, refl)

taken_mono : (g : Forest) (k x y : ℕ) (low high low2 high2 : List ℕ) → TakenRow g k x y low high low2 high2
    → (z : ℕ) → (at low2 z ≤ at low z) × (at high z ≤ at high2 z)
taken_mono g k x y low high low2 high2 t z = elim (cases_eq (at g.by.items x) k) [
  | inl e ↦ let w = t.kept e in let a = ap (λ l. at l z) w.0 in let b = ap (λ l. at l z) w.1 in (omega arith, omega arith)
  | inr ne ↦ let w = t.takes ne in (w.low_less z, w.high_more z)
]

taken_one : (n : ℕ) (arcs : List Arc) (g : Forest) (i k x y : ℕ) (low high low2 high2 : List ℕ) → IsForest n arcs g
    → ReachesRows n arcs g i low high → Names (length arcs) k → HasEnds (arc_at arcs (k - 1)) x y
    → TakenRow g k x y low high low2 high2
    → ReachesRows n arcs g i low2 high2
taken_one n arcs g i k x y low high low2 high2 f o r ends t = record {
  row_low = λ j u v ij le e ne. let a = o.row_low j u v ij le e ne in let m = taken_mono g k x y low high low2 high2 t u in omega arith;
  row_high = λ j u v ij le e ne. let a = o.row_high j u v ij le e ne in let m = taken_mono g k x y low high low2 high2 t u in omega arith;
  low_reached = λ z l. elim (cases_eq (at g.by.items x) k) [
    | inl e ↦ reached_same arcs g z (at low z) (at low2 z) (ap (λ q. at q z) (t.kept e).0) (o.low_reached z l)
    | inr ne ↦ elim ((t.takes ne).low_is z) [
      | inl e ↦ reached_same arcs g z (at low z) (at low2 z) e (o.low_reached z l)
      | inr e ↦ reached_same arcs g z (at g.place.items y) (at low2 z) e.1
          (reached_at arcs g x z (at g.place.items y) e.0 (by_row_end n arcs g k x y f r ends ne))
    ]
  ];
  high_reached = λ z l. elim (cases_eq (at g.by.items x) k) [
    | inl e ↦ reached_same arcs g z (at high z) (at high2 z) (ap (λ q. at q z) (t.kept e).1) (o.high_reached z l)
    | inr ne ↦ elim ((t.takes ne).high_is z) [
      | inl e ↦ reached_same arcs g z (at high z) (at high2 z) e (o.high_reached z l)
      | inr e ↦ reached_same arcs g z (at g.place.items y) (at high2 z) e.1
          (reached_at arcs g x z (at g.place.items y) e.0 (by_row_end n arcs g k x y f r ends ne))
    ]
  ];
}

-- one row more, at both of its ends
pub taken_more : (n : ℕ) (arcs : List Arc) (g : Forest) (i x y : ℕ) (low high low2 high2 low3 high3 : List ℕ)
    → IsForest n arcs g → ReachesRows n arcs g i low high → i < length arcs → x ≡ tail_of arcs (i + 1)
    → y ≡ head_of arcs (i + 1)
    → TakenRow g (i + 1) x y low high low2 high2 → TakenRow g (i + 1) y x low2 high2 low3 high3 → ReachesRows n arcs g (i + 1) low3 high3
taken_more n arcs g i x y low high low2 high2 low3 high3 f o lt ex ey t u =
    let k = i + 1 in
    let r : Names (length arcs) k = (omega arith, omega arith) in
    let one = taken_one n arcs g i k x y low high low2 high2 f o r (inl (sym ex, sym ey)) t in
    let two = taken_one n arcs g i k y x low2 high2 low3 high3 f one r (inr (sym ey, sym ex)) u in
    record {
      row_low = λ j a b ij le e ne. elim (cases_lt i j) [
        | inr ge ↦ two.row_low j a b ij ge e ne
        | inl gt ↦
            let q : j ≡ k = omega arith in let tj = ap (tail_of arcs) q in let hj = ap (head_of arcs) q in
            elim e [
              | inl w ↦ let w0 = w.0 in let w1 = w.1 in let ax : a ≡ x = omega arith in let by : b ≡ y = omega arith in
                  let s = t.takes (λ z. ne (ap (at g.by.items) ax ∙ z ∙ sym q)) in
                  let m = taken_mono g k y x low2 high2 low3 high3 u x in let h = s.low_here in
                  let p = ap (at low3) ax in let pb = ap (at g.place.items) by in omega arith
              | inr w ↦ let w0 = w.0 in let w1 = w.1 in let ay : a ≡ y = omega arith in let bx : b ≡ x = omega arith in
                  let s = u.takes (λ z. ne (ap (at g.by.items) ay ∙ z ∙ sym q)) in let h = s.low_here in
                  let p = ap (at low3) ay in let pb = ap (at g.place.items) bx in omega arith
            ]
      ];
      row_high = λ j a b ij le e ne. elim (cases_lt i j) [
        | inr ge ↦ two.row_high j a b ij ge e ne
        | inl gt ↦
            let q : j ≡ k = omega arith in let tj = ap (tail_of arcs) q in let hj = ap (head_of arcs) q in
            elim e [
              | inl w ↦ let w0 = w.0 in let w1 = w.1 in let ax : a ≡ x = omega arith in let by : b ≡ y = omega arith in
                  let s = t.takes (λ z. ne (ap (at g.by.items) ax ∙ z ∙ sym q)) in
                  let m = taken_mono g k y x low2 high2 low3 high3 u x in let h = s.high_here in
                  let p = ap (at high3) ax in let pb = ap (at g.place.items) by in omega arith
              | inr w ↦ let w0 = w.0 in let w1 = w.1 in let ay : a ≡ y = omega arith in let bx : b ≡ x = omega arith in
                  let s = u.takes (λ z. ne (ap (at g.by.items) ay ∙ z ∙ sym q)) in let h = s.high_here in
                  let p = ap (at high3) ay in let pb = ap (at g.place.items) bx in omega arith
            ]
      ];
      low_reached = two.low_reached;
      high_reached = two.high_reached;
    }

-- each event reaches its own place
pub taken_none : (n : ℕ) (arcs : List Arc) (g : Forest) (low high : List ℕ) → IsForest n arcs g
    → low ≡ g.place.items → high ≡ g.place.items → ReachesRows n arcs g 0 low high
taken_none n arcs g low high f a b = record {
  row_low = λ j x y r le e ne. absurd (let p = r.0 in omega arith);
  row_high = λ j x y r le e ne. absurd (let p = r.0 in omega arith);
  low_reached = λ x l. inl (x, self_inside n arcs g x f (f.all_seen x l), ap (λ q. at q x) a);
  high_reached = λ x l. inl (x, self_inside n arcs g x f (f.all_seen x l), ap (λ q. at q x) b);
}

-- no event of a later place than the last one
pub up_none : (n : ℕ) (arcs : List Arc) (g : Forest) (low high : List ℕ) → IsForest n arcs g
    → ReachesRows n arcs g (length arcs) low high → TakesUp n arcs g (vec_len g.order) low high
up_none n arcs g low high f o = record {
  rows_in = o;
  up_low = λ x b h. absurd (let p = f.grown.places x in omega arith);
  up_high = λ x b h. absurd (let p = f.grown.places x in omega arith);
}

-- a root has nothing above it
pub up_root : (n : ℕ) (arcs : List Arc) (g : Forest) (i e : ℕ) (low high : List ℕ) → IsForest n arcs g
    → TakesUp n arcs g (i + 1) low high → i < vec_len g.order → e ≡ at g.order.items i → at g.by.items e ≡ 0
    → TakesUp n arcs g i low high
up_root n arcs g i e low high f o lt q z =
    let only : (x : ℕ) → 0 < at g.by.items x → i < at g.place.items x → i + 1 < at g.place.items x = λ x b h.
    elim (cases_lt (i + 1) (at g.place.items x)) [
      | inl w ↦ w
      | inr w ↦ absurd (let p = f.grown.place_at x (omega arith) in
          let c : at g.place.items x - 1 ≡ i = omega arith in let d = ap (at g.order.items) c in
          let same : x ≡ e = omega arith in let k = ap (at g.by.items) same in omega arith)
    ] in
    record {
      rows_in = o.rows_in;
      up_low = λ x b h. o.up_low x b (only x b h);
      up_high = λ x b h. o.up_high x b (only x b h);
    }

pub up_more : (n : ℕ) (arcs : List Arc) (g : Forest) (i e : ℕ) (low high low2 high2 : List ℕ) → IsForest n arcs g
    → TakesUp n arcs g (i + 1) low high → i < vec_len g.order → e ≡ at g.order.items i → 0 < at g.by.items e
    → TakesPlaces low high low2 high2 (at g.up.items e) (at low e) (at high e) → TakesUp n arcs g i low2 high2
up_more n arcs g i e low high low2 high2 f o lt q b t =
    let p = at g.up.items e in
    let place : at g.place.items e ≡ i + 1 = ap (at g.place.items) q ∙ f.grown.order_at i lt in
    let climbs = f.grown.climbs e b in
    let low_e : at low2 e ≤ at low e = t.low_less e in
    let el : e < n = (let w = f.grown.seen_below e (omega arith) in let v = f.events in omega arith) in
    let later : (x : ℕ) → i < at g.place.items x → (at low2 x ≡ at low x) × (at high2 x ≡ at high x) = λ x h. (
      elim (t.low_is x) [ inl w ↦ w | inr w ↦ absurd (let k = ap (at g.place.items) w.0 in omega arith) ],
      elim (t.high_is x) [ inl w ↦ w | inr w ↦ absurd (let k = ap (at g.place.items) w.0 in omega arith) ],
    ) in
    let is_e : (x : ℕ) → i < at g.place.items x → at g.place.items x ≤ i + 1 → x ≡ e = λ x h w.
    let r = f.grown.place_at x (omega arith) in let c : at g.place.items x - 1 ≡ i = omega arith in
    let d = ap (at g.order.items) c in omega arith in
    record {
      rows_in = record {
        row_low = λ j x y r le ends ne. let a = o.rows_in.row_low j x y r le ends ne in let m = t.low_less x in omega arith;
        row_high = λ j x y r le ends ne. let a = o.rows_in.row_high j x y r le ends ne in let m = t.high_more x in omega arith;
        low_reached = λ x l. elim (t.low_is x) [
          | inl w ↦ reached_same arcs g x (at low x) (at low2 x) w (o.rows_in.low_reached x l)
          | inr w ↦ reached_same arcs g x (at low e) (at low2 x) w.1
              (reached_at arcs g p x (at low e) w.0 (reached_up n arcs g e (at low e) f b
              (o.rows_in.low_reached e el)))
        ];
        high_reached = λ x l. elim (t.high_is x) [
          | inl w ↦ reached_same arcs g x (at high x) (at high2 x) w (o.rows_in.high_reached x l)
          | inr w ↦ reached_same arcs g x (at high e) (at high2 x) w.1
              (reached_at arcs g p x (at high e) w.0 (reached_up n arcs g e (at high e) f b
              (o.rows_in.high_reached e el)))
        ];
      };
      up_low = λ x bx h. let same = later x h in let m = t.low_less (at g.up.items x) in elim (cases_lt (i + 1) (at g.place.items x)) [
        | inl w ↦ let a = o.up_low x bx w in omega arith
        | inr w ↦ let v = is_e x h w in let c = ap (λ z. at low2 (at g.up.items z)) v in let d = ap (at low) v in
            let hh = t.low_here in omega arith
      ];
      up_high = λ x bx h. let same = later x h in let m = t.high_more (at g.up.items x) in elim (cases_lt (i + 1) (at g.place.items x)) [
        | inl w ↦ let a = o.up_high x bx w in omega arith
        | inr w ↦ let v = is_e x h w in let c = ap (λ z. at high2 (at g.up.items z)) v in let d = ap (at high) v in
            let hh = t.high_here in omega arith
      ];
    }

pub all_up : (n : ℕ) (arcs : List Arc) (g : Forest) (low high : List ℕ) → IsForest n arcs g
    → TakesUp n arcs g 0 low high → AreReaches n arcs g low high
all_up n arcs g low high f o = record {
  row_low = λ j x y r ends ne. o.rows_in.row_low j x y r r.1 ends ne;
  row_high = λ j x y r ends ne. o.rows_in.row_high j x y r r.1 ends ne;
  up_low = λ x b. o.up_low x b (let c = f.grown.climbs x b in omega arith);
  up_high = λ x b. o.up_high x b (let c = f.grown.climbs x b in omega arith);
  low_reached = o.rows_in.low_reached;
  high_reached = o.rows_in.high_reached;
}

pub taken_all : (n : ℕ) (arcs : List Arc) (g : Forest) (i m : ℕ) (low high : List ℕ) → m ≡ i
    → ReachesRows n arcs g i low high → ReachesRows n arcs g m low high
taken_all n arcs g i m low high e o = let P : ℕ → Type 0 = λ k. ReachesRows n arcs g k low high in subst P (sym e) o

up_same : (n : ℕ) (arcs : List Arc) (g : Forest) (i : ℕ) (low high low2 high2 : List ℕ) → low2 ≡ low → high2 ≡ high
    → TakesUp n arcs g i low high → TakesUp n arcs g i low2 high2
up_same n arcs g i low high low2 high2 a b o = let P : List ℕ → Type 0 = λ k. TakesUp n arcs g i k high in
    let Q : List ℕ → Type 0 = λ k. TakesUp n arcs g i low2 k in subst Q (sym b) (subst P (sym a) o)

pub up_at : (n : ℕ) (arcs : List Arc) (g : Forest) (i j : ℕ) (low high : List ℕ) → j ≡ i
    → TakesUp n arcs g i low high → TakesUp n arcs g j low high
up_at n arcs g i j low high e o = let P : ℕ → Type 0 = λ k. TakesUp n arcs g k low high in subst P (sym e) o

pub event_below : (n : ℕ) (arcs : List Arc) (g : Forest) (i e : ℕ) → IsForest n arcs g → i < vec_len g.order
    → e ≡ at g.order.items i → e < n
event_below n arcs g i e f lt q = let p = ap (at g.place.items) q in let o = f.grown.order_at i lt in
    let s = f.grown.seen_below e (omega arith) in let v = f.events in omega arith

pub up_step : (n : ℕ) (arcs : List Arc) (g : Forest) (count e : ℕ) (low high low2 high2 : List ℕ)
    → IsForest n arcs g → TakesUp n arcs g count low high → 0 < count → count ≤ vec_len g.order
    → e ≡ at g.order.items (count - 1)
    → (at g.by.items e ≡ 0 → (low2 ≡ low) × (high2 ≡ high))
    → (0 < at g.by.items e → TakesPlaces low high low2 high2 (at g.up.items e) (at low e) (at high e))
    → TakesUp n arcs g (count - 1) low2 high2
up_step n arcs g count e low high low2 high2 f o a b q kept takes =
    let o2 = up_at n arcs g count (count - 1 + 1) low high (omega arith) o in
    elim (cases_lt 0 (at g.by.items e)) [
      | inl j ↦ up_more n arcs g (count - 1) e low high low2 high2 f o2 (omega arith) q j (takes j)
      | inr z ↦ let k = kept (omega arith) in up_same n arcs g (count - 1) low high low2 high2 k.0 k.1
          (up_root n arcs g (count - 1) e low high f o2 (omega arith) q (omega arith))
    ]
