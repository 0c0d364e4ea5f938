-- The ways up and down a rooted forest.
use Rattle.std.proofs.Common.{◌≡◌, ◌≢◌, ℕ, zero, suc, ◌+◌, ◌-◌, ◌<◌, ◌≤◌, inl, inr, refl, sym, ◌∙◌, ap, arith, subst, List, [], ◌∷◌, ◌++◌, length, vec_len, map, true, false, Bool, All, ◌==◌}
use Rattle.std.specs.Prelude.{nat_eq, nat_le, if◌then◌else◌}
use Rattle.std.specs.List.{AllByRecursion, IsDistinct}
use Rattle.std.proofs.lemmas.Bool.{cases_eq, cases_Bool, eq-eqb, ne_eqb, leb-true, le-leb, and_parts, and_from, cond-true, cond-false}
use Rattle.std.proofs.lemmas.List.{append_assoc, map-append}
use Rattle.std.proofs.lemmas.List.Elements.{All-append, All-cons, All-nil, All-push, All-weaker, All-map}
use Rattle.pesp_problem.specs.declared.row.SignedRow.{SignedRow}
use Rattle.pesp_problem.specs.declared.arc.Arc.{Arc}
use Rattle.pesp_problem.specs.Walks.{Names, RowExists, Leads, IsWalk, start, finish}
use Rattle.pesp_problem.specs.Forests.{IsSimple}
use Rattle.pesp_network.specs.declared.parts.Forest.{Forest}
use Rattle.pesp_network.specs.Growing.{at}
use Rattle.pesp_problem.specs.Arcs.{tail_of, head_of}
use Rattle.pesp_network.specs.Rooted.{Under, IsForest, IsTreeRow}
use Rattle.pesp_network.specs.Ways.{step_up, step_down, is_under, up_way, top, down_way, way_between, walk_of}
use Rattle.pesp_network.proofs.Climbing.{self_inside, climbs_on, descends_on, up_below, still_above, ends_of, one_tree}
use Rattle.pesp_problem.proofs.Ways.{leads_append, leads_from, is_walk}
use Rattle.pesp_network.proofs.Bridging.{inside_trans, tree_is_row}
use Rattle.pesp_network.proofs.Distinct.{IsChain, chain_append, chain_distinct, chain_bounds, apart_below, apart_all, distinct_cons}

pub under_true : (g : Forest) (x y : ℕ) → is_under g x y ≡ true → Under g x y
under_true g x y e = let w = and_parts (nat_le (at g.place.items x) (at g.place.items y))
    (nat_le (at g.place.items y) (at g.last.items x)) e in (leb-true _ _ w.0, leb-true _ _ w.1)

pub true_under : (g : Forest) (x y : ℕ) → Under g x y → is_under g x y ≡ true
true_under g x y i = and_from (nat_le (at g.place.items x) (at g.place.items y))
    (nat_le (at g.place.items y) (at g.last.items x)) (le-leb _ _ i.0) (le-leb _ _ i.1)

pub under_false : (g : Forest) (x y : ℕ) → is_under g x y ≡ false → Under g x y → ⊥
under_false g x y e i = let q = sym e ∙ true_under g x y i in cc

-- ---- single steps

ends_by : (a b : ℕ) (t : Bool) (c : Bool) → t ≡ c → (if t then a else b) ≡ (if c then a else b)
ends_by a b t c e = ap (λ (x : Bool). if x then a else b) e

pub step_up_ends : (n : ℕ) (arcs : List Arc) (g : Forest) (x : ℕ) → IsForest n arcs g → 0 < at g.by.items x
    → (start arcs (step_up arcs g x) ≡ x) × (finish arcs (step_up arcs g x) ≡ at g.up.items x)
step_up_ends n arcs g x f j =
    let k = at g.by.items x in let t = tail_of arcs k in let h = head_of arcs k in
    let c = f.grown.climbs x j in
    elim (f.grown.by_ends x j) [
      | inl w ↦ let e : (t == x) ≡ true = eq-eqb t x w.0 in (ends_by t h (t == x) true e ∙ w.0, ends_by h t (t == x) true e ∙ w.1)
      | inr w ↦ let e : (t == x) ≡ false = ne_eqb t x
          (λ q. let p = ap (at g.place.items) (sym w.1 ∙ q) in omega arith) in
          (ends_by t h (t == x) false e ∙ w.0, ends_by h t (t == x) false e ∙ w.1)
    ]

pub step_down_ends : (n : ℕ) (arcs : List Arc) (g : Forest) (x : ℕ) → IsForest n arcs g → 0 < at g.by.items x
    → (start arcs (step_down arcs g x) ≡ at g.up.items x) × (finish arcs (step_down arcs g x) ≡ x)
step_down_ends n arcs g x f j =
    let k = at g.by.items x in let t = tail_of arcs k in let h = head_of arcs k in
    let c = f.grown.climbs x j in
    elim (f.grown.by_ends x j) [
      | inl w ↦ let e : (h == x) ≡ false = ne_eqb h x
          (λ q. let p = ap (at g.place.items) (sym w.1 ∙ q) in omega arith) in
          (ends_by t h (h == x) false e ∙ w.1, ends_by h t (h == x) false e ∙ w.0)
      | inr w ↦ let e : (h == x) ≡ true = eq-eqb h x w.0 in (ends_by t h (h == x) true e ∙ w.1, ends_by h t (h == x) true e ∙ w.0)
    ]

-- the lower event of a row of the forest
abbrev pub low_of : List Arc → Forest → ℕ → ℕ
low_of arcs g k = if at g.by.items (tail_of arcs k) == k then tail_of arcs k else head_of arcs k

pub low_is : (n : ℕ) (arcs : List Arc) (g : Forest) (x : ℕ) → IsForest n arcs g → 0 < at g.by.items x → low_of arcs g (at g.by.items x) ≡ x
low_is n arcs g x f j =
    let k = at g.by.items x in let t = tail_of arcs k in let h = head_of arcs k in
    let c = f.grown.climbs x j in
    elim (f.grown.by_ends x j) [
      | inl w ↦ let e : (at g.by.items t == k) ≡ true = eq-eqb _ _ (ap (at g.by.items) w.0) in
          ends_by t h (at g.by.items t == k) true e ∙ w.0
      | inr w ↦
          let e : (at g.by.items t == k) ≡ false = ne_eqb _ _ (λ q.
          let u = at g.up.items x in
          let same : at g.by.items u ≡ k = ap (at g.by.items) (sym w.1) ∙ q in
          let b : 0 < at g.by.items u = omega arith in
          let d = f.grown.climbs u b in
          let pt = ap (tail_of arcs) same in let ph = ap (head_of arcs) same in
          elim (f.grown.by_ends u b) [
            | inl v ↦ let p = ap (at g.place.items) (sym v.1 ∙ ph ∙ w.0) in omega arith
            | inr v ↦ let p = ap (at g.place.items) (sym v.0 ∙ ph ∙ w.0) in omega arith
          ]) in
          ends_by t h (at g.by.items t == k) false e ∙ w.0
    ]

-- ---- a rank that rises from below the events that aren't above t, over those that are, towards t

abbrev pub rank : ℕ → Forest → ℕ → ℕ → ℕ
rank most g t e = if is_under g e t then most + at g.place.items e else most - at g.place.items e

rank_off : (most : ℕ) (g : Forest) (t e : ℕ) → is_under g e t ≡ false → rank most g t e ≡ most - at g.place.items e
rank_off most g t e q = cond-false (is_under g e t) (most + at g.place.items e) (most - at g.place.items e) q

rank_on : (most : ℕ) (g : Forest) (t e : ℕ) → is_under g e t ≡ true → rank most g t e ≡ most + at g.place.items e
rank_on most g t e q = cond-true (is_under g e t) (most + at g.place.items e) (most - at g.place.items e) q

-- ---- ways

-- a way along the forest on which events and rows rise in rank
pub record Rises (arcs : List Arc) (g : Forest) (most t : ℕ) (way : List SignedRow) (low high row_low row_high : ℕ) : Type 0 where
  pub tree : All (λ (s : SignedRow). IsTreeRow g s.row) way
  pub starts : IsChain (rank most g t) low (map (start arcs) way) high
  pub rows : IsChain (λ k. rank most g t (low_of arcs g k)) row_low (map (λ (s : SignedRow). s.row) way) row_high

pub record GoesUp (n : ℕ) (arcs : List Arc) (g : Forest) (most t x : ℕ) (way : List SignedRow) (u : ℕ) : Type 0 where
  pub leads : Leads arcs x way u
  pub below : u < n
  pub above : Under g u t
  pub rises : (low : ℕ) → (Under g x t → ⊥) → low < most - at g.place.items x → Rises arcs g most t way low most low most
  pub none : Under g x t → way ≡ []

no_way_up : (n : ℕ) (arcs : List Arc) (g : Forest) (most t x : ℕ) → x < n → Under g x t → GoesUp n arcs g most t x [] x
no_way_up n arcs g most t x b i = record {
  leads = refl;
  below = b;
  above = i;
  rises = λ low out l. absurd (out i);
  none = λ i. refl;
}

one_up : (n : ℕ) (arcs : List Arc) (g : Forest) (most t x : ℕ) (way : List SignedRow) (u : ℕ) → IsForest n arcs g
    → ((y : ℕ) → at g.place.items y < most) → 0 < at g.by.items x → is_under g x t ≡ false
    → GoesUp n arcs g most t (at g.up.items x) way u
    → GoesUp n arcs g most t x (step_up arcs g x ∷ way) u
one_up n arcs g most t x way u f room j out w =
    let s = step_up arcs g x in
    let e = step_up_ends n arcs g x f j in
    let p = at g.up.items x in
    let c = f.grown.climbs x j in
    let rp = room p in let rx = room x in
    let off = rank_off most g t x out in
    let at_start = ap (rank most g t) e.0 ∙ off in
    let at_row = ap (rank most g t) (low_is n arcs g x f j) ∙ off in
    let tree : IsTreeRow g s.row = (x, j, refl) in
    let T = λ (y : SignedRow). IsTreeRow g y.row in
    record {
      leads = (e.0, leads_from arcs (finish arcs s) p u way e.1 w.leads);
      below = w.below;
      above = w.above;
      rises = λ low o l.
          elim (cases_Bool (is_under g p t)) [
            | inl q ↦
                let none = w.none (under_true g p t q) in
                let P : List SignedRow → Type 0 = λ v. Rises arcs g most t (s ∷ v) low most low most in
                subst P (sym none) (record {
                  tree = All-cons T s [] tree (All-nil T);
                  starts = (omega arith, omega arith);
                  rows = (omega arith, omega arith);
                })
            | inr q ↦
                let r1 = w.rises (rank most g t (start arcs s)) (under_false g p t q) (omega arith) in
                let r2 = w.rises (rank most g t (low_of arcs g s.row)) (under_false g p t q) (omega arith) in
                record {
                  tree = All-cons T s way tree r1.tree;
                  starts = (omega arith, r1.starts);
                  rows = (omega arith, r2.rows);
                }
          ];
      none = λ i. absurd (under_false g x t out i);
    }

pub goes_up : (n : ℕ) (arcs : List Arc) (g : Forest) (most t : ℕ) → IsForest n arcs g
    → ((y : ℕ) → at g.place.items y < most) → t < n → (m x : ℕ) → at g.place.items x ≤ m → x < n
    → at g.root.items x ≡ at g.root.items t
    → GoesUp n arcs g most t x (up_way arcs g t m x) (top g t m x)
goes_up n arcs g most t f room bt zero x h b r = absurd (let s = f.all_seen x b in omega arith)
goes_up n arcs g most t f room bt (suc m) x h b r =
    let s = step_up arcs g x in let p = at g.up.items x in
    let rest = up_way arcs g t m p in let u = top g t m p in
    let P : Bool → Type 0 = λ z. GoesUp n arcs g most t x (if z then [] else s ∷ rest) (if z then x else u) in
    elim (cases_Bool (is_under g x t)) [
      | inl e ↦ subst P (sym e) (no_way_up n arcs g most t x b (under_true g x t e))
      | inr e ↦
          let j = climbs_on n arcs g x t f b bt r (under_false g x t e) in
          let c = f.grown.climbs x j in
          let w = goes_up n arcs g most t f room bt m p (omega arith) (up_below n arcs g x f j) (f.grown.same_root x j ∙ r) in
          subst P (sym e) (one_up n arcs g most t x rest u f room j e w)
    ]

pub record GoesDown (arcs : List Arc) (g : Forest) (most t u : ℕ) (way : List SignedRow) (y : ℕ) : Type 0 where
  pub leads : Leads arcs u way y
  pub rises : Rises arcs g most t way most (most + at g.place.items y - 1) most (most + at g.place.items y)

no_way_down : (arcs : List Arc) (g : Forest) (most t u y : ℕ) → u ≡ y → 0 < at g.place.items y → GoesDown arcs g most t u [] y
no_way_down arcs g most t u y e s = record {
  leads = e;
  rises = record { tree = All-nil (λ (z : SignedRow). IsTreeRow g z.row); starts = omega arith; rows = omega arith };
}

one_down : (n : ℕ) (arcs : List Arc) (g : Forest) (most t u y : ℕ) (way : List SignedRow) → IsForest n arcs g
    → 0 < at g.by.items y → Under g y t → Under g (at g.up.items y) t
    → GoesDown arcs g most t u way (at g.up.items y)
    → GoesDown arcs g most t u (way ++ step_down arcs g y ∷ []) y
one_down n arcs g most t u y way f j iy ip w =
    let s = step_down arcs g y in
    let e = step_down_ends n arcs g y f j in
    let p = at g.up.items y in
    let c = f.grown.climbs y j in
    let sp = f.grown.by_seen y j in
    let on_p = rank_on most g t p (true_under g p t ip) in
    let on_y = rank_on most g t y (true_under g y t iy) in
    let at_start = ap (rank most g t) e.0 ∙ on_p in
    let at_row = ap (rank most g t) (low_is n arcs g y f j) ∙ on_y in
    let R : ℕ → ℕ = λ k. rank most g t (low_of arcs g k) in
    let ts : List ℕ = start arcs s ∷ [] in
    let rs : List ℕ = s.row ∷ [] in
    let hp = most + at g.place.items p in
    let hy = most + at g.place.items y in
    let more_starts : IsChain (rank most g t) (hp - 1) ts (hy - 1) = (omega arith, omega arith) in
    let more_rows : IsChain R hp rs hy = (omega arith, omega arith) in
    let P : List ℕ → Type 0 = λ z. IsChain (rank most g t) most z (hy - 1) in
    let Q : List ℕ → Type 0 = λ z. IsChain R most z hy in
    record {
      leads = leads_append arcs way (s ∷ []) u p y w.leads (e.0, e.1);
      rises = record {
        tree = All-push (λ (z : SignedRow). IsTreeRow g z.row) way s w.rises.tree (y, j, refl);
        starts = subst P (sym (map-append (start arcs) way (s ∷ [])))
            (chain_append (rank most g t) most (hp - 1) (hy - 1)
            (map (start arcs) way) ts w.rises.starts more_starts);
        rows = subst Q (sym (map-append (λ (z : SignedRow). z.row) way (s ∷ [])))
            (chain_append R most hp hy (map (λ (z : SignedRow). z.row) way) rs w.rises.rows more_rows);
      };
    }

pub goes_down : (n : ℕ) (arcs : List Arc) (g : Forest) (most t u : ℕ) → IsForest n arcs g → t < n → u < n
    → (m y : ℕ) → at g.place.items y ≤ m → y < n → Under g u y → Under g y t
    → GoesDown arcs g most t u (down_way arcs g u m y) y
goes_down n arcs g most t u f bt bu zero y h b i k = absurd (let s = f.all_seen y b in omega arith)
goes_down n arcs g most t u f bt bu (suc m) y h b i k =
    let p = at g.up.items y in
    let rest = down_way arcs g u m p ++ step_down arcs g y ∷ [] in
    let P : Bool → Type 0 = λ z. GoesDown arcs g most t u (if z then [] else rest) y in
    elim (cases_eq y u) [
      | inl e ↦ subst P (sym (eq-eqb y u e)) (no_way_down arcs g most t u y (sym e) (f.all_seen y b))
      | inr ne ↦
          let j = descends_on n arcs g u y f bu b i ne in
          let c = f.grown.climbs y j in
          let bp = up_below n arcs g y f j in
          let sp = f.all_seen p bp in let sy = f.all_seen y b in
          let np : p ≢ y = λ q. let z = ap (at g.place.items) q in omega arith in
          let py = f.grown.inner_down p y sp j np (self_inside n arcs g p f sp) in
          let pt = inside_trans n arcs g f p y sp sy py (at g.place.items t) t (omega arith) (f.all_seen t bt) k in
          subst P (sym (ne_eqb y u ne)) (one_down n arcs g most t u y (down_way arcs g u m p) f j k pt
          (goes_down n arcs g most t u f bt bu m p (omega arith) bp (still_above n arcs g u y f bu j ne i) pt))
    ]

-- ---- walks

-- the way from x to t along the forest
pub record WayBetween (arcs : List Arc) (g : Forest) (most x t : ℕ) (way : List SignedRow) : Type 0 where
  pub leads : Leads arcs x way t
  pub tree : All (λ (s : SignedRow). IsTreeRow g s.row) way
  pub starts : IsChain (rank most g t) 0 (map (start arcs) way) (most + at g.place.items t - 1)
  pub rows : IsChain (λ k. rank most g t (low_of arcs g k)) 0 (map (λ (s : SignedRow). s.row) way) (most + at g.place.items t)

pub way_facts : (n : ℕ) (arcs : List Arc) (g : Forest) (most x t : ℕ) → IsForest n arcs g
    → ((y : ℕ) → at g.place.items y < most) → x < n → t < n → at g.root.items x ≡ at g.root.items t
    → WayBetween arcs g most x t (way_between arcs g x t)
way_facts n arcs g most x t f room bx bt r =
    let up = up_way arcs g t (at g.place.items x) x in
    let u = top g t (at g.place.items x) x in
    let down = down_way arcs g u (at g.place.items t) t in
    let st = f.all_seen t bt in
    let a = goes_up n arcs g most t f room bt (at g.place.items x) x (omega arith) bx r in
    let b = goes_down n arcs g most t u f bt a.below (at g.place.items t) t (omega arith) bt a.above (self_inside n arcs g t f st) in
    let T = λ (s : SignedRow). IsTreeRow g s.row in
    let R : ℕ → ℕ = λ k. rank most g t (low_of arcs g k) in
    let row : SignedRow → ℕ = λ s. s.row in
    let rx = room x in
    let rises : Rises arcs g most t up 0 most 0 most =
    elim (cases_Bool (is_under g x t)) [
      | inl q ↦
          let P : List SignedRow → Type 0 = λ v. Rises arcs g most t v 0 most 0 most in
          subst P (sym (a.none (under_true g x t q))) (record { tree = All-nil T; starts = omega arith; rows = omega arith })
      | inr q ↦ a.rises 0 (under_false g x t q) (omega arith)
    ] in
    let P : List ℕ → Type 0 = λ z. IsChain (rank most g t) 0 z (most + at g.place.items t - 1) in
    let Q : List ℕ → Type 0 = λ z. IsChain R 0 z (most + at g.place.items t) in
    record {
      leads = leads_append arcs up down x u t a.leads b.leads;
      tree = All-append T up down rises.tree b.rises.tree;
      starts = subst P (sym (map-append (start arcs) up down))
          (chain_append (rank most g t) 0 most (most + at g.place.items t - 1) (map (start arcs) up)
          (map (start arcs) down) rises.starts b.rises.starts);
      rows = subst Q (sym (map-append row up down))
          (chain_append R 0 most (most + at g.place.items t) (map row up) (map row down) rises.rows b.rises.rows);
    }

-- the fundamental walk of a row
pub record IsWalkOf (arcs : List Arc) (g : Forest) (k : ℕ) (walk : List SignedRow) : Type 0 where
  pub closes : IsWalk arcs walk
  pub back : List SignedRow
  pub begins : walk ≡ record { row = k; plus = true } ∷ back
  pub tree : All (λ (s : SignedRow). IsTreeRow g s.row) back

pub room_of : (n : ℕ) (arcs : List Arc) (g : Forest) → IsForest n arcs g → (y : ℕ) → at g.place.items y < vec_len g.order + 1
room_of n arcs g f y = let p = f.grown.places y in omega arith

pub walk_facts : (n : ℕ) (arcs : List Arc) (g : Forest) (k : ℕ) → IsForest n arcs g → Names (length arcs) k
    → IsWalkOf arcs g k (walk_of arcs g k)
walk_facts n arcs g k f r =
    let e = ends_of n arcs k f.ends r in
    let w = way_facts n arcs g (vec_len g.order + 1) (head_of arcs k) (tail_of arcs k) f
    (room_of n arcs g f) e.1 e.0 (one_tree n arcs g k f r) in
    let way = way_between arcs g (head_of arcs k) (tail_of arcs k) in
    let s : SignedRow = record { row = k; plus = true } in
    record {
      closes = is_walk arcs (tail_of arcs k) s way
          (All-cons (RowExists arcs) s way r (All-weaker (λ (z : SignedRow). IsTreeRow g z.row) (RowExists arcs)
          (tree_is_row n arcs g f) way w.tree)) (refl, w.leads);
      back = way;
      begins = refl;
      tree = w.tree;
    }

-- the rank of the end is above that of every start
end_once : (arcs : List Arc) (r : ℕ → ℕ) (t low high : ℕ) (way : List SignedRow) → high < r t
    → IsChain r low (map (start arcs) way) high → All (λ (s : SignedRow). start arcs s ≢ t) way
end_once arcs r t low high [] l h = All-nil (λ (s : SignedRow). start arcs s ≢ t)
end_once arcs r t low high (s ∷ way) l h =
    let b = chain_bounds r (r (start arcs s)) high (map (start arcs) way) h.1 in
    All-cons (λ (z : SignedRow). start arcs z ≢ t) s way (λ e. let q = ap r e in omega arith)
    (end_once arcs r t (r (start arcs s)) high way l h.1)

-- no event and no row twice on a way along the forest, the event at its end included
pub record IsPath (arcs : List Arc) (g : Forest) (x t : ℕ) (way : List SignedRow) : Type 0 where
  pub leads : Leads arcs x way t
  pub tree : All (λ (s : SignedRow). IsTreeRow g s.row) way
  pub end_once : All (λ (s : SignedRow). start arcs s ≢ t) way
  pub apart : AllByRecursion (λ y. nat_eq t y ≡ false) (map (start arcs) way)
  pub starts : IsDistinct nat_eq (map (start arcs) way)
  pub rows : IsDistinct nat_eq (map (λ (s : SignedRow). s.row) way)

pub is_path : (n : ℕ) (arcs : List Arc) (g : Forest) (x t : ℕ) → IsForest n arcs g → x < n → t < n
    → at g.root.items x ≡ at g.root.items t → IsPath arcs g x t (way_between arcs g x t)
is_path n arcs g x t f bx bt r =
    let most = vec_len g.order + 1 in
    let w = way_facts n arcs g most x t f (room_of n arcs g f) bx bt r in
    let way = way_between arcs g x t in
    let R : ℕ → ℕ = λ j. rank most g t (low_of arcs g j) in
    let st = f.all_seen t bt in
    let own = rank_on most g t t (true_under g t t (self_inside n arcs g t f st)) in
    let high = most + at g.place.items t - 1 in
    record {
      leads = w.leads;
      tree = w.tree;
      end_once = end_once arcs (rank most g t) t 0 high way (omega arith) w.starts;
      apart = apart_below (rank most g t) t 0 high (map (start arcs) way) (omega arith) w.starts;
      starts = chain_distinct (rank most g t) 0 high (map (start arcs) way) w.starts;
      rows = chain_distinct R 0 (most + at g.place.items t) (map (λ (s : SignedRow). s.row) way) w.rows;
    }

pub walk_simple : (n : ℕ) (arcs : List Arc) (g : Forest) (k : ℕ) → IsForest n arcs g → Names (length arcs) k
    → (IsTreeRow g k → ⊥) → IsSimple arcs (walk_of arcs g k)
walk_simple n arcs g k f r out =
    let e = ends_of n arcs k f.ends r in
    let t = tail_of arcs k in
    let w = is_path n arcs g (head_of arcs k) t f e.1 e.0 (one_tree n arcs g k f r) in
    let way = way_between arcs g (head_of arcs k) t in
    let row : SignedRow → ℕ = λ s. s.row in (
      distinct_cons t (map (start arcs) way) w.apart w.starts,
      distinct_cons k (map row way)
          (apart_all k (map row way) (All-map (λ j. k ≢ j) row way
          (All-weaker (λ (s : SignedRow). IsTreeRow g s.row) (λ (s : SignedRow). k ≢ s.row)
          (λ s tr q. out (let P : ℕ → Type 0 = λ j. IsTreeRow g j in subst P (sym q) tr)) way w.tree)))
          w.rows,
    )

-- the event where the way up stops
pub top_facts : (n : ℕ) (arcs : List Arc) (g : Forest) (x t : ℕ) → IsForest n arcs g → x < n → t < n
    → at g.root.items x ≡ at g.root.items t → (top g t (at g.place.items x) x < n)
    × Under g (top g t (at g.place.items x) x) t
top_facts n arcs g x t f bx bt r = let a = goes_up n arcs g (vec_len g.order + 1) t f (room_of n arcs g f) bt
    (at g.place.items x) x (omega arith) bx r in (a.below, a.above)

pub above_at : (g : Forest) (u v t : ℕ) → u ≡ v → Under g v t → Under g u t
above_at g u v t e i = let P : ℕ → Type 0 = λ z. Under g z t in subst P (sym e) i

-- what was there, the way up, and then the way down
pub goes_on : (arcs : List Arc) (g : Forest) (x t u : ℕ) (before walk rest final : List SignedRow)
    → u ≡ top g t (at g.place.items x) x → walk ≡ before ++ up_way arcs g t (at g.place.items x) x
    → rest ≡ down_way arcs g u (at g.place.items t) t → final ≡ walk ++ rest → final ≡ before ++ way_between arcs g x t
goes_on arcs g x t u before walk rest final eu ew er ef =
    let up = up_way arcs g t (at g.place.items x) x in
    ef ∙ ap (λ (w : List SignedRow). w ++ rest) ew
    ∙ ap (λ (w : List SignedRow). (before ++ up) ++ w)
    (er ∙ ap (λ v. down_way arcs g v (at g.place.items t) t) eu)
    ∙ append_assoc before up (down_way arcs g (top g t (at g.place.items x) x) (at g.place.items t) t)

-- a row, and then the way from its head back to its tail
pub walk_is : (arcs : List Arc) (g : Forest) (k h t : ℕ) (first final : List SignedRow) → h ≡ head_of arcs k
    → t ≡ tail_of arcs k → first ≡ record { row = k; plus = true } ∷ [] → final ≡ first ++ way_between arcs g h t
    → final ≡ walk_of arcs g k
walk_is arcs g k h t first final eh et e1 ef =
    let s : SignedRow = record { row = k; plus = true } in
    ef ∙ ap (λ (w : List SignedRow). w ++ way_between arcs g h t) e1 ∙ ap (λ x. s ∷ way_between arcs g x t) eh
    ∙ ap (λ y. s ∷ way_between arcs g (head_of arcs k) y) et
