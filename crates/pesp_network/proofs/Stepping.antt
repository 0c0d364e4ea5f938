-- The ways up and down, step by step.
use Rattle.std.proofs.Common.{◌≡◌, ◌≢◌, ℕ, zero, suc, ◌<◌, ◌≤◌, refl, sym, ◌∙◌, ap, arith, subst, List, [], ◌∷◌, ◌++◌, reverse, true, false}
use Rattle.std.specs.Prelude.{◌==◌}
use Rattle.std.proofs.lemmas.Bool.{eq-eqb, ne_eqb, cond-true, cond-false}
use Rattle.std.proofs.lemmas.List.{append_assoc, append-nil, reverse-append}
use Rattle.pesp_problem.specs.declared.row.SignedRow.{SignedRow}
use Rattle.pesp_problem.specs.declared.arc.Arc.{Arc}
use Rattle.pesp_network.specs.declared.parts.Forest.{Forest}
use Rattle.pesp_network.specs.Growing.{at}
use Rattle.pesp_network.specs.Rooted.{Under, IsForest}
use Rattle.pesp_network.specs.Ways.{step_up, step_down, is_under, up_way, top, down_way}
use Rattle.pesp_network.proofs.Climbing.{climbs_on, descends_on, up_below, still_above}
use Rattle.pesp_network.proofs.Paths.{under_false}

-- what the walk has, and then the way that is left, is what it had before and the whole way
pub record ClimbsOn (n : ℕ) (arcs : List Arc) (g : Forest) (t from : ℕ) (before walk : List SignedRow) (upper : ℕ) : Type 0 where
  pub below : upper < n
  pub root : at g.root.items upper ≡ at g.root.items t
  pub fuel : ℕ
  pub enough : at g.place.items upper ≤ fuel
  pub walk_is : walk ++ up_way arcs g t fuel upper ≡ before ++ up_way arcs g t (at g.place.items from) from
  pub top_is : top g t fuel upper ≡ top g t (at g.place.items from) from

pub climbs_first : (n : ℕ) (arcs : List Arc) (g : Forest) (t from : ℕ) (before : List SignedRow) → from < n
    → at g.root.items from ≡ at g.root.items t → ClimbsOn n arcs g t from before before from
climbs_first n arcs g t from before b r = record {
  below = b;
  root = r;
  fuel = at g.place.items from;
  enough = omega arith;
  walk_is = refl;
  top_is = refl;
}

up_way_on : (arcs : List Arc) (g : Forest) (t m x : ℕ) → is_under g x t ≡ false
    → up_way arcs g t (suc m) x ≡ step_up arcs g x ∷ up_way arcs g t m (at g.up.items x)
up_way_on arcs g t m x e = cond-false (is_under g x t) [] (step_up arcs g x ∷ up_way arcs g t m (at g.up.items x)) e

top_on : (g : Forest) (t m x : ℕ) → is_under g x t ≡ false → top g t (suc m) x ≡ top g t m (at g.up.items x)
top_on g t m x e = cond-false (is_under g x t) x (top g t m (at g.up.items x)) e

pub joined_up : (n : ℕ) (arcs : List Arc) (g : Forest) (t from : ℕ) (before walk : List SignedRow) (upper : ℕ)
    → IsForest n arcs g → t < n → ClimbsOn n arcs g t from before walk upper → is_under g upper t ≡ false
    → 0 < at g.by.items upper
joined_up n arcs g t from before walk upper f bt o e = climbs_on n arcs g upper t f o.below bt o.root (under_false g upper t e)

climbs_step : (n : ℕ) (arcs : List Arc) (g : Forest) (t from : ℕ) (before walk more : List SignedRow) (upper m : ℕ)
    → IsForest n arcs g → t < n → (o : ClimbsOn n arcs g t from before walk upper) → o.fuel ≡ m
    → is_under g upper t ≡ false → more ≡ walk ++ step_up arcs g upper ∷ []
    → ClimbsOn n arcs g t from before more (at g.up.items upper)
climbs_step n arcs g t from before walk more upper zero f bt o z e q =
    absurd (let s = f.all_seen upper o.below in let h = o.enough in omega arith)
climbs_step n arcs g t from before walk more upper (suc m) f bt o z e q =
    let j = joined_up n arcs g t from before walk upper f bt o e in
    let c = f.grown.climbs upper j in let h = o.enough in
    let up = at g.up.items upper in
    let rest = up_way arcs g t m up in
    record {
      below = up_below n arcs g upper f j;
      root = f.grown.same_root upper j ∙ o.root;
      fuel = m;
      enough = omega arith;
      walk_is = ap (λ w. w ++ rest) q ∙ append_assoc walk (step_up arcs g upper ∷ []) rest
          ∙ ap (λ w. walk ++ w) (sym (up_way_on arcs g t m upper e))
          ∙ ap (λ i. walk ++ up_way arcs g t i upper) (sym z) ∙ o.walk_is;
      top_is = sym (top_on g t m upper e) ∙ ap (λ i. top g t i upper) (sym z) ∙ o.top_is;
    }

pub climbs_more : (n : ℕ) (arcs : List Arc) (g : Forest) (t from : ℕ) (before walk more : List SignedRow)
    (upper : ℕ) → IsForest n arcs g → t < n → (o : ClimbsOn n arcs g t from before walk upper)
    → is_under g upper t ≡ false → more ≡ walk ++ step_up arcs g upper ∷ []
    → ClimbsOn n arcs g t from before more (at g.up.items upper)
climbs_more n arcs g t from before walk more upper f bt o e q = climbs_step n arcs g t from before walk more upper o.fuel f bt o refl e q

climbs_end : (n : ℕ) (arcs : List Arc) (g : Forest) (t from : ℕ) (before walk : List SignedRow) (upper m : ℕ)
    → IsForest n arcs g → (o : ClimbsOn n arcs g t from before walk upper) → o.fuel ≡ m → is_under g upper t ≡ true
    → (walk ≡ before ++ up_way arcs g t (at g.place.items from) from) × (upper ≡ top g t (at g.place.items from) from)
climbs_end n arcs g t from before walk upper zero f o z e = absurd (let s = f.all_seen upper o.below in let h = o.enough in omega arith)
climbs_end n arcs g t from before walk upper (suc m) f o z e =
    let none : up_way arcs g t (suc m) upper ≡ [] =
    cond-true (is_under g upper t) [] (step_up arcs g upper ∷ up_way arcs g t m (at g.up.items upper)) e in
    let here : top g t (suc m) upper ≡ upper = cond-true (is_under g upper t) upper (top g t m (at g.up.items upper)) e in (
      sym (append-nil walk) ∙ ap (λ w. walk ++ w) (sym none) ∙ ap (λ i. walk ++ up_way arcs g t i upper) (sym z) ∙ o.walk_is,
      sym here ∙ ap (λ i. top g t i upper) (sym z) ∙ o.top_is,
    )

pub climbs_all : (n : ℕ) (arcs : List Arc) (g : Forest) (t from : ℕ) (before walk : List SignedRow) (upper : ℕ)
    → IsForest n arcs g → (o : ClimbsOn n arcs g t from before walk upper) → is_under g upper t ≡ true
    → (walk ≡ before ++ up_way arcs g t (at g.place.items from) from) × (upper ≡ top g t (at g.place.items from) from)
climbs_all n arcs g t from before walk upper f o e = climbs_end n arcs g t from before walk upper o.fuel f o refl e

-- the way that is left, and then what was passed, is the whole way
pub record DescendsOn (n : ℕ) (arcs : List Arc) (g : Forest) (u to : ℕ) (way : List SignedRow) (lower : ℕ) : Type 0 where
  pub below : lower < n
  pub above : Under g u lower
  pub fuel : ℕ
  pub enough : at g.place.items lower ≤ fuel
  pub way_is : down_way arcs g u fuel lower ++ reverse way ≡ down_way arcs g u (at g.place.items to) to

pub descends_first : (n : ℕ) (arcs : List Arc) (g : Forest) (u to : ℕ) (way : List SignedRow) → to < n
    → Under g u to → way ≡ [] → DescendsOn n arcs g u to way to
descends_first n arcs g u to way b i e = record {
  below = b;
  above = i;
  fuel = at g.place.items to;
  enough = omega arith;
  way_is = ap (λ w. down_way arcs g u (at g.place.items to) to ++ reverse w) e
      ∙ append-nil (down_way arcs g u (at g.place.items to) to);
}

pub joined_down : (n : ℕ) (arcs : List Arc) (g : Forest) (u to : ℕ) (way : List SignedRow) (lower : ℕ)
    → IsForest n arcs g → u < n → DescendsOn n arcs g u to way lower → lower ≢ u → 0 < at g.by.items lower
joined_down n arcs g u to way lower f bu o ne = descends_on n arcs g u lower f bu o.below o.above ne

descends_step : (n : ℕ) (arcs : List Arc) (g : Forest) (u to : ℕ) (way more : List SignedRow) (lower m : ℕ)
    → IsForest n arcs g → u < n → (o : DescendsOn n arcs g u to way lower) → o.fuel ≡ m → lower ≢ u
    → more ≡ way ++ step_down arcs g lower ∷ [] → DescendsOn n arcs g u to more (at g.up.items lower)
descends_step n arcs g u to way more lower zero f bu o z ne q = absurd (let s = f.all_seen lower o.below in let h = o.enough in omega arith)
descends_step n arcs g u to way more lower (suc m) f bu o z ne q =
    let j = joined_down n arcs g u to way lower f bu o ne in
    let c = f.grown.climbs lower j in let h = o.enough in
    let up = at g.up.items lower in let s = step_down arcs g lower in
    let rest = down_way arcs g u m up in
    let on : down_way arcs g u (suc m) lower ≡ rest ++ s ∷ [] = cond-false (lower == u) [] (rest ++ s ∷ []) (ne_eqb lower u ne) in
    record {
      below = up_below n arcs g lower f j;
      above = still_above n arcs g u lower f bu j ne o.above;
      fuel = m;
      enough = omega arith;
      way_is = ap (λ w. rest ++ reverse w) q ∙ ap (λ w. rest ++ w) (reverse-append way (s ∷ []))
          ∙ sym (append_assoc rest (s ∷ []) (reverse way)) ∙ ap (λ w. w ++ reverse way) (sym on)
          ∙ ap (λ i. down_way arcs g u i lower ++ reverse way) (sym z) ∙ o.way_is;
    }

pub descends_more : (n : ℕ) (arcs : List Arc) (g : Forest) (u to : ℕ) (way more : List SignedRow) (lower : ℕ)
    → IsForest n arcs g → u < n → (o : DescendsOn n arcs g u to way lower) → lower ≢ u
    → more ≡ way ++ step_down arcs g lower ∷ [] → DescendsOn n arcs g u to more (at g.up.items lower)
descends_more n arcs g u to way more lower f bu o ne q = descends_step n arcs g u to way more lower o.fuel f bu o refl ne q

descends_end : (n : ℕ) (arcs : List Arc) (g : Forest) (u to : ℕ) (way : List SignedRow) (lower m : ℕ)
    → IsForest n arcs g → (o : DescendsOn n arcs g u to way lower) → o.fuel ≡ m → lower ≡ u
    → reverse way ≡ down_way arcs g u (at g.place.items to) to
descends_end n arcs g u to way lower zero f o z e = absurd (let s = f.all_seen lower o.below in let h = o.enough in omega arith)
descends_end n arcs g u to way lower (suc m) f o z e =
    let none : down_way arcs g u (suc m) lower
    ≡ [] = cond-true (lower == u) [] (down_way arcs g u m (at g.up.items lower) ++ step_down arcs g lower ∷ [])
    (eq-eqb lower u e) in
    ap (λ w. w ++ reverse way) (sym none) ∙ ap (λ i. down_way arcs g u i lower ++ reverse way) (sym z) ∙ o.way_is

pub descends_all : (n : ℕ) (arcs : List Arc) (g : Forest) (u to : ℕ) (way : List SignedRow) (lower : ℕ)
    → IsForest n arcs g → (o : DescendsOn n arcs g u to way lower) → lower ≡ u
    → reverse way ≡ down_way arcs g u (at g.place.items to) to
descends_all n arcs g u to way lower f o e = descends_end n arcs g u to way lower o.fuel f o refl e

pub moved_up : (n : ℕ) (arcs : List Arc) (g : Forest) (t from : ℕ) (before walk : List SignedRow) (x y : ℕ) → y ≡ x
    → ClimbsOn n arcs g t from before walk x → ClimbsOn n arcs g t from before walk y
moved_up n arcs g t from before walk x y e o = let P : ℕ → Type 0 = λ z. ClimbsOn n arcs g t from before walk z in subst P (sym e) o

pub moved_down : (n : ℕ) (arcs : List Arc) (g : Forest) (u to : ℕ) (way : List SignedRow) (x y : ℕ) → y ≡ x
    → DescendsOn n arcs g u to way x → DescendsOn n arcs g u to way y
moved_down n arcs g u to way x y e o = let P : ℕ → Type 0 = λ z. DescendsOn n arcs g u to way z in subst P (sym e) o
