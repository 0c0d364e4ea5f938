-- The rows of a cycle as they are followed and counted.
use Rattle.std.proofs.Common.{◌≡◌, ◌≢◌, ℕ, ◌+◌, ◌-◌, ◌<◌, ◌≤◌, arith, ap, sym, refl, subst, ◌∙◌, inl, inr, List, [], ◌∷◌, length, get_or, set, take, Bool, true, false, ◌&&◌}
use Rattle.std.specs.Prelude.{ℤ, pos, ◌+ℤ◌, unsigned_abs, ◌↔◌, ◌==◌, count_by, cond}
use Rattle.std.proofs.lemmas.Bool.Decides.{nat_tests}
use Rattle.std.proofs.lemmas.List.{length-take, length-set, take_all, get_or-set_other}
use Rattle.std.proofs.lemmas.List.Elements.{All-push}
use Rattle.std.proofs.lemmas.List.Sums.{sum_by_push}
use Rattle.std.proofs.lemmas.Bool.{cases_eq}
use Rattle.pesp_problem.specs.declared.arc.Arc.{Arc}
use Rattle.pesp_problem.specs.declared.row.SignedRow.{SignedRow}
use Rattle.pesp_problem.specs.Walks.{Names, RowExists, AreRows, Leads, start, finish, sign, net_count}
use Rattle.pesp_problem.specs.Nets.{AreZeros}
use Rattle.pesp_leaves.specs.Nets.{AreCounts, ArePlaces, IsEntered}
use Rattle.pesp_judges.specs.declared.walks.Way.{Way}
use Rattle.pesp_judges.specs.declared.walks.Way.TheVariants.{Missing, Open, Closed}
use Rattle.pesp_judges.specs.Ways.{IsWay, IsWayOf}
use Rattle.pesp_problem.proofs.Counts.{eq-true, count_step, net_count_small}
use Rattle.pesp_judges.proofs.Reading.{Came, came_none, came_within, came_here, came_more, came_all}
use Rattle.pesp_leaves.proofs.Flowing.{exist_more}

-- ---- the way

-- the rows that are left say of the whole way what it says itself, unless it broke off before
pub record IsFollowed (arcs : List Arc) (rows left : List SignedRow) (begin at : ℕ) (joined : Bool) : Type 0 where
  pub exist : AreRows arcs left ↔ AreRows arcs rows
  pub way : joined ≡ true → Leads arcs at left begin ↔ Leads arcs begin rows begin
  pub broken : joined ≡ false → Leads arcs begin rows begin → ⊥

pub followed_none : (arcs : List Arc) (rows : List SignedRow) (begin : ℕ) → IsFollowed arcs rows rows begin begin true
followed_none arcs rows begin = record {
  exist = (λ e. e, λ e. e);
  way = λ t. (λ w. w, λ w. w);
  broken = λ f. absurd cc;
}

equal_of : (a b : ℕ) → (a == b) ≡ true → a ≡ b
equal_of a b t = grind (arith, nat_tests, t)

apart_of : (a b : ℕ) → (a == b) ≡ false → a ≢ b
apart_of a b f e = let t = eq-true a b e in absurd cc

module _ (arcs : List Arc) (rows left others : List SignedRow) (s : SignedRow) (is : left ≡ s ∷ others) (begin at : ℕ) where
  way_apart : Leads arcs at left begin ↔ Leads arcs at (s ∷ others) begin
  way_apart = let P : List SignedRow → Type 0 = λ w. Leads arcs at w begin in (subst P is, subst P (sym is))

  followed_more : (joined here : Bool) → RowExists arcs s → (here ≡ true → start arcs s ≡ at)
      → (here ≡ false → start arcs s ≢ at) → IsFollowed arcs rows left begin at joined
      → IsFollowed arcs rows others begin (finish arcs s) (joined && here)
  followed_more false here exists meets parts h = record {
    exist = exist_more (RowExists arcs) left others s (AreRows arcs rows) is exists h.exist;
    way = λ t. absurd cc;
    broken = λ f. h.broken refl;
  }
  followed_more true true exists meets parts h = record {
    exist = exist_more (RowExists arcs) left others s (AreRows arcs rows) is exists h.exist;
    way = λ t. (λ w. (h.way refl).0 (way_apart.1 (meets refl, w)), λ w. (way_apart.0 ((h.way refl).1 w)).1);
    broken = λ f. absurd cc;
  }
  followed_more true false exists meets parts h = record {
    exist = exist_more (RowExists arcs) left others s (AreRows arcs rows) is exists h.exist;
    way = λ t. absurd cc;
    broken = λ f w. parts refl (way_apart.0 ((h.way refl).1 w)).0;
  }

  pub followed_next : (joined : Bool) (x : ℕ) → x ≡ start arcs s → RowExists arcs s
      → IsFollowed arcs rows left begin at joined → IsFollowed arcs rows others begin (finish arcs s)
      (joined && (x == at))
  followed_next joined x e exists h = followed_more joined (x == at) exists (λ t. sym e ∙ equal_of x at t)
      (λ f q. apart_of x at f (e ∙ q)) h

-- ---- from where the first row begins

pub way_from : (arcs : List Arc) (rows others : List SignedRow) (s : SignedRow) (begin : ℕ) (way : Way)
    → rows ≡ s ∷ others → begin ≡ start arcs s → IsWay arcs rows begin way → IsWayOf arcs rows way
way_from arcs rows others s begin way is e h =
    let P : List SignedRow → Type 0 = λ rs. IsWay arcs rs (start arcs s) way in
    let Q : List SignedRow → Type 0 = λ rs. IsWayOf arcs rs way in
    let B : ℕ → Type 0 = λ b. IsWay arcs rows b way in
    subst Q (sym is) (go way (subst P is (subst B e h)))
  where
    go : (way : Way) → IsWay arcs (s ∷ others) (start arcs s) way → IsWayOf arcs (s ∷ others) way
    go Missing h = h
    go Open h = (h.0, λ w. h.1 w.1)
    go Closed h = h

-- ---- the counts

-- the rows before those that are left are counted
pub record AreCountedTo (rows left : List SignedRow) (working : List ℤ) : Type 0 where
  pub k : ℕ
  pub came : Came rows left k
  pub counts : (i : ℕ) → i < length working → get_or working i (pos 0) ≡ net_count (take k rows) i

pub counted_none : (rows : List SignedRow) (working : List ℤ) → AreZeros working → AreCountedTo rows rows working
counted_none rows working zeros = record { k = 0; came = came_none rows; counts = zeros }

module _ (rows left others : List SignedRow) (s : SignedRow) (is : left ≡ s ∷ others) (working : List ℤ)
    (h : AreCountedTo rows left working) where
  pub counted_small : (i : ℕ) → i < length working → length rows ≤ 10000000 → unsigned_abs (get_or working i (pos 0)) ≤ 10000000
  counted_small i l short =
      let few : length (take h.k rows) ≤ 10000000 = omega (arith, length-take h.k rows) in
      let small = net_count_small (take h.k rows) i 10000000 few in
      omega (arith, ap unsigned_abs (h.counts i l))

  pub counted_more : Names (length working) s.row
      → AreCountedTo rows others (set working (s.row - 1) (get_or working (s.row - 1) (pos 0) +ℤ sign s))
  counted_more exists =
      let within = came_within rows left others s h.k h.came is in
      let here = came_here rows left others s h.k h.came is s in
      let P : SignedRow → Type 0 = λ x. (i : ℕ) → i < length working
      → get_or (set working (x.row - 1) (get_or working (x.row - 1) (pos 0) +ℤ sign x)) i (pos 0)
      ≡ net_count (take (h.k + 1) rows) i in
      let row : (get_or rows h.k s).row ≡ s.row = ap (λ (x : SignedRow). x.row) here in
      let counts = count_step working rows h.k s _ within (omega (arith, exists)) (omega (arith, exists)) refl h.counts in
      let moved = subst P here counts in
      record {
        k = h.k + 1;
        came = came_more rows left others s h.k h.came is;
        counts = λ i l. moved i (omega (arith, length-set {A = ℤ}));
      }

pub counted_all : (rows left : List SignedRow) (working : List ℤ) → left ≡ [] → AreCountedTo rows left working → AreCounts rows working
counted_all rows left working is h i l =
    let all = take_all h.k rows (came_all rows left h.k h.came is) in h.counts i l ∙ ap (λ (walk : List SignedRow). net_count walk i) all

-- ---- the places

pub placed_more : (places places' : List ℕ) (working : List ℤ) (at : ℕ) (z : ℤ) → at < length working
    → IsEntered places places' at (get_or working at (pos 0)) → ArePlaces places working
    → ArePlaces places' (set working at z)
placed_more places places' working at z inside (inl (some, same)) h = record {
  inside = rw (same, length-set working at z) h.inside;
  named = λ i l none.
      let l' : i < length working = omega (arith, length-set working at z) in
      let none' : count_by (λ place. place == i) places ≡ 0 = ap (count_by (λ place. place == i)) (sym same) ∙ none in
      elim (cases_eq i at) [
        | inl e ↦ absurd (some (ap (λ j. get_or working j (pos 0)) (sym e) ∙ h.named i l' none'))
        | inr other ↦ get_or-set_other working at i z (pos 0) other ∙ h.named i l' none'
      ];
}
placed_more places places' working at z inside (inr more) h = record {
  inside = rw (more, length-set working at z) (All-push (λ (place : ℕ). place < length working) places at h.inside inside);
  named = λ i l none.
      let l' : i < length working = omega (arith, length-set working at z) in
      let both : count_by (λ place. place == i) places'
      ≡ count_by (λ place. place == i) places + cond (at == i) 1 0 = ap (count_by (λ place. place == i)) more
      ∙ sum_by_push (λ (place : ℕ). cond (place == i) 1 0) places at in
      elim (cases_eq i at) [
        | inl e ↦ (let one : cond (at == i) 1 0
            ≡ 1 = (let pick : Bool → ℕ = λ b. cond b 1 0 in ap pick (eq-true at i (sym e))) in absurd (omega arith))
        | inr other ↦ get_or-set_other working at i z (pos 0) other ∙ h.named i l' (omega arith)
      ];
}
