-- Ways that are followed row by row.
use Rattle.std.proofs.lemmas.Bool.Decides.{nat_tests}
use Rattle.std.proofs.Common.{Bool, true, false, eqb, ◌≡◌, ◌≢◌, ℕ, ◌+◌, ◌<◌, ◌≤◌, List, [], ◌∷◌, length, get_or, drop, drop-cons, add-one, refl, arith}
use Rattle.std.specs.Prelude.{◌↔◌}
use Rattle.std.proofs.lemmas.List.{drop_all}
use Rattle.std.proofs.lemmas.List.Elements.{All-head, All-tail, All-cons, All-nil}
use Rattle.pesp_problem.specs.declared.arc.Arc.{Arc}
use Rattle.pesp_problem.specs.declared.row.SignedRow.{SignedRow}
use Rattle.pesp_problem.specs.Walks.{RowExists, AreRows, Leads, IsWalk, start, finish}

-- rows that exist lead from one event to another
abbrev pub LeadsTo : List Arc → ℕ → List SignedRow → ℕ → Type 0
LeadsTo arcs from way to = AreRows arcs way × Leads arcs from way to

-- the way leads to the event exactly where what is left of it does
pub record Continues (arcs : List Arc) (from : ℕ) (way : List SignedRow) (to event k : ℕ) : Type 0 where
  pub on : LeadsTo arcs from way to → LeadsTo arcs event (drop k way) to
  pub back : LeadsTo arcs event (drop k way) to → LeadsTo arcs from way to

pub continues_none : (arcs : List Arc) (from : ℕ) (way : List SignedRow) (to : ℕ) → Continues arcs from way to from 0
continues_none arcs from way to = record { on = λ h. h; back = λ h. h }

left : (way : List SignedRow) (k : ℕ) (d : SignedRow) → k < length way → drop k way ≡ get_or way k d ∷ drop (k + 1) way
left way k d l = rw (add-one, drop-cons way k d) refl

pub continues_more : (arcs : List Arc) (from : ℕ) (way : List SignedRow) (to event k : ℕ) (d : SignedRow)
    → k < length way → RowExists arcs (get_or way k d) → start arcs (get_or way k d) ≡ event
    → Continues arcs from way to event k → Continues arcs from way to (finish arcs (get_or way k d)) (k + 1)
continues_more arcs from way to event k d l exists starts h = record {
  on = λ w. let a = rw (left way k d l) at (h.on w) in (All-tail (RowExists arcs) (get_or way k d) (drop (k + 1) way) a.0, a.1.1);
  back = λ w. h.back (rw (left way k d l) (All-cons (RowExists arcs) (get_or way k d) (drop (k + 1) way) exists w.0, (starts, w.1)));
}

pub stops_no_row : (arcs : List Arc) (from : ℕ) (way : List SignedRow) (to event k : ℕ) (d : SignedRow)
    → k < length way → (RowExists arcs (get_or way k d) → ⊥) → Continues arcs from way to event k
    → LeadsTo arcs from way to → ⊥
stops_no_row arcs from way to event k d l none h w = let a = rw (left way k d l) at (h.on w) in
    none (All-head (RowExists arcs) (get_or way k d) (drop (k + 1) way) a.0)

pub stops_elsewhere : (arcs : List Arc) (from : ℕ) (way : List SignedRow) (to event k : ℕ) (d : SignedRow)
    → k < length way → start arcs (get_or way k d) ≢ event → Continues arcs from way to event k
    → LeadsTo arcs from way to → ⊥
stops_elsewhere arcs from way to event k d l ne h w = let a = rw (left way k d l) at (h.on w) in ne (a.1.0)

pub ends : (arcs : List Arc) (from : ℕ) (way : List SignedRow) (to event k : ℕ) → length way ≤ k
    → Continues arcs from way to event k → (event ≡ to) ↔ LeadsTo arcs from way to
ends arcs from way to event k l h = (
  λ e. h.back (rw (drop_all k way l) (All-nil (RowExists arcs), e)),
  λ w. (rw (drop_all k way l) at (h.on w)).1,
)

-- a way with a row closes where it leads back to where it begins
pub closed_way : (arcs : List Arc) (walk : List SignedRow) (d : SignedRow) → 0 < length walk
    → LeadsTo arcs (start arcs (get_or walk 0 d)) walk (start arcs (get_or walk 0 d)) ↔ IsWalk arcs walk
closed_way arcs [] d l = absurd (omega arith)
closed_way arcs (s ∷ walk) d l = (λ h. h, λ h. h)

pub not_true : {P : Type 0} → ◌≡◌ {A = Bool} false true → P
not_true h = cc

pub same_test : (a b : ℕ) → (eqb a b ≡ true) ↔ (a ≡ b)
same_test a b = (λ h. grind (arith, nat_tests), λ h. grind (arith, nat_tests))
