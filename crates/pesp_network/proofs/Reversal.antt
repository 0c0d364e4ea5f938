-- What two fundamental walks of one row have in common.
use Rattle.std.proofs.Common.{◌≡◌, ℕ, ◌<◌, refl, sym, ◌∙◌, ap, arith, subst, List, [], ◌∷◌, ◌++◌, length, true, All, pos}
use Rattle.std.specs.Prelude.{Contains, slice_index_or}
use Rattle.std.proofs.lemmas.Int.{ints}
use Rattle.std.proofs.lemmas.List.{get_or-map, length-map}
use Rattle.std.proofs.lemmas.List.Elements.{All-append, All-tail, All-get_or}
use Rattle.pesp_problem.specs.declared.row.SignedRow.{SignedRow}
use Rattle.pesp_problem.specs.declared.arc.Arc.{Arc}
use Rattle.pesp_problem.specs.Arcs.{Net, tail_of, head_of}
use Rattle.pesp_problem.specs.Walks.{Names, RowExists, AreRows, Leads, IsWalk, net_count, HasWholeOffset}
use Rattle.pesp_problem.specs.Forests.{KeepsTo, HaveNoCycle, IsFundamental, AreFundamental, own_row}
use Rattle.pesp_network.specs.Networks.{HasOpenRow}
use Rattle.pesp_problem.proofs.Walks.{net_count-cons}
use Rattle.pesp_problem.proofs.Ways.{leads_append, leads_to, net_count-append, back, leads_back, all_back, net_count-back, is_walk, closed}

-- a way in a forest without cycles that closes passes each row as often one way as the other
way_closes : (arcs : List Arc) (forest : List ℕ) (a i : ℕ) (way : List SignedRow) → HaveNoCycle arcs forest
    → AreRows arcs way → KeepsTo forest way → Leads arcs a way a → net_count way i ≡ pos 0
way_closes arcs forest a i [] none rows keeps h = refl
way_closes arcs forest a i (s ∷ way) none rows keeps h = none (s ∷ way) i (is_walk arcs a s way rows h) keeps

-- what a fundamental walk has after its first row
record Back (arcs : List Arc) (forest : List ℕ) (row : ℕ) (walk : List SignedRow) : Type 0 where
  back : List SignedRow
  begins : walk ≡ record { row = row; plus = true } ∷ back
  rows : AreRows arcs back
  keeps : KeepsTo forest back
  leads : Leads arcs (head_of arcs row) back (tail_of arcs row)

back_of : (arcs : List Arc) (forest : List ℕ) (row : ℕ) (walk : List SignedRow)
    → IsFundamental arcs forest row walk → Back arcs forest row walk
back_of arcs forest row walk f =
    let s : SignedRow = record { row = row; plus = true } in
    let P : List SignedRow → Type 0 = λ w. IsWalk arcs w in
    let c = closed arcs (s ∷ f.back) (subst P f.begins f.closes) in
    record {
      back = f.back;
      begins = f.begins;
      rows = All-tail (RowExists arcs) s f.back c.rows;
      keeps = f.keeps;
      leads = leads_to arcs (head_of arcs row) c.event (tail_of arcs row) f.back (sym c.closes.0) c.closes.1;
    }

pub counted_alike : (arcs : List Arc) (forest : List ℕ) (row : ℕ) (walk other : List SignedRow) (i : ℕ)
    → HaveNoCycle arcs forest → IsFundamental arcs forest row walk → IsFundamental arcs forest row other
    → net_count walk i ≡ net_count other i
counted_alike arcs forest row walk other i none f g =
    let v = back_of arcs forest row walk f in let w = back_of arcs forest row other g in
    let s : SignedRow = record { row = row; plus = true } in
    let there = v.back in let again = back w.back in
    let z = way_closes arcs forest (head_of arcs row) i (there ++ again) none
    (All-append (RowExists arcs) there again v.rows (all_back (Names (length arcs)) w.back w.rows))
    (All-append (λ (x : SignedRow). Contains forest x.row) there again v.keeps (all_back (λ k. Contains forest k) w.back w.keeps))
    (leads_append arcs there again (head_of arcs row) (tail_of arcs row) (head_of arcs row) v.leads
    (leads_back arcs w.back (head_of arcs row) (tail_of arcs row) w.leads)) in
    let a = ap (λ x. net_count x i) v.begins in let b = ap (λ x. net_count x i) w.begins in
    omega (
      arith,
      ints,
      z,
      a,
      b,
      net_count-append there again i,
      net_count-back w.back i,
      net_count-cons s there i,
      net_count-cons s w.back i,
    )

-- each row outside the forest has its walk in the table
pub none_open : (n : Net) (forest : List ℕ) (table : List (List SignedRow)) (slacks : ℕ → ℕ)
    → AreFundamental n.arcs forest table → All (HasWholeOffset n slacks) table → HasOpenRow n forest slacks → ⊥
none_open n forest table slacks f whole o =
    let w = f.outside o.row o.exists o.outside in
    let k = w.0 in
    let l = length-map table own_row in
    let h : k < length table = let b = w.1 in omega arith in
    let walk = slice_index_or table k [] in
    let e : own_row walk ≡ o.row = sym (get_or-map own_row table k [] o.row h) ∙ w.2 in
    let P : ℕ → Type 0 = λ r. IsFundamental n.arcs forest r walk in
    o.open_each walk (subst P e (All-get_or (λ (x : List SignedRow). IsFundamental n.arcs forest (own_row x) x)
    table k [] h f.each)) (All-get_or (HasWholeOffset n slacks) table k [] h whole)
