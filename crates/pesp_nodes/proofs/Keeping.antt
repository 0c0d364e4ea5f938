-- What problems keep.
use Rattle.std.proofs.Common.{◌≡◌, ℕ, suc, ◌+◌, ◌<◌, ◌≤◌, List, length, get_or, map, take, refl, ap, sym, ◌∙◌, arith, All}
use Rattle.std.specs.Prelude.{ℤ, unsigned_abs, sum_by, ◌++◌, ◌∷◌, []}
use Rattle.std.proofs.lemmas.List.{get_or-map, length-map, get_or_default, map_more}
use Rattle.pesp_problem.specs.declared.arc.Arc.{Arc}
use Rattle.pesp_problem.specs.declared.row.SignedRow.{SignedRow}
use Rattle.pesp_problem.specs.Arcs.{no_arc, arc_at}
use Rattle.pesp_problem.specs.Nodes.{slack_range}
use Rattle.pesp_problem.specs.Walks.{IsWalk, AreRows}
use Rattle.pesp_network.specs.Networks.{NetworkValue, KeepsNetLimits, arcs_of_network, arc_of_net, no_net_row}
use Rattle.pesp_nodes.specs.declared.passages.Passage.{Passage}
use Rattle.pesp_problem.specs.Ranges.{AreSlackEnds}
use Rattle.pesp_nodes.specs.Offsets.{AreArcs}
use Rattle.pesp_nodes.specs.Passages.{ArePassages, passages_at}
use Rattle.pesp_nodes.specs.Problems.{IsSmallTable}
use Rattle.pesp_nodes.proofs.Tables.{passages_short}

pub arcs_small : (n : NetworkValue) → KeepsNetLimits n → AreArcs (arcs_of_network n.rows)
arcs_small n h k d l =
    let l' : k < length n.rows = omega (arith, length-map n.rows arc_of_net) in
    let keeps = h.each k no_net_row l' in
    let is = get_or-map arc_of_net n.rows k no_net_row d l' in
    let period = h.period_most in
    rw is (keeps.lower, omega (arith, keeps.span), keeps.weight)

pub passages_small : (n : ℕ) (walks : List (List SignedRow)) (by_row : List (List Passage)) → IsSmallTable walks
    → ArePassages n (length walks) walks by_row → All
    (λ ps. sum_by (λ e. unsigned_abs e.count) ps ≤ 10000000) by_row
passages_small n walks by_row small h k d l =
    let long = h.long in
    let short = passages_short walks k (passages_at by_row k) (h.each k (omega arith)) in
    let rows = small.rows in
    rw (get_or_default by_row k d [] l) (omega arith)

-- the offset ranges of the first k walks
pub ranges_more : {X Y : Type 0} (f : X → Y) (xs : List X) (ys : List Y) (k : ℕ) (d : X) (y : Y) → k < length xs
    → y ≡ f (get_or xs k d) → ys ≡ map f (take k xs) → ys ++ y ∷ [] ≡ map f (take (k + 1) xs)
ranges_more f xs ys k d y l e h = rw (e, h) (sym (map_more f xs k d l))

-- walks that close pass rows that exist
pub rows_of_walk : (arcs : List Arc) (walk : List SignedRow) → IsWalk arcs walk → AreRows arcs walk
rows_of_walk arcs [] w = absurd w
rows_of_walk arcs (s ∷ walk) w = w.0

pub spans_small : (arcs : List Arc) → AreArcs arcs → AreSlackEnds (map (λ arc. (0, arc.span)) arcs)
spans_small arcs h k d l =
    let to : Arc → ℕ × ℕ = λ arc. (0, arc.span) in
    let l' : k < length arcs = omega (arith, length-map arcs to) in
    let is = get_or-map to arcs k no_arc d l' in
    let small = h k no_arc l' in
    rw is (omega arith, omega (arith, small.1))

pub pair_is : (p : ℤ × ℤ) (a b : ℤ) → p.0 ≡ a → p.1 ≡ b → p ≡ (a, b)
pair_is p a b e f = ap (λ (x : ℤ). (x, p.1)) e ∙ ap (λ (y : ℤ). (a, y)) f

-- slack ranges that are each the whole one of their row
pub whole_is : (arcs : List Arc) (slacks : List (ℕ × ℕ)) → length slacks ≡ length arcs
    → ((i : ℕ) → i < length arcs → slack_range slacks i ≡ (0, (arc_at arcs i).span))
    → slacks ≡ map (λ arc. (0, arc.span)) arcs
whole_is [] [] e h = refl
whole_is [] (s ∷ slacks) e h = absurd (omega (arith, e))
whole_is (a ∷ arcs) [] e h = absurd (omega (arith, e))
whole_is (a ∷ arcs) (s ∷ slacks) e h =
    let rest = whole_is arcs slacks (omega (arith, e)) (λ i l. h (suc i) (omega arith)) in
    ap (λ (x : ℕ × ℕ). x ∷ slacks) (h 0 (omega arith)) ∙ ap (λ (xs : List (ℕ × ℕ)). (0, a.span) ∷ xs) rest
