-- Offsets and costs that slacks of the instance's rows leave to what is left of it.
use Rattle.std.proofs.Common.{◌≡◌, ℕ, zero, suc, ◌*◌, ◌<◌, ◌≤◌, List, length, get_or, take, add-one, refl, ap, arith, ◌∙◌, subst}
use Rattle.std.specs.Prelude.{pos, ◌+ℤ◌, ◌*ℤ◌, ◌≤ℤ◌, All, slice_index, sum_by}
use Rattle.std.proofs.lemmas.Int.{ints}
use Rattle.std.proofs.lemmas.List.{get_or-map, length-map, take_all}
use Rattle.std.proofs.lemmas.List.Sums.{sum_by_more}
use Rattle.pesp_problem.specs.declared.arc.Arc.{Arc}
use Rattle.pesp_problem.specs.declared.row.SignedRow.{SignedRow}
use Rattle.pesp_problem.specs.Sums.{sum_below}
use Rattle.pesp_problem.specs.Arcs.{no_arc, arc_at, arcs_of, arc_of, net_of, arc_slack, slacks_at}
use Rattle.pesp_problem.specs.NetTimetables.{IsNetTimetable, net_cost}
use Rattle.pesp_problem.specs.Walks.{IsWalk, net_count, HasWholeOffset}
use Rattle.pesp_problem.proofs.Integers.{sum_below-same}
use Rattle.pesp_network.specs.Networks.{net_row_at, no_net_row, arc_of_net, arcs_of_network, net_of_network}
use Rattle.pesp_reduce.specs.declared.fate.Fate.{Fate}
use Rattle.pesp_reduce.specs.declared.fate.Fate.TheVariants.{Contracted}
use Rattle.pesp_reduce.specs.Fates.{fate_at}
use Rattle.pesp_reduce.specs.Reductions.{ReducedValue, IsFateOf, origin_place}
use Rattle.pesp_reduce.proofs.LiftedOffsets.{lifted_offsets}
use Rattle.pesp_reduce.proofs.LiftedOffsets.{IsLifted as IsLiftedWalk}
use Rattle.pesp_branching.specs.Lifted.{IsReduced, IsLifted, AreSlacksOf, AreWithin, weighted}
use Rattle.pesp_branching.proofs.Places.{sum_at_places}
use Rattle.pesp_branching.proofs.Tables.{origins_rise, any_default}

-- ---- offsets

-- contracted rows have slack 0
none_contracted : (r : ReducedValue) (slacks : ℕ → ℕ) → IsReduced r → AreWithin (net_of r.original) slacks
    → (i : ℕ) → i < length (arcs_of r.original) → fate_at r.fates i ≡ Contracted → slacks i ≡ 0
none_contracted r slacks h w i l e =
    let long = length-map r.original.rows (arc_of r.original.period) in
    let fate = subst (λ (f : Fate). IsFateOf r.original i f) e (h.fates.each i (omega (arith, l, long))) in
    let within = w i l in
    omega (arith, within, fate.1)

pub offsets_come_back : (r : ReducedValue) (walk lifted : List SignedRow) (slacks : ℕ → ℕ) (left : List ℕ)
    → IsReduced r → IsWalk (arcs_of_network r.network.rows) walk → IsLifted r walk lifted
    → AreWithin (net_of r.original) slacks → AreSlacksOf r slacks left
    → HasWholeOffset (net_of r.original) slacks lifted
    → HasWholeOffset (net_of_network r.network) (slice_index left) walk
offsets_come_back r walk lifted slacks left h closed lift w a o =
    let arcs = arcs_of_network r.network.rows in
    let many = length-map r.original.rows (arc_of r.original.period) in
    let long = length-map r.network.rows arc_of_net in
    let lifted_is : IsLiftedWalk r walk lifted =
    record { closes = lift.closes; kept = lift.kept; others = lift.others; lower = lift.lower } in
    let own = (lifted_offsets r walk lifted slacks h.period closed lifted_is
    (λ i l e. none_contracted r slacks h w i (omega (arith, l, many)) e)).0 o in (
      own.0,
      sum_below-same (length arcs) _ _ (λ j l.
          ap (λ (n : ℕ). net_count walk j *ℤ ((arc_at arcs j).lower +ℤ pos n)) (a.each j (omega (arith, l, long))))
          ∙ own.1,
    )

-- ---- timetables

arc_is : (r : ReducedValue) (j : ℕ) → j < length r.network.rows
    → arc_at (arcs_of_network r.network.rows) j ≡ arc_of_net (net_row_at r.network.rows j)
arc_is r j l = get_or-map arc_of_net r.network.rows j no_net_row no_arc l

pub origin_inside : (r : ReducedValue) (j : ℕ) → IsReduced r → j < length r.network.rows
    → origin_place r.network j < length (arcs_of r.original)
origin_inside r j h l = let names = (h.rows j l).names in
    let long = length-map r.original.rows (arc_of r.original.period) in omega (arith, names, long)

pub timetable_again : (r : ReducedValue) (slacks : ℕ → ℕ) (left times : List ℕ) → IsReduced r
    → AreWithin (net_of r.original) slacks → AreSlacksOf r slacks left → length times ≡ r.network.events
    → All (λ t. t < r.network.period) times → ((j : ℕ) → j < length r.network.rows
    → slacks_at (net_of_network r.network) times j ≡ slice_index left j)
    → IsNetTimetable (net_of_network r.network) r.network.events times
timetable_again r slacks left times h w a count below same = record {
  count = count;
  below = below;
  slacks = λ j d l.
      let arcs = arcs_of_network r.network.rows in
      let inside : j < length r.network.rows = (let long = length-map r.network.rows arc_of_net in omega (arith, l, long)) in
      let slack = same j inside in
      let each = a.each j inside in
      let within = w (origin_place r.network j) (origin_inside r j h inside) in
      let span = (h.rows j inside).span in
      let arc = arc_is r j inside in
      let here : (arc_at arcs j).span ≡ (net_row_at r.network.rows j).span = ap (λ (x : Arc). x.span) arc in
      subst (λ (x : Arc). arc_slack r.network.period times x ≤ x.span) (any_default arcs j no_arc d l)
      (omega (arith, slack, each, within, span, here));
}

-- ---- costs

sum_by_is : {X : Type 0} (f : X → ℕ) (xs : List X) (d : X) → sum_below (length xs) (λ i. pos (f (get_or xs i d))) ≡ pos (sum_by f xs)
sum_by_is f xs d = sum_by_front f xs d (length xs) (omega arith)
    ∙ ap (λ taken. pos (sum_by f taken)) (take_all (length xs) xs (omega arith))
  where
    sum_by_front : {X : Type 0} (f : X → ℕ) (xs : List X) (d : X) (n : ℕ) → n ≤ length xs
        → sum_below n (λ i. pos (f (get_or xs i d))) ≡ pos (sum_by f (take n xs))
    sum_by_front f xs d zero h = refl
    sum_by_front f xs d (suc n) h = omega (
      arith,
      ints,
      sum_by_front f xs d n (omega arith),
      sum_by_more f xs n d (omega arith),
      ap (λ k. sum_by f (take k xs)) (add-one n),
    )

pub costs_no_more : (r : ReducedValue) (slacks : ℕ → ℕ) (left times : List ℕ) → IsReduced r
    → AreSlacksOf r slacks left → ((j : ℕ) → j < length r.network.rows
    → slacks_at (net_of_network r.network) times j ≡ slice_index left j)
    → pos (net_cost (net_of_network r.network) times) ≤ℤ weighted (net_of r.original) slacks
costs_no_more r slacks left times h a same =
    let n = net_of_network r.network in
    let rows = r.network.rows in
    let arcs = arcs_of_network rows in
    let worth : Arc → ℕ = λ arc. arc.weight * arc_slack r.network.period times arc in
    let term : ℕ → ℕ = λ i. (arc_at (arcs_of r.original) i).weight * slacks i in
    let place : ℕ → ℕ = origin_place r.network in
    let count : length arcs ≡ length rows = length-map rows arc_of_net in
    let cost : sum_below (length arcs) (λ j. pos (worth (arc_at arcs j))) ≡ pos (net_cost n times) = sum_by_is worth arcs no_arc in
    let terms = sum_below-same (length arcs) (λ j. pos (worth (arc_at arcs j))) (λ j. pos (term (place j)))
    (λ j l.
    let inside : j < length rows = omega (arith, l, count) in
    ap (λ (x : ℕ). pos x) (one_term (arc_at arcs j).weight (arc_at (arcs_of r.original) (place j)).weight
    (arc_slack r.network.period times (arc_at arcs j)) (slacks (place j))
    (ap (λ (x : Arc). x.weight) (arc_is r j inside) ∙ (h.rows j inside).weight)
    (same j inside ∙ a.each j inside))) in
    let within = sum_at_places term place (length arcs) (length (arcs_of r.original))
    (λ j k l m. rise j k l (omega (arith, m, count))) (λ j l. origin_inside r j h (omega (arith, l, count))) in
    let total : weighted (net_of r.original) slacks ≡ sum_below (length (arcs_of r.original)) (λ i. pos (term i)) = refl in
    omega (arith, ints, cost, terms, within, total)
  where
    one_term : (a b c d : ℕ) → a ≡ b → c ≡ d → a * c ≡ b * d
    one_term a b c d e f = cc

    rise : (j k : ℕ) → j < k → k < length r.network.rows → origin_place r.network j < origin_place r.network k
    rise j k l m = let more = origins_rise r j k h l m in let first = (h.rows j (omega arith)).names in omega (arith, more, first)
