-- What lies in the root and in the parts of a branch, which offsets are left there, and why a leaf's value is at most each cost.
use Rattle.std.proofs.Common.{◌≡◌, ℕ, zero, suc, ◌+◌, ◌-◌, ◌≤◌, ◌<◌, ◌⊎◌, Bool, true, false, List, [], ◌∷◌, length, get_or, set, refl, ap, arith, ◌∙◌, inl, inr, zero-le}
use Rattle.std.specs.Prelude.{ℤ, pos, ◌+ℤ◌, ◌-ℤ◌, ◌*ℤ◌, ◌≤ℤ◌, int_le, All, Some, option_map, IsSomeAnd}
use Rattle.std.proofs.lemmas.Int.{ints}
use Rattle.std.proofs.lemmas.List.Elements.{All-head, All-tail}
use Rattle.std.proofs.lemmas.List.{get_or-map}
use Rattle.pesp_problem.specs.declared.arc.Arc.{Arc}
use Rattle.pesp_problem.specs.declared.row.SignedRow.{SignedRow}
use Rattle.pesp_problem.specs.declared.pair.Pair.{Pair}
use Rattle.pesp_problem.specs.declared.cut.Cut.TheVariants.{Slack, Offset}
use Rattle.pesp_problem.specs.Sums.{scaled}
use Rattle.pesp_problem.specs.Timetables.{Pesp, row_at, no_row, cost, IsTimetable}
use Rattle.pesp_problem.specs.Arcs.{Net, no_arc, arc_at, arcs_of, net_of, over_arcs, slacks_at}
use Rattle.pesp_problem.specs.Walks.{Names, IsWalk, net_count, HasOffset, HasWholeOffset}
use Rattle.pesp_problem.specs.Nodes.{Node, slack_range, cycle_at, SlacksIn, OffsetsIn, LieIn, weight_of, flow, offset_part, slack_part, leaf_value, least_sum, greatest_sum, odijk_range, offsets_left, range_or_none, root_slacks, root, low_part, high_part}
use Rattle.pesp_problem.proofs.Integers.{mul-le, scaled-le, le-scaled, min_scaled-le, le-cases, le-min, max-le, ceil_div-le, le-floor_div, swap_left, sum_below-le, sum_below-same, sum_below-add, sum_below-sub, sum_below-mul, sum_below-zero, mul-add, add-mul, sub-mul, mul_assoc, zero-mul}
use Rattle.pesp_problem.proofs.Walks.{has_offset}
use Rattle.pesp_problem.proofs.Arcs.{length-arcs_of, arc_at-arcs_of, slacks_at-net_of, slack-le-span, cost_is}

-- the duration of the row at place i
abbrev pub duration : Net → (ℕ → ℕ) → ℕ → ℤ
duration n slacks i = (arc_at n.arcs i).lower +ℤ pos (slacks i)

-- where the slacks are in their ranges an offset keeps Odijk's bounds
pub in_odijk_range : (n : Net) (slacks : ℕ → ℕ) (ranges : List (ℕ × ℕ)) (walk : List SignedRow) (z : ℤ)
    → 0 < n.period → SlacksIn n slacks ranges → HasOffset n slacks walk z
    → ((odijk_range n ranges walk).0 ≤ℤ z) × (z ≤ℤ (odijk_range n ranges walk).1)
in_odijk_range n slacks ranges walk z h s o =
    let least_at = λ (i : ℕ). (arc_at n.arcs i).lower +ℤ pos (slack_range ranges i).0 in
    let greatest_at = λ (i : ℕ). (arc_at n.arcs i).lower +ℤ pos (slack_range ranges i).1 in
    let low : (i : ℕ) → i < length n.arcs → least_at i ≤ℤ duration n slacks i = λ i l. omega (arith, ints, s i l) in
    let high : (i : ℕ) → i < length n.arcs → duration n slacks i ≤ℤ greatest_at i = λ i l. omega (arith, ints, s i l) in
    let least = sum_below-le (length n.arcs) (λ i. scaled (net_count walk i) (least_at i) (greatest_at i))
    (λ i. net_count walk i *ℤ duration n slacks i)
    (λ i l. scaled-le (net_count walk i) _ _ _ (low i l) (high i l)) in
    let greatest = sum_below-le (length n.arcs) (λ i. net_count walk i *ℤ duration n slacks i)
    (λ i. scaled (net_count walk i) (greatest_at i) (least_at i))
    (λ i l. le-scaled (net_count walk i) _ _ _ (low i l) (high i l)) in
    let from_least : least_sum n.arcs ranges walk ≤ℤ (pos n.period *ℤ z) = omega (arith, ints, least, o) in
    let to_greatest : (pos n.period *ℤ z) ≤ℤ greatest_sum n.arcs ranges walk = omega (arith, ints, greatest, o) in
    (ceil_div-le _ _ _ h from_least, le-floor_div _ _ _ h to_greatest)

-- ---- the root

root_slacks_in : (n : Net) (slacks : ℕ → ℕ) → ((i : ℕ) → i < length n.arcs → slacks i ≤ (arc_at n.arcs i).span)
    → SlacksIn n slacks (root_slacks n)
root_slacks_in n slacks s i l =
    let full = λ (arc : Arc). let range : ℕ × ℕ = (0, arc.span) in range in
    rw (get_or-map full n.arcs i no_arc (0, 0) l) (zero-le, s i l)

-- slacks within the spans that give each cycle a whole offset lie in the root
pub lie_in_root : (n : Net) (table : List (List SignedRow)) (slacks : ℕ → ℕ) → 0 < n.period
    → ((i : ℕ) → i < length n.arcs → slacks i ≤ (arc_at n.arcs i).span) → All (HasWholeOffset n slacks) table
    → LieIn n table slacks (root n table)
lie_in_root n table slacks h s w = (
  root_slacks_in n slacks s,
  λ c l.
      let offset = w c [] l in
      let bounds = in_odijk_range n slacks (root_slacks n) (cycle_at table c) offset.0 h (root_slacks_in n slacks s) offset.1 in
      let range = get_or-map (odijk_range n (root_slacks n)) table c [] (pos 0, pos 0) l in
      (offset.0, offset.1, rw range (bounds.0), rw range (bounds.1)),
)

timetable-le-span : (p : Pesp) (times : List ℕ) → 0 < p.period → IsTimetable p times → (i : ℕ) → i < length p.rows
    → slacks_at (net_of p) times i ≤ (arc_at (arcs_of p) i).span
timetable-le-span p times h t i l =
    let within = slack-le-span p times (row_at p.rows i) h (t.1 i no_row l) in
    rw (slacks_at-net_of p times i l, arc_at-arcs_of p i l) within

-- and so a timetable's slacks lie in the root of each table of walks
pub timetable_in_root : (p : Pesp) (table : List (List SignedRow)) (times : List ℕ) → 0 < p.period
    → All (IsWalk (arcs_of p)) table → IsTimetable p times
    → LieIn (net_of p) table (slacks_at (net_of p) times) (root (net_of p) table)
timetable_in_root p table times h w t =
    lie_in_root (net_of p) table (slacks_at (net_of p) times) h
    (λ i l. timetable-le-span p times h t i (omega (arith, l, length-arcs_of p)))
    (λ c d l. has_offset (net_of p) times (get_or table c d) h (w c d l))

-- ---- the parts of a branch

le-or-more : (a k : ℕ) → (a ≤ k) ⊎ (k + 1 ≤ a)
le-or-more a k = grind arith

-- a place of a list in which one place was set
pub set_cases : {A : Type 0} (xs : List A) (j i : ℕ) (x d : A)
    → (get_or (set xs j x) i d ≡ get_or xs i d) ⊎ ((i ≡ j) × (get_or (set xs j x) i d ≡ x))
set_cases [] j i x d = inl refl
set_cases (y ∷ ys) zero zero x d = inr (refl, refl)
set_cases (y ∷ ys) zero (suc i) x d = inl refl
set_cases (y ∷ ys) (suc j) zero x d = inl refl
set_cases (y ∷ ys) (suc j) (suc i) x d = elim (set_cases ys j i x d) [ inl e ↦ inl e | inr h ↦ inr (ap suc h.0, h.1) ]

-- the slacks stay in the ranges where one range is replaced by one that its slack is in
pub set_slacks : (n : Net) (slacks : ℕ → ℕ) (ranges : List (ℕ × ℕ)) (j low high : ℕ) → SlacksIn n slacks ranges
    → low ≤ slacks j → slacks j ≤ high → SlacksIn n slacks (set ranges j (low, high))
set_slacks n slacks ranges j low high s h k i l =
    elim (set_cases ranges j i (low, high) (0, 0)) [
      | inl e ↦ rw e (s i l)
      | inr e ↦ rw (e.1, e.0) (h, k)
    ]

-- and so do the offsets
pub set_offsets : (n : Net) (table : List (List SignedRow)) (slacks : ℕ → ℕ) (ranges : List (ℤ × ℤ)) (j : ℕ)
    (low high : ℤ) → OffsetsIn n table slacks ranges → (z : ℤ) → HasOffset n slacks (cycle_at table j) z → low ≤ℤ z
    → z ≤ℤ high → OffsetsIn n table slacks (set ranges j (low, high))
set_offsets n table slacks ranges j low high s z o h k c l =
    elim (set_cases ranges j c (low, high) (pos 0, pos 0)) [
      | inl e ↦ ((s c l).0, (s c l).1, rw e ((s c l).2), rw e ((s c l).3))
      | inr e ↦ (z, rw (e.0) o, rw (e.1) h, rw (e.1) k)
    ]

-- slacks that lie in a node lie in one of the two parts of a cut of a row
pub in_slack_part : (n : Net) (table : List (List SignedRow)) (slacks : ℕ → ℕ) (node : Node) (row k : ℕ)
    → Names (length n.arcs) row → LieIn n table slacks node
    → LieIn n table slacks (low_part node (Slack row k)) ⊎ LieIn n table slacks (high_part node (Slack row k))
in_slack_part n table slacks node row k e h =
    let i = row - 1 in
    let here = h.0 i (omega (arith, e)) in
    elim (le-or-more (slacks i) k) [
      | inl m ↦ inl (set_slacks n slacks node.slacks i _ _ h.0 here.0 (omega (arith, here)), h.1)
      | inr m ↦ inr (set_slacks n slacks node.slacks i _ _ h.0 (omega (arith, here)) here.1, h.1)
    ]

-- and of a cut of a cycle
pub in_offset_part : (n : Net) (table : List (List SignedRow)) (slacks : ℕ → ℕ) (node : Node) (cycle : ℕ) (k : ℤ)
    → Names (length table) cycle → LieIn n table slacks node
    → LieIn n table slacks (low_part node (Offset cycle k)) ⊎ LieIn n table slacks (high_part node (Offset cycle k))
in_offset_part n table slacks node cycle k e h =
    let c = cycle - 1 in
    let here = h.1 c (omega (arith, e)) in
    elim (le-cases here.0 k) [
      | inl m ↦ inl (h.0, set_offsets n table slacks node.offsets c _ _ h.1 here.0 here.1 here.2 (le-min _ _ _ here.3 m))
      | inr m ↦ inr (h.0, set_offsets n table slacks node.offsets c _ _ h.1 here.0 here.1 (max-le _ _ _ here.2 m) here.3)
    ]

-- ---- the offsets left

pub range_or_none_is : (low high z : ℤ) → low ≤ℤ z → z ≤ℤ high → range_or_none low high ≡ Some (low, high)
range_or_none_is low high z h k =
    let fits : int_le low high ≡ true = grind (arith, ints) in
    rw fits

-- where slacks lie in a node a cycle has offsets left, and the slacks' offset is one of them
pub has_left : (n : Net) (table : List (List SignedRow)) (slacks : ℕ → ℕ) (node : Node) (c : ℕ) → 0 < n.period
    → c < length table → LieIn n table slacks node
    → (z : ℤ) × HasOffset n slacks (cycle_at table c) z
    × ((low high : ℤ) × (offsets_left n table node c ≡ Some (low, high)) × (low ≤ℤ z) × (z ≤ℤ high))
has_left n table slacks node c h l lies =
    let here = lies.1 c l in
    let bounds = in_odijk_range n slacks node.slacks (cycle_at table c) here.0 h lies.0 here.1 in
    let low = max-le _ _ _ (here.2) (bounds.0) in
    let high = le-min _ _ _ (here.3) (bounds.1) in
    (here.0, here.1, (_, _, range_or_none_is _ _ here.0 low high, low, high))

-- ---- the value of a leaf

abbrev pub PairsName : List (List SignedRow) → List Pair → Type 0
PairsName table pairs = All (λ pair. Names (length table) pair.cycle) pairs

-- the part of a leaf's value that its offsets make exists, and is at most the sum of flow times duration
pub offset_part-le : (n : Net) (table : List (List SignedRow)) (slacks : ℕ → ℕ) (node : Node) (pairs : List Pair)
    → 0 < n.period → PairsName table pairs → LieIn n table slacks node
    → (v : ℤ) × (offset_part n table node pairs ≡ Some v)
    × ((pos n.period *ℤ v) ≤ℤ over_arcs n.arcs (λ i. flow table pairs i *ℤ duration n slacks i))
offset_part-le n table slacks node [] h e lies = (
  pos 0,
  refl,
  omega (
    arith,
    ints,
    sum_below-zero (length n.arcs) (λ i. flow table [] i *ℤ duration n slacks i)
        (λ i l. zero-mul (duration n slacks i)),
  ),
)
offset_part-le n table slacks node (pair ∷ pairs) h e lies =
    let names = All-head (λ (x : Pair). Names (length table) x.cycle) pair pairs e in
    let walk = cycle_at table (pair.cycle - 1) in
    let rest = offset_part-le n table slacks node pairs h (All-tail (λ (x : Pair). Names (length table) x.cycle) pair pairs e) lies in
    let left = has_left n table slacks node (pair.cycle - 1) h (omega (arith, names)) lies in
    let z = left.0 in
    let first = λ (i : ℕ). pair.mult *ℤ (net_count walk i *ℤ duration n slacks i) in
    let others = λ (i : ℕ). flow table pairs i *ℤ duration n slacks i in
    let split = sum_below-same (length n.arcs) (λ i. flow table (pair ∷ pairs) i *ℤ duration n slacks i) (λ i. first i +ℤ others i)
    (λ i l. add-mul (pair.mult *ℤ net_count walk i) (flow table pairs i) (duration n slacks i)
    ∙ ap (λ x. x +ℤ others i) (mul_assoc pair.mult (net_count walk i) (duration n slacks i))) in
    let apart = sum_below-add (length n.arcs) first others in
    let factor = sum_below-mul pair.mult (length n.arcs) (λ i. net_count walk i *ℤ duration n slacks i) in
    let offset = ap (λ x. pair.mult *ℤ x) (left.1) ∙ swap_left pair.mult (pos n.period) z in
    let least = mul-le n.period (scaled pair.mult left.2.0 left.2.1) (pair.mult *ℤ z)
    (scaled-le pair.mult left.2.0 left.2.1 z (left.2.3) (left.2.4)) in (
      scaled pair.mult left.2.0 left.2.1 +ℤ rest.0,
      rw (left.2.2, rest.1) refl,
      omega (arith, ints, split, apart, factor, offset, least, rest.2, mul-add (pos n.period) (scaled pair.mult left.2.0 left.2.1) rest.0),
    )

-- a leaf's value exists, and is at most the sum of weight times slack
pub leaf_value-le : (n : Net) (table : List (List SignedRow)) (slacks : ℕ → ℕ) (node : Node) (pairs : List Pair)
    (weighted : Bool) → 0 < n.period → PairsName table pairs → LieIn n table slacks node
    → (v : ℤ) × (leaf_value n table node pairs weighted ≡ Some v)
    × (v ≤ℤ over_arcs n.arcs (λ i. weight_of weighted (arc_at n.arcs i) *ℤ pos (slacks i)))
leaf_value-le n table slacks node pairs weighted h e lies =
    let count = length n.arcs in
    let part = offset_part-le n table slacks node pairs h e lies in
    let f = flow table pairs in
    let w = λ (i : ℕ). weight_of weighted (arc_at n.arcs i) in
    let y = λ (i : ℕ). pos (slacks i) in
    let lower = λ (i : ℕ). (arc_at n.arcs i).lower in
    let durations = sum_below-same count (λ i. f i *ℤ (lower i +ℤ y i)) (λ i. f i *ℤ lower i +ℤ f i *ℤ y i)
    (λ i l. mul-add (f i) (lower i) (y i)) in
    let durations_apart = sum_below-add count (λ i. f i *ℤ lower i) (λ i. f i *ℤ y i) in
    let below = sum_below-le count (slack_part n table node pairs weighted) (λ i. (w i -ℤ f i) *ℤ y i)
    (λ i l. let s = lies.0 i l in min_scaled-le (w i -ℤ f i) _ _ (y i) (omega (arith, ints, s))
    (omega (arith, ints, s))) in
    let rest = sum_below-same count (λ i. (w i -ℤ f i) *ℤ y i) (λ i. w i *ℤ y i -ℤ f i *ℤ y i) (λ i l. sub-mul (w i) (f i) (y i)) in
    let rest_apart = sum_below-sub count (λ i. w i *ℤ y i) (λ i. f i *ℤ y i) in
    (_, ap (option_map _) part.1, omega (arith, ints, part.2, durations, durations_apart, below, rest, rest_apart))

-- the sum of weight times slack where the weights are 0
pub no_weights : (n : Net) (slacks : ℕ → ℕ) → over_arcs n.arcs (λ i. weight_of false (arc_at n.arcs i) *ℤ pos (slacks i)) ≡ pos 0
no_weights n slacks = sum_below-zero (length n.arcs) (λ i. weight_of false (arc_at n.arcs i) *ℤ pos (slacks i))
    (λ i l. zero-mul (pos (slacks i)))

-- the value of a leaf exists and is at most the sum of weight times slack of what lies in its node
pub value_is_bound : (n : Net) (table : List (List SignedRow)) (slacks : ℕ → ℕ) (node : Node) (pairs : List Pair)
    (weighted : Bool) → 0 < n.period → PairsName table pairs → LieIn n table slacks node
    → IsSomeAnd (leaf_value n table node pairs weighted)
    (λ v. v ≤ℤ over_arcs n.arcs (λ i. weight_of weighted (arc_at n.arcs i) *ℤ pos (slacks i)))
value_is_bound n table slacks node pairs weighted h e lies =
    let value = leaf_value-le n table slacks node pairs weighted h e lies in
    rw (value.1) (value.2)

-- and so, with the rows' weights, at most the cost
pub value_is_cost_bound : (p : Pesp) (table : List (List SignedRow)) (times : List ℕ) (node : Node)
    (pairs : List Pair) → 0 < p.period → PairsName table pairs
    → LieIn (net_of p) table (slacks_at (net_of p) times) node
    → IsSomeAnd (leaf_value (net_of p) table node pairs true) (λ v. v ≤ℤ pos (cost p.period p.rows times))
value_is_cost_bound p table times node pairs h e lies =
    let value = leaf_value-le (net_of p) table (slacks_at (net_of p) times) node pairs true h e lies in
    let below = rw (cost_is p times) at (value.2) in
    rw (value.1) below

-- and with weights 0 at most 0
pub value_is_no_bound : (n : Net) (table : List (List SignedRow)) (slacks : ℕ → ℕ) (node : Node)
    (pairs : List Pair) → 0 < n.period → PairsName table pairs → LieIn n table slacks node
    → IsSomeAnd (leaf_value n table node pairs false) (λ v. v ≤ℤ pos 0)
value_is_no_bound n table slacks node pairs h e lies =
    let value = leaf_value-le n table slacks node pairs false h e lies in
    let below = rw (no_weights n slacks) at (value.2) in
    rw (value.1) below
