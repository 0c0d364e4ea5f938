-- Why a sharpened leaf's value is at most the scale times each cost.
use Rattle.std.proofs.Common.{◌≡◌, ℕ, inl, inr, ◌+◌, ◌*◌, ◌<◌, ◌≤◌, ◌≢◌, Bool, true, false, List, [], ◌∷◌, length, get_or, refl, ap, arith, ◌∙◌, Option, Some, None}
use Rattle.std.specs.Prelude.{ℤ, pos, ◌+ℤ◌, ◌-ℤ◌, ◌*ℤ◌, neg_ℤ, ◌≤ℤ◌, ◌<ℤ◌, All, ◌↔◌, option_map, IsSomeAnd, ◌==◌, if◌then◌else◌}
use Rattle.std.specs.Int.{int_min}
use Rattle.std.proofs.lemmas.Int.{ints}
use Rattle.std.proofs.lemmas.Bool.{eq-eqb, ne_eqb}
use Rattle.std.proofs.lemmas.List.Elements.{All-head, All-tail}
use Rattle.pesp_problem.specs.declared.arc.Arc.{Arc}
use Rattle.pesp_problem.specs.declared.row.SignedRow.{SignedRow}
use Rattle.pesp_problem.specs.declared.pair.Pair.{Pair}
use Rattle.pesp_problem.specs.Sums.{sum_below, ceil_div, floor_div}
use Rattle.pesp_problem.specs.Timetables.{Pesp, cost}
use Rattle.pesp_problem.specs.Arcs.{Net, arc_at, net_of, over_arcs, slacks_at}
use Rattle.pesp_problem.specs.Walks.{RowExists, AreRows, HasWholeOffset}
use Rattle.pesp_problem.specs.Nodes.{Node, slack_range, SlacksIn, LieIn, weight_of, flow, offset_part, slack_part, leaf_value}
use Rattle.pesp_problem.proofs.Integers.{mul-le, mul-add, mul-neg, sub-mul, mul_assoc, ceil_div-le, le-ceil_div, quotient-remainder, remainder-lt, le-cases, le_trans, sum_below-le, sum_below-same, sum_below-add, sum_below-sub, sum_below-mul, sum_below-zero, sum_below-single}
use Rattle.pesp_problem.proofs.Walks.{has_offset}
use Rattle.pesp_problem.proofs.Arcs.{cost_is}
use Rattle.pesp_problem.proofs.Nodes.{offset_part-le, no_weights}
use Rattle.pesp_problem.specs.declared.marked.MarkedRow.{MarkedRow}
use Rattle.pesp_problem.specs.Marked.{signed_rows, IsMarkedWalk, place, walk_sum, distance, rate, rest, gain, least_gain, gain_at}
use Rattle.pesp_problem.specs.Sharp.{Multiple, Multipliers, plain, AreMultipliers, over_multiples, excess, least_excess, sharp_value, sharp_cost, IsSharpBound, IsSharpShut}
use Rattle.pesp_problem.proofs.Gains.{marked_rows_exist, gain_is_enough}
use Rattle.pesp_problem.proofs.Straight.{IsStraight, least_at_end, straight_multiple, straight_less, straight_gain, straight_multiples}

-- ---- what the rows add to a gain is the gain

row_sum : (arcs : List Arc) (s : MarkedRow) (g : ℕ → ℤ) → RowExists arcs s.signed
    → over_arcs arcs (λ i. if s.signed.row == i + 1 then g i else pos 0) ≡ g (place s)
row_sum arcs s g h =
    let others = λ (i : ℕ) (l : i < length arcs) (ne : i ≢ place s).
    ap (λ b. if b then g i else pos 0) (ne_eqb s.signed.row (i + 1) (λ e. ne (omega arith))) in
    sum_below-single (length arcs) (place s) (λ i. if s.signed.row == i + 1 then g i else pos 0)
    (omega (arith, h)) others ∙ ap (λ b. if b then g (place s) else pos 0)
    (eq-eqb s.signed.row (place s + 1) (omega (arith, h)))

sums_add : {a b c d : ℤ} → a ≡ b → c ≡ d → a +ℤ c ≡ b +ℤ d
sums_add h k = cc

rows_sum : (arcs : List Arc) (term : MarkedRow → ℕ → ℤ) (walk : List MarkedRow) → AreRows arcs (signed_rows walk)
    → over_arcs arcs (λ i. walk_sum walk (λ s. if s.signed.row == i + 1 then term s i else pos 0))
    ≡ walk_sum walk (λ s. term s (place s))
rows_sum arcs term [] rows = sum_below-zero (length arcs) (λ i. pos 0) (λ i l. refl)
rows_sum arcs term (s ∷ walk) rows =
    sum_below-add (length arcs) (λ i. if s.signed.row == i + 1 then term s i else pos 0)
    (λ i. walk_sum walk (λ s. if s.signed.row == i + 1 then term s i else pos 0))
    ∙ sums_add (row_sum arcs s (term s) (All-head (RowExists arcs) s.signed (signed_rows walk) rows))
    (rows_sum arcs term walk (All-tail (RowExists arcs) s.signed (signed_rows walk) rows))

gain_by_rows : (n : Net) (ranges : List (ℕ × ℕ)) (slacks : ℕ → ℕ) (walk : List MarkedRow)
    → AreRows n.arcs (signed_rows walk) → over_arcs n.arcs (λ i. gain_at n ranges walk i (slacks i))
    ≡ gain n ranges slacks walk
gain_by_rows n ranges slacks walk rows = rows_sum n.arcs
    (λ s i. pos (rate n.period (rest n ranges walk) s) *ℤ distance s.flipped (slack_range ranges i) (slacks i))
    walk rows

-- ---- sums over marked walks

multiples_apart : (arcs : List Arc) (term : List MarkedRow → ℕ → ℤ) (multiples : List Multiple)
    → over_arcs arcs (λ i. over_multiples multiples (λ walk. term walk i))
    ≡ over_multiples multiples (λ walk. over_arcs arcs (term walk))
multiples_apart arcs term [] = sum_below-zero (length arcs) (λ i. pos 0) (λ i l. refl)
multiples_apart arcs term (multiple ∷ multiples) =
    sum_below-add (length arcs) (λ i. pos multiple.mult *ℤ term multiple.walk i) (λ i. over_multiples multiples (λ walk. term walk i))
    ∙ sums_add (sum_below-mul (pos multiple.mult) (length arcs) (term multiple.walk)) (multiples_apart arcs term multiples)

sums-le : (a b c d : ℤ) → a ≤ℤ b → c ≤ℤ d → (a +ℤ c) ≤ℤ (b +ℤ d)
sums-le a b c d h k = omega (arith, ints)

-- each marked walk is closed and has a whole offset
abbrev pub AreWhole : Net → (ℕ → ℕ) → List Multiple → Type 0
AreWhole n slacks multiples = All (λ multiple. HasWholeOffset n slacks (signed_rows multiple.walk)) multiples

abbrev AreClosed : Net → List Multiple → Type 0
AreClosed n multiples = All (λ multiple. IsMarkedWalk n.arcs multiple.walk) multiples

multiples_gain : (n : Net) (slacks : ℕ → ℕ) (node : Node) (multiples : List Multiple) → 0 < n.period
    → AreClosed n multiples → AreWhole n slacks multiples → SlacksIn n slacks node.slacks
    → over_multiples multiples (λ walk. pos (least_gain n node.slacks walk))
    ≤ℤ over_multiples multiples (λ walk. over_arcs n.arcs (λ i. gain_at n node.slacks walk i (slacks i)))
multiples_gain n slacks node [] h closed whole lies = omega (arith, ints)
multiples_gain n slacks node (multiple ∷ multiples) h closed whole lies =
    let walk = multiple.walk in
    let is_closed = All-head (λ (m : Multiple). IsMarkedWalk n.arcs m.walk) multiple multiples closed in
    let has_whole = All-head (λ (m : Multiple). HasWholeOffset n slacks (signed_rows m.walk)) multiple multiples whole in
    let enough = gain_is_enough n node.slacks slacks walk h is_closed has_whole lies in
    let by_rows = gain_by_rows n node.slacks slacks walk (marked_rows_exist n.arcs walk is_closed) in
    sums-le _ _ _ _ (mul-le multiple.mult (pos (least_gain n node.slacks walk))
    (over_arcs n.arcs (λ i. gain_at n node.slacks walk i (slacks i))) (rw by_rows enough))
    (multiples_gain n slacks node multiples h (All-tail
    (λ (m : Multiple). IsMarkedWalk n.arcs m.walk) multiple multiples closed)
    (All-tail (λ (m : Multiple). HasWholeOffset n slacks (signed_rows m.walk)) multiple multiples whole) lies)

-- ---- the value

straight_excess : (n : Net) (table : List (List SignedRow)) (node : Node) (m : Multipliers) (weighted : Bool)
    (i : ℕ) → IsStraight (excess n table node m weighted i)
straight_excess n table node m weighted i =
    let c = pos m.scale *ℤ weight_of weighted (arc_at n.arcs i) -ℤ flow table m.pairs i in
    straight_less (λ y. c *ℤ pos y) (λ y. over_multiples m.multiples (λ walk. gain_at n node.slacks walk i y)) (straight_multiple c)
    (straight_multiples (λ walk. gain_at n node.slacks walk i) (λ walk. straight_gain n node.slacks walk i) m.multiples)

total : (offsets durations lowers flows least gains gained ends kept rests costs : ℤ) → offsets ≤ℤ durations
    → durations ≡ lowers +ℤ flows → least ≤ℤ gains → gained ≡ gains → ends ≤ℤ kept → kept ≡ rests -ℤ gained
    → rests ≡ costs -ℤ flows → ((offsets -ℤ lowers) +ℤ least +ℤ ends) ≤ℤ costs
total offsets durations lowers flows least gains gained ends kept rests costs a b c d e f g = omega (arith, ints)

-- a sharpened leaf's value exists, and is at most the scale times the sum of weight times slack
pub sharp_value-le : (n : Net) (table : List (List SignedRow)) (slacks : ℕ → ℕ) (node : Node) (m : Multipliers)
    (weighted : Bool) → 0 < n.period → AreMultipliers n.arcs table m → AreWhole n slacks m.multiples
    → LieIn n table slacks node → (v : ℤ) × (sharp_value n table node m weighted ≡ Some v)
    × (v ≤ℤ (pos m.scale *ℤ over_arcs n.arcs (λ i. weight_of weighted (arc_at n.arcs i) *ℤ pos (slacks i))))
sharp_value-le n table slacks node m weighted h are whole lies =
    let count = length n.arcs in
    let part = offset_part-le n table slacks node m.pairs h are.pairs lies in
    let f = flow table m.pairs in
    let w = λ (i : ℕ). weight_of weighted (arc_at n.arcs i) in
    let v = λ (i : ℕ). pos m.scale *ℤ w i in
    let y = λ (i : ℕ). pos (slacks i) in
    let lower = λ (i : ℕ). (arc_at n.arcs i).lower in
    let gains_at = λ (i : ℕ). over_multiples m.multiples (λ walk. gain_at n node.slacks walk i (slacks i)) in
    let durations = sum_below-same count (λ i. f i *ℤ (lower i +ℤ y i)) (λ i. f i *ℤ lower i +ℤ f i *ℤ y i)
    (λ i l. mul-add (f i) (lower i) (y i)) ∙ sum_below-add count (λ i. f i *ℤ lower i) (λ i. f i *ℤ y i) in
    let gains = multiples_gain n slacks node m.multiples h are.walks whole lies.0 in
    let gained = multiples_apart n.arcs (λ walk i. gain_at n node.slacks walk i (slacks i)) m.multiples in
    let ends = sum_below-le count (least_excess n table node m weighted)
    (λ i. excess n table node m weighted i (slacks i))
    (λ i l. let s = lies.0 i l in least_at_end (excess n table node m weighted i)
    (straight_excess n table node m weighted i) _ _ (slacks i) s.0 s.1) in
    let kept = sum_below-sub count (λ i. (v i -ℤ f i) *ℤ y i) gains_at in
    let rests = sum_below-same count (λ i. (v i -ℤ f i) *ℤ y i) (λ i. v i *ℤ y i -ℤ f i *ℤ y i)
    (λ i l. sub-mul (v i) (f i) (y i)) ∙ sum_below-sub count (λ i. v i *ℤ y i) (λ i. f i *ℤ y i) in
    let costs : sum_below count (λ i. v i *ℤ y i)
    ≡ pos m.scale *ℤ sum_below count (λ i. w i *ℤ y i) =
    sum_below-same count (λ i. v i *ℤ y i) (λ i. pos m.scale *ℤ (w i *ℤ y i))
    (λ i l. mul_assoc (pos m.scale) (w i) (y i)) ∙ sum_below-mul (pos m.scale) count (λ i. w i *ℤ y i) in
    (_, ap (option_map _) part.1, rw (← costs) (total _ _ _ _ _ _ _ _ _ _ _ part.2 durations gains gained ends kept rests))

pub value_is_bound : (n : Net) (table : List (List SignedRow)) (slacks : ℕ → ℕ) (node : Node) (m : Multipliers)
    (weighted : Bool) → 0 < n.period → AreMultipliers n.arcs table m → AreWhole n slacks m.multiples
    → LieIn n table slacks node → IsSomeAnd (sharp_value n table node m weighted)
    (λ v. v ≤ℤ (pos m.scale *ℤ over_arcs n.arcs (λ i. weight_of weighted (arc_at n.arcs i) *ℤ pos (slacks i))))
value_is_bound n table slacks node m weighted h are whole lies =
    let value = sharp_value-le n table slacks node m weighted h are whole lies in
    rw (value.1) (value.2)

-- at any times the marked walks have whole offsets
whole_at_times : (n : Net) (table : List (List SignedRow)) (times : List ℕ) (m : Multipliers) → 0 < n.period
    → AreMultipliers n.arcs table m → AreWhole n (slacks_at n times) m.multiples
whole_at_times n table times m h are k d l = has_offset n times (signed_rows (get_or m.multiples k d).walk) h (are.walks k d l)

-- with the rows' weights it is at most the scale times the cost, and divided by the scale and rounded up at most the cost
cost_bound : (p : Pesp) (table : List (List SignedRow)) (times : List ℕ) (node : Node) (m : Multipliers)
    → 0 < p.period → AreMultipliers (net_of p).arcs table m
    → LieIn (net_of p) table (slacks_at (net_of p) times) node
    → (v : ℤ) × (sharp_value (net_of p) table node m true ≡ Some v)
    × (v ≤ℤ (pos m.scale *ℤ pos (cost p.period p.rows times)))
cost_bound p table times node m h are lies =
    let value = sharp_value-le (net_of p) table (slacks_at (net_of p) times) node m true h are
    (whole_at_times (net_of p) table times m h are) lies in
    (value.0, value.1, rw (cost_is p times) at (value.2))

pub value_is_cost_bound : (p : Pesp) (table : List (List SignedRow)) (times : List ℕ) (node : Node)
    (m : Multipliers) → 0 < p.period → AreMultipliers (net_of p).arcs table m
    → LieIn (net_of p) table (slacks_at (net_of p) times) node
    → IsSomeAnd (sharp_value (net_of p) table node m true) (λ v. v ≤ℤ pos (m.scale * cost p.period p.rows times))
value_is_cost_bound p table times node m h are lies =
    let value = cost_bound p table times node m h are lies in
    rw (value.1) (value.2)

pub cost_rounds_up : (p : Pesp) (table : List (List SignedRow)) (times : List ℕ) (node : Node) (m : Multipliers)
    → 0 < p.period → AreMultipliers (net_of p).arcs table m
    → LieIn (net_of p) table (slacks_at (net_of p) times) node
    → IsSomeAnd (sharp_cost (net_of p) table node m) (λ c. c ≤ℤ pos (cost p.period p.rows times))
cost_rounds_up p table times node m h are lies =
    let value = cost_bound p table times node m h are lies in
    let rounded = ceil_div-le value.0 m.scale (pos (cost p.period p.rows times)) are.scale (value.2) in
    rw (value.1) rounded

-- with weights 0 it is at most 0
no_bound : (n : Net) (table : List (List SignedRow)) (times : List ℕ) (node : Node) (m : Multipliers)
    → 0 < n.period → AreMultipliers n.arcs table m → LieIn n table (slacks_at n times) node
    → (v : ℤ) × (sharp_value n table node m false ≡ Some v) × (v ≤ℤ pos 0)
no_bound n table times node m h are lies =
    let value = sharp_value-le n table (slacks_at n times) node m false h are (whole_at_times n table times m h are) lies in
    let below = rw (no_weights n (slacks_at n times)) at (value.2) in
    (value.0, value.1, omega (arith, ints, below))

pub value_is_no_bound : (n : Net) (table : List (List SignedRow)) (times : List ℕ) (node : Node) (m : Multipliers)
    → 0 < n.period → AreMultipliers n.arcs table m → LieIn n table (slacks_at n times) node
    → IsSomeAnd (sharp_value n table node m false) (λ v. v ≤ℤ pos 0)
value_is_no_bound n table times node m h are lies =
    let value = no_bound n table times node m h are lies in
    rw (value.1) (value.2)

-- so a value above 0 shuts the node
pub shut_holds_none : (n : Net) (table : List (List SignedRow)) (times : List ℕ) (node : Node) (m : Multipliers)
    → 0 < n.period → IsSharpShut n table m node → LieIn n table (slacks_at n times) node → ⊥
shut_holds_none n table times node m h shut lies =
    let value = no_bound n table times node m h shut.0 lies in
    let above = rw (value.1) at shut.1 in
    omega (arith, ints, value.2, above)

-- and a least cost is that of the sum of weight times slack at any times
pub bound_sums : (n : Net) (table : List (List SignedRow)) (times : List ℕ) (least : ℕ) (node : Node)
    (m : Multipliers) → 0 < n.period → IsSharpBound n table least m node → LieIn n table (slacks_at n times) node
    → pos least ≤ℤ over_arcs n.arcs (λ i. weight_of true (arc_at n.arcs i) *ℤ pos (slacks_at n times i))
bound_sums n table times least node m h bound lies =
    let are = bound.0 in
    let sum = over_arcs n.arcs (λ i. weight_of true (arc_at n.arcs i) *ℤ pos (slacks_at n times i)) in
    let value = sharp_value-le n table (slacks_at n times) node m true h are (whole_at_times n table times m h are) lies in
    let rounded = ceil_div-le value.0 m.scale sum are.scale (value.2) in
    let above : pos least ≤ℤ ceil_div value.0 m.scale = rw (value.1) at bound.1 in
    le_trans (pos least) (ceil_div value.0 m.scale) sum above rounded

pub bound_costs : (p : Pesp) (table : List (List SignedRow)) (times : List ℕ) (least : ℕ) (node : Node)
    (m : Multipliers) → 0 < p.period → IsSharpBound (net_of p) table least m node
    → LieIn (net_of p) table (slacks_at (net_of p) times) node → least ≤ cost p.period p.rows times
bound_costs p table times least node m h bound lies =
    omega (arith, ints, bound_sums (net_of p) table times least node m h bound lies, cost_is p times)

-- ---- without marked walks

same_value : (f g : ℤ → ℤ) → ((z : ℤ) → f z ≡ g z) → (o : Option ℤ) → option_map f o ≡ option_map g o
same_value f g h None = refl
same_value f g h (Some z) = ap Some (h z)

one_times : (w : ℤ) → pos 1 *ℤ w ≡ w
one_times w = omega (arith, ints)

less_none : (z : ℤ) → z -ℤ pos 0 ≡ z
less_none z = omega (arith, ints)

plus_none : (z : ℤ) → z +ℤ pos 0 ≡ z
plus_none z = omega (arith, ints)

same_excess : (w f y : ℤ) → (pos 1 *ℤ w -ℤ f) *ℤ y -ℤ pos 0 ≡ (w -ℤ f) *ℤ y
same_excess w f y = less_none ((pos 1 *ℤ w -ℤ f) *ℤ y) ∙ ap (λ z. (z -ℤ f) *ℤ y) (one_times w)

lesser : {a b c d : ℤ} → a ≡ c → b ≡ d → int_min a b ≡ int_min c d
lesser h k = cc

same_part : (n : Net) (table : List (List SignedRow)) (node : Node) (pairs : List Pair) (weighted : Bool) (i : ℕ)
    → least_excess n table node (plain pairs) weighted i ≡ slack_part n table node pairs weighted i
same_part n table node pairs weighted i =
    let w = weight_of weighted (arc_at n.arcs i) in
    let f = flow table pairs i in
    lesser (same_excess w f (pos (slack_range node.slacks i).0)) (same_excess w f (pos (slack_range node.slacks i).1))

pub value_without_walks : (n : Net) (table : List (List SignedRow)) (node : Node) (pairs : List Pair)
    (weighted : Bool) → sharp_value n table node (plain pairs) weighted ≡ leaf_value n table node pairs weighted
value_without_walks n table node pairs weighted =
    let lowers = over_arcs n.arcs (λ i. flow table pairs i *ℤ (arc_at n.arcs i).lower) in
    let parts = sum_below-same (length n.arcs) (least_excess n table node (plain pairs) weighted)
    (slack_part n table node pairs weighted) (λ i l. same_part n table node pairs weighted i) in
    same_value _ _ (λ z. sums_add (plus_none (pos n.period *ℤ z -ℤ lowers)) parts) (offset_part n table node pairs)

by_one : (z : ℤ) → ceil_div z 1 ≡ z
by_one z = omega (arith, ints, ceil_div-le z 1 z (omega arith) (omega (arith, ints)), le-ceil_div z 1 (omega arith))

map_same : (f : ℤ → ℤ) → ((z : ℤ) → f z ≡ z) → (o : Option ℤ) → option_map f o ≡ o
map_same f h None = refl
map_same f h (Some z) = ap Some (h z)

pub cost_without_walks : (n : Net) (table : List (List SignedRow)) (node : Node) (pairs : List Pair)
    → sharp_cost n table node (plain pairs) ≡ leaf_value n table node pairs true
cost_without_walks n table node pairs = map_same (λ v. ceil_div v 1) by_one
    (sharp_value n table node (plain pairs) true) ∙ value_without_walks n table node pairs true

-- ---- as a checker tests it, without a division

rounded-lt : (v : ℤ) (d : ℕ) → 0 < d → (pos d *ℤ ceil_div v d) <ℤ (v +ℤ pos d)
rounded-lt v d h = omega (
  arith,
  ints,
  quotient-remainder (neg_ℤ v) d h,
  remainder-lt (neg_ℤ v) d h,
  mul-neg (pos d) (floor_div (neg_ℤ v) d),
)

enough : (v : ℤ) (d least : ℕ) → 0 < d → pos least ≤ℤ ceil_div v d → pos (d * least) <ℤ (v +ℤ pos d)
enough v d least h k = omega (arith, ints, rounded-lt v d h, mul-le d (pos least) (ceil_div v d) k)

is_enough : (v : ℤ) (d least : ℕ) → 0 < d → pos (d * least) <ℤ (v +ℤ pos d) → pos least ≤ℤ ceil_div v d
is_enough v d least h k =
    elim (le-cases (pos least) (ceil_div v d)) [
      | inl m ↦ m
      | inr m ↦ absurd (omega (
        arith,
        ints,
        le-ceil_div v d h,
        mul-le d (ceil_div v d +ℤ pos 1) (pos least) m,
        mul-add (pos d) (ceil_div v d) (pos 1),
      ))
    ]

pub rounded_is_enough : (v : ℤ) (d least : ℕ) → 0 < d → (pos least ≤ℤ ceil_div v d) ↔ (pos (d * least) <ℤ (v +ℤ pos d))
rounded_is_enough v d least h = (enough v d least h, is_enough v d least h)
