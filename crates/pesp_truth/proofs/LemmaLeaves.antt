-- Why the value of a leaf that names lemmas is at most the scale times each sum of weight times slack.
use Rattle.std.proofs.Common.{◌≡◌, ℕ, ◌<◌, Bool, true, false, List, [], length, get_or, refl, ap, arith, ◌∙◌, Option, Some, None}
use Rattle.std.specs.Prelude.{ℤ, pos, ◌+ℤ◌, ◌-ℤ◌, ◌*ℤ◌, ◌≤ℤ◌, option_map, IsSomeAnd}
use Rattle.std.specs.Int.{int_min}
use Rattle.std.proofs.lemmas.Int.{ints}
use Rattle.pesp_problem.specs.declared.row.SignedRow.{SignedRow}
use Rattle.pesp_problem.specs.Sums.{sum_below, ceil_div}
use Rattle.pesp_problem.specs.Arcs.{Net, arc_at, over_arcs, slacks_at}
use Rattle.pesp_problem.specs.Nodes.{Node, slack_range, LieIn, weight_of, flow, offset_part}
use Rattle.pesp_problem.proofs.Integers.{mul-add, sub-mul, mul_assoc, ceil_div-le, sum_below-le, sum_below-same, sum_below-add, sum_below-sub, sum_below-mul}
use Rattle.pesp_problem.proofs.Walks.{has_offset}
use Rattle.pesp_problem.proofs.Nodes.{offset_part-le}
use Rattle.pesp_problem.specs.Marked.{signed_rows, least_gain, gain_at}
use Rattle.pesp_problem.specs.Sharp.{Multipliers, AreMultipliers, over_multiples, excess, least_excess, sharp_value, rates, width}
use Rattle.pesp_problem.proofs.Straight.{IsStraight, least_at_end, straight_multiple, straight_less, straight_gain, straight_multiples}
use Rattle.pesp_problem.proofs.Values.{AreWhole}
use Rattle.pesp_problem.proofs.Ends.{excess_low, excess_high}
use Rattle.pesp_truth.specs.LemmaLeaves.{LemmaMultiple, over_lemmas, taken, lemma_excess, least_lemma_excess, lemma_value, lemma_bound, AllHoldAt}
use Rattle.pesp_truth.proofs.Sums.{multiples_apart, multiples_gain, lemmas_apart, lemmas_hold}

-- what a unit of slack costs beyond the flow and the lemmas
abbrev left_of : List (List SignedRow) → Multipliers → List LemmaMultiple → (ℕ → ℤ) → ℕ → ℤ
left_of table m facts weights i = pos m.scale *ℤ weights i -ℤ flow table m.pairs i -ℤ taken facts i

straight_excess : (n : Net) (table : List (List SignedRow)) (node : Node) (m : Multipliers) (facts : List LemmaMultiple)
    (weights : ℕ → ℤ) (i : ℕ) → IsStraight (lemma_excess n table node m facts weights i)
straight_excess n table node m facts weights i =
    let c = left_of table m facts weights i in
    straight_less (λ y. c *ℤ pos y) (λ y. over_multiples m.multiples (λ walk. gain_at n node.slacks walk i y)) (straight_multiple c)
    (straight_multiples (λ walk. gain_at n node.slacks walk i) (λ walk. straight_gain n node.slacks walk i) m.multiples)

total : (offsets durations lowers flows least gains gained floor sums summed ends kept rests costs : ℤ)
    → offsets ≤ℤ durations → durations ≡ lowers +ℤ flows → least ≤ℤ gains → gained ≡ gains → floor ≤ℤ sums
    → summed ≡ sums → ends ≤ℤ kept → kept ≡ rests -ℤ gained → rests ≡ (costs -ℤ flows) -ℤ summed
    → ((offsets -ℤ lowers) +ℤ least +ℤ floor +ℤ ends) ≤ℤ costs
total offsets durations lowers flows least gains gained floor sums summed ends kept rests costs a b c d e f g h k =
    omega (arith, ints)

-- three terms of one row
apart : (a b c y : ℤ) → (a -ℤ b -ℤ c) *ℤ y ≡ (a *ℤ y -ℤ b *ℤ y) -ℤ c *ℤ y
apart a b c y = sub-mul (a -ℤ b) c y ∙ ap (λ z. z -ℤ c *ℤ y) (sub-mul a b y)

-- where the lemmas hold at slacks of the node it has a value, at most the scale times the sum of weight times slack
pub lemma_value-le : (n : Net) (table : List (List SignedRow)) (slacks : ℕ → ℕ) (node : Node) (m : Multipliers)
    (facts : List LemmaMultiple) (weights : ℕ → ℤ) → 0 < n.period → AreMultipliers n.arcs table m
    → AreWhole n slacks m.multiples → AllHoldAt n slacks facts → LieIn n table slacks node
    → (v : ℤ) × (lemma_value n table node m facts weights ≡ Some v)
    × (v ≤ℤ (pos m.scale *ℤ over_arcs n.arcs (λ i. weights i *ℤ pos (slacks i))))
lemma_value-le n table slacks node m facts weights h are whole true_facts lies =
    let count = length n.arcs in
    let part = offset_part-le n table slacks node m.pairs h are.pairs lies in
    let f = flow table m.pairs in
    let v = λ (i : ℕ). pos m.scale *ℤ weights i in
    let t = taken facts in
    let y = λ (i : ℕ). pos (slacks i) in
    let lower = λ (i : ℕ). (arc_at n.arcs i).lower in
    let gains_at = λ (i : ℕ). over_multiples m.multiples (λ walk. gain_at n node.slacks walk i (slacks i)) in
    let durations = sum_below-same count (λ i. f i *ℤ (lower i +ℤ y i)) (λ i. f i *ℤ lower i +ℤ f i *ℤ y i)
    (λ i l. mul-add (f i) (lower i) (y i)) ∙ sum_below-add count (λ i. f i *ℤ lower i) (λ i. f i *ℤ y i) in
    let gains = multiples_gain n slacks node m.multiples h are.walks whole lies.0 in
    let gained = multiples_apart n.arcs (λ walk i. gain_at n node.slacks walk i (slacks i)) m.multiples in
    let sums = lemmas_hold n slacks facts true_facts in
    let summed = lemmas_apart n.arcs slacks facts in
    let ends = sum_below-le count (least_lemma_excess n table node m facts weights)
    (λ i. lemma_excess n table node m facts weights i (slacks i))
    (λ i l. let s = lies.0 i l in least_at_end (lemma_excess n table node m facts weights i)
    (straight_excess n table node m facts weights i) _ _ (slacks i) s.0 s.1) in
    let kept = sum_below-sub count (λ i. (v i -ℤ f i -ℤ t i) *ℤ y i) gains_at in
    let rests = sum_below-same count (λ i. (v i -ℤ f i -ℤ t i) *ℤ y i) (λ i. (v i *ℤ y i -ℤ f i *ℤ y i) -ℤ t i *ℤ y i)
    (λ i l. apart (v i) (f i) (t i) (y i))
    ∙ sum_below-sub count (λ i. v i *ℤ y i -ℤ f i *ℤ y i) (λ i. t i *ℤ y i)
    ∙ ap (λ z. z -ℤ sum_below count (λ i. t i *ℤ y i)) (sum_below-sub count (λ i. v i *ℤ y i) (λ i. f i *ℤ y i)) in
    let costs : sum_below count (λ i. v i *ℤ y i)
    ≡ pos m.scale *ℤ sum_below count (λ i. weights i *ℤ y i) =
    sum_below-same count (λ i. v i *ℤ y i) (λ i. pos m.scale *ℤ (weights i *ℤ y i))
    (λ i l. mul_assoc (pos m.scale) (weights i) (y i)) ∙ sum_below-mul (pos m.scale) count (λ i. weights i *ℤ y i) in (
      _,
      ap (option_map _) part.1,
      rw (← costs) (total _ _ _ _ _ _ _ _ _ _ _ _ _ _ part.2 durations gains gained sums summed ends kept rests),
    )

pub value_is_bound : (n : Net) (table : List (List SignedRow)) (slacks : ℕ → ℕ) (node : Node) (m : Multipliers)
    (facts : List LemmaMultiple) (weights : ℕ → ℤ) → 0 < n.period → AreMultipliers n.arcs table m
    → AreWhole n slacks m.multiples → AllHoldAt n slacks facts → LieIn n table slacks node
    → IsSomeAnd (lemma_value n table node m facts weights)
    (λ v. v ≤ℤ (pos m.scale *ℤ over_arcs n.arcs (λ i. weights i *ℤ pos (slacks i))))
value_is_bound n table slacks node m facts weights h are whole true_facts lies =
    let value = lemma_value-le n table slacks node m facts weights h are whole true_facts lies in
    rw (value.1) (value.2)

-- by the scale, rounded up
pub lemma_bound-le : (n : Net) (table : List (List SignedRow)) (slacks : ℕ → ℕ) (node : Node) (m : Multipliers)
    (facts : List LemmaMultiple) (weights : ℕ → ℤ) → 0 < n.period → AreMultipliers n.arcs table m
    → AreWhole n slacks m.multiples → AllHoldAt n slacks facts → LieIn n table slacks node
    → (c : ℤ) × (lemma_bound n table node m facts weights ≡ Some c)
    × (c ≤ℤ over_arcs n.arcs (λ i. weights i *ℤ pos (slacks i)))
lemma_bound-le n table slacks node m facts weights h are whole true_facts lies =
    let value = lemma_value-le n table slacks node m facts weights h are whole true_facts lies in (
      ceil_div value.0 m.scale,
      ap (option_map (λ v. ceil_div v m.scale)) (value.1),
      ceil_div-le value.0 m.scale (over_arcs n.arcs (λ i. weights i *ℤ pos (slacks i))) are.scale (value.2),
    )

pub bound_is_bound : (n : Net) (table : List (List SignedRow)) (slacks : ℕ → ℕ) (node : Node) (m : Multipliers)
    (facts : List LemmaMultiple) (weights : ℕ → ℤ) → 0 < n.period → AreMultipliers n.arcs table m
    → AreWhole n slacks m.multiples → AllHoldAt n slacks facts → LieIn n table slacks node
    → IsSomeAnd (lemma_bound n table node m facts weights) (λ v. v ≤ℤ over_arcs n.arcs (λ i. weights i *ℤ pos (slacks i)))
bound_is_bound n table slacks node m facts weights h are whole true_facts lies =
    let value = lemma_bound-le n table slacks node m facts weights h are whole true_facts lies in
    rw (value.1) (value.2)

-- at any times the marked walks have whole offsets
pub whole_at_times : (n : Net) (table : List (List SignedRow)) (times : List ℕ) (m : Multipliers) → 0 < n.period
    → AreMultipliers n.arcs table m → AreWhole n (slacks_at n times) m.multiples
whole_at_times n table times m h are k d l = has_offset n times (signed_rows (get_or m.multiples k d).walk) h (are.walks k d l)

-- ---- at the two ends of a range

pub excess_at_low : (n : Net) (table : List (List SignedRow)) (node : Node) (m : Multipliers) (facts : List LemmaMultiple)
    (weights : ℕ → ℤ) (i : ℕ) → lemma_excess n table node m facts weights i (slack_range node.slacks i).0
    ≡ left_of table m facts weights i *ℤ pos (slack_range node.slacks i).0 -ℤ rates n node m true i *ℤ width node.slacks i
excess_at_low n table node m facts weights i =
    let c = left_of table m facts weights i in
    let low = pos (slack_range node.slacks i).0 in
    let d = pos m.scale *ℤ weight_of false (arc_at n.arcs i) -ℤ flow table m.pairs i in
    ap (λ z. c *ℤ low -ℤ z) (same_less (d *ℤ low) _ _ (excess_low n table node m false i))
  where
    same_less : (a b c : ℤ) → a -ℤ b ≡ a -ℤ c → b ≡ c
    same_less a b c h = omega (arith, ints, h)

pub excess_at_high : (n : Net) (table : List (List SignedRow)) (node : Node) (m : Multipliers) (facts : List LemmaMultiple)
    (weights : ℕ → ℤ) (i : ℕ) → lemma_excess n table node m facts weights i (slack_range node.slacks i).1
    ≡ left_of table m facts weights i *ℤ pos (slack_range node.slacks i).1 -ℤ rates n node m false i *ℤ width node.slacks i
excess_at_high n table node m facts weights i =
    let c = left_of table m facts weights i in
    let high = pos (slack_range node.slacks i).1 in
    let d = pos m.scale *ℤ weight_of false (arc_at n.arcs i) -ℤ flow table m.pairs i in
    ap (λ z. c *ℤ high -ℤ z) (same_less (d *ℤ high) _ _ (excess_high n table node m false i))
  where
    same_less : (a b c : ℤ) → a -ℤ b ≡ a -ℤ c → b ≡ c
    same_less a b c h = omega (arith, ints, h)

-- ---- without lemmas

same_value : (f g : ℤ → ℤ) → ((z : ℤ) → f z ≡ g z) → (o : Option ℤ) → option_map f o ≡ option_map g o
same_value f g h None = refl
same_value f g h (Some z) = ap Some (h z)

less_none : (z : ℤ) → z -ℤ pos 0 ≡ z
less_none z = omega (arith, ints)

plus_none : (z : ℤ) → z +ℤ pos 0 ≡ z
plus_none z = omega (arith, ints)

sums_add : {a b c d : ℤ} → a ≡ b → c ≡ d → a +ℤ c ≡ b +ℤ d
sums_add h k = cc

lesser : {a b c d : ℤ} → a ≡ c → b ≡ d → int_min a b ≡ int_min c d
lesser h k = cc

bare_excess : (n : Net) (table : List (List SignedRow)) (node : Node) (m : Multipliers) (weighted : Bool) (i y : ℕ)
    → lemma_excess n table node m [] (λ i. weight_of weighted (arc_at n.arcs i)) i y ≡ excess n table node m weighted i y
bare_excess n table node m weighted i y =
    ap (λ c. c *ℤ pos y -ℤ over_multiples m.multiples (λ walk. gain_at n node.slacks walk i y))
    (less_none (pos m.scale *ℤ weight_of weighted (arc_at n.arcs i) -ℤ flow table m.pairs i))

pub value_without_lemmas : (n : Net) (table : List (List SignedRow)) (node : Node) (m : Multipliers) (weighted : Bool)
    → lemma_value n table node m [] (λ i. weight_of weighted (arc_at n.arcs i)) ≡ sharp_value n table node m weighted
value_without_lemmas n table node m weighted =
    let lowers = over_arcs n.arcs (λ i. flow table m.pairs i *ℤ (arc_at n.arcs i).lower) in
    let least = over_multiples m.multiples (λ walk. pos (least_gain n node.slacks walk)) in
    let parts = sum_below-same (length n.arcs) (least_lemma_excess n table node m [] (λ i. weight_of weighted (arc_at n.arcs i)))
    (least_excess n table node m weighted)
    (λ i l. lesser (bare_excess n table node m weighted i (slack_range node.slacks i).0)
    (bare_excess n table node m weighted i (slack_range node.slacks i).1)) in
    same_value _ _ (λ z. sums_add (plus_none ((pos n.period *ℤ z -ℤ lowers) +ℤ least)) parts) (offset_part n table node m.pairs)
