-- At a node where nothing is left to cut, the least slacks have whole offsets, and each leaf is worth their cost.
use Rattle.std.proofs.Common.{◌≡◌, ℕ, zero, suc, ◌+◌, ◌-◌, ◌<◌, ◌≤◌, Bool, true, false, List, [], ◌∷◌, length, set, refl, ap, arith, sym, ◌∙◌, inl, inr, zero-le}
use Rattle.std.specs.Prelude.{ℤ, pos, negsuc, ◌+ℤ◌, ◌-ℤ◌, ◌*ℤ◌, ◌≤ℤ◌, min, Option, Some, None, option_map, ◌||◌, ◌==◌, if◌then◌else◌}
use Rattle.std.specs.List.{list_any}
use Rattle.std.specs.Int.{int_min}
use Rattle.std.proofs.lemmas.Int.{ints, clamps}
use Rattle.std.proofs.lemmas.List.{get_or-map}
use Rattle.std.proofs.lemmas.List.Elements.{All-head, All-tail}
use Rattle.pesp_problem.specs.declared.arc.Arc.{Arc}
use Rattle.pesp_problem.specs.declared.row.SignedRow.{SignedRow}
use Rattle.pesp_problem.specs.declared.pair.Pair.{Pair}
use Rattle.pesp_problem.specs.declared.cut.Cut.{Cut}
use Rattle.pesp_problem.specs.declared.cut.Cut.TheVariants.{Slack, Offset}
use Rattle.pesp_problem.specs.declared.cut.Side.{Side}
use Rattle.pesp_problem.specs.declared.cut.Side.TheVariants.{Low, High}
use Rattle.pesp_problem.specs.Sums.{scaled}
use Rattle.pesp_problem.specs.Arcs.{Net, no_arc, arc_at, over_arcs}
use Rattle.pesp_problem.specs.Walks.{Names, sign, net_count, HasWholeOffset}
use Rattle.pesp_problem.specs.Nodes.{Node, slack_range, cycle_at, least_sum, greatest_sum, offsets_left, IsOffsetLeft, root, part, low_part, high_part, weight_of, flow, offset_part, slack_part, leaf_value, LeavesBoth}
use Rattle.pesp_problem.proofs.Integers.{mul-le, mul-add, add-mul, sub-mul, mul_assoc, swap_left, zero-mul, sum_below-same, sum_below-add, sum_below-sub, sum_below-mul, sum_below-zero}
use Rattle.pesp_problem.proofs.Walks.{net_count-cons}
use Rattle.pesp_problem.proofs.Nodes.{duration, set_cases}
use Rattle.pesp_problem.proofs.Offsets.{exactly_left, ends_in_order}
use Rattle.pesp_truth.specs.Trees.{Plain, Tree, Leaf, Ends, Branch, PairsExist}
use Rattle.pesp_truth.specs.Paths.{along}
use Rattle.pesp_truth.specs.Leaves.{IsLeafAt}
use Rattle.pesp_branching.specs.Rooms.{is_passed, BranchesLeaveBoth}
use Rattle.pesp_branching.specs.Settled.{low_slack, HaveSlacks, KeepSpans, IsSettled, HaveOffsetsLeft}

-- ---- no slack range is empty

pub slacks_at_root : (n : Net) (table : List (List SignedRow)) → HaveSlacks n (root n table)
slacks_at_root n table i l =
    let full = λ (arc : Arc). let range : ℕ × ℕ = (0, arc.span) in range in
    rw (get_or-map full n.arcs i no_arc (0, 0) l) zero-le

-- a list in which one range was set to one that isn't empty
set_some : (slacks : List (ℕ × ℕ)) (j i : ℕ) (x : ℕ × ℕ) → (slack_range slacks i).0 ≤ (slack_range slacks i).1
    → x.0 ≤ x.1 → (slack_range (set slacks j x) i).0 ≤ (slack_range (set slacks j x) i).1
set_some slacks j i x h k = elim (set_cases slacks j i x (0, 0)) [ inl e ↦ rw e h | inr e ↦ rw (e.1) k ]

low_some : (n : Net) (node : Node) (cut : Cut) → HaveSlacks n node → LeavesBoth node cut → HaveSlacks n (low_part node cut)
low_some n node (Slack row k) h both i l = set_some node.slacks (row - 1) i _ (h i l) (omega (arith, both.0, both.1))
low_some n node (Offset cycle k) h both i l = h i l

high_some : (n : Net) (node : Node) (cut : Cut) → HaveSlacks n node → LeavesBoth node cut → HaveSlacks n (high_part node cut)
high_some n node (Slack row k) h both i l = set_some node.slacks (row - 1) i _ (h i l) (omega (arith, both.0, both.1))
high_some n node (Offset cycle k) h both i l = h i l

pub slacks_along : (n : Net) (table : List (List SignedRow)) (tree : Tree) (path : List (Cut × Side)) (leaf : Leaf)
    (node : Node) → HaveSlacks n node → BranchesLeaveBoth n table tree node → IsLeafAt tree path leaf
    → HaveSlacks n (along node path)
slacks_along n table (Ends there) [] leaf node h b e = h
slacks_along n table (Ends there) (step ∷ path) leaf node h b e = absurd e
slacks_along n table (Branch cut low high) [] leaf node h b e = absurd e
slacks_along n table (Branch cut low high) ((c, Low) ∷ path) leaf node h b e =
    rw (e.0) (slacks_along n table low path leaf (low_part node cut) (low_some n node cut h b.1) b.2 e.1)
slacks_along n table (Branch cut low high) ((c, High) ∷ path) leaf node h b e =
    rw (e.0) (slacks_along n table high path leaf (high_part node cut) (high_some n node cut h b.1) b.3 e.1)

-- ---- rows that no cycle passes

or_false : (a b : Bool) → (a || b) ≡ false → (a ≡ false) × (b ≡ false)
or_false true b h = cc
or_false false b h = (refl, h)

by_bool : {P : Type 0} (b : Bool) → (b ≡ true → P) → (b ≡ false → P) → P
by_bool true f g = f refl
by_bool false f g = g refl

sum_of_zeros : {a b : ℤ} → a ≡ pos 0 → b ≡ pos 0 → a +ℤ b ≡ pos 0
sum_of_zeros p q = omega (arith, ints)

unpassed_walk : (walk : List SignedRow) (i : ℕ) → list_any (λ (s : SignedRow). s.row == i + 1) walk ≡ false → net_count walk i ≡ pos 0
unpassed_walk [] i h = refl
unpassed_walk (s ∷ walk) i h =
    let parts = or_false (s.row == i + 1) (list_any (λ (x : SignedRow). x.row == i + 1) walk) h in
    net_count-cons s walk i ∙ sum_of_zeros (ap (λ b. if b then sign s else pos 0) parts.0) (unpassed_walk walk i parts.1)

unpassed_count : (table : List (List SignedRow)) (c i : ℕ) → is_passed table i ≡ false → net_count (cycle_at table c) i ≡ pos 0
unpassed_count [] c i h = refl
unpassed_count (walk ∷ table) zero i h = unpassed_walk walk i
    ((or_false (list_any (λ (s : SignedRow). s.row == i + 1) walk) (is_passed table i) h).0)
unpassed_count (walk ∷ table) (suc c) i h = unpassed_count table c i
    ((or_false (list_any (λ (s : SignedRow). s.row == i + 1) walk) (is_passed table i) h).1)

times_zero : (m x : ℤ) → x ≡ pos 0 → m *ℤ x ≡ pos 0
times_zero m x e = rw e (omega (arith, ints))

unpassed_flow : (table : List (List SignedRow)) (pairs : List Pair) (i : ℕ) → is_passed table i ≡ false → flow table pairs i ≡ pos 0
unpassed_flow table [] i h = refl
unpassed_flow table (pair ∷ pairs) i h = sum_of_zeros
    (times_zero pair.mult _ (unpassed_count table (pair.cycle - 1) i h)) (unpassed_flow table pairs i h)

-- ---- the one sum of each cycle

scaled_same : (c x : ℤ) → scaled c x x ≡ c *ℤ x
scaled_same (pos n) x = refl
scaled_same (negsuc n) x = refl

scaled_none : (c a b x : ℤ) → c ≡ pos 0 → scaled c a b ≡ c *ℤ x
scaled_none c a b x e = rw e (omega (arith, ints))

-- a net count times durations of a row at either end of its slack range
one_term : (n : Net) (table : List (List SignedRow)) (node : Node) (c i : ℕ) → IsSettled n table node
    → HaveSlacks n node → i < length n.arcs
    → (scaled (net_count (cycle_at table c) i) ((arc_at n.arcs i).lower +ℤ pos (slack_range node.slacks i).0)
    ((arc_at n.arcs i).lower +ℤ pos (slack_range node.slacks i).1)
    ≡ net_count (cycle_at table c) i *ℤ duration n (low_slack node) i)
    × (scaled (net_count (cycle_at table c) i) ((arc_at n.arcs i).lower +ℤ pos (slack_range node.slacks i).1)
    ((arc_at n.arcs i).lower +ℤ pos (slack_range node.slacks i).0)
    ≡ net_count (cycle_at table c) i *ℤ duration n (low_slack node) i)
one_term n table node c i s h l =
    let count = net_count (cycle_at table c) i in
    let lower = (arc_at n.arcs i).lower in
    by_bool (is_passed table i)
    (λ p.
    let same : (slack_range node.slacks i).1 ≡ (slack_range node.slacks i).0 = omega (arith, s.slacks i l p, h i l) in
    rw same (
      scaled_same count (lower +ℤ pos (slack_range node.slacks i).0),
      scaled_same count (lower +ℤ pos (slack_range node.slacks i).0),
    ))
    (λ p. let none = unpassed_count table c i p in (scaled_none count _ _ _ none, scaled_none count _ _ _ none))

abbrev cycle_sum : Net → List (List SignedRow) → Node → ℕ → ℤ
cycle_sum n table node c = over_arcs n.arcs (λ i. net_count (cycle_at table c) i *ℤ duration n (low_slack node) i)

one_least : (n : Net) (table : List (List SignedRow)) (node : Node) (c : ℕ) → IsSettled n table node
    → HaveSlacks n node → least_sum n.arcs node.slacks (cycle_at table c) ≡ cycle_sum n table node c
one_least n table node c s h = sum_below-same (length n.arcs) _
    (λ i. net_count (cycle_at table c) i *ℤ duration n (low_slack node) i)
    (λ i l. (one_term n table node c i s h l).0)

one_greatest : (n : Net) (table : List (List SignedRow)) (node : Node) (c : ℕ) → IsSettled n table node
    → HaveSlacks n node → greatest_sum n.arcs node.slacks (cycle_at table c) ≡ cycle_sum n table node c
one_greatest n table node c s h = sum_below-same (length n.arcs) _
    (λ i. net_count (cycle_at table c) i *ℤ duration n (low_slack node) i)
    (λ i l. (one_term n table node c i s h l).1)

-- the one offset that is left of a cycle
record OneLeft (n : Net) (table : List (List SignedRow)) (node : Node) (c : ℕ) : Type 0 where
  z : ℤ
  other : ℤ
  left : offsets_left n table node c ≡ Some (z, other)
  same : other ≡ z
  sum : pos n.period *ℤ z ≡ cycle_sum n table node c

one_left : (n : Net) (table : List (List SignedRow)) (node : Node) (c : ℕ) → 0 < n.period → IsSettled n table node
    → HaveSlacks n node → HaveOffsetsLeft n table node → c < length table → OneLeft n table node c
one_left n table node c t s h o l = go (offsets_left n table node c) refl
  where
    first : (low high : ℤ) → offsets_left n table node c ≡ Some (low, high) → low ≤ℤ high → IsOffsetLeft n table node c low
    first low high e k = (exactly_left n table node c low t).1 (rw e (omega (arith, ints), k))

    second : (low high : ℤ) → offsets_left n table node c ≡ Some (low, high) → low ≤ℤ high → IsOffsetLeft n table node c high
    second low high e k = (exactly_left n table node c high t).1 (rw e (k, omega (arith, ints)))

    go : (left : Option (ℤ × ℤ)) → offsets_left n table node c ≡ left → OneLeft n table node c
    go None e = absurd (o c l e)
    go (Some left) e =
        let k : left.0 ≤ℤ left.1 = rw e at (ends_in_order n table node c) in
        let a = first left.0 left.1 e k in
        let b = second left.0 left.1 e k in
        let one = s.offsets c l in
        let low = one_least n table node c s h in
        let high = one_greatest n table node c s h in
        record {
          z = left.0;
          other = left.1;
          left = e;
          same = omega (arith, ints, a.0, b.1, one, k);
          sum = omega (arith, ints, a.2, a.3, low, high);
        }

pub settled_offsets : (n : Net) (table : List (List SignedRow)) (node : Node) (c : ℕ) → 0 < n.period
    → IsSettled n table node → HaveSlacks n node → HaveOffsetsLeft n table node → c < length table
    → HasWholeOffset n (low_slack node) (cycle_at table c)
settled_offsets n table node c t s h o l = let one = one_left n table node c t s h o l in (one.z, sym one.sum)

-- ---- the value of a leaf

settled_part : (n : Net) (table : List (List SignedRow)) (node : Node) (pairs : List Pair) → 0 < n.period
    → IsSettled n table node → HaveSlacks n node → HaveOffsetsLeft n table node → PairsExist (Plain None) table pairs
    → (v : ℤ) × (offset_part n table node pairs ≡ Some v)
    × (pos n.period *ℤ v ≡ over_arcs n.arcs (λ i. flow table pairs i *ℤ duration n (low_slack node) i))
settled_part n table node [] t s h o e = (
  pos 0,
  refl,
  omega (
    arith,
    ints,
    sum_below-zero (length n.arcs) (λ i. flow table [] i *ℤ duration n (low_slack node) i)
        (λ i l. zero-mul (duration n (low_slack node) i)),
  ),
)
settled_part n table node (pair ∷ pairs) t s h o e =
    let names = All-head (λ (x : Pair). Names (length table) x.cycle) pair pairs e in
    let walk = cycle_at table (pair.cycle - 1) in
    let rest = settled_part n table node pairs t s h o (All-tail (λ (x : Pair). Names (length table) x.cycle) pair pairs e) in
    let one = one_left n table node (pair.cycle - 1) t s h o (omega (arith, names)) in
    let y = low_slack node in
    let first = λ (i : ℕ). pair.mult *ℤ (net_count walk i *ℤ duration n y i) in
    let others = λ (i : ℕ). flow table pairs i *ℤ duration n y i in
    let split = sum_below-same (length n.arcs) (λ i. flow table (pair ∷ pairs) i *ℤ duration n y i) (λ i. first i +ℤ others i)
    (λ i l. add-mul (pair.mult *ℤ net_count walk i) (flow table pairs i) (duration n y i)
    ∙ ap (λ x. x +ℤ others i) (mul_assoc pair.mult (net_count walk i) (duration n y i))) in
    let apart = sum_below-add (length n.arcs) first others in
    let factor = sum_below-mul pair.mult (length n.arcs) (λ i. net_count walk i *ℤ duration n y i) in
    let offset = ap (λ x. pair.mult *ℤ x) one.sum in
    let turned = swap_left pair.mult (pos n.period) one.z in
    let scaled_one : scaled pair.mult one.z one.other ≡ pair.mult *ℤ one.z = rw (one.same) (scaled_same pair.mult one.z) in (
      scaled pair.mult one.z one.other +ℤ rest.0,
      rw (one.left, rest.1) refl,
      rw scaled_one (omega (arith, ints, split, apart, factor, offset, turned, rest.2, mul-add (pos n.period) (pair.mult *ℤ one.z) rest.0)),
    )

weight_is : (weighted : Bool) (arc : Arc) → (w : ℕ) × (weight_of weighted arc ≡ pos w)
weight_is true arc = (arc.weight, refl)
weight_is false arc = (0, refl)

min_same : (x : ℤ) → int_min x x ≡ x
min_same x = omega (arith, ints, clamps)

min_first : (a b : ℤ) → a ≤ℤ b → int_min a b ≡ a
min_first a b h = omega (arith, ints, clamps)

min_weighted : (w : ℕ) (r f : ℤ) (a b : ℕ) → r ≡ pos w → f ≡ pos 0 → a ≤ b
    → int_min ((r -ℤ f) *ℤ pos a) ((r -ℤ f) *ℤ pos b) ≡ (r -ℤ f) *ℤ pos a
min_weighted w r f a b e g h =
    let rest : r -ℤ f ≡ pos w = omega (arith, ints) in
    rw rest (min_first (pos w *ℤ pos a) (pos w *ℤ pos b) (mul-le w (pos a) (pos b) (omega (arith, ints))))

settled_slack : (n : Net) (table : List (List SignedRow)) (node : Node) (pairs : List Pair) (weighted : Bool)
    (i : ℕ) → IsSettled n table node → HaveSlacks n node → i < length n.arcs
    → slack_part n table node pairs weighted i ≡ (weight_of weighted (arc_at n.arcs i) -ℤ flow table pairs i) *ℤ pos (low_slack node i)
settled_slack n table node pairs weighted i s h l =
    by_bool (is_passed table i)
    (λ p.
    let same : (slack_range node.slacks i).1 ≡ (slack_range node.slacks i).0 = omega (arith, s.slacks i l p, h i l) in
    rw same (min_same ((weight_of weighted (arc_at n.arcs i) -ℤ flow table pairs i) *ℤ pos (slack_range node.slacks i).0)))
    (λ p. let w = weight_is weighted (arc_at n.arcs i) in
    min_weighted w.0 (weight_of weighted (arc_at n.arcs i)) (flow table pairs i) (slack_range node.slacks i).0
    (slack_range node.slacks i).1 w.1 (unpassed_flow table pairs i p) (h i l))

pub settled_value : (n : Net) (table : List (List SignedRow)) (node : Node) (pairs : List Pair) (weighted : Bool)
    → 0 < n.period → IsSettled n table node → HaveSlacks n node → HaveOffsetsLeft n table node
    → PairsExist (Plain None) table pairs → leaf_value n table node pairs weighted
    ≡ Some (over_arcs n.arcs (λ i. weight_of weighted (arc_at n.arcs i) *ℤ pos (low_slack node i)))
settled_value n table node pairs weighted t s h o e =
    let count = length n.arcs in
    let part = settled_part n table node pairs t s h o e in
    let f = flow table pairs in
    let w = λ (i : ℕ). weight_of weighted (arc_at n.arcs i) in
    let y = λ (i : ℕ). pos (low_slack node i) in
    let lower = λ (i : ℕ). (arc_at n.arcs i).lower in
    let durations = sum_below-same count (λ i. f i *ℤ (lower i +ℤ y i)) (λ i. f i *ℤ lower i +ℤ f i *ℤ y i)
    (λ i l. mul-add (f i) (lower i) (y i)) in
    let durations_apart = sum_below-add count (λ i. f i *ℤ lower i) (λ i. f i *ℤ y i) in
    let slacks = sum_below-same count (slack_part n table node pairs weighted) (λ i. (w i -ℤ f i) *ℤ y i)
    (λ i l. settled_slack n table node pairs weighted i s h l) in
    let rest = sum_below-same count (λ i. (w i -ℤ f i) *ℤ y i) (λ i. w i *ℤ y i -ℤ f i *ℤ y i) (λ i l. sub-mul (w i) (f i) (y i)) in
    let rest_apart = sum_below-sub count (λ i. w i *ℤ y i) (λ i. f i *ℤ y i) in
    let total : pos n.period *ℤ part.0 -ℤ over_arcs n.arcs (λ i. f i *ℤ lower i)
    +ℤ over_arcs n.arcs (slack_part n table node pairs weighted) ≡ over_arcs n.arcs (λ i. w i *ℤ y i) =
    omega (arith, ints, part.2, durations, durations_apart, slacks, rest, rest_apart) in
    ap (option_map (λ offsets. pos n.period *ℤ offsets -ℤ over_arcs n.arcs
    (λ i. flow table pairs i *ℤ (arc_at n.arcs i).lower)
    +ℤ over_arcs n.arcs (slack_part n table node pairs weighted))) part.1 ∙ ap (λ (v : ℤ). Some v) total

-- ---- spans

spans_at_root : (n : Net) (table : List (List SignedRow)) → KeepSpans n (root n table)
spans_at_root n table i l =
    let full = λ (arc : Arc). let range : ℕ × ℕ = (0, arc.span) in range in
    rw (get_or-map full n.arcs i no_arc (0, 0) l) (omega arith)

set_within : (slacks : List (ℕ × ℕ)) (j i most : ℕ) (x : ℕ × ℕ) → (slack_range slacks i).1 ≤ most
    → (i ≡ j → x.1 ≤ most) → (slack_range (set slacks j x) i).1 ≤ most
set_within slacks j i most x h k = elim (set_cases slacks j i x (0, 0)) [ inl e ↦ rw e h | inr e ↦ rw (e.1) (k e.0) ]

part_spans : (n : Net) (node : Node) (cut : Cut) (side : Side) → KeepSpans n node → KeepSpans n (part node cut side)
part_spans n node (Slack row k) Low h i l = set_within node.slacks (row - 1) i (arc_at n.arcs i).span _ (h i l) (λ e. lower_end (row - 1) e)
  where
    lower_end : (j : ℕ) → i ≡ j → min (slack_range node.slacks j).1 k ≤ (arc_at n.arcs i).span
    lower_end j e = let here = h i l in let same = ap (λ (m : ℕ). (slack_range node.slacks m).1) e in omega (arith, here, same)
part_spans n node (Slack row k) High h i l = set_within node.slacks (row - 1) i (arc_at n.arcs i).span _ (h i l)
    (λ e. let here = h i l in let same = ap (λ (m : ℕ). (slack_range node.slacks m).1) e in
    omega (arith, here, same))
part_spans n node (Offset cycle k) Low h i l = h i l
part_spans n node (Offset cycle k) High h i l = h i l

spans_along : (n : Net) (node : Node) (path : List (Cut × Side)) → KeepSpans n node → KeepSpans n (along node path)
spans_along n node [] h = h
spans_along n node (step ∷ path) h = spans_along n (part node step.0 step.1) path (part_spans n node step.0 step.1 h)

pub paths_keep_spans : (n : Net) (table : List (List SignedRow)) (path : List (Cut × Side)) → KeepSpans n (along (root n table) path)
paths_keep_spans n table path = spans_along n (root n table) path (spans_at_root n table)
