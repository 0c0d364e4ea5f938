-- What one pair is worth, from what no pairs are worth: the rows that its cycle passes alone make the difference.
use Rattle.std.proofs.Common.{◌≡◌, ℕ, ◌-◌, ◌*◌, ◌≤◌, List, [], ◌∷◌, length, refl, ap, arith, sym, ◌∙◌, true, Option, Some, None}
use Rattle.std.specs.Prelude.{ℤ, pos, ◌+ℤ◌, ◌-ℤ◌, ◌*ℤ◌, unsigned_abs, option_map}
use Rattle.std.specs.Int.{int_min}
use Rattle.std.proofs.lemmas.Int.{ints, clamps, unsigned_abs-mul}
use Rattle.std.proofs.Math.Nat.{mul-le-mul}
use Rattle.pesp_problem.specs.declared.arc.Arc.{Arc}
use Rattle.pesp_problem.specs.declared.row.SignedRow.{SignedRow}
use Rattle.pesp_problem.specs.declared.pair.Pair.{Pair}
use Rattle.pesp_problem.specs.Sums.{scaled}
use Rattle.pesp_problem.specs.Arcs.{Net, over_arcs}
use Rattle.pesp_problem.specs.Walks.{net_count}
use Rattle.pesp_problem.specs.Nodes.{Node, cycle_at, offsets_left, offset_part, flow, leaf_value}
use Rattle.pesp_problem.proofs.Integers.{mul_comm, zero-mul, sub-mul, sum_below-same, sum_below-add}
use Rattle.pesp_problem.specs.declared.nets.NetCount.{NetCount}
use Rattle.pesp_problem.specs.Nets.{sum_of, AreNetCounts}
use Rattle.pesp_nodes.specs.Values.{plain_row_term, row_term_at, flow_gain_at}
use Rattle.pesp_problem.proofs.LeafValues.{part_some, part_none, value_none}
use Rattle.pesp_nodes.proofs.LeafValues.{value_is}

-- ---- one row

product_most : (a b : ℤ) (k : ℕ) → unsigned_abs b ≤ k → unsigned_abs (a *ℤ b) ≤ unsigned_abs a * k
product_most a b k h = let same : unsigned_abs a ≤ unsigned_abs a = omega arith in omega (arith, unsigned_abs-mul a b, mul-le-mul same h)

-- the lesser of two numbers moves by no more than they do
moved_little : (n : ℕ) (x y p q r s t s' t' z : ℤ) → s ≡ x -ℤ p → t ≡ y -ℤ q → s' ≡ x → t' ≡ y → z ≡ pos 0
    → unsigned_abs p ≤ n * 10000 → unsigned_abs q ≤ n * 10000 → unsigned_abs r ≤ n * 1020000
    → unsigned_abs ((int_min s t -ℤ r) -ℤ (int_min s' t' -ℤ z)) ≤ n * 1030000
moved_little n x y p q r s t s' t' z a b c d e f g h = omega (arith, ints, clamps)

pub gain_small : (arc : Arc) (range : ℕ × ℕ) (flow : ℤ) → unsigned_abs arc.lower ≤ 1020000 → range.0 ≤ 10000
    → range.1 ≤ 10000 → unsigned_abs (plain_row_term arc range true flow -ℤ plain_row_term arc range true (pos 0))
    ≤ unsigned_abs flow * 1030000
gain_small arc range flow l a b =
    let w : ℤ = pos arc.weight in
    let low : ℤ = pos range.0 in
    let high : ℤ = pos range.1 in
    let same : w -ℤ pos 0 ≡ w = omega (arith, ints) in
    moved_little (unsigned_abs flow) (w *ℤ low) (w *ℤ high) (flow *ℤ low) (flow *ℤ high) (flow *ℤ arc.lower)
    ((w -ℤ flow) *ℤ low) ((w -ℤ flow) *ℤ high) ((w -ℤ pos 0) *ℤ low) ((w -ℤ pos 0) *ℤ high) (pos 0 *ℤ arc.lower)
    (sub-mul w flow low) (sub-mul w flow high) (ap (λ (x : ℤ). x *ℤ low) same) (ap (λ (x : ℤ). x *ℤ high) same) (zero-mul arc.lower)
    (product_most flow low 10000 a) (product_most flow high 10000 b) (product_most flow arc.lower 1020000 l)

-- ---- the rows of a cycle

-- what the rows add to the value of a pair with this multiplier
abbrev pub term_of : List Arc → List (ℕ × ℕ) → ℤ → ℕ → ℤ → ℤ
term_of arcs slacks mult i count = flow_gain_at arcs slacks i (mult *ℤ count)

no_gain : (arcs : List Arc) (slacks : List (ℕ × ℕ)) (mult : ℤ) (i : ℕ) → term_of arcs slacks mult i (pos 0) ≡ pos 0
no_gain arcs slacks mult i =
    let none : mult *ℤ pos 0 ≡ pos 0 = mul_comm mult (pos 0) ∙ zero-mul mult in
    ap (flow_gain_at arcs slacks i) none ∙ itself (row_term_at arcs slacks true i (pos 0))
  where
    itself : (x : ℤ) → x -ℤ x ≡ pos 0
    itself x = omega (arith, ints)

pub gains_are : (arcs : List Arc) (slacks : List (ℕ × ℕ)) (mult : ℤ) (walk : List SignedRow)
    (counts : List NetCount) → AreNetCounts (length arcs) walk counts
    → sum_of (term_of arcs slacks mult) counts ≡ over_arcs arcs
    (λ i. flow_gain_at arcs slacks i (mult *ℤ net_count walk i))
gains_are arcs slacks mult walk counts h = h.sums (term_of arcs slacks mult) (no_gain arcs slacks mult)

-- the same arcs and slacks have the same gains
pub gains_same : (arcs arcs' : List Arc) (slacks slacks' : List (ℕ × ℕ)) (flow : ℕ → ℤ) → arcs ≡ arcs'
    → slacks ≡ slacks' → over_arcs arcs (λ i. flow_gain_at arcs slacks i (flow i))
    ≡ over_arcs arcs' (λ i. flow_gain_at arcs' slacks' i (flow i))
gains_same arcs arcs' slacks slacks' flow e f =
    let by_arcs : List Arc → ℤ = λ a. over_arcs a (λ i. flow_gain_at a slacks i (flow i)) in
    let by_slacks : List (ℕ × ℕ) → ℤ = λ s. over_arcs arcs' (λ i. flow_gain_at arcs' s i (flow i)) in
    ap by_arcs e ∙ ap by_slacks f

-- ---- the value

flow_is : (table : List (List SignedRow)) (pair : Pair) (i : ℕ)
    → flow table (pair ∷ []) i ≡ pair.mult *ℤ net_count (cycle_at table (pair.cycle - 1)) i
flow_is table pair i = more (pair.mult *ℤ net_count (cycle_at table (pair.cycle - 1)) i)
  where
    more : (x : ℤ) → x +ℤ pos 0 ≡ x
    more x = omega (arith, ints)

split_row : (x y : ℤ) → x ≡ y +ℤ (x -ℤ y)
split_row x y = omega (arith, ints)

-- the rows of one pair
rows_of_one : (arcs : List Arc) (slacks : List (ℕ × ℕ)) (table : List (List SignedRow)) (pair : Pair)
    → over_arcs arcs (λ i. row_term_at arcs slacks true i (flow table (pair ∷ []) i))
    ≡ over_arcs arcs (λ i. row_term_at arcs slacks true i (pos 0))
    +ℤ over_arcs arcs (λ i. flow_gain_at arcs slacks i (pair.mult *ℤ net_count (cycle_at table (pair.cycle - 1)) i))
rows_of_one arcs slacks table pair =
    let count : ℕ → ℤ = λ i. pair.mult *ℤ net_count (cycle_at table (pair.cycle - 1)) i in
    let none : ℕ → ℤ = λ i. row_term_at arcs slacks true i (pos 0) in
    sum_below-same (length arcs) (λ i. row_term_at arcs slacks true i (flow table (pair ∷ []) i))
    (λ i. none i +ℤ flow_gain_at arcs slacks i (count i))
    (λ i l. ap (row_term_at arcs slacks true i) (flow_is table pair i)
    ∙ split_row (row_term_at arcs slacks true i (count i)) (none i))
    ∙ sum_below-add (length arcs) none (λ i. flow_gain_at arcs slacks i (count i))

-- the value of no pairs is what the rows add with no flow
none_is : (n : Net) (table : List (List SignedRow)) (node : Node) (none : ℤ)
    → leaf_value n table node [] true ≡ Some none
    → none ≡ over_arcs n.arcs (λ i. row_term_at n.arcs node.slacks true i (pos 0))
none_is n table node none e =
    let rows = over_arcs n.arcs (λ i. row_term_at n.arcs node.slacks true i (pos 0)) in
    let zeroed : pos n.period *ℤ pos 0 ≡ pos 0 = mul_comm (pos n.period) (pos 0) ∙ zero-mul (pos n.period) in
    let none_left : ◌≡◌ {A = Option ℤ} (Some (pos 0))
    (option_map (λ z. pos n.period *ℤ z) (offset_part n table node [])) = ap Some (sym zeroed) in
    let whole : rows ≡ pos 0 +ℤ rows = omega (arith, ints) in
    some_same (sym e ∙ sym (value_is n table node [] true (pos 0) rows rows none_left refl whole))
  where
    some_same : {a b : ℤ} → Some a ≡ Some b → a ≡ b
    some_same e = cc

pub single_is : (n : Net) (table : List (List SignedRow)) (node : Node) (pair : Pair) (left : ℤ × ℤ)
    (none offsets rows total : ℤ) → leaf_value n table node [] true ≡ Some none
    → Some left ≡ offsets_left n table node (pair.cycle - 1)
    → offsets ≡ pos n.period *ℤ scaled pair.mult left.0 left.1
    → rows ≡ over_arcs n.arcs (λ i. flow_gain_at n.arcs node.slacks i
    (pair.mult *ℤ net_count (cycle_at table (pair.cycle - 1)) i)) → total ≡ none +ℤ (offsets +ℤ rows)
    → Some total ≡ leaf_value n table node (pair ∷ []) true
single_is n table node pair left none offsets rows total e l o r t =
    let part : offset_part n table node (pair ∷ [])
    ≡ Some (scaled pair.mult left.0 left.1 +ℤ pos 0) = part_some n table node pair [] left (sym l) in
    let more : scaled pair.mult left.0 left.1 +ℤ pos 0 ≡ scaled pair.mult left.0 left.1 = omega (arith, ints) in
    let by_period : ℤ → ℤ = λ z. pos n.period *ℤ z in
    let all : Some offsets ≡ option_map by_period (offset_part n table node (pair ∷ [])) =
    ap Some (o ∙ ap by_period (sym more)) ∙ ap (option_map by_period) (sym part) in
    let sum = none_is n table node none e in
    let base = over_arcs n.arcs (λ i. row_term_at n.arcs node.slacks true i (pos 0)) in
    value_is n table node (pair ∷ []) true offsets (base +ℤ rows) total all
    (ap (λ (x : ℤ). base +ℤ x) r ∙ sym (rows_of_one n.arcs node.slacks table pair))
    (whole none base offsets rows total sum t)
  where
    whole : (a b c d w : ℤ) → a ≡ b → w ≡ a +ℤ (c +ℤ d) → w ≡ c +ℤ (b +ℤ d)
    whole a b c d w e f = omega (arith, ints)

pub single_none : (n : Net) (table : List (List SignedRow)) (node : Node) (pair : Pair)
    → ◌≡◌ {A = Option (ℤ × ℤ)} None (offsets_left n table node (pair.cycle - 1))
    → None ≡ leaf_value n table node (pair ∷ []) true
single_none n table node pair e = let none : offset_part n table node (pair ∷ [])
    ≡ None = part_none n table node pair [] (sym e) in let by_period : ℤ → ℤ = λ z. pos n.period *ℤ z in
    value_none n table node (pair ∷ []) true (ap (option_map by_period) (sym none))
