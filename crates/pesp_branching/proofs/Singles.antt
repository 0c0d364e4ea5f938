-- At the root no single pair with a multiplier of 1 by amount is worth more than can be told.
use Rattle.std.proofs.Common.{◌≡◌, ℕ, zero, suc, ◌-◌, ◌*◌, ◌<◌, ◌≤◌, true, List, [], ◌∷◌, length, refl, ap, arith}
use Rattle.std.specs.Prelude.{ℤ, pos, negsuc, neg_ℤ, ◌+ℤ◌, ◌-ℤ◌, ◌*ℤ◌, ◌≤ℤ◌, unsigned_abs, Some}
use Rattle.std.specs.Int.{int_min}
use Rattle.std.proofs.lemmas.Int.{ints, clamps, unsigned_abs-mul}
use Rattle.std.proofs.lemmas.List.{get_or-map, length-map}
use Rattle.std.proofs.lemmas.List.Sums.{get_or-le-sum_by}
use Rattle.std.proofs.Math.Nat.{mul-le-mul}
use Rattle.pesp_problem.specs.declared.arc.Arc.{Arc}
use Rattle.pesp_problem.specs.declared.row.SignedRow.{SignedRow}
use Rattle.pesp_problem.specs.declared.pair.Pair.{Pair}
use Rattle.pesp_problem.specs.Sums.{scaled}
use Rattle.pesp_problem.specs.Arcs.{Net, no_arc, arc_at, over_arcs}
use Rattle.pesp_problem.specs.Walks.{Names, net_count}
use Rattle.pesp_problem.specs.Nodes.{Node, slack_range, cycle_at, offsets_left, IsOffsetLeft, root_slacks, root, weight_of, flow, offset_part, slack_part, leaf_value}
use Rattle.pesp_problem.proofs.Integers.{mul-neg, sum_below-le, sum_below-zero}
use Rattle.pesp_problem.proofs.Offsets.{exactly_left, ends_in_order}
use Rattle.pesp_network.specs.Networks.{KeepsNetLimits}
use Rattle.pesp_problem.specs.Ranges.{AreSlackEnds}
use Rattle.pesp_nodes.specs.Offsets.{AreArcs}
use Rattle.pesp_nodes.specs.Problems.{ProblemValue, problem_net, IsSmallTable}
use Rattle.pesp_nodes.proofs.Keeping.{arcs_small, spans_small}
use Rattle.pesp_tree.specs.States.{root_of}
use Rattle.pesp_tree.proofs.LeafParts.{both_were, value_was}
use Rattle.pesp_tree.proofs.Ranges.{walk_size, least_size, greatest_size}

-- ---- one pair

left_within : (n : Net) (table : List (List SignedRow)) (node : Node) (c : ℕ) (left : ℤ × ℤ) → 0 < n.period
    → offsets_left n table node c ≡ Some left → IsOffsetLeft n table node c left.0
    × IsOffsetLeft n table node c left.1
left_within n table node c left t e =
    let k : left.0 ≤ℤ left.1 = rw e at (ends_in_order n table node c) in (
      (exactly_left n table node c left.0 t).1 (rw e (omega (arith, ints), k)),
      (exactly_left n table node c left.1 t).1 (rw e (k, omega (arith, ints))),
    )

one_times : (x : ℤ) → pos 1 *ℤ x ≡ x
one_times x = omega (arith, ints)

minus_times : (x : ℤ) → negsuc 0 *ℤ x ≡ neg_ℤ x
minus_times x = omega (arith, ints)

none_times : (x : ℤ) → pos 0 *ℤ x ≡ pos 0
none_times x = omega (arith, ints)

offset_small : (t b : ℕ) (mult low high : ℤ) → unsigned_abs mult ≤ 1 → (pos t *ℤ low) ≤ℤ pos b
    → neg_ℤ (pos b) ≤ℤ (pos t *ℤ high) → (pos t *ℤ scaled mult low high) ≤ℤ pos b
offset_small t b (pos zero) low high h k l = rw (none_times low)
    (let zeroed : pos t *ℤ pos 0 ≡ pos 0 = omega (arith, ints) in omega (arith, ints, zeroed))
offset_small t b (pos (suc zero)) low high h k l = rw (one_times low) k
offset_small t b (pos (suc (suc m))) low high h k l = absurd (omega (arith, h))
offset_small t b (negsuc zero) low high h k l = rw (minus_times high) (omega (arith, ints, mul-neg (pos t) high, l))
offset_small t b (negsuc (suc m)) low high h k l = absurd (omega (arith, h))

flow_small : (m c l : ℤ) → unsigned_abs m ≤ 1 → unsigned_abs l ≤ 1020000 → unsigned_abs ((m *ℤ c +ℤ pos 0) *ℤ l) ≤ 1030000 * unsigned_abs c
flow_small m c l h k =
    let same : m *ℤ c +ℤ pos 0 ≡ m *ℤ c = omega (arith, ints) in
    let outer = unsigned_abs-mul (m *ℤ c) l in
    let inner = unsigned_abs-mul m c in
    let once : unsigned_abs m * unsigned_abs c ≤ 1 * unsigned_abs c = mul-le-mul h (refl_le (unsigned_abs c)) in
    let all : unsigned_abs (m *ℤ c) * unsigned_abs l
    ≤ unsigned_abs c * 1020000 = mul-le-mul (small (unsigned_abs (m *ℤ c)) (unsigned_abs m * unsigned_abs c)
    (unsigned_abs c) inner once) k in
    rw same (last (unsigned_abs ((m *ℤ c) *ℤ l)) (unsigned_abs (m *ℤ c) * unsigned_abs l) (unsigned_abs c) outer all)
  where
    refl_le : (a : ℕ) → a ≤ a
    refl_le a = omega arith

    small : (a b d : ℕ) → a ≡ b → b ≤ 1 * d → a ≤ d
    small a b d e f = omega (arith, e, f)

    last : (a b d : ℕ) → a ≡ b → b ≤ d * 1020000 → a ≤ 1030000 * d
    last a b d e f = omega (arith, e, f)

-- at the root the slacks of the rows add nothing
slack_none : (n : Net) (table : List (List SignedRow)) (pairs : List Pair)
    → over_arcs n.arcs (slack_part n table (root n table) pairs true) ≤ℤ pos 0
slack_none n table pairs =
    let below = sum_below-le (length n.arcs) (slack_part n table (root n table) pairs true) (λ i. pos 0)
    (λ i l. at_zero (weight_of true (arc_at n.arcs i) -ℤ flow table pairs i) (slack_range (root_slacks n) i)
    (low_is i l)) in
    let zeros = sum_below-zero (length n.arcs) (λ i. pos 0) (λ i l. refl) in
    omega (arith, ints, below, zeros)
  where
    low_is : (i : ℕ) → i < length n.arcs → (slack_range (root_slacks n) i).0 ≡ 0
    low_is i l = let full = λ (arc : Arc). let range : ℕ × ℕ = (0, arc.span) in range in
        ap (λ (r : ℕ × ℕ). r.0) (get_or-map full n.arcs i no_arc (0, 0) l)

    at_zero : (c : ℤ) (r : ℕ × ℕ) → r.0 ≡ 0 → int_min (c *ℤ pos r.0) (c *ℤ pos r.1) ≤ℤ pos 0
    at_zero c r e = let none : c *ℤ pos 0 ≡ pos 0 = omega (arith, ints) in rw e (omega (arith, ints, clamps, none))

some_same : {a b : ℤ} → Some a ≡ Some b → a ≡ b
some_same e = cc

pub single_small : (p : ProblemValue) (cycle : ℕ) (mult v : ℤ) → KeepsNetLimits p.network → IsSmallTable p.table
    → unsigned_abs mult ≤ 1 → Names (length p.table) cycle
    → leaf_value (problem_net p) p.table (root_of p) (record { cycle = cycle; mult = mult } ∷ []) true ≡ Some v
    → v ≤ℤ pos 999999999999999999
single_small p cycle mult v limits small one names e =
    let n = problem_net p in
    let table = p.table in
    let node = root_of p in
    let pairs : List Pair = record { cycle = cycle; mult = mult } ∷ [] in
    let walk = cycle_at table (cycle - 1) in
    let t : 0 < n.period = (let some = limits.some_period in omega arith) in
    let arcs : AreArcs n.arcs = arcs_small p.network limits in
    let ends : AreSlackEnds (root_slacks n) = spans_small n.arcs arcs in
    let full : Arc → ℕ × ℕ = λ arc. (0, arc.span) in
    let long : length (root_slacks n) ≡ length n.arcs = length-map n.arcs full in
    let short : length walk ≤ 10000000 = omega (arith, get_or-le-sum_by length table (cycle - 1) [] (omega (arith, names)), small.rows) in
    let lowers = over_arcs n.arcs (λ i. flow table pairs i *ℤ (arc_at n.arcs i).lower) in
    let slacks = over_arcs n.arcs (slack_part n table node pairs true) in
    let was = value_was (λ (x : ℤ). pos n.period *ℤ x -ℤ lowers +ℤ slacks) (offset_part n table node pairs) v e in
    let part = both_were (λ (left : ℤ × ℤ) (rest : ℤ). scaled mult left.0 left.1 +ℤ rest)
    (offsets_left n table node (cycle - 1)) (Some (pos 0)) was.0 was.1 in
    let left = part.0 in
    let within = left_within n table node (cycle - 1) left t part.2 in
    let least = least_size n.arcs (root_slacks n) walk arcs ends long short in
    let greatest = greatest_size n.arcs (root_slacks n) walk arcs ends long short in
    let low : (pos n.period *ℤ left.0) ≤ℤ pos 10300000000000 = omega (arith, ints, within.0.3, greatest) in
    let high : neg_ℤ (pos 10300000000000) ≤ℤ (pos n.period *ℤ left.1) = omega (arith, ints, within.1.2, least) in
    let offset = offset_small n.period 10300000000000 mult left.0 left.1 one low high in
    let rest : pos 0 ≡ part.1 = some_same part.3 in
    let x_is : was.0 ≡ scaled mult left.0 left.1 = (let sum = part.4 in omega (arith, ints, sum, rest)) in
    let first : (pos n.period *ℤ was.0) ≤ℤ pos 10300000000000 = rw x_is offset in
    let lower_size = walk_size n.arcs walk (λ i. flow table pairs i *ℤ (arc_at n.arcs i).lower) short
    (λ i l. flow_small mult (net_count walk i) (arc_at n.arcs i).lower one ((arcs i no_arc l).0)) in
    let none = slack_none n table pairs in
    let whole = was.2 in
    at_most (pos n.period *ℤ was.0) lowers slacks v whole first lower_size none
  where
    at_most : (a b c w : ℤ) → w ≡ a -ℤ b +ℤ c → a ≤ℤ pos 10300000000000 → unsigned_abs b ≤ 10300000000000
        → c ≤ℤ pos 0 → w ≤ℤ pos 999999999999999999
    at_most a b c w f g h k = omega (arith, ints, f, g, h, k)
