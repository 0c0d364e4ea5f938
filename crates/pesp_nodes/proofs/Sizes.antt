-- How large the value of a leaf can be: the net counts of a table add up to no more than its signed rows.
use Rattle.std.proofs.Common.{◌≡◌, ℕ, zero, suc, ◌+◌, ◌-◌, ◌*◌, ◌^◌, ◌<◌, ◌≤◌, List, [], ◌∷◌, length, get_or, take, All, Option, Some, None, Bool, refl, ap, arith}
use Rattle.std.specs.Prelude.{ℤ, pos, negsuc, ◌+ℤ◌, ◌-ℤ◌, ◌*ℤ◌, ◌≤ℤ◌, unsigned_abs, sum_by, IfSome, option_map, option_and_then}
use Rattle.std.proofs.lemmas.Int.{ints, clamps, unsigned_abs-mul}
use Rattle.std.proofs.Math.Nat.{mul-le-mul}
use Rattle.std.proofs.lemmas.List.{length-map}
use Rattle.std.proofs.lemmas.List.Elements.{All-head, All-tail}
use Rattle.std.proofs.lemmas.List.Sums.{sum_by_more, sum_by-cons, sum_by-take-le}
use Rattle.pesp_problem.specs.declared.arc.Arc.{Arc}
use Rattle.pesp_problem.specs.declared.row.SignedRow.{SignedRow}
use Rattle.pesp_problem.specs.declared.pair.Pair.{Pair}
use Rattle.pesp_problem.specs.Sums.{sum_below, scaled}
use Rattle.pesp_problem.specs.Arcs.{Net, arc_at, no_arc, over_arcs}
use Rattle.pesp_problem.specs.Walks.{net_count}
use Rattle.pesp_problem.specs.Nodes.{Node, cycle_at, slack_range, least_sum, greatest_sum, offsets_left, offset_part, offset_range, weight_of, slack_part, flow, leaf_value}
use Rattle.pesp_problem.proofs.Integers.{mul-add, mul-le, sum_below-le, sum_below-add, sum_below-mul, sum_below-zero}
use Rattle.pesp_problem.specs.Ranges.{AreSlackEnds}
use Rattle.pesp_nodes.specs.Offsets.{AreArcs}
use Rattle.pesp_network.specs.Networks.{KeepsNetLimits, arc_of_net}
use Rattle.pesp_nodes.specs.Problems.{ProblemValue, problem_net, IsNodeOf, IsSmallTable, Rise, ArePairs}
use Rattle.pesp_problem.proofs.Counts.{amounts_short}
use Rattle.pesp_problem.proofs.Durations.{left_small}
use Rattle.pesp_nodes.proofs.Keeping.{arcs_small}
use Rattle.pesp_problem.proofs.LeafValues.{scaled_times, weight_small}

-- ---- sums and products

-- a sum is no more, by amount, than k times the sum of what its terms are at most k times
within : (n k : ℕ) (f g : ℕ → ℤ) → ((i : ℕ) → i < n → pos (unsigned_abs (f i)) ≤ℤ (pos k *ℤ g i))
    → pos (unsigned_abs (sum_below n f)) ≤ℤ (pos k *ℤ sum_below n g)
within zero k f g h = omega (arith, ints)
within (suc n) k f g h =
    let before = within n k f g (λ i l. h i (omega arith)) in
    let here = h n (omega arith) in
    omega (arith, ints, mul-add (pos k) (sum_below n g) (g n))

product_within : (a b : ℤ) (k : ℕ) → unsigned_abs b ≤ k → unsigned_abs (a *ℤ b) ≤ unsigned_abs a * k
product_within a b k h = let same : unsigned_abs a ≤ unsigned_abs a = omega arith in omega (arith, unsigned_abs-mul a b, mul-le-mul same h)

scaled_within : (m a b : ℤ) (k : ℕ) → unsigned_abs a ≤ k → unsigned_abs b ≤ k → unsigned_abs (scaled m a b) ≤ unsigned_abs m * k
scaled_within (pos m) a b k h h' = product_within (pos m) a k h
scaled_within (negsuc m) a b k h h' = product_within (negsuc m) b k h'

-- ---- along a walk

-- the net counts of a walk, each times one of two numbers
along : (n k : ℕ) (walk : List SignedRow) (a b : ℕ → ℤ)
    → ((i : ℕ) → i < n → (unsigned_abs (a i) ≤ k) × (unsigned_abs (b i) ≤ k))
    → unsigned_abs (sum_below n (λ i. scaled (net_count walk i) (a i) (b i))) ≤ k * length walk
along n k walk a b h =
    let amounts : ℕ → ℤ = λ i. pos (unsigned_abs (net_count walk i)) in
    let all = within n k (λ i. scaled (net_count walk i) (a i) (b i)) amounts
    (λ i l. (let s = scaled_within (net_count walk i) (a i) (b i) k (h i l).0 (h i l).1 in
    omega (arith, ints))) in
    let short = mul-le k (sum_below n amounts) (pos (length walk)) (amounts_short n walk) in
    omega (arith, ints)

-- the durations of a row at the ends of its slack range
ends_within : (arcs : List Arc) (slacks : List (ℕ × ℕ)) → AreArcs arcs → AreSlackEnds slacks
    → length slacks ≡ length arcs → (i : ℕ) → i < length arcs
    → (unsigned_abs ((arc_at arcs i).lower +ℤ pos (slack_range slacks i).0) ≤ 1030000)
    × (unsigned_abs ((arc_at arcs i).lower +ℤ pos (slack_range slacks i).1) ≤ 1030000)
ends_within arcs slacks limits ends long i l =
    let lower = (limits i no_arc l).0 in
    let range = ends i (0, 0) (omega arith) in
    let low = range.0 in
    let high = range.1 in
    (omega (arith, ints), omega (arith, ints))

least_within : (arcs : List Arc) (slacks : List (ℕ × ℕ)) (walk : List SignedRow) → AreArcs arcs
    → AreSlackEnds slacks → length slacks ≡ length arcs
    → unsigned_abs (least_sum arcs slacks walk) ≤ 1030000 * length walk
least_within arcs slacks walk limits ends long =
    along (length arcs) 1030000 walk (λ i. (arc_at arcs i).lower +ℤ pos (slack_range slacks i).0)
    (λ i. (arc_at arcs i).lower +ℤ pos (slack_range slacks i).1) (ends_within arcs slacks limits ends long)

greatest_within : (arcs : List Arc) (slacks : List (ℕ × ℕ)) (walk : List SignedRow) → AreArcs arcs
    → AreSlackEnds slacks → length slacks ≡ length arcs
    → unsigned_abs (greatest_sum arcs slacks walk) ≤ 1030000 * length walk
greatest_within arcs slacks walk limits ends long =
    along (length arcs) 1030000 walk (λ i. (arc_at arcs i).lower +ℤ pos (slack_range slacks i).1)
    (λ i. (arc_at arcs i).lower +ℤ pos (slack_range slacks i).0)
    (λ i l. (let e = ends_within arcs slacks limits ends long i l in (e.1, e.0)))

-- ---- the offsets of the pairs' cycles

-- the signed rows of the pairs' cycles
abbrev rows_of : List (List SignedRow) → List Pair → ℕ
rows_of table pairs = sum_by (λ p. length (cycle_at table (p.cycle - 1))) pairs

one_part : (t : ℕ) (mult : ℤ) (here rest : ℕ) (left : Option (ℤ × ℤ)) (part : Option ℤ) → unsigned_abs mult ≤ 1000000000000
    → IfSome left (λ ends. (unsigned_abs (pos t *ℤ ends.0) ≤ 1030000 * here) × (unsigned_abs (pos t *ℤ ends.1) ≤ 1030000 * here))
    → IfSome part (λ z. unsigned_abs (pos t *ℤ z) ≤ 1000000000000 * (1030000 * rest))
    → IfSome (option_and_then (λ (ends : ℤ × ℤ). option_map (λ z. scaled mult ends.0 ends.1 +ℤ z) part) left)
    (λ z. unsigned_abs (pos t *ℤ z) ≤ 1000000000000 * (1030000 * (here + rest)))
one_part t mult here rest None part small ends before = tt
one_part t mult here rest (Some left) None small ends before = tt
one_part t mult here rest (Some left) (Some z) small ends before =
    let term = scaled_within mult (pos t *ℤ left.0) (pos t *ℤ left.1) (1030000 * here) ends.0 ends.1 in
    let same = scaled_times (pos t) mult left.0 left.1 in
    let most : unsigned_abs mult * (1030000 * here)
    ≤ 1000000000000 * (1030000 * here) = (let refl_le : 1030000 * here ≤ 1030000 * here = omega arith in
    mul-le-mul small refl_le) in
    let apart = mul-add (pos t) (scaled mult left.0 left.1) z in
    omega (arith, ints, ap unsigned_abs same)

offsets_within : (n : Net) (table : List (List SignedRow)) (node : Node) (pairs : List Pair) → 0 < n.period
    → AreArcs n.arcs → AreSlackEnds node.slacks → length node.slacks ≡ length n.arcs
    → All (λ p. unsigned_abs p.mult ≤ 1000000000000) pairs
    → IfSome (offset_part n table node pairs) (λ z. unsigned_abs (pos n.period *ℤ z) ≤ 1000000000000 * (1030000 * rows_of table pairs))
offsets_within n table node [] some limits ends long mults = omega (arith, ints)
offsets_within n table node (p ∷ pairs) some limits ends long mults =
    let walk = cycle_at table (p.cycle - 1) in
    let range = offset_range node.offsets (p.cycle - 1) in
    let before = offsets_within n table node pairs some limits ends long
    (All-tail (λ (p : Pair). unsigned_abs p.mult ≤ 1000000000000) p pairs mults) in
    let left = left_small n.period (1030000 * length walk) (least_sum n.arcs node.slacks walk)
    (greatest_sum n.arcs node.slacks walk) range.0 range.1 some
    (least_within n.arcs node.slacks walk limits ends long)
    (greatest_within n.arcs node.slacks walk limits ends long) in
    let one = one_part n.period p.mult (length walk) (rows_of table pairs)
    (offsets_left n table node (p.cycle - 1)) (offset_part n table node pairs)
    (All-head (λ (p : Pair). unsigned_abs p.mult ≤ 1000000000000) p pairs mults) left before in
    rw (sum_by-cons (λ (p : Pair). length (cycle_at table (p.cycle - 1))) p pairs) one

-- ---- the flows

abbrev amounts : List (List SignedRow) → List Pair → ℕ → ℤ
amounts table pairs i = pos (unsigned_abs (flow table pairs i))

flow-cons : (table : List (List SignedRow)) (p : Pair) (pairs : List Pair) (i : ℕ)
    → unsigned_abs p.mult ≤ 1000000000000 → amounts table (p ∷ pairs) i
    ≤ℤ (pos 1000000000000 *ℤ pos (unsigned_abs (net_count (cycle_at table (p.cycle - 1)) i))
    +ℤ amounts table pairs i)
flow-cons table p pairs i small =
    let net = net_count (cycle_at table (p.cycle - 1)) i in
    let same : unsigned_abs net ≤ unsigned_abs net = omega arith in
    let here : unsigned_abs (p.mult *ℤ net) ≤ 1000000000000 * unsigned_abs net =
    omega (arith, unsigned_abs-mul p.mult net, mul-le-mul small same) in
    omega (arith, ints)

flows_within : (n : ℕ) (table : List (List SignedRow)) (pairs : List Pair)
    → All (λ p. unsigned_abs p.mult ≤ 1000000000000) pairs
    → sum_below n (amounts table pairs) ≤ℤ pos (1000000000000 * rows_of table pairs)
flows_within n table [] mults = let none = sum_below-zero n (amounts table []) (λ i l. refl) in omega (arith, ints)
flows_within n table (p ∷ pairs) mults =
    let walk = cycle_at table (p.cycle - 1) in
    let small = All-head (λ (p : Pair). unsigned_abs p.mult ≤ 1000000000000) p pairs mults in
    let nets : ℕ → ℤ = λ i. pos (unsigned_abs (net_count walk i)) in
    let before = flows_within n table pairs (All-tail (λ (p : Pair). unsigned_abs p.mult ≤ 1000000000000) p pairs mults) in
    let each = sum_below-le n (amounts table (p ∷ pairs))
    (λ i. pos 1000000000000 *ℤ nets i +ℤ amounts table pairs i) (λ i l. flow-cons table p pairs i small) in
    let apart = sum_below-add n (λ i. pos 1000000000000 *ℤ nets i) (amounts table pairs) in
    let here = sum_below-mul (pos 1000000000000) n nets in
    let short = amounts_short n walk in
    let rows = sum_by-cons (λ (p : Pair). length (cycle_at table (p.cycle - 1))) p pairs in
    omega (arith, ints)

-- ---- the pairs' cycles are different cycles of the table

take-le : {X : Type 0} (f : X → ℕ) (xs : List X) (m k : ℕ) → m ≤ k → sum_by f (take m xs) ≤ sum_by f (take k xs)
take-le f xs zero k h = omega arith
take-le f xs (suc m) zero h = absurd (omega arith)
take-le f [] (suc m) (suc k) h = omega arith
take-le f (x ∷ xs) (suc m) (suc k) h = omega (
  arith,
  sum_by-cons f x (take m xs),
  sum_by-cons f x (take k xs),
  take-le f xs m k (omega arith),
)

-- pairs above the first m cycles
rows_above : (table : List (List SignedRow)) (pairs : List Pair) (m : ℕ) → m ≤ length table → Rise pairs
    → ((i : ℕ) (d : Pair) → i < length pairs → (m < (get_or pairs i d).cycle)
    × ((get_or pairs i d).cycle ≤ length table))
    → sum_by length (take m table) + rows_of table pairs ≤ sum_by length table
rows_above table [] m inside rise above = omega (arith, sum_by-take-le length table m)
rows_above table (p ∷ pairs) m inside rise above =
    let here = above 0 p (omega arith) in
    let low = here.0 in
    let high = here.1 in
    let rest = rows_above table pairs p.cycle high
    (λ i j d l h. rise (suc i) (suc j) d (omega arith) (omega arith))
    (λ i d l. (rise 0 (suc i) d (omega arith) (omega arith), (above (suc i) d (omega arith)).1)) in
    let more = sum_by_more length table (p.cycle - 1) [] (omega arith) in
    let at : p.cycle - 1 + 1 ≡ p.cycle = omega arith in
    let same = ap (λ k. sum_by length (take k table)) at in
    let before = take-le length table m (p.cycle - 1) (omega arith) in
    let rows = sum_by-cons (λ (p : Pair). length (cycle_at table (p.cycle - 1))) p pairs in
    omega arith

rows_few : (table : List (List SignedRow)) (pairs : List Pair) → IsSmallTable table → ArePairs (length table) pairs
    → rows_of table pairs ≤ 10000000
rows_few table pairs small are =
    let all = rows_above table pairs 0 (omega arith) are.rise
    (λ i d l. (let names = (are.each i d l).names in let low = names.0 in (omega arith, names.1))) in
    let most = small.rows in
    omega arith

-- ---- the whole

slack_within : (n : Net) (table : List (List SignedRow)) (node : Node) (pairs : List Pair) (weighted : Bool)
    (i : ℕ) → i < length n.arcs → AreArcs n.arcs → AreSlackEnds node.slacks → length node.slacks ≡ length n.arcs
    → pos (unsigned_abs (slack_part n table node pairs weighted i)) ≤ℤ (pos 10000 *ℤ (amounts table pairs i +ℤ pos 1000000000))
slack_within n table node pairs weighted i l limits ends long =
    let weight = weight_small weighted (arc_at n.arcs i) (limits i no_arc l).2 in
    let range = ends i (0, 0) (omega arith) in
    let rest = weight_of weighted (arc_at n.arcs i) -ℤ flow table pairs i in
    let low = product_within rest (pos (slack_range node.slacks i).0) 10000 range.0 in
    let high = product_within rest (pos (slack_range node.slacks i).1) 10000 range.1 in
    omega (arith, ints, clamps)

lower_within : (n : Net) (table : List (List SignedRow)) (pairs : List Pair) (i : ℕ) → i < length n.arcs
    → AreArcs n.arcs → pos (unsigned_abs (flow table pairs i *ℤ (arc_at n.arcs i).lower))
    ≤ℤ (pos 1020000 *ℤ amounts table pairs i)
lower_within n table pairs i l limits =
    let product = product_within (flow table pairs i) (arc_at n.arcs i).lower 1020000 (limits i no_arc l).0 in
    omega (arith, ints)

together : (t : ℤ) (lower slack : ℤ) (part : Option ℤ)
    → IfSome part (λ z. unsigned_abs (t *ℤ z) ≤ 1000000000000 * (1030000 * 10000000))
    → unsigned_abs lower ≤ 1020000 * (1000000000000 * 10000000)
    → unsigned_abs slack ≤ 10000 * (1000000000000 * 10000000 + 100000 * 1000000000)
    → IfSome (option_map (λ z. t *ℤ z -ℤ lower +ℤ slack) part) (λ v. unsigned_abs v < 10 ^ 26)
together t lower slack None offsets l s = tt
together t lower slack (Some z) offsets l s = omega (arith, ints)

-- the value of a leaf is below 10^26 by amount
pub value_small : (p : ProblemValue) (node : Node) (pairs : List Pair) (weighted : Bool) → KeepsNetLimits p.network
    → IsSmallTable p.table → AreSlackEnds node.slacks → IsNodeOf p node → ArePairs (length p.table) pairs
    → IfSome (leaf_value (problem_net p) p.table node pairs weighted) (λ v. unsigned_abs v < 10 ^ 26)
value_small p node pairs weighted keeps small ends is are =
    let n = problem_net p in
    let table = p.table in
    let m = length n.arcs in
    let arcs_long : m ≡ length p.network.rows = length-map p.network.rows arc_of_net in
    let long : length node.slacks ≡ m = omega (arith, is.slacks) in
    let few : m ≤ 100000 = omega (arith, keeps.rows_most) in
    let limits = arcs_small p.network keeps in
    let mults : All (λ pair. unsigned_abs pair.mult ≤ 1000000000000) pairs = λ i d l. (are.each i d l).most in
    let rows = rows_few table pairs small are in
    let flows = flows_within m table pairs mults in
    let lowers = within m 1020000 (λ i. flow table pairs i *ℤ (arc_at n.arcs i).lower) (amounts table pairs)
    (λ i l. lower_within n table pairs i l limits) in
    let slacks = within m 10000 (slack_part n table node pairs weighted)
    (λ i. amounts table pairs i +ℤ pos 1000000000)
    (λ i l. slack_within n table node pairs weighted i l limits ends long) in
    let apart = sum_below-add m (amounts table pairs) (λ i. pos 1000000000) in
    let weights = same_terms m 1000000000 in
    let offsets = offsets_within n table node pairs keeps.some_period limits ends long mults in
    together (pos n.period) (over_arcs n.arcs (λ i. flow table pairs i *ℤ (arc_at n.arcs i).lower))
    (over_arcs n.arcs (slack_part n table node pairs weighted)) (offset_part n table node pairs)
    (fewer (pos n.period) rows (offset_part n table node pairs) offsets) (omega (arith, ints))
    (omega (arith, ints))
  where
    same_terms : (m k : ℕ) → sum_below m (λ i. pos k) ≡ pos (m * k)
    same_terms zero k = omega (arith, ints)
    same_terms (suc m) k = omega (arith, ints, same_terms m k)

    fewer : {rows : ℕ} (t : ℤ) → rows ≤ 10000000 → (part : Option ℤ)
        → IfSome part (λ z. unsigned_abs (t *ℤ z) ≤ 1000000000000 * (1030000 * rows))
        → IfSome part (λ z. unsigned_abs (t *ℤ z) ≤ 1000000000000 * (1030000 * 10000000))
    fewer t h None k = tt
    fewer t h (Some z) k = omega arith
