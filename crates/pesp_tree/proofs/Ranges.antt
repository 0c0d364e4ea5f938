-- No range along a path passes the limits, and so no cut that leaves both sides a value does.
use Rattle.std.proofs.Common.{◌≡◌, ℕ, zero, suc, ◌-◌, ◌*◌, ◌<◌, ◌≤◌, List, [], ◌∷◌, length, get_or, set, map, arith, inl, inr}
use Rattle.std.specs.Prelude.{ℤ, pos, negsuc, neg_ℤ, ◌+ℤ◌, ◌*ℤ◌, ◌≤ℤ◌, unsigned_abs}
use Rattle.std.proofs.lemmas.Int.{ints, clamps, unsigned_abs-mul}
use Rattle.std.proofs.lemmas.Bool.{cases_lt}
use Rattle.std.proofs.lemmas.List.{get_or-map, length-map, get_or_past}
use Rattle.std.proofs.lemmas.List.Sums.{get_or-le-sum_by}
use Rattle.std.proofs.Math.Nat.{mul-le-mul_left}
use Rattle.pesp_problem.specs.declared.row.SignedRow.{SignedRow}
use Rattle.pesp_problem.specs.declared.arc.Arc.{Arc}
use Rattle.pesp_problem.specs.declared.cut.Cut.{Cut}
use Rattle.pesp_problem.specs.declared.cut.Cut.TheVariants.{Slack, Offset}
use Rattle.pesp_problem.specs.declared.cut.Side.{Side}
use Rattle.pesp_problem.specs.declared.cut.Side.TheVariants.{Low, High}
use Rattle.pesp_problem.specs.Sums.{sum_below, scaled, ceil_div, floor_div}
use Rattle.pesp_problem.specs.Arcs.{no_arc, arc_at, over_arcs}
use Rattle.pesp_problem.specs.Walks.{net_count}
use Rattle.pesp_problem.specs.Nodes.{Node, slack_range, offset_range, cycle_at, least_sum, greatest_sum, odijk_range, root_slacks, part, LeavesBoth}
use Rattle.pesp_problem.proofs.Integers.{le-ceil_div, floor_div-le}
use Rattle.pesp_problem.proofs.Nodes.{set_cases}
use Rattle.pesp_truth.specs.Trees.{CutExists}
use Rattle.pesp_truth.specs.Paths.{along}
use Rattle.pesp_network.specs.Networks.{KeepsNetLimits}
use Rattle.pesp_problem.specs.Ranges.{AreSlackEnds}
use Rattle.pesp_nodes.specs.Offsets.{AreArcs}
use Rattle.pesp_nodes.specs.Problems.{ProblemValue, problem_net, IsSmallTable, IsCutOf}
use Rattle.pesp_problem.proofs.Counts.{amounts_short}
use Rattle.pesp_nodes.proofs.Keeping.{arcs_small, spans_small}
use Rattle.pesp_tree.specs.States.{root_of, node_at}

-- ---- sums along a walk

-- at most so many times the amounts of the counts
term_size : (c low high : ℤ) → unsigned_abs low ≤ 1030000 → unsigned_abs high ≤ 1030000
    → unsigned_abs (scaled c low high) ≤ 1030000 * unsigned_abs c
term_size (pos n) low high h k = omega (arith, unsigned_abs-mul (pos n) low, mul-le-mul_left n h)
term_size (negsuc n) low high h k = omega (arith, unsigned_abs-mul (negsuc n) high, mul-le-mul_left (suc n) k)

sum_size : (n : ℕ) (f : ℕ → ℤ) (g : ℕ → ℕ) → ((i : ℕ) → i < n → unsigned_abs (f i) ≤ 1030000 * g i)
    → pos (unsigned_abs (sum_below n f)) ≤ℤ (pos 1030000 *ℤ sum_below n (λ i. pos (g i)))
sum_size zero f g h = omega (arith, ints)
sum_size (suc n) f g h = omega (arith, ints, sum_size n f g (λ i l. h i (omega arith)), h n (omega arith))

duration_size : (arcs : List Arc) (slacks : List (ℕ × ℕ)) (i : ℕ) → AreArcs arcs → AreSlackEnds slacks
    → i < length arcs → length slacks ≡ length arcs
    → (unsigned_abs ((arc_at arcs i).lower +ℤ pos (slack_range slacks i).0) ≤ 1030000)
    × (unsigned_abs ((arc_at arcs i).lower +ℤ pos (slack_range slacks i).1) ≤ 1030000)
duration_size arcs slacks i h k l e =
    let arc = h i no_arc l in
    let range = k i (0, 0) (omega arith) in
    (omega (arith, ints, arc.0, range.0), omega (arith, ints, arc.0, range.1))

pub walk_size : (arcs : List Arc) (walk : List SignedRow) (f : ℕ → ℤ) → length walk ≤ 10000000
    → ((i : ℕ) → i < length arcs → unsigned_abs (f i) ≤ 1030000 * unsigned_abs (net_count walk i))
    → unsigned_abs (over_arcs arcs f) ≤ 10300000000000
walk_size arcs walk f h k = omega (
  arith,
  ints,
  sum_size (length arcs) f (λ i. unsigned_abs (net_count walk i)) k,
  amounts_short (length arcs) walk,
)

pub least_size : (arcs : List Arc) (slacks : List (ℕ × ℕ)) (walk : List SignedRow) → AreArcs arcs
    → AreSlackEnds slacks → length slacks ≡ length arcs → length walk ≤ 10000000
    → unsigned_abs (least_sum arcs slacks walk) ≤ 10300000000000
least_size arcs slacks walk h k e l = walk_size arcs walk _ l
    (λ i b. let sizes = duration_size arcs slacks i h k b e in term_size (net_count walk i) _ _ sizes.0 sizes.1)

pub greatest_size : (arcs : List Arc) (slacks : List (ℕ × ℕ)) (walk : List SignedRow) → AreArcs arcs
    → AreSlackEnds slacks → length slacks ≡ length arcs → length walk ≤ 10000000
    → unsigned_abs (greatest_sum arcs slacks walk) ≤ 10300000000000
greatest_size arcs slacks walk h k e l = walk_size arcs walk _ l
    (λ i b. let sizes = duration_size arcs slacks i h k b e in term_size (net_count walk i) _ _ sizes.1 sizes.0)

-- ---- quotients

below_by : (t : ℕ) (q : ℤ) (b : ℕ) → 0 < t → (pos t *ℤ q) ≤ℤ pos b → q ≤ℤ pos b
below_by t (pos n) b h k = omega (arith, ints, mul-le-mul_left n h)
below_by t (negsuc n) b h k = omega (arith, ints)

above_by : (t : ℕ) (q : ℤ) (b : ℕ) → 0 < t → neg_ℤ (pos b) ≤ℤ (pos t *ℤ q) → neg_ℤ (pos b) ≤ℤ q
above_by t (pos n) b h k = omega (arith, ints)
above_by t (negsuc n) b h k = omega (arith, ints, mul-le-mul_left (suc n) h)

floor_div_below : (z : ℤ) (t b : ℕ) → 0 < t → unsigned_abs z ≤ b → floor_div z t ≤ℤ pos b
floor_div_below z t b h k = below_by t (floor_div z t) b h (omega (arith, ints, floor_div-le z t h))

ceil_div_above : (z : ℤ) (t b : ℕ) → 0 < t → unsigned_abs z ≤ b → neg_ℤ (pos b) ≤ℤ ceil_div z t
ceil_div_above z t b h k = above_by t (ceil_div z t) b h (omega (arith, ints, le-ceil_div z t h))

-- ---- ranges

-- no slack range goes beyond 9999, and no offset range beyond 10300000000000 by amount
pub record KeepsRanges (node : Node) : Type 0 where
  pub slacks : (i : ℕ) → (slack_range node.slacks i).1 ≤ 9999
  pub least : (c : ℕ) → neg_ℤ (pos 10300000000000) ≤ℤ (offset_range node.offsets c).0
  pub greatest : (c : ℕ) → (offset_range node.offsets c).1 ≤ℤ pos 10300000000000

-- each place of a list that is set keeps what the old ones and the new one keep
set_keeps : {A : Type 0} (P : A → Type 0) (xs : List A) (j : ℕ) (x d : A) → ((i : ℕ) → P (get_or xs i d)) → P x
    → (i : ℕ) → P (get_or (set xs j x) i d)
set_keeps P xs j x d h k i = elim (set_cases xs j i x d) [ inl e ↦ rw e (h i) | inr e ↦ rw (e.1) k ]

abbrev IsSmallRange : ℕ × ℕ → Type 0
IsSmallRange range = range.1 ≤ 9999

abbrev IsHighRange : ℤ × ℤ → Type 0
IsHighRange range = neg_ℤ (pos 10300000000000) ≤ℤ range.0

abbrev IsLowRange : ℤ × ℤ → Type 0
IsLowRange range = range.1 ≤ℤ pos 10300000000000

part_keeps : (node : Node) (cut : Cut) (side : Side) → KeepsRanges node → KeepsRanges (part node cut side)
part_keeps node (Slack row k) Low h = record {
  slacks = set_keeps IsSmallRange node.slacks (row - 1) _ (0, 0) h.slacks (omega (arith, h.slacks (row - 1)));
  least = h.least;
  greatest = h.greatest;
}
part_keeps node (Slack row k) High h = record {
  slacks = set_keeps IsSmallRange node.slacks (row - 1) _ (0, 0) h.slacks (h.slacks (row - 1));
  least = h.least;
  greatest = h.greatest;
}
part_keeps node (Offset cycle k) Low h = record {
  slacks = h.slacks;
  least = set_keeps IsHighRange node.offsets (cycle - 1) _ (pos 0, pos 0) h.least (h.least (cycle - 1));
  greatest = set_keeps IsLowRange node.offsets (cycle - 1) _ (pos 0, pos 0) h.greatest
      (omega (arith, ints, clamps, h.greatest (cycle - 1)));
}
part_keeps node (Offset cycle k) High h = record {
  slacks = h.slacks;
  least = set_keeps IsHighRange node.offsets (cycle - 1) _ (pos 0, pos 0) h.least (omega (arith, ints, clamps, h.least (cycle - 1)));
  greatest = set_keeps IsLowRange node.offsets (cycle - 1) _ (pos 0, pos 0) h.greatest (h.greatest (cycle - 1));
}

along_keeps : (node : Node) (path : List (Cut × Side)) → KeepsRanges node → KeepsRanges (along node path)
along_keeps node [] h = h
along_keeps node (step ∷ path) h = along_keeps (part node step.0 step.1) path (part_keeps node step.0 step.1 h)

-- ---- the root

-- each place of a mapped list keeps what each image and the default keep
map_keeps : {A B : Type 0} (P : B → Type 0) (f : A → B) (xs : List A) (e : A) (d : B)
    → ((i : ℕ) → i < length xs → P (f (get_or xs i e))) → P d → (i : ℕ) → P (get_or (map f xs) i d)
map_keeps P f xs e d h k i =
    elim (cases_lt i (length xs)) [
      | inl inside ↦ rw (get_or-map f xs i e d inside) (h i inside)
      | inr past ↦ rw (get_or_past (map f xs) i d (omega (arith, length-map xs f, past))) k
    ]

walk_short : (table : List (List SignedRow)) (c : ℕ) → IsSmallTable table → c < length table → length (cycle_at table c) ≤ 10000000
walk_short table c small l = omega (arith, get_or-le-sum_by length table c [] l, small.rows)

root_keeps : (p : ProblemValue) → KeepsNetLimits p.network → IsSmallTable p.table → KeepsRanges (root_of p)
root_keeps p limits small =
    let n = problem_net p in
    let full : Arc → ℕ × ℕ = λ arc. (0, arc.span) in
    let arcs : AreArcs n.arcs = arcs_small p.network limits in
    let ends : AreSlackEnds (root_slacks n) = spans_small n.arcs arcs in
    let long : length (root_slacks n) ≡ length n.arcs = length-map n.arcs full in
    let some : 0 < n.period = (let period = limits.some_period in omega arith) in
    record {
      slacks = map_keeps IsSmallRange full n.arcs no_arc (0, 0) (λ i l. (arcs i no_arc l).1) (omega arith);
      least = map_keeps IsHighRange (odijk_range n (root_slacks n)) p.table [] (pos 0, pos 0)
          (λ c l. ceil_div_above _ n.period 10300000000000 some
          (least_size n.arcs (root_slacks n) (cycle_at p.table c) arcs ends long (walk_short p.table c small l)))
          (omega (arith, ints));
      greatest = map_keeps IsLowRange (odijk_range n (root_slacks n)) p.table [] (pos 0, pos 0)
          (λ c l. floor_div_below _ n.period 10300000000000 some
          (greatest_size n.arcs (root_slacks n) (cycle_at p.table c) arcs ends long
          (walk_short p.table c small l))) (omega (arith, ints));
    }

-- ---- cuts

within : (b : ℕ) (low high k : ℤ) → neg_ℤ (pos b) ≤ℤ low → high ≤ℤ pos b → low ≤ℤ k → (k +ℤ pos 1) ≤ℤ high → unsigned_abs k ≤ b
within b low high k h l m n = omega (arith, ints)

-- what a cut names exists, and it leaves both sides a value: then it keeps its limit
pub cut_keeps_limits : (p : ProblemValue) (path : List (Cut × Side)) (cut : Cut) → KeepsNetLimits p.network
    → IsSmallTable p.table → CutExists (problem_net p) p.table cut → LeavesBoth (node_at p path) cut
    → IsCutOf (root_of p) cut
cut_keeps_limits p path (Slack row k) limits small e both =
    let ranges = along_keeps (root_of p) path (root_keeps p limits small) in
    let full : Arc → ℕ × ℕ = λ arc. (0, arc.span) in
    let long : length (root_slacks (problem_net p)) ≡ length (problem_net p).arcs = length-map (problem_net p).arcs full in
    ((e.0, omega (arith, e.1, long)), omega (arith, both.1, ranges.slacks (row - 1)))
cut_keeps_limits p path (Offset cycle k) limits small e both =
    let ranges = along_keeps (root_of p) path (root_keeps p limits small) in
    let long : length (root_of p).offsets ≡ length p.table = length-map p.table (odijk_range (problem_net p) (root_slacks (problem_net p))) in
    let size : unsigned_abs k ≤ 10300000000000 =
    within 10300000000000 _ _ k (ranges.least (cycle - 1)) (ranges.greatest (cycle - 1)) both.0 both.1 in
    ((e.0, omega (arith, e.1, long)), omega (arith, size))
