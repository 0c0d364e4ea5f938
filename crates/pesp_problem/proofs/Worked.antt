-- Small instances worked by hand, against what the definitions compute.
use Rattle.std.proofs.Common.{◌≡◌, ℕ, ◌<◌, List, [], ◌∷◌, refl, arith, true, false}
use Rattle.std.specs.Prelude.{ℤ, pos, negsuc, neg_ℤ, ◌-ℤ◌, ◌≤ℤ◌, Some, None, IsSomeAnd, All}
use Rattle.std.proofs.lemmas.List.Elements.{All-cons, All-nil}
use Rattle.std.proofs.lemmas.Int.{ints, clamps}
use lib.Signed.{le_z_yes}
use Rattle.pesp_problem.specs.declared.row.Row.{Row}
use Rattle.pesp_problem.specs.declared.row.SignedRow.{SignedRow}
use Rattle.pesp_problem.specs.declared.pair.Pair.{Pair}
use Rattle.pesp_problem.specs.declared.cut.Cut.TheVariants.{Slack, Offset}
use Rattle.pesp_problem.specs.Timetables.{Pesp, row_at, slack, cost, IsSatisfied, IsTimetableOfCost}
use Rattle.pesp_problem.specs.Arcs.{arcs_of, net_of, span}
use Rattle.pesp_problem.specs.Walks.{net_count}
use Rattle.pesp_problem.specs.Nodes.{Node, root, root_slacks, least_sum, greatest_sum, offsets_left, leaf_value, low_part, high_part}
use Rattle.pesp_problem.proofs.Arcs.{slack-lt-period}

abbrev pub row : ℤ → ℕ → ℕ → ℤ → ℤ → ℕ → Row
row label tail head lower upper weight = record { label = label; tail = tail; head = head; lower = lower; upper = upper; weight = weight }

abbrev pub plus : ℕ → SignedRow
plus number = record { row = number; plus = true }

abbrev pub minus : ℕ → SignedRow
minus number = record { row = number; plus = false }

abbrev pub pair : ℕ → ℤ → Pair
pair cycle mult = record { cycle = cycle; mult = mult }

pub single : {X : Type 0} (P : X → Type 0) (x : X) → P x → All P (x ∷ [])
single P x h = All-cons P x [] h (All-nil P)

pub both : {X : Type 0} (P : X → Type 0) (x y : X) → P x → P y → All P (x ∷ y ∷ [])
both P x y h k = All-cons P x (y ∷ []) h (single P y k)

pub three : {X : Type 0} (P : X → Type 0) (x y z : X) → P x → P y → P z → All P (x ∷ y ∷ z ∷ [])
three P x y z h k l = All-cons P x (y ∷ z ∷ []) h (both P y z k l)

-- ---- slacks, spans and costs

-- one row, both events at one time
abbrev pub one_row : Pesp
one_row = record { period = 10; events = pos 1 ∷ pos 2 ∷ []; rows = row (pos 1) 0 1 (pos 0) (pos 9) 3 ∷ [] }

pub one_row_timetable : IsTimetableOfCost one_row (0 ∷ 0 ∷ []) 0
one_row_timetable = (
  (
    (refl, both (λ t. t < 10) 0 0 (omega arith) (omega arith)),
    single (λ r. IsSatisfied one_row (0 ∷ 0 ∷ []) r) (row (pos 1) 0 1 (pos 0) (pos 9) 3) (le_z_yes tt),
  ),
  refl,
)

-- a row whose slack at equal times is its lower bound short of the period
abbrev pub late : Pesp
late = record { period = 60; events = pos 1 ∷ pos 2 ∷ []; rows = row (pos 1) 0 1 (pos 5) (pos 10) 7 ∷ [] }

late_slack : slack 60 (0 ∷ 0 ∷ []) (row_at late.rows 0) ≡ 55
late_slack = refl

late_violated : IsSatisfied late (0 ∷ 0 ∷ []) (row_at late.rows 0) → ⊥
late_violated s = omega (arith, s.le)

-- bounds that are a whole period apart: the span is the period less 1
abbrev pub wide : Pesp
wide = record { period = 10; events = pos 1 ∷ pos 2 ∷ []; rows = row (pos 1) 0 1 (pos 3) (pos 13) 4 ∷ [] }

wide_span : span 10 (row_at wide.rows 0) ≡ 9
wide_span = refl

wide_root : root_slacks (net_of wide) ≡ (0, 9) ∷ []
wide_root = refl

wide_slack : slack 10 (0 ∷ 0 ∷ []) (row_at wide.rows 0) ≡ 7
wide_slack = refl

wide_cost : cost 10 wide.rows (0 ∷ 0 ∷ []) ≡ 28
wide_cost = refl

-- at period 1 each slack is 0
period_one : (times : List ℕ) (r : Row) → slack 1 times r ≡ 0
period_one times r = omega (arith, slack-lt-period 1 times r (omega arith))

-- a lower bound below 0 beside a fixed row
abbrev pub beside_fixed : Pesp
beside_fixed = record {
  period = 10;
  events = pos 1 ∷ pos 2 ∷ [];
  rows = row (pos 1) 0 1 (neg_ℤ (pos 5)) (pos 4) 1 ∷ row (pos 2) 0 1 (pos 5) (pos 5) 1 ∷ [];
}

beside_fixed_slacks : (slack 10 (0 ∷ 5 ∷ []) (row_at beside_fixed.rows 0) ≡ 0) × (slack 10 (0 ∷ 5 ∷ []) (row_at beside_fixed.rows 1) ≡ 0)
beside_fixed_slacks = (refl, refl)

-- ---- two rows against one another

abbrev pub against : Pesp
against = record {
  period = 10;
  events = pos 1 ∷ pos 2 ∷ [];
  rows = row (pos 1) 0 1 (pos 3) (pos 12) 2 ∷ row (pos 2) 1 0 (pos 4) (pos 13) 1 ∷ [];
}

abbrev pub against_table : List (List SignedRow)
against_table = (plus 1 ∷ plus 2 ∷ []) ∷ []

abbrev pub against_root : Node
against_root = root (net_of against) against_table

against_sums : (least_sum (arcs_of against) against_root.slacks (plus 1 ∷ plus 2 ∷ []) ≡ pos 7)
    × (greatest_sum (arcs_of against) against_root.slacks (plus 1 ∷ plus 2 ∷ []) ≡ pos 25)
against_sums = (refl, refl)

against_offsets : offsets_left (net_of against) against_table against_root 0 ≡ Some (pos 1, pos 2)
against_offsets = refl

against_value : leaf_value (net_of against) against_table against_root (pair 1 (pos 1) ∷ []) true ≡ Some (pos 3)
against_value = refl

-- with weights 0 the same pairs show nothing
against_unweighted : leaf_value (net_of against) against_table against_root (pair 1 (pos 1) ∷ []) false ≡ Some (neg_ℤ (pos 15))
against_unweighted = refl

against_cost : cost 10 against.rows (0 ∷ 3 ∷ []) ≡ 3
against_cost = refl

against_cost_at_zero : cost 10 against.rows (0 ∷ 0 ∷ []) ≡ 20
against_cost_at_zero = refl

-- ---- two rows side by side

abbrev pub aside : Pesp
aside = record {
  period = 10;
  events = pos 1 ∷ pos 2 ∷ [];
  rows = row (pos 1) 0 1 (pos 0) (pos 9) 1 ∷ row (pos 2) 0 1 (pos 5) (pos 14) 1 ∷ [];
}

abbrev pub aside_table : List (List SignedRow)
aside_table = (plus 1 ∷ minus 2 ∷ []) ∷ []

abbrev pub aside_root : Node
aside_root = root (net_of aside) aside_table

-- offsets up to -1, and from 0
abbrev pub aside_low : Node
aside_low = low_part aside_root (Offset 1 (negsuc 0))

abbrev pub aside_high : Node
aside_high = high_part aside_root (Offset 1 (negsuc 0))

aside_sums : (least_sum (arcs_of aside) aside_root.slacks (plus 1 ∷ minus 2 ∷ []) ≡ neg_ℤ (pos 14))
    × (greatest_sum (arcs_of aside) aside_root.slacks (plus 1 ∷ minus 2 ∷ []) ≡ pos 4)
aside_sums = (refl, refl)

aside_offsets : offsets_left (net_of aside) aside_table aside_root 0 ≡ Some (negsuc 0, pos 0)
aside_offsets = refl

aside_low_value : leaf_value (net_of aside) aside_table aside_low (pair 1 (negsuc 0) ∷ []) true ≡ Some (pos 5)
aside_low_value = refl

aside_high_value : leaf_value (net_of aside) aside_table aside_high (pair 1 (pos 1) ∷ []) true ≡ Some (pos 5)
aside_high_value = refl

-- the leaves exchanged
aside_exchanged : leaf_value (net_of aside) aside_table aside_low (pair 1 (pos 1) ∷ []) true ≡ Some (neg_ℤ (pos 5))
aside_exchanged = refl

-- at the root itself neither sign helps, nor no pairs
aside_root_minus : leaf_value (net_of aside) aside_table aside_root (pair 1 (negsuc 0) ∷ []) true ≡ Some (neg_ℤ (pos 5))
aside_root_minus = refl

aside_root_plus : leaf_value (net_of aside) aside_table aside_root (pair 1 (pos 1) ∷ []) true ≡ Some (neg_ℤ (pos 5))
aside_root_plus = refl

aside_root_none : leaf_value (net_of aside) aside_table aside_root [] true ≡ Some (pos 0)
aside_root_none = refl

-- and so no whole multiplier gives the root a value above 0
aside_root_any : (m : ℤ) → IsSomeAnd (leaf_value (net_of aside) aside_table aside_root (pair 1 m ∷ []) true) (λ v. v ≤ℤ pos 0)
aside_root_any (pos n) = omega (arith, ints, clamps)
aside_root_any (negsuc n) = omega (arith, ints, clamps)

-- no pairs show nothing either: the value is exactly 0
aside_empty_value : leaf_value (net_of aside) aside_table aside_root [] false ≡ Some (pos 0)
aside_empty_value = refl

-- a cut of the first row's slack at 2, and its two parts
aside_slack_cut : ((low_part aside_root (Slack 1 2)).slacks ≡ (0, 2) ∷ (0, 9) ∷ [])
    × ((high_part aside_root (Slack 1 2)).slacks ≡ (3, 9) ∷ (0, 9) ∷ [])
aside_slack_cut = (refl, refl)

aside_cost : cost 10 aside.rows (0 ∷ 0 ∷ []) ≡ 5
aside_cost = refl

-- ---- loops

abbrev pub loop_table : List (List SignedRow)
loop_table = (plus 1 ∷ []) ∷ []

abbrev pub loop : Pesp
loop = record { period = 10; events = pos 1 ∷ []; rows = row (pos 1) 0 0 (pos 3) (pos 12) 2 ∷ [] }

loop_slack : slack 10 (0 ∷ []) (row_at loop.rows 0) ≡ 7
loop_slack = refl

loop_offsets : offsets_left (net_of loop) loop_table (root (net_of loop) loop_table) 0 ≡ Some (pos 1, pos 1)
loop_offsets = refl

loop_value : leaf_value (net_of loop) loop_table (root (net_of loop) loop_table) (pair 1 (pos 2) ∷ []) true ≡ Some (pos 14)
loop_value = refl

loop_cost : cost 10 loop.rows (0 ∷ []) ≡ 14
loop_cost = refl

-- no multiple of the period lies between 3 and 9
abbrev pub tight_loop : Pesp
tight_loop = record { period = 10; events = pos 1 ∷ []; rows = row (pos 1) 0 0 (pos 3) (pos 9) 2 ∷ [] }

tight_loop_sums : (least_sum (arcs_of tight_loop) (root_slacks (net_of tight_loop)) (plus 1 ∷ []) ≡ pos 3)
    × (greatest_sum (arcs_of tight_loop) (root_slacks (net_of tight_loop)) (plus 1 ∷ []) ≡ pos 9)
tight_loop_sums = (refl, refl)

tight_loop_offsets : offsets_left (net_of tight_loop) loop_table (root (net_of tight_loop) loop_table) 0 ≡ None
tight_loop_offsets = refl

tight_loop_value : leaf_value (net_of tight_loop) loop_table (root (net_of tight_loop) loop_table) (pair 1 (pos 1) ∷ []) true ≡ None
tight_loop_value = refl

-- numbers near the limits
abbrev pub large : Pesp
large = record { period = 10000; events = pos 1 ∷ []; rows = row (pos 1) 0 0 (pos 1) (pos 1000000) 1000000000 ∷ [] }

large_slack : slack 10000 (0 ∷ []) (row_at large.rows 0) ≡ 9999
large_slack = refl

large_offsets : offsets_left (net_of large) loop_table (root (net_of large) loop_table) 0 ≡ Some (pos 1, pos 1)
large_offsets = refl

large_value : leaf_value (net_of large) loop_table (root (net_of large) loop_table)
    (pair 1 (pos 1000000000) ∷ []) true ≡ Some (pos 10000000000000 -ℤ pos 1000000000)
large_value = refl

large_cost : cost 10000 large.rows (0 ∷ []) ≡ 9999000000000
large_cost = refl

-- ---- two cycles that only together show that there is no timetable

abbrev pub crossed : Pesp
crossed = record {
  period = 10;
  events = pos 1 ∷ pos 2 ∷ [];
  rows = row (pos 1) 0 1 (pos 0) (pos 4) 1 ∷ row (pos 2) 1 0 (pos 5) (pos 8) 1
      ∷ row (pos 3) 0 1 (pos 0) (pos 1) 1 ∷ [];
}

abbrev pub crossed_table : List (List SignedRow)
crossed_table = (plus 1 ∷ plus 2 ∷ []) ∷ (plus 1 ∷ minus 3 ∷ []) ∷ []

crossed_offsets : (offsets_left (net_of crossed) crossed_table (root (net_of crossed) crossed_table) 0
    ≡ Some (pos 1, pos 1)) × (offsets_left (net_of crossed) crossed_table (root (net_of crossed) crossed_table) 1
    ≡ Some (pos 0, pos 0))
crossed_offsets = (refl, refl)

crossed_value : leaf_value (net_of crossed) crossed_table (root (net_of crossed) crossed_table)
    (pair 1 (pos 1) ∷ pair 2 (negsuc 0) ∷ []) false ≡ Some (pos 1)
crossed_value = refl

-- ---- net counts of a walk that passes a row both ways

both_ways : (net_count (plus 1 ∷ minus 1 ∷ plus 2 ∷ plus 2 ∷ []) 0 ≡ pos 0)
    × (net_count (plus 1 ∷ minus 1 ∷ plus 2 ∷ plus 2 ∷ []) 1 ≡ pos 2)
both_ways = (refl, refl)
