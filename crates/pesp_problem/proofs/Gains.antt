-- The cycle inequality: what a marked walk gains at a node is at least its rest times the period less the rest.
use Rattle.std.proofs.Common.{◌≡◌, ℕ, ◌+◌, ◌-◌, ◌*◌, ◌<◌, ◌≤◌, Bool, true, false, List, [], ◌∷◌, refl, ap, arith, sym, ◌∙◌}
use Rattle.std.specs.Prelude.{ℤ, pos, negsuc, ◌+ℤ◌, ◌-ℤ◌, ◌*ℤ◌, neg_ℤ, ◌≤ℤ◌, not, if◌then◌else◌}
use Rattle.std.specs.Int.{int_div_euclid}
use Rattle.std.proofs.lemmas.Int.{ints}
use Rattle.std.proofs.lemmas.List.Elements.{All-head, All-tail}
use Rattle.pesp_problem.specs.declared.arc.Arc.{Arc}
use Rattle.pesp_problem.specs.Arcs.{Net, arc_at, slacks_at}
use Rattle.pesp_problem.specs.Walks.{RowExists, AreRows, sign, HasWholeOffset}
use Rattle.pesp_problem.specs.Nodes.{slack_range, SlacksIn}
use Rattle.pesp_problem.proofs.Integers.{mul-add, quotient-remainder, remainder-lt}
use Rattle.pesp_problem.proofs.Walks.{sum_along, net_count_sum, has_offset}
use Rattle.pesp_problem.specs.declared.marked.MarkedRow.{MarkedRow}
use Rattle.pesp_problem.specs.Marked.{signed_rows, IsMarkedWalk, place, walk_sum, distance, rises, base, rest, gain, least_gain}
use Rattle.pesp_problem.proofs.Rests.{least_of_both}

-- ---- one row

-- p and q are what a row's distance adds to the distances in direction plus and to those in direction minus
record IsPart (up down : ℕ) (flipped plus : Bool) (low high y : ℕ) (lower : ℤ) (p q : ℕ) : Type 0 where
  gains : pos (if (if flipped then not plus else plus) then up else down)
      *ℤ (if flipped then pos high -ℤ pos y else pos y -ℤ pos low) ≡ pos (up * p + down * q)
  durations : (if plus then pos 1 else negsuc 0) *ℤ (lower +ℤ pos y)
      ≡ (if plus then pos 1 else negsuc 0) *ℤ (lower +ℤ pos (if flipped then high else low)) +ℤ (pos p -ℤ pos q)

apart : (a b : ℕ) → a ≤ b → pos b -ℤ pos a ≡ pos (b - a)
apart a b h = omega (arith, ints)

times : (k a b : ℕ) → a ≤ b → pos k *ℤ (pos b -ℤ pos a) ≡ pos (k * (b - a))
times k a b h = ap (λ z. pos k *ℤ z) (apart a b h) ∙ refl

first_only : (up down p : ℕ) → pos (up * p) ≡ pos (up * p + down * 0)
first_only up down p = omega (arith, ints)

second_only : (up down q : ℕ) → pos (down * q) ≡ pos (up * 0 + down * q)
second_only up down q = omega (arith, ints)

part_of : (up down : ℕ) (flipped plus : Bool) (low high y : ℕ) (lower : ℤ) → low ≤ y → y ≤ high
    → (p q : ℕ) × IsPart up down flipped plus low high y lower p q
part_of up down false true low high y lower h k = (
  y - low,
  0,
  record {
    gains = times up low y h ∙ first_only up down (y - low);
    durations = omega (arith, ints);
  },
)
part_of up down false false low high y lower h k = (
  0,
  y - low,
  record {
    gains = times down low y h ∙ second_only up down (y - low);
    durations = omega (arith, ints);
  },
)
part_of up down true true low high y lower h k = (
  0,
  high - y,
  record {
    gains = times down y high k ∙ second_only up down (high - y);
    durations = omega (arith, ints);
  },
)
part_of up down true false low high y lower h k = (
  high - y,
  0,
  record {
    gains = times up y high k ∙ first_only up down (high - y);
    durations = omega (arith, ints);
  },
)

-- ---- the rows along a walk

parts_add : (up down p q r s : ℕ) → pos (up * p + down * q) +ℤ pos (up * r + down * s) ≡ pos (up * (p + r) + down * (q + s))
parts_add up down p q r s = omega (arith, ints)

differences_add : (a b c d : ℤ) (p q r s : ℕ) → a ≡ b +ℤ (pos p -ℤ pos q) → c ≡ d +ℤ (pos r -ℤ pos s)
    → a +ℤ c ≡ (b +ℤ d) +ℤ (pos (p + r) -ℤ pos (q + s))
differences_add a b c d p q r s h k = omega (arith, ints)

sums_add : {a b c d : ℤ} → a ≡ b → c ≡ d → a +ℤ c ≡ b +ℤ d
sums_add h k = cc

module _ (n : Net) (ranges : List (ℕ × ℕ)) (slacks : ℕ → ℕ) (up down : ℕ) where
  abbrev gain_term : MarkedRow → ℤ
  gain_term s = pos (if rises s then up else down) *ℤ distance s.flipped (slack_range ranges (place s)) (slacks (place s))

  abbrev duration_term : MarkedRow → ℤ
  duration_term s = sign s.signed *ℤ ((arc_at n.arcs (place s)).lower +ℤ pos (slacks (place s)))

  abbrev base_term : MarkedRow → ℤ
  base_term s = sign s.signed *ℤ base n.arcs ranges s

  -- p and q are the sums along the walk of the distances in direction plus and of those in direction minus
  record AreParts (walk : List MarkedRow) (p q : ℕ) : Type 0 where
    gains : walk_sum walk gain_term ≡ pos (up * p + down * q)
    durations : walk_sum walk duration_term ≡ walk_sum walk base_term +ℤ (pos p -ℤ pos q)

  parts_of : (walk : List MarkedRow) → AreRows n.arcs (signed_rows walk) → SlacksIn n slacks ranges → (p q : ℕ) × AreParts walk p q
  parts_of [] rows within = (0, 0, record { gains = omega (arith, ints); durations = omega (arith, ints) })
  parts_of (s ∷ walk) rows within =
      let exists = All-head (RowExists n.arcs) s.signed (signed_rows walk) rows in
      let i = place s in
      let here = within i (omega (arith, exists)) in
      let range = slack_range ranges i in
      let first = part_of up down s.flipped s.signed.plus range.0 range.1 (slacks i) (arc_at n.arcs i).lower here.0 here.1 in
      let others = parts_of walk (All-tail (RowExists n.arcs) s.signed (signed_rows walk) rows) within in (
        first.0 + others.0,
        first.1 + others.1,
        record {
          gains = sums_add (first.2.gains) (others.2.gains) ∙ parts_add up down first.0 first.1 others.0 others.1;
          durations = differences_add _ _ _ _ first.0 first.1 others.0 others.1 (first.2.durations) (others.2.durations);
        },
      )

-- the durations along a marked walk are those along its signed rows
same_along : (walk : List MarkedRow) (g : ℕ → ℤ) → sum_along (signed_rows walk) g ≡ walk_sum walk (λ s. sign s.signed *ℤ g (place s))
same_along [] g = refl
same_along (s ∷ walk) g = ap (λ z. sign s.signed *ℤ g (place s) +ℤ z) (same_along walk g)

pub marked_rows_exist : (arcs : List Arc) (walk : List MarkedRow) → IsMarkedWalk arcs walk → AreRows arcs (signed_rows walk)
marked_rows_exist arcs [] h = absurd h
marked_rows_exist arcs (s ∷ walk) h = h.0

-- ---- the inequality

-- what the distances leave by the period
leaves_rest : (t alpha p q : ℕ) (durations bases z d : ℤ) → durations ≡ pos t *ℤ z
    → durations ≡ bases +ℤ (pos p -ℤ pos q) → neg_ℤ bases ≡ pos t *ℤ d +ℤ pos alpha
    → pos p -ℤ pos q ≡ pos alpha +ℤ pos t *ℤ (z +ℤ d)
leaves_rest t alpha p q durations bases z d whole parts left = omega (arith, ints, mul-add (pos t) z d)

as_whole : (a b : ℕ) (g : ℤ) → g ≡ pos b → a ≤ b → pos a ≤ℤ g
as_whole a b g e h = omega (arith, ints)

pub gain_is_enough : (n : Net) (ranges : List (ℕ × ℕ)) (slacks : ℕ → ℕ) (walk : List MarkedRow) → 0 < n.period
    → IsMarkedWalk n.arcs walk → HasWholeOffset n slacks (signed_rows walk) → SlacksIn n slacks ranges
    → pos (least_gain n ranges walk) ≤ℤ gain n ranges slacks walk
gain_is_enough n ranges slacks walk h closed offset within =
    let t = n.period in
    let alpha = rest n ranges walk in
    let bases = walk_sum walk (λ s. sign s.signed *ℤ base n.arcs ranges s) in
    let durations = walk_sum walk (duration_term n ranges slacks (t - alpha) alpha) in
    let rows = marked_rows_exist n.arcs walk closed in
    let parts = parts_of n ranges slacks (t - alpha) alpha walk rows within in
    let g = λ (i : ℕ). (arc_at n.arcs i).lower +ℤ pos (slacks i) in
    let whole : durations ≡ pos t *ℤ offset.0 = sym (same_along walk g) ∙ sym (net_count_sum n.arcs (signed_rows walk) g rows) ∙ offset.1 in
    let left = leaves_rest t alpha parts.0 parts.1 durations bases offset.0
    (int_div_euclid (neg_ℤ bases) (pos t)) whole (parts.2.durations) (quotient-remainder (neg_ℤ bases) t h) in
    as_whole (alpha * (t - alpha)) ((t - alpha) * parts.0 + alpha * parts.1) (gain n ranges slacks walk) (parts.2.gains)
    (least_of_both t alpha parts.0 parts.1 (offset.0 +ℤ int_div_euclid (neg_ℤ bases) (pos t)) (remainder-lt (neg_ℤ bases) t h) left)

-- and so at any times
pub gain_at_times : (n : Net) (ranges : List (ℕ × ℕ)) (times : List ℕ) (walk : List MarkedRow) → 0 < n.period
    → IsMarkedWalk n.arcs walk → SlacksIn n (slacks_at n times) ranges
    → pos (least_gain n ranges walk) ≤ℤ gain n ranges (slacks_at n times) walk
gain_at_times n ranges times walk h closed within =
    gain_is_enough n ranges (slacks_at n times) walk h closed
    (has_offset n times (signed_rows walk) h closed) within
