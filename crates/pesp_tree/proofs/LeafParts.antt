-- A leaf's value at a part of a node is at least its value at the node: the ranges shrink.
use Rattle.std.proofs.Common.{◌≡◌, ℕ, zero, suc, ◌-◌, ◌≤◌, ◌<◌, ◌⊎◌, List, [], ◌∷◌, length, get_or, set, refl, arith, inl, inr}
use Rattle.std.specs.Prelude.{ℤ, pos, negsuc, ◌+ℤ◌, ◌-ℤ◌, ◌*ℤ◌, ◌≤ℤ◌, int_le, Option, Some, None, option_map, option_and_then, if◌then◌else◌, Bool, true, false}
use Rattle.std.specs.Int.{int_min, int_max}
use Rattle.std.proofs.lemmas.Int.{ints, clamps}
use Rattle.pesp_problem.specs.declared.row.SignedRow.{SignedRow}
use Rattle.pesp_problem.specs.declared.pair.Pair.{Pair}
use Rattle.pesp_problem.specs.declared.cut.Cut.{Cut}
use Rattle.pesp_problem.specs.declared.cut.Cut.TheVariants.{Slack, Offset}
use Rattle.pesp_problem.specs.declared.cut.Side.{Side}
use Rattle.pesp_problem.specs.declared.cut.Side.TheVariants.{Low, High}
use Rattle.pesp_problem.specs.Sums.{scaled, ceil_div, floor_div}
use Rattle.pesp_problem.specs.Arcs.{Net, arc_at, over_arcs}
use Rattle.pesp_problem.specs.Walks.{net_count}
use Rattle.pesp_problem.specs.Nodes.{Node, slack_range, offset_range, cycle_at, weight_of, flow, offset_part, slack_part, leaf_value, least_sum, greatest_sum, offsets_left, range_or_none, part, LeavesBoth}
use Rattle.pesp_problem.proofs.Integers.{mul-le, mul-le_negative, min_scaled-le, le-min, le_trans, ceil_div-le, le-ceil_div, le-floor_div, floor_div-le, sum_below-le}
use Rattle.pesp_problem.proofs.Nodes.{range_or_none_is}

-- ---- ranges that shrink

abbrev pub SlackShrinks : ℕ × ℕ → ℕ × ℕ → Type 0
SlackShrinks old new = (old.0 ≤ new.0) × (new.1 ≤ old.1) × ((new ≡ old) ⊎ (new.0 ≤ new.1))

abbrev pub OffsetShrinks : ℤ × ℤ → ℤ × ℤ → Type 0
OffsetShrinks old new = (old.0 ≤ℤ new.0) × (new.1 ≤ℤ old.1)

pub record Shrinks (old new : Node) : Type 0 where
  pub slacks : (i : ℕ) → SlackShrinks (slack_range old.slacks i) (slack_range new.slacks i)
  pub offsets : (c : ℕ) → OffsetShrinks (offset_range old.offsets c) (offset_range new.offsets c)

slack_same : (r : ℕ × ℕ) → SlackShrinks r r
slack_same r = (omega arith, omega arith, inl refl)

offset_same : (r : ℤ × ℤ) → OffsetShrinks r r
offset_same r = (omega (arith, ints), omega (arith, ints))

-- one place is set to what relates to what stood there
set_related : {A : Type 0} (R : A → A → Type 0) (same : (x : A) → R x x) (xs : List A) (k : ℕ) (v d : A)
    → R (get_or xs k d) v → (i : ℕ) → R (get_or xs i d) (get_or (set xs k v) i d)
set_related R same [] k v d h i = same d
set_related R same (x ∷ xs) zero v d h zero = h
set_related R same (x ∷ xs) zero v d h (suc i) = same (get_or xs i d)
set_related R same (x ∷ xs) (suc k) v d h zero = same x
set_related R same (x ∷ xs) (suc k) v d h (suc i) = set_related R same xs k v d h i

pub parts_shrink : (node : Node) (cut : Cut) (side : Side) → LeavesBoth node cut → Shrinks node (part node cut side)
parts_shrink node (Slack row k) Low h = record {
  slacks = set_related SlackShrinks slack_same node.slacks (row - 1) _ (0, 0) (omega arith, omega arith, inr (omega (arith, h)));
  offsets = λ c. offset_same (offset_range node.offsets c);
}
parts_shrink node (Slack row k) High h = record {
  slacks = set_related SlackShrinks slack_same node.slacks (row - 1) _ (0, 0) (omega arith, omega arith, inr (omega (arith, h)));
  offsets = λ c. offset_same (offset_range node.offsets c);
}
parts_shrink node (Offset cycle k) Low h = record {
  slacks = λ i. slack_same (slack_range node.slacks i);
  offsets = set_related OffsetShrinks offset_same node.offsets (cycle - 1) _ (pos 0, pos 0)
      (omega (arith, ints), omega (arith, ints, clamps));
}
parts_shrink node (Offset cycle k) High h = record {
  slacks = λ i. slack_same (slack_range node.slacks i);
  offsets = set_related OffsetShrinks offset_same node.offsets (cycle - 1) _ (pos 0, pos 0)
      (omega (arith, ints, clamps), omega (arith, ints));
}

-- ---- sums

scaled_shrinks : (c low high low' high' : ℤ) → low ≤ℤ low' → high' ≤ℤ high → scaled c low high ≤ℤ scaled c low' high'
scaled_shrinks (pos n) low high low' high' h k = mul-le n low low' h
scaled_shrinks (negsuc n) low high low' high' h k = mul-le_negative n high' high k

shift : (a : ℤ) (m n : ℕ) → m ≤ n → (a +ℤ pos m) ≤ℤ (a +ℤ pos n)
shift a m n h = omega (arith, ints)

least_sum_shrinks : (n : Net) (old new : Node) (walk : List SignedRow) → Shrinks old new
    → least_sum n.arcs old.slacks walk ≤ℤ least_sum n.arcs new.slacks walk
least_sum_shrinks n old new walk s =
    sum_below-le (length n.arcs) _ _
    (λ i l. scaled_shrinks (net_count walk i) _ _ _ _ (shift (arc_at n.arcs i).lower _ _ ((s.slacks i).0))
    (shift (arc_at n.arcs i).lower _ _ ((s.slacks i).1)))

greatest_sum_shrinks : (n : Net) (old new : Node) (walk : List SignedRow) → Shrinks old new
    → greatest_sum n.arcs new.slacks walk ≤ℤ greatest_sum n.arcs old.slacks walk
greatest_sum_shrinks n old new walk s =
    sum_below-le (length n.arcs) _ _
    (λ i l. scaled_shrinks (net_count walk i) _ _ _ _ (shift (arc_at n.arcs i).lower _ _ ((s.slacks i).1))
    (shift (arc_at n.arcs i).lower _ _ ((s.slacks i).0)))

ceil_div_shrinks : (a b : ℤ) (n : ℕ) → 0 < n → a ≤ℤ b → ceil_div a n ≤ℤ ceil_div b n
ceil_div_shrinks a b n h l = ceil_div-le a n (ceil_div b n) h (le_trans _ _ _ l (le-ceil_div b n h))

floor_div_shrinks : (a b : ℤ) (n : ℕ) → 0 < n → a ≤ℤ b → floor_div a n ≤ℤ floor_div b n
floor_div_shrinks a b n h l = le-floor_div b n (floor_div a n) h (le_trans _ _ _ (floor_div-le a n h) l)

-- ---- the offsets left

by_test : (b : Bool) (low high : ℤ) (x : ℤ × ℤ) → int_le low high ≡ b
    → (if b then Some (low, high) else None) ≡ Some x → (x ≡ (low, high)) × (low ≤ℤ high)
by_test true low high x h e = (cc, omega (arith, ints))
by_test false low high x h e = cc

range_was : (low high : ℤ) (x : ℤ × ℤ) → range_or_none low high ≡ Some x → (x ≡ (low, high)) × (low ≤ℤ high)
range_was low high x e = by_test (int_le low high) low high x refl e

max_shrinks : (a b a' b' : ℤ) → a ≤ℤ a' → b ≤ℤ b' → int_max a b ≤ℤ int_max a' b'
max_shrinks a b a' b' h k = omega (arith, ints, clamps)

min_shrinks : (a b a' b' : ℤ) → a' ≤ℤ a → b' ≤ℤ b → int_min a' b' ≤ℤ int_min a b
min_shrinks a b a' b' h k = omega (arith, ints, clamps)

range_shrinks : (low high low' high' : ℤ) (x : ℤ × ℤ) → low ≤ℤ low' → high' ≤ℤ high
    → range_or_none low' high' ≡ Some x → (y : ℤ × ℤ) × (range_or_none low high ≡ Some y) × (y.0 ≤ℤ x.0)
    × (x.1 ≤ℤ y.1)
range_shrinks low high low' high' x h k e =
    let was = range_was low' high' x e in
    ((low, high), range_or_none_is low high low' h (le_trans _ _ _ was.1 k), rw (was.0) h, rw (was.0) k)

offsets_left_shrink : (n : Net) (table : List (List SignedRow)) (old new : Node) (c : ℕ) (x : ℤ × ℤ) → 0 < n.period
    → Shrinks old new → offsets_left n table new c ≡ Some x
    → (y : ℤ × ℤ) × (offsets_left n table old c ≡ Some y) × (y.0 ≤ℤ x.0) × (x.1 ≤ℤ y.1)
offsets_left_shrink n table old new c x h s e =
    range_shrinks _ _ _ _ x
    (max_shrinks _ _ _ _ ((s.offsets c).0) (ceil_div_shrinks _ _ n.period h (least_sum_shrinks n old new (cycle_at table c) s)))
    (min_shrinks _ _ _ _ ((s.offsets c).1) (floor_div_shrinks _ _ n.period h (greatest_sum_shrinks n old new (cycle_at table c) s)))
    e

-- ---- leaf values

pub both_were : {A : Type 0} (f : A → ℤ → ℤ) (o : Option A) (r : Option ℤ) (v : ℤ)
    → option_and_then (λ x. option_map (λ rest. f x rest) r) o ≡ Some v
    → (x : A) × (rest : ℤ) × (o ≡ Some x) × (r ≡ Some rest) × (v ≡ f x rest)
both_were f None r v e = cc
both_were f (Some x) None v e = cc
both_were f (Some x) (Some rest) v e = (x, rest, refl, refl, cc)

le_as : (w x v : ℤ) → v ≡ x → w ≤ℤ x → w ≤ℤ v
le_as w x v e h = rw e h

pub offset_part_shrinks : (n : Net) (table : List (List SignedRow)) (old new : Node) (pairs : List Pair) (v : ℤ)
    → 0 < n.period → Shrinks old new → offset_part n table new pairs ≡ Some v
    → (w : ℤ) × (offset_part n table old pairs ≡ Some w) × (w ≤ℤ v)
offset_part_shrinks n table old new [] v h s e = (v, e, omega (arith, ints))
offset_part_shrinks n table old new (pair ∷ pairs) v h s e =
    let was = both_were (λ (left : ℤ × ℤ) (rest : ℤ). scaled pair.mult left.0 left.1 +ℤ rest)
    (offsets_left n table new (pair.cycle - 1)) (offset_part n table new pairs) v e in
    let left = offsets_left_shrink n table old new (pair.cycle - 1) was.0 h s (was.2) in
    let rest = offset_part_shrinks n table old new pairs (was.1) h s (was.3) in
    let first = scaled_shrinks pair.mult _ _ _ _ (left.2) (left.3) in
    (scaled pair.mult (left.0).0 (left.0).1 +ℤ rest.0, rw (left.1, rest.1) refl, le_as _ _ v (was.4) (omega (arith, ints, first, rest.2)))

slack_term_shrinks : (c : ℤ) (old new : ℕ × ℕ) → SlackShrinks old new
    → int_min (c *ℤ pos old.0) (c *ℤ pos old.1) ≤ℤ int_min (c *ℤ pos new.0) (c *ℤ pos new.1)
slack_term_shrinks c old new s =
    elim (s.2) [
      | inl e ↦ rw e (omega (arith, ints))
      | inr l ↦ le-min _ _ _ (min_scaled-le c _ _ _ (omega (arith, ints, s.0)) (omega (arith, ints, s.1, l)))
          (min_scaled-le c _ _ _ (omega (arith, ints, s.0, l)) (omega (arith, ints, s.1)))
    ]

pub value_was : (f : ℤ → ℤ) (o : Option ℤ) (v : ℤ) → option_map f o ≡ Some v → (x : ℤ) × (o ≡ Some x) × (v ≡ f x)
value_was f None v e = cc
value_was f (Some x) v e = (x, refl, cc)

pub leaf_value_shrinks : (n : Net) (table : List (List SignedRow)) (old new : Node) (pairs : List Pair)
    (weighted : Bool) (v : ℤ) → 0 < n.period → Shrinks old new → leaf_value n table new pairs weighted ≡ Some v
    → (w : ℤ) × (leaf_value n table old pairs weighted ≡ Some w) × (w ≤ℤ v)
leaf_value_shrinks n table old new pairs weighted v h s e =
    let lowers = over_arcs n.arcs (λ i. flow table pairs i *ℤ (arc_at n.arcs i).lower) in
    let new_slacks = over_arcs n.arcs (slack_part n table new pairs weighted) in
    let old_slacks = over_arcs n.arcs (slack_part n table old pairs weighted) in
    let was = value_was (λ (x : ℤ). pos n.period *ℤ x -ℤ lowers +ℤ new_slacks) (offset_part n table new pairs) v e in
    let offsets = offset_part_shrinks n table old new pairs (was.0) h s (was.1) in
    let slacks : old_slacks ≤ℤ new_slacks = sum_below-le (length n.arcs) _ _
    (λ i l. slack_term_shrinks (weight_of weighted (arc_at n.arcs i) -ℤ flow table pairs i) _ _ (s.slacks i)) in
    let scaled_up = mul-le n.period (offsets.0) (was.0) (offsets.2) in
    (pos n.period *ℤ offsets.0 -ℤ lowers +ℤ old_slacks, rw (offsets.1) refl, le_as _ _ v (was.2) (omega (arith, ints, scaled_up, slacks)))
