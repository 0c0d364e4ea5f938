-- `offsets_left` has the offsets left and no others.
use Rattle.std.proofs.Common.{◌≡◌, ℕ, ◌<◌, Bool, true, false, List, refl, arith}
use Rattle.std.specs.Prelude.{ℤ, pos, ◌*ℤ◌, ◌≤ℤ◌, int_le, Some, None, IsSomeAnd, IfSome, ◌↔◌, if◌then◌else◌}
use Rattle.std.specs.Int.{int_min, int_max}
use Rattle.std.proofs.lemmas.Int.{ints, clamps}
use Rattle.pesp_problem.specs.declared.row.SignedRow.{SignedRow}
use Rattle.pesp_problem.specs.Sums.{floor_div, ceil_div}
use Rattle.pesp_problem.specs.Arcs.{Net}
use Rattle.pesp_problem.specs.Nodes.{Node, offset_range, cycle_at, least_sum, greatest_sum, odijk_range, offsets_left, range_or_none, IsOffsetLeft}
use Rattle.pesp_problem.proofs.Integers.{le_trans, mul-le, le-min, max-le, ceil_div-le, le-floor_div, floor_div-le, le-ceil_div}
use Rattle.pesp_problem.proofs.Nodes.{range_or_none_is}

by_test : (b : Bool) (low high z : ℤ) → IsSomeAnd {T = ℤ × ℤ} (if b then Some (low, high) else None)
    (λ left. (left.0 ≤ℤ z) × (z ≤ℤ left.1)) → (low ≤ℤ z) × (z ≤ℤ high)
by_test true low high z h = h
by_test false low high z h = absurd h

pub in_range : (low high z : ℤ) → IsSomeAnd (range_or_none low high) (λ left. (left.0 ≤ℤ z) × (z ≤ℤ left.1)) → (low ≤ℤ z) × (z ≤ℤ high)
in_range low high z h = by_test (int_le low high) low high z h

fits_by_test : (b : Bool) (low high : ℤ) → int_le low high ≡ b
    → IfSome {T = ℤ × ℤ} (if b then Some (low, high) else None) (λ left. left.0 ≤ℤ left.1)
fits_by_test true low high h = omega (arith, ints)
fits_by_test false low high h = tt

range_fits : (low high : ℤ) → IfSome (range_or_none low high) (λ left. left.0 ≤ℤ left.1)
range_fits low high = fits_by_test (int_le low high) low high refl

left_of : (n : Net) (ranges : List (ℕ × ℕ)) (walk : List SignedRow) (low high z : ℤ) → 0 < n.period
    → (int_max low (odijk_range n ranges walk).0 ≤ℤ z) × (z ≤ℤ int_min high (odijk_range n ranges walk).1)
    → (low ≤ℤ z) × (z ≤ℤ high) × (least_sum n.arcs ranges walk ≤ℤ (pos n.period *ℤ z))
    × ((pos n.period *ℤ z) ≤ℤ greatest_sum n.arcs ranges walk)
left_of n ranges walk low high z h b =
    let from : ceil_div (least_sum n.arcs ranges walk) n.period ≤ℤ z = omega (arith, ints, clamps, b) in
    let to : z ≤ℤ floor_div (greatest_sum n.arcs ranges walk) n.period = omega (arith, ints, clamps, b) in (
      omega (arith, ints, clamps, b),
      omega (arith, ints, clamps, b),
      le_trans _ _ _ (le-ceil_div (least_sum n.arcs ranges walk) n.period h) (mul-le n.period _ _ from),
      le_trans _ _ _ (mul-le n.period _ _ to) (floor_div-le (greatest_sum n.arcs ranges walk) n.period h),
    )

pub exactly_left : (n : Net) (table : List (List SignedRow)) (node : Node) (c : ℕ) (z : ℤ) → 0 < n.period
    → IsOffsetLeft n table node c z ↔ IsSomeAnd (offsets_left n table node c)
    (λ left. (left.0 ≤ℤ z) × (z ≤ℤ left.1))
exactly_left n table node c z h = (
  λ l.
      let low = max-le _ _ z l.0 (ceil_div-le _ _ z h l.2) in
      let high = le-min _ _ z l.1 (le-floor_div _ _ z h l.3) in
      rw (range_or_none_is _ _ z low high) (low, high),
  λ s. left_of n node.slacks (cycle_at table c) (offset_range node.offsets c).0 (offset_range node.offsets c).1 z h (in_range _ _ z s),
)

pub ends_in_order : (n : Net) (table : List (List SignedRow)) (node : Node) (c : ℕ)
    → IfSome (offsets_left n table node c) (λ left. left.0 ≤ℤ left.1)
ends_in_order n table node c = range_fits (int_max (offset_range node.offsets c).0
    (odijk_range n node.slacks (cycle_at table c)).0)
    (int_min (offset_range node.offsets c).1 (odijk_range n node.slacks (cycle_at table c)).1)
