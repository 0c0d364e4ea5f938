-- Sums along a walk by its net counts, and the offsets between two sums.
use Rattle.std.proofs.Common.{◌≡◌, ℕ, ◌+◌, ◌*◌, ◌<◌, ◌≤◌, arith, refl, ap, sym, ◌∙◌, List, length, get_or, take, Bool, true, false, Some, None}
use Rattle.std.specs.Prelude.{ℤ, pos, negsuc, neg_ℤ, ◌+ℤ◌, ◌≤ℤ◌, ◌*ℤ◌, int_le, unsigned_abs, IfSome, if◌then◌else◌}
use Rattle.std.specs.Int.{int_min, int_max}
use Rattle.std.proofs.Math.Nat.{div-le_self, mul-le-mul_right}
use Rattle.std.proofs.lemmas.Int.{ints, clamps}
use Rattle.std.proofs.lemmas.List.Sums.{fold_more, sum_by_more, sum_by_more_le, get_or-le-sum_by}
use Rattle.pesp_problem.specs.declared.arc.Arc.{Arc}
use Rattle.pesp_problem.specs.declared.row.SignedRow.{SignedRow}
use Rattle.pesp_problem.specs.Sums.{floor_div, ceil_div}
use Rattle.pesp_problem.specs.Arcs.{arc_at}
use Rattle.pesp_problem.specs.Nodes.{least_sum, greatest_sum, range_or_none, slack_range}
use Rattle.pesp_problem.specs.declared.nets.NetCount.{NetCount}
use Rattle.pesp_problem.specs.Ranges.{least_term, greatest_term}
use Rattle.pesp_problem.specs.Nets.{sum_of, amount, AreSmallCounts, AreNetCounts}
use Rattle.pesp_problem.proofs.Integers.{zero-mul, mul-le, floor_div-le, le-ceil_div, le_trans}

pub small_count : (n : ℕ) (counts : List NetCount) (k : ℕ) (d : NetCount) → k < length counts
    → AreSmallCounts n counts → unsigned_abs (get_or counts k d).count ≤ 10000000
small_count n counts k d h small = omega (arith, get_or-le-sum_by (λ (e : NetCount). unsigned_abs e.count) counts k d h, small.1)

-- the sum of a term over the first k entries, and its size where the term is at most so many times the count
pub record SoFar (most : ℕ) (term : ℕ → ℤ → ℤ) (counts : List NetCount) (k : ℕ) (sum : ℤ) : Type 0 where
  pub is : sum ≡ sum_of term (take k counts)
  pub size : unsigned_abs sum ≤ amount (take k counts) * most

pub so_far_more : (most : ℕ) (term : ℕ → ℤ → ℤ) (counts : List NetCount) (k : ℕ) (d : NetCount) (sum here : ℤ)
    → k < length counts → here ≡ term (get_or counts k d).place (get_or counts k d).count
    → unsigned_abs here ≤ unsigned_abs (get_or counts k d).count * most
    → SoFar most term counts k sum → SoFar most term counts (k + 1) (sum +ℤ here)
so_far_more most term counts k d sum here h e small before = record {
  is = ap (λ z. z +ℤ here) before.is ∙ ap (λ z. sum_of term (take k counts) +ℤ z) e
      ∙ sym (fold_more (λ z e. z +ℤ term e.place e.count) (pos 0) counts k d h);
  size = (let more = sum_by_more (λ (e : NetCount). unsigned_abs e.count) counts k d h in let size = before.size in
      omega (arith, ints, ap (λ n. n * most) more));
}

-- sums stay small
pub small_sum : (most : ℕ) (term : ℕ → ℤ → ℤ) (n : ℕ) (counts : List NetCount) (k : ℕ) (d : NetCount)
    (sum here : ℤ) → k < length counts → AreSmallCounts n counts
    → unsigned_abs here ≤ unsigned_abs (get_or counts k d).count * most → SoFar most term counts k sum
    → unsigned_abs sum + unsigned_abs here ≤ 10000000 * most
small_sum most term n counts k d sum here h small s before =
    let within = sum_by_more_le (λ (e : NetCount). unsigned_abs e.count) counts k d h in
    let few : amount (take k counts) + unsigned_abs (get_or counts k d).count ≤ 10000000 = omega (arith, within, small.1) in
    let product = mul-le-mul_right most few in
    let size = before.size in
    omega arith

no_least : (arcs : List Arc) (slacks : List (ℕ × ℕ)) (i : ℕ) → least_term arcs slacks i (pos 0) ≡ pos 0
no_least arcs slacks i = zero-mul ((arc_at arcs i).lower +ℤ pos (slack_range slacks i).0)

no_greatest : (arcs : List Arc) (slacks : List (ℕ × ℕ)) (i : ℕ) → greatest_term arcs slacks i (pos 0) ≡ pos 0
no_greatest arcs slacks i = zero-mul ((arc_at arcs i).lower +ℤ pos (slack_range slacks i).1)

pub least_is : (arcs : List Arc) (slacks : List (ℕ × ℕ)) (walk : List SignedRow) (counts : List NetCount)
    → AreNetCounts (length arcs) walk counts → sum_of (least_term arcs slacks) counts ≡ least_sum arcs slacks walk
least_is arcs slacks walk counts h = h.sums (least_term arcs slacks) (no_least arcs slacks)

pub greatest_is : (arcs : List Arc) (slacks : List (ℕ × ℕ)) (walk : List SignedRow) (counts : List NetCount)
    → AreNetCounts (length arcs) walk counts → sum_of (greatest_term arcs slacks) counts
    ≡ greatest_sum arcs slacks walk
greatest_is arcs slacks walk counts h = h.sums (greatest_term arcs slacks) (no_greatest arcs slacks)

-- what lies between two small sums
pub small_between : (period most : ℕ) (low high z : ℤ) → 0 < period → unsigned_abs low ≤ most
    → unsigned_abs high ≤ most → ceil_div low period ≤ℤ z → z ≤ℤ floor_div high period
    → unsigned_abs (pos period *ℤ z) ≤ most
small_between period most low high z some small small' from to =
    let a = le_trans _ _ _ (le-ceil_div low period some) (mul-le period _ z from) in
    let b = le_trans _ _ _ (mul-le period z _ to) (floor_div-le high period some) in
    omega (arith, ints)

-- the offsets left between two sums
pub left_small : (period most : ℕ) (low high from to : ℤ) → 0 < period → unsigned_abs low ≤ most → unsigned_abs high ≤ most
    → IfSome (range_or_none (int_max from (ceil_div low period)) (int_min to (floor_div high period)))
    (λ left. (unsigned_abs (pos period *ℤ left.0) ≤ most) × (unsigned_abs (pos period *ℤ left.1) ≤ most))
left_small period most low high from to some small small' =
    go (int_le (int_max from (ceil_div low period)) (int_min to (floor_div high period))) refl
  where
    go : (b : Bool) → int_le (int_max from (ceil_div low period)) (int_min to (floor_div high period)) ≡ b
        → IfSome {T = ℤ × ℤ} (if b then Some (
          int_max from (ceil_div low period),
          int_min to (floor_div high period),
        ) else None)
        (λ left. (unsigned_abs (pos period *ℤ left.0) ≤ most) × (unsigned_abs (pos period *ℤ left.1) ≤ most))
    go true e = let le : int_max from (ceil_div low period) ≤ℤ int_min to (floor_div high period) = omega (arith, ints) in (
      small_between period most low high _ some small small' (omega (arith, ints, clamps)) (omega (arith, ints, clamps)),
      small_between period most low high _ some small small' (omega (arith, ints, clamps)) (omega (arith, ints, clamps)),
    )
    go false e = tt

-- a quotient is no greater than what is divided
pub floor_div-size : (z : ℤ) (n : ℕ) → unsigned_abs (floor_div z n) ≤ unsigned_abs z
floor_div-size (pos a) n = div-le_self a n
floor_div-size (negsuc a) n = omega (arith, div-le_self a n)

neg-size : (z : ℤ) → unsigned_abs (neg_ℤ z) ≡ unsigned_abs z
neg-size z = omega (arith, ints)

pub ceil_div-size : (z : ℤ) (n : ℕ) → unsigned_abs (ceil_div z n) ≤ unsigned_abs z
ceil_div-size z n = omega (arith, neg-size (floor_div (neg_ℤ z) n), floor_div-size (neg_ℤ z) n, neg-size z)
