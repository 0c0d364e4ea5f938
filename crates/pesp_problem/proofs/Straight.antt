-- Terms that are straight lines in a slack: the least over a range is at one of its ends.
use Rattle.std.proofs.Common.{◌≡◌, ℕ, ◌+◌, ◌≤◌, Bool, true, false, List, [], ◌∷◌, ap, arith, ◌∙◌}
use Rattle.std.specs.Prelude.{ℤ, pos, negsuc, ◌+ℤ◌, ◌-ℤ◌, ◌*ℤ◌, neg_ℤ, ◌≤ℤ◌, ◌==◌, if◌then◌else◌}
use Rattle.std.specs.Int.{int_min}
use Rattle.std.proofs.lemmas.Int.{ints}
use Rattle.pesp_problem.specs.Arcs.{Net}
use Rattle.pesp_problem.specs.Nodes.{slack_range}
use Rattle.pesp_problem.proofs.Integers.{mul-le, mul-le_negative, mul-add, mul_assoc, add-mul, sub-mul, zero-mul, min-le_left, min-le_right}
use Rattle.pesp_problem.specs.declared.marked.MarkedRow.{MarkedRow}
use Rattle.pesp_problem.specs.Marked.{walk_sum, distance, rate, rest, gain_at}
use Rattle.pesp_problem.specs.Sharp.{Multiple, over_multiples}

pub record IsStraight (g : ℕ → ℤ) : Type 0 where
  pub slope : ℤ
  pub start : ℤ
  pub is : (y : ℕ) → g y ≡ slope *ℤ pos y +ℤ start

-- ---- the least is at an end

below_left : (m a b c s x y : ℤ) → m ≤ℤ a → a ≡ x +ℤ s → b ≡ y +ℤ s → x ≤ℤ y → m ≤ℤ b
below_left m a b c s x y h e f k = omega (arith, ints)

pub least_at_end : (g : ℕ → ℤ) → IsStraight g → (low high y : ℕ) → low ≤ y → y ≤ high → int_min (g low) (g high) ≤ℤ g y
least_at_end g line low high y h k = at_slope line.slope line.is
  where
    at_slope : (c : ℤ) → ((x : ℕ) → g x ≡ c *ℤ pos x +ℤ line.start) → int_min (g low) (g high) ≤ℤ g y
    at_slope (pos n) is = below_left (int_min (g low) (g high)) (g low) (g y) (pos 0) line.start (pos n *ℤ pos low)
        (pos n *ℤ pos y) (min-le_left (g low) (g high)) (is low) (is y)
        (mul-le n (pos low) (pos y) (omega (arith, ints)))
    at_slope (negsuc n) is = below_left (int_min (g low) (g high)) (g high) (g y) (pos 0) line.start
        (negsuc n *ℤ pos high) (negsuc n *ℤ pos y) (min-le_right (g low) (g high)) (is high) (is y)
        (mul-le_negative n (pos y) (pos high) (omega (arith, ints)))

-- ---- which terms are straight

sums : (a b x s t z w : ℤ) → z ≡ a +ℤ s → w ≡ b +ℤ t → x ≡ a +ℤ b → z +ℤ w ≡ x +ℤ (s +ℤ t)
sums a b x s t z w h k e = omega (arith, ints)

lessened : (a b x s t z w : ℤ) → z ≡ a +ℤ s → w ≡ b +ℤ t → x ≡ a -ℤ b → z -ℤ w ≡ x +ℤ (s -ℤ t)
lessened a b x s t z w h k e = omega (arith, ints)

pub straight_zero : IsStraight (λ y. pos 0)
straight_zero = record { slope = pos 0; start = pos 0; is = λ y. omega (arith, ints, zero-mul (pos y)) }

pub straight_multiple : (c : ℤ) → IsStraight (λ y. c *ℤ pos y)
straight_multiple c = record { slope = c; start = pos 0; is = λ y. omega (arith, ints) }

pub straight_sum : (g h : ℕ → ℤ) → IsStraight g → IsStraight h → IsStraight (λ y. g y +ℤ h y)
straight_sum g h a b = record {
  slope = a.slope +ℤ b.slope;
  start = a.start +ℤ b.start;
  is = λ y. sums (a.slope *ℤ pos y) (b.slope *ℤ pos y) ((a.slope +ℤ b.slope) *ℤ pos y) a.start b.start (g y)
      (h y) (a.is y) (b.is y) (add-mul a.slope b.slope (pos y));
}

pub straight_less : (g h : ℕ → ℤ) → IsStraight g → IsStraight h → IsStraight (λ y. g y -ℤ h y)
straight_less g h a b = record {
  slope = a.slope -ℤ b.slope;
  start = a.start -ℤ b.start;
  is = λ y. lessened (a.slope *ℤ pos y) (b.slope *ℤ pos y) ((a.slope -ℤ b.slope) *ℤ pos y) a.start b.start (g y)
      (h y) (a.is y) (b.is y) (sub-mul a.slope b.slope (pos y));
}

pub straight_times : (c : ℤ) (g : ℕ → ℤ) → IsStraight g → IsStraight (λ y. c *ℤ g y)
straight_times c g a = record {
  slope = c *ℤ a.slope;
  start = c *ℤ a.start;
  is = λ y. ap (λ z. c *ℤ z) (a.is y) ∙ mul-add c (a.slope *ℤ pos y) a.start
      ∙ ap (λ z. z +ℤ c *ℤ a.start) (assoc c a.slope (pos y));
}
  where
    assoc : (a b c : ℤ) → a *ℤ (b *ℤ c) ≡ (a *ℤ b) *ℤ c
    assoc a b c = let e = mul_assoc a b c in cc

straight_distance : (flipped : Bool) (range : ℕ × ℕ) → IsStraight (distance flipped range)
straight_distance true range = record { slope = negsuc 0; start = pos range.1; is = λ y. omega (arith, ints) }
straight_distance false range = record { slope = pos 1; start = neg_ℤ (pos range.0); is = λ y. omega (arith, ints) }

straight_if : (b : Bool) (g : ℕ → ℤ) → IsStraight g → IsStraight (λ y. if b then g y else pos 0)
straight_if true g a = a
straight_if false g a = straight_zero

straight_along : (term : MarkedRow → ℕ → ℤ) → ((s : MarkedRow) → IsStraight (term s)) → (walk : List MarkedRow)
    → IsStraight (λ y. walk_sum walk (λ s. term s y))
straight_along term each [] = straight_zero
straight_along term each (s ∷ walk) = straight_sum (term s) (λ y. walk_sum walk (λ s. term s y)) (each s) (straight_along term each walk)

pub straight_gain : (n : Net) (ranges : List (ℕ × ℕ)) (walk : List MarkedRow) (i : ℕ) → IsStraight (gain_at n ranges walk i)
straight_gain n ranges walk i =
    let k = λ (s : MarkedRow). pos (rate n.period (rest n ranges walk) s) in
    let far = λ (s : MarkedRow). distance s.flipped (slack_range ranges i) in
    straight_along (λ s y. if s.signed.row == i + 1 then k s *ℤ far s y else pos 0)
    (λ s. straight_if (s.signed.row == i + 1) (λ y. k s *ℤ far s y)
    (straight_times (k s) (far s) (straight_distance s.flipped (slack_range ranges i)))) walk

pub straight_multiples : (term : List MarkedRow → ℕ → ℤ) → ((walk : List MarkedRow) → IsStraight (term walk))
    → (multiples : List Multiple) → IsStraight (λ y. over_multiples multiples (λ walk. term walk y))
straight_multiples term each [] = straight_zero
straight_multiples term each (multiple ∷ multiples) =
    straight_sum (λ y. pos multiple.mult *ℤ term multiple.walk y) (λ y. over_multiples multiples (λ walk. term walk y))
    (straight_times (pos multiple.mult) (term multiple.walk) (each multiple.walk)) (straight_multiples term each multiples)
