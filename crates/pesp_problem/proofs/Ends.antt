-- What a row's slack costs beyond the flow and the gains at the two ends of its range.
use Rattle.std.proofs.Common.{◌≡◌, ℕ, ◌+◌, inl, inr, Bool, true, false, List, [], ◌∷◌, refl, ap, arith, sym, ◌∙◌}
use Rattle.std.specs.Prelude.{ℤ, pos, ◌-ℤ◌, ◌*ℤ◌, ◌≤ℤ◌, ◌&&◌, not, ◌==◌, if◌then◌else◌}
use Rattle.std.specs.Int.{int_min}
use Rattle.std.proofs.lemmas.Int.{ints, clamps}
use Rattle.pesp_problem.specs.declared.row.SignedRow.{SignedRow}
use Rattle.pesp_problem.specs.Arcs.{Net, arc_at}
use Rattle.pesp_problem.specs.Nodes.{Node, slack_range, weight_of, flow}
use Rattle.pesp_problem.proofs.Integers.{mul-le, mul_assoc, add-mul, zero-mul, le-cases}
use Rattle.pesp_problem.specs.declared.marked.MarkedRow.{MarkedRow}
use Rattle.pesp_problem.specs.Marked.{walk_sum, distance, rate, rest, gain_at, rates_at}
use Rattle.pesp_problem.specs.Sharp.{Multiple, Multipliers, over_multiples, excess, least_excess, rates, width}

-- ---- one pass

-- at the low end a plain row is at distance 0, and a flipped one as far as the range is wide
pass_low : (here flipped : Bool) (k : ℤ) (range : ℕ × ℕ)
    → (if here then k *ℤ distance flipped range range.0 else pos 0)
    ≡ (if here && flipped then k else pos 0) *ℤ (pos range.1 -ℤ pos range.0)
pass_low true true k range = refl
pass_low true false k range = ap (λ z. k *ℤ z) (none range.0) ∙ times_none k ∙ none_times (pos range.1 -ℤ pos range.0)
  where
    none : (n : ℕ) → pos n -ℤ pos n ≡ pos 0
    none n = omega (arith, ints)

    times_none : (k : ℤ) → k *ℤ pos 0 ≡ pos 0
    times_none k = omega (arith, ints)

    none_times : (z : ℤ) → pos 0 ≡ pos 0 *ℤ z
    none_times z = omega (arith, ints)
pass_low false flipped k range = let e = zero-mul (pos range.1 -ℤ pos range.0) in cc

-- and at the high end the other way round
pass_high : (here flipped : Bool) (k : ℤ) (range : ℕ × ℕ)
    → (if here then k *ℤ distance flipped range range.1 else pos 0)
    ≡ (if here && not flipped then k else pos 0) *ℤ (pos range.1 -ℤ pos range.0)
pass_high true false k range = refl
pass_high true true k range = ap (λ z. k *ℤ z) (none range.1) ∙ times_none k ∙ none_times (pos range.1 -ℤ pos range.0)
  where
    none : (n : ℕ) → pos n -ℤ pos n ≡ pos 0
    none n = omega (arith, ints)

    times_none : (k : ℤ) → k *ℤ pos 0 ≡ pos 0
    times_none k = omega (arith, ints)

    none_times : (z : ℤ) → pos 0 ≡ pos 0 *ℤ z
    none_times z = omega (arith, ints)
pass_high false flipped k range = let e = zero-mul (pos range.1 -ℤ pos range.0) in cc

-- ---- along a walk, and over the walks

factor_along : (walk : List MarkedRow) (f g : MarkedRow → ℤ) (w : ℤ) → ((s : MarkedRow) → f s ≡ g s *ℤ w) → walk_sum walk f ≡ walk_sum walk g *ℤ w
factor_along [] f g w h = let e = zero-mul w in cc
factor_along (s ∷ walk) f g w h = let e = add-mul (g s) (walk_sum walk g) w in let k = h s in let rest = factor_along walk f g w h in cc

gain_low : (n : Net) (ranges : List (ℕ × ℕ)) (walk : List MarkedRow) (i : ℕ)
    → gain_at n ranges walk i (slack_range ranges i).0 ≡ rates_at n ranges walk true i *ℤ width ranges i
gain_low n ranges walk i = factor_along walk _
    (λ s. if (s.signed.row == i + 1) && s.flipped then pos (rate n.period (rest n ranges walk) s) else pos 0)
    (width ranges i) (λ s. pass_low (s.signed.row == i + 1) s.flipped (pos (rate n.period (rest n ranges walk) s))
    (slack_range ranges i))

gain_high : (n : Net) (ranges : List (ℕ × ℕ)) (walk : List MarkedRow) (i : ℕ)
    → gain_at n ranges walk i (slack_range ranges i).1 ≡ rates_at n ranges walk false i *ℤ width ranges i
gain_high n ranges walk i = factor_along walk _
    (λ s. if (s.signed.row == i + 1) && not s.flipped then pos (rate n.period (rest n ranges walk) s) else pos 0)
    (width ranges i) (λ s. pass_high (s.signed.row == i + 1) s.flipped (pos (rate n.period (rest n ranges walk) s))
    (slack_range ranges i))

factor_over : (multiples : List Multiple) (f g : List MarkedRow → ℤ) (w : ℤ)
    → ((walk : List MarkedRow) → f walk ≡ g walk *ℤ w)
    → over_multiples multiples f ≡ over_multiples multiples g *ℤ w
factor_over [] f g w h = let e = zero-mul w in cc
factor_over (multiple ∷ multiples) f g w h =
    let e = add-mul (pos multiple.mult *ℤ g multiple.walk) (over_multiples multiples g) w in
    let a = mul_assoc (pos multiple.mult) (g multiple.walk) w in
    let k = h multiple.walk in
    let rest = factor_over multiples f g w h in
    cc

pub excess_low : (n : Net) (table : List (List SignedRow)) (node : Node) (m : Multipliers) (weighted : Bool)
    (i : ℕ) → excess n table node m weighted i (slack_range node.slacks i).0
    ≡ (pos m.scale *ℤ weight_of weighted (arc_at n.arcs i) -ℤ flow table m.pairs i) *ℤ pos
    (slack_range node.slacks i).0 -ℤ rates n node m true i *ℤ width node.slacks i
excess_low n table node m weighted i = ap (λ z.
    (pos m.scale *ℤ weight_of weighted (arc_at n.arcs i) -ℤ flow table m.pairs i) *ℤ pos
    (slack_range node.slacks i).0 -ℤ z) (factor_over m.multiples _ (λ walk. rates_at n node.slacks walk true i)
    (width node.slacks i) (λ walk. gain_low n node.slacks walk i))

pub excess_high : (n : Net) (table : List (List SignedRow)) (node : Node) (m : Multipliers) (weighted : Bool)
    (i : ℕ) → excess n table node m weighted i (slack_range node.slacks i).1
    ≡ (pos m.scale *ℤ weight_of weighted (arc_at n.arcs i) -ℤ flow table m.pairs i) *ℤ pos
    (slack_range node.slacks i).1 -ℤ rates n node m false i *ℤ width node.slacks i
excess_high n table node m weighted i = ap (λ z.
    (pos m.scale *ℤ weight_of weighted (arc_at n.arcs i) -ℤ flow table m.pairs i) *ℤ pos
    (slack_range node.slacks i).1 -ℤ z) (factor_over m.multiples _ (λ walk. rates_at n node.slacks walk false i)
    (width node.slacks i) (λ walk. gain_high n node.slacks walk i))

-- ---- a row that neither flows nor gains pass

min_left : (a b : ℤ) → a ≤ℤ b → int_min a b ≡ a
min_left a b h = omega (arith, ints, clamps)

min_right : (a b : ℤ) → b ≤ℤ a → int_min a b ≡ b
min_right a b h = omega (arith, ints, clamps)

-- a factor that isn't negative passes through the choice of the lesser
min_times : (n : ℕ) (a b : ℤ) → int_min (pos n *ℤ a) (pos n *ℤ b) ≡ pos n *ℤ int_min a b
min_times n a b =
    elim (le-cases a b) [
      | inl m ↦ min_left (pos n *ℤ a) (pos n *ℤ b) (mul-le n a b m) ∙ sym (ap (λ z. pos n *ℤ z) (min_left a b m))
      | inr m ↦ (let below : b ≤ℤ a = omega (arith, ints) in
          min_right (pos n *ℤ a) (pos n *ℤ b) (mul-le n b a below)
          ∙ sym (ap (λ z. pos n *ℤ z) (min_right a b below)))
    ]

idle_end : (d w f y r width z : ℤ) → z ≡ (d *ℤ w -ℤ f) *ℤ y -ℤ r *ℤ width → f ≡ pos 0 → r ≡ pos 0 → z ≡ d *ℤ (w *ℤ y)
idle_end d w f y r width z e h k =
    let none : d *ℤ w -ℤ f ≡ d *ℤ w = omega (arith, ints) in
    let no_rate = ap (λ (x : ℤ). x *ℤ width) k ∙ zero-mul width in
    let product = ap (λ (x : ℤ). x *ℤ y) none ∙ mul_assoc d w y in
    idle_sum z ((d *ℤ w -ℤ f) *ℤ y) (r *ℤ width) (d *ℤ (w *ℤ y)) e no_rate product
  where
    idle_sum : (z a b c : ℤ) → z ≡ a -ℤ b → b ≡ pos 0 → a ≡ c → z ≡ c
    idle_sum z a b c e h k = omega (arith, ints)

lesser_of : {a b c d : ℤ} → a ≡ c → b ≡ d → int_min a b ≡ int_min c d
lesser_of h k = cc

pub idle_row : (n : Net) (table : List (List SignedRow)) (node : Node) (m : Multipliers) (weighted : Bool) (i : ℕ)
    → flow table m.pairs i ≡ pos 0 → rates n node m true i ≡ pos 0 → rates n node m false i ≡ pos 0
    → least_excess n table node m weighted i ≡ pos m.scale *ℤ int_min
    (weight_of weighted (arc_at n.arcs i) *ℤ pos (slack_range node.slacks i).0)
    (weight_of weighted (arc_at n.arcs i) *ℤ pos (slack_range node.slacks i).1)
idle_row n table node m weighted i none flipped straight =
    let w = weight_of weighted (arc_at n.arcs i) in
    let range = slack_range node.slacks i in
    let low = idle_end (pos m.scale) w (flow table m.pairs i) (pos range.0) (rates n node m true i)
    (width node.slacks i) _ (excess_low n table node m weighted i) none flipped in
    let high = idle_end (pos m.scale) w (flow table m.pairs i) (pos range.1) (rates n node m false i)
    (width node.slacks i) _ (excess_high n table node m weighted i) none straight in
    lesser_of low high ∙ min_times m.scale (w *ℤ pos range.0) (w *ℤ pos range.1)
