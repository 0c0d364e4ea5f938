-- What leaves are worth as it is added up, pair by pair.
use Rattle.std.proofs.Common.{◌≡◌, ℕ, ◌-◌, ◌≤◌, true, false, refl, ap, sym, ◌∙◌, arith, List, [], ◌∷◌, Bool, Option, Some, None}
use Rattle.std.specs.Prelude.{ℤ, pos, negsuc, ◌+ℤ◌, ◌-ℤ◌, ◌*ℤ◌, unsigned_abs, option_map, option_and_then}
use Rattle.std.proofs.lemmas.Int.{ints}
use Rattle.pesp_problem.specs.declared.arc.Arc.{Arc}
use Rattle.pesp_problem.specs.declared.row.SignedRow.{SignedRow}
use Rattle.pesp_problem.specs.declared.pair.Pair.{Pair}
use Rattle.pesp_problem.specs.Sums.{scaled}
use Rattle.pesp_problem.specs.Arcs.{Net, arc_at, over_arcs}
use Rattle.pesp_problem.specs.Nodes.{Node, offsets_left, offset_part, weight_of, slack_part, flow, leaf_value}
use Rattle.pesp_problem.proofs.Integers.{swap_left, mul-add}

-- a factor passes through the choice of an end
pub scaled_times : (t m a b : ℤ) → scaled m (t *ℤ a) (t *ℤ b) ≡ t *ℤ scaled m a b
scaled_times t (pos n) a b = swap_left (pos n) t a
scaled_times t (negsuc n) a b = swap_left (negsuc n) t b

pub weight_small : (weighted : Bool) (arc : Arc) → arc.weight ≤ 1000000000 → unsigned_abs (weight_of weighted arc) ≤ 1000000000
weight_small true arc h = h
weight_small false arc h = omega arith

-- ---- the offsets

pub part_some : (n : Net) (table : List (List SignedRow)) (node : Node) (p : Pair) (rest : List Pair)
    (ends : ℤ × ℤ) → offsets_left n table node (p.cycle - 1) ≡ Some ends
    → offset_part n table node (p ∷ rest) ≡ option_map (λ z. scaled p.mult ends.0 ends.1 +ℤ z)
    (offset_part n table node rest)
part_some n table node p rest ends e = ap (option_and_then
    (λ (left : ℤ × ℤ). option_map (λ z. scaled p.mult left.0 left.1 +ℤ z) (offset_part n table node rest))) e

pub part_none : (n : Net) (table : List (List SignedRow)) (node : Node) (p : Pair) (rest : List Pair)
    → offsets_left n table node (p.cycle - 1) ≡ None → offset_part n table node (p ∷ rest) ≡ None
part_none n table node p rest e = ap (option_and_then
    (λ (left : ℤ × ℤ). option_map (λ z. scaled p.mult left.0 left.1 +ℤ z) (offset_part n table node rest))) e

-- the sum so far and what the rest adds make the whole
abbrev pub IsWhole : ℕ → ℤ → Option ℤ → Option ℤ → Type 0
IsWhole period sum rest whole = ◌≡◌ {A = Option ℤ} (option_map (λ z. sum +ℤ pos period *ℤ z) rest) (option_map (λ z. pos period *ℤ z) whole)

-- one pair more
part_more : (period : ℕ) (sum here : ℤ) (rest whole : Option ℤ) (t : ℤ) → here ≡ pos period *ℤ t
    → IsWhole period sum (option_map (λ z. t +ℤ z) rest) whole → IsWhole period (sum +ℤ here) rest whole
part_more period sum here None whole t e h = h
part_more period sum here (Some z) whole t e h =
    let apart = mul-add (pos period) t z in
    let same : (sum +ℤ here) +ℤ pos period *ℤ z ≡ sum +ℤ pos period *ℤ (t +ℤ z) = omega (arith, ints) in
    ap Some same ∙ h

module _ (n : Net) (table : List (List SignedRow)) (node : Node) (pairs left : List Pair) (p : Pair) (is : pairs ≡ p ∷ left) where
  pub offset_more : (sum here : ℤ) (range : ℤ × ℤ) (whole : Option ℤ)
      → ◌≡◌ {A = Option (ℤ × ℤ)} (Some range) (offsets_left n table node (p.cycle - 1))
      → here ≡ pos n.period *ℤ scaled p.mult range.0 range.1
      → IsWhole n.period sum (offset_part n table node pairs) whole → IsWhole n.period (sum +ℤ here) (offset_part n table node left) whole
  offset_more sum here range whole some e h =
      let part = ap (offset_part n table node) is ∙ part_some n table node p left range (sym some) in
      part_more n.period sum here (offset_part n table node left) whole (scaled p.mult range.0 range.1) e
      (ap (option_map (λ z. sum +ℤ pos n.period *ℤ z)) (sym part) ∙ h)

  pub offset_none : (sum : ℤ) (whole : Option ℤ)
      → ◌≡◌ {A = Option (ℤ × ℤ)} None (offsets_left n table node (p.cycle - 1))
      → IsWhole n.period sum (offset_part n table node pairs) whole
      → ◌≡◌ {A = Option ℤ} None (option_map (λ z. pos n.period *ℤ z) whole)
  offset_none sum whole none h =
      let part = ap (offset_part n table node) is ∙ part_none n table node p left (sym none) in
      ap (option_map (λ z. sum +ℤ pos n.period *ℤ z)) (sym part) ∙ h

pub offset_first : (period : ℕ) (whole : Option ℤ) → IsWhole period (pos 0) whole whole
offset_first period None = refl
offset_first period (Some z) = let e : pos 0 +ℤ pos period *ℤ z ≡ pos period *ℤ z = omega (arith, ints) in ap Some e

pub offset_all : (n : Net) (table : List (List SignedRow)) (node : Node) (pairs : List Pair) (sum : ℤ)
    (whole : Option ℤ) → pairs ≡ [] → IsWhole n.period sum (offset_part n table node pairs) whole
    → ◌≡◌ {A = Option ℤ} (Some sum) (option_map (λ z. pos n.period *ℤ z) whole)
offset_all n table node pairs sum whole done h =
    let e : sum ≡ sum +ℤ pos n.period *ℤ pos 0 = omega (arith, ints) in
    let none : offset_part n table node pairs ≡ Some (pos 0) = ap (offset_part n table node) done in
    ap Some e ∙ ap (option_map (λ z. sum +ℤ pos n.period *ℤ z)) (sym none) ∙ h

-- ---- the whole

-- where a cycle has no offset left there is no value
no_apart : (t a b : ℤ) (o : Option ℤ) → ◌≡◌ {A = Option ℤ} None (option_map (λ z. t *ℤ z) o)
    → ◌≡◌ {A = Option ℤ} None (option_map (λ z. t *ℤ z -ℤ a +ℤ b) o)
no_apart t a b None e = refl
no_apart t a b (Some z) e = cc

pub value_none : (n : Net) (table : List (List SignedRow)) (node : Node) (pairs : List Pair) (weighted : Bool)
    → ◌≡◌ {A = Option ℤ} None (option_map (λ z. pos n.period *ℤ z) (offset_part n table node pairs))
    → None ≡ leaf_value n table node pairs weighted
value_none n table node pairs weighted o = no_apart (pos n.period)
    (over_arcs n.arcs (λ i. flow table pairs i *ℤ (arc_at n.arcs i).lower))
    (over_arcs n.arcs (slack_part n table node pairs weighted)) (offset_part n table node pairs) o
