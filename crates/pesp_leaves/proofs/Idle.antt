-- The sum of what the slacks cost at least where no flow passes them.
use Rattle.std.proofs.Common.{◌≡◌, ◌≢◌, ℕ, ◌<◌, ◌≤◌, arith, ap, sym, ◌∙◌, List, length, set}
use Rattle.std.specs.Prelude.{ℤ, pos, ◌+ℤ◌, ◌*ℤ◌, ◌-ℤ◌, unsigned_abs}
use Rattle.std.specs.Int.{int_min}
use Rattle.std.proofs.lemmas.Int.{ints, clamps}
use Rattle.std.proofs.Math.Nat.{mul-le-mul}
use Rattle.std.proofs.lemmas.List.{get_or-set_same, get_or-set_other, length-set}
use Rattle.std.proofs.lemmas.List.Elements.{All-get_or, All-set}
use Rattle.pesp_problem.specs.declared.arc.Arc.{Arc}
use Rattle.pesp_problem.specs.Timetables.{Pesp, no_row}
use Rattle.pesp_problem.specs.Limits.{KeepsLimits, RowKeepsLimits}
use Rattle.pesp_problem.specs.Arcs.{arcs_of, arc_at}
use Rattle.pesp_problem.specs.Nodes.{slack_range}
use Rattle.pesp_leaves.specs.Offsets.{AreSlackRanges}
use Rattle.pesp_leaves.specs.Ranges.{idle_term, idle_sum}
use Rattle.pesp_leaves.proofs.Sums.{sum_below-change, sum_below-small}
use Rattle.pesp_leaves.proofs.Arcs.{arcs_long, arc_is}

pub small_weight : (p : Pesp) (i : ℕ) → KeepsLimits p → i < length p.rows → (arc_at (arcs_of p) i).weight ≤ 1000000000
small_weight p i keeps l =
    let row = All-get_or (RowKeepsLimits (length p.events)) p.rows i no_row l keeps.each in
    omega (arith, row.weight, ap (λ (a : Arc). a.weight) (arc_is p i l))

pub idle_small : (w l h : ℕ) → w ≤ 1000000000 → l ≤ 10000 → h ≤ 10000
    → unsigned_abs (int_min (pos w *ℤ pos l) (pos w *ℤ pos h)) ≤ 10000000000000
idle_small w l h small low high = omega (arith, ints, clamps, mul-le-mul small low, mul-le-mul small high)

pub idle_sum_small : (p : Pesp) (slacks : List (ℕ × ℕ)) → KeepsLimits p → AreSlackRanges (length p.rows) slacks
    → unsigned_abs (idle_sum (arcs_of p) slacks) ≤ 1000000000000000000
idle_sum_small p slacks keeps are =
    let long = arcs_long p in
    let each = λ (i : ℕ) (l : i < length (arcs_of p)).
    (let range = are.1 i (0, 0) (omega (arith, are.0)) in
    idle_small (arc_at (arcs_of p) i).weight (slack_range slacks i).0 (slack_range slacks i).1
    (small_weight p i keeps (omega arith)) range.0 range.1) in
    omega (arith, sum_below-small (length (arcs_of p)) 10000000000000 (idle_term (arcs_of p) slacks) each, keeps.rows)

-- one range more or less
pub idle_set : (p : Pesp) (slacks : List (ℕ × ℕ)) (i : ℕ) (range : ℕ × ℕ) (idle before after : ℤ)
    → i < length p.rows → AreSlackRanges (length p.rows) slacks → idle ≡ idle_sum (arcs_of p) slacks
    → before ≡ idle_term (arcs_of p) slacks i
    → after ≡ int_min (pos (arc_at (arcs_of p) i).weight *ℤ pos range.0)
    (pos (arc_at (arcs_of p) i).weight *ℤ pos range.1)
    → (idle -ℤ before) +ℤ after ≡ idle_sum (arcs_of p) (set slacks i range)
idle_set p slacks i range idle before after l are e b a =
    let long = arcs_long p in
    let here : after ≡ idle_term (arcs_of p) (set slacks i range) i = a
    ∙ ap (λ (r : ℕ × ℕ). int_min (pos (arc_at (arcs_of p) i).weight *ℤ pos r.0)
    (pos (arc_at (arcs_of p) i).weight *ℤ pos r.1))
    (sym (get_or-set_same slacks i range (0, 0) (omega (arith, are.0)))) in
    let others = λ (k : ℕ) (m : k < length (arcs_of p)) (ne : k ≢ i).
    ap (λ (r : ℕ × ℕ). int_min (pos (arc_at (arcs_of p) k).weight *ℤ pos r.0)
    (pos (arc_at (arcs_of p) k).weight *ℤ pos r.1)) (sym (get_or-set_other slacks i k range (0, 0) ne)) in
    let change = sum_below-change (length (arcs_of p)) i (idle_term (arcs_of p) slacks)
    (idle_term (arcs_of p) (set slacks i range)) (omega arith) others in
    move idle before after _ _ _ _ e b here change
  where
    move : (idle before after s s' t t' : ℤ) → idle ≡ s → before ≡ t → after ≡ t' → s +ℤ t' ≡ s' +ℤ t → (idle -ℤ before) +ℤ after ≡ s'
    move idle before after s s' t t' e b a change = omega (arith, ints)

-- the ranges stay ranges
pub ranges_set : (n : ℕ) (slacks : List (ℕ × ℕ)) (i : ℕ) (range : ℕ × ℕ) → AreSlackRanges n slacks
    → range.0 ≤ 10000 → range.1 ≤ 10000 → AreSlackRanges n (set slacks i range)
ranges_set n slacks i range are low high = (
  length-set slacks i range ∙ are.0,
  All-set (λ (r : ℕ × ℕ). (r.0 ≤ 10000) × (r.1 ≤ 10000)) slacks i range (low, high) are.1,
)
