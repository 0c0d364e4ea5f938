-- Tables of net counts as they grow, and the root.
use Rattle.std.proofs.Common.{◌≡◌, ℕ, ◌+◌, ◌<◌, ◌≤◌, arith, refl, ap, sym, ◌∙◌, List, [], ◌∷◌, ◌++◌, length, get_or, take, map, subst, inl, inr}
use Rattle.std.specs.Prelude.{ℤ, pos, ◌*ℤ◌, All, sum_by}
use Rattle.std.specs.Int.{int_min}
use Rattle.std.proofs.lemmas.Int.{ints, clamps}
use Rattle.std.proofs.lemmas.Bool.{cases_lt}
use Rattle.std.proofs.lemmas.List.{get_or_push, get_or_append_left, length_push, take_more, length-map, map_more, get_or-map, get_or_default}
use Rattle.std.proofs.lemmas.List.Sums.{get_or-le-sum_by}
use Rattle.pesp_problem.specs.declared.arc.Arc.{Arc}
use Rattle.pesp_problem.specs.declared.row.SignedRow.{SignedRow}
use Rattle.pesp_problem.specs.Timetables.{Pesp, no_row}
use Rattle.pesp_problem.specs.Limits.{KeepsLimits}
use Rattle.pesp_problem.specs.Arcs.{Net, net_of, arcs_of, arc_of, arc_at, no_arc}
use Rattle.pesp_problem.specs.Walks.{IsWalk, Names}
use Rattle.pesp_problem.specs.Nodes.{cycle_at, root_slacks, slack_range, odijk_range}
use Rattle.pesp_problem.proofs.Integers.{sum_below-zero}
use Rattle.pesp_problem.specs.declared.nets.NetCount.{NetCount}
use Rattle.pesp_problem.specs.Nets.{AreNetCounts, AreNets, nets_at}
use Rattle.pesp_leaves.specs.Offsets.{AreSlackRanges}
use Rattle.pesp_leaves.specs.Ranges.{idle_sum, idle_term}
use Rattle.pesp_leaves.proofs.Arcs.{arcs_long}

nets_push : (n : ℕ) (walks : List (List SignedRow)) (table : List (List NetCount)) (walk : List SignedRow)
    (counts : List NetCount) → AreNets n walks table → AreNetCounts n walk counts
    → AreNets n (walks ++ walk ∷ []) (table ++ counts ∷ [])
nets_push n walks table walk counts h new = record {
  long = omega (arith, length_push table counts, length_push walks walk, h.long);
  each = λ c l. elim (cases_lt c (length table)) [
    | inl m ↦ rw (
      get_or_append_left walks (walk ∷ []) [] c (omega (arith, h.long)),
      get_or_append_left table (counts ∷ []) [] c m,
    ) (h.each c m)
    | inr m ↦ let e : length table ≡ c = omega (arith, length_push table counts) in
        rw (get_or_push walks walk [] c (sym h.long ∙ e), get_or_push table counts [] c e) new
  ];
}

-- the walks so far and their net counts
pub nets_more : (n : ℕ) (cycles : List (List SignedRow)) (table : List (List NetCount)) (k : ℕ)
    (walk : List SignedRow) (counts : List NetCount) → k < length cycles → walk ≡ get_or cycles k walk
    → AreNets n (take k cycles) table → AreNetCounts n walk counts
    → AreNets n (take (k + 1) cycles) (table ++ counts ∷ [])
nets_more n cycles table k walk counts l is h new =
    let P : List (List SignedRow) → Type 0 = λ ws. AreNets n ws (table ++ counts ∷ []) in
    subst P (ap (λ w. take k cycles ++ w ∷ []) is ∙ sym (take_more cycles k walk l)) (nets_push n (take k cycles) table walk counts h new)

pub nets_none : (n : ℕ) → AreNets n [] []
nets_none n = record { long = refl; each = λ c l. absurd (omega arith) }

-- what a walk of the table is to its net counts' maker
pub walk_rows : (p : Pesp) (walk : List SignedRow) (n : ℕ) → n ≡ length p.rows → IsWalk (arcs_of p) walk → All (λ s. Names n s.row) walk
walk_rows p [] n e h = absurd h
walk_rows p (s ∷ walk) n e h = let P : ℕ → Type 0 = λ m. All (λ (s : SignedRow). Names m s.row) (s ∷ walk) in
    subst P (arcs_long p ∙ sym e) h.0

pub short_walk : (cycles : List (List SignedRow)) (k m : ℕ) (walk : List SignedRow) → k < length cycles
    → walk ≡ get_or cycles k walk → sum_by (λ walk. length walk) cycles ≤ m → length walk ≤ m
short_walk cycles k m walk l is few = omega (
  arith,
  get_or-le-sum_by (λ (w : List SignedRow). length w) cycles k walk l,
  ap (λ (w : List SignedRow). length w) is,
)

-- ---- the root

abbrev range_of : Arc → ℕ × ℕ
range_of arc = (0, arc.span)

pub root_are_ranges : (p : Pesp) → KeepsLimits p → AreSlackRanges (length p.rows) (root_slacks (net_of p))
root_are_ranges p keeps = (
  length-map (arcs_of p) range_of ∙ arcs_long p,
  λ i d l.
      let l' : i < length (arcs_of p) = omega (arith, length-map (arcs_of p) range_of) in
      let is : get_or (root_slacks (net_of p)) i d ≡ range_of (arc_at (arcs_of p) i) = get_or-map range_of (arcs_of p) i no_arc d l' in
      let arc : arc_at (arcs_of p) i ≡ arc_of p.period (get_or p.rows i no_row) =
      get_or-map (arc_of p.period) p.rows i no_row no_arc (omega (arith, arcs_long p)) in
      let small : (arc_at (arcs_of p) i).span ≤ 10000 = omega (arith, keeps.period, ap (λ (a : Arc). a.span) arc) in
      let P : ℕ × ℕ → Type 0 = λ r. (r.0 ≤ 10000) × (r.1 ≤ 10000) in
      let both : P (range_of (arc_at (arcs_of p) i)) = (omega arith, small) in
      subst P (sym is) both,
)

pub root_idle : (p : Pesp) → idle_sum (arcs_of p) (root_slacks (net_of p)) ≡ pos 0
root_idle p = sum_below-zero (length (arcs_of p)) (idle_term (arcs_of p) (root_slacks (net_of p))) (λ i l.
    let is : slack_range (root_slacks (net_of p)) i ≡ range_of (arc_at (arcs_of p) i) = get_or-map range_of (arcs_of p) i no_arc (0, 0) l in
    ap (λ (r : ℕ × ℕ). int_min (pos (arc_at (arcs_of p) i).weight *ℤ pos r.0)
    (pos (arc_at (arcs_of p) i).weight *ℤ pos r.1)) is
    ∙ none (arc_at (arcs_of p) i).weight (arc_at (arcs_of p) i).span)
  where
    none : (w s : ℕ) → int_min (pos w *ℤ pos 0) (pos w *ℤ pos s) ≡ pos 0
    none w s = omega (arith, ints, clamps)

-- the offset ranges so far
pub offsets_more : (n : ℕ) (net : Net) (slacks : List (ℕ × ℕ)) (walks : List (List SignedRow))
    (table : List (List NetCount)) (k : ℕ) (counts read : List NetCount) (range : ℤ × ℤ) (offsets : List (ℤ × ℤ))
    → AreNets n walks table → k < length table → read ≡ get_or table k read → counts ≡ read
    → ((walk : List SignedRow) → AreNetCounts n walk counts → range ≡ odijk_range net slacks walk)
    → offsets ≡ map (odijk_range net slacks) (take k walks)
    → offsets ++ range ∷ [] ≡ map (odijk_range net slacks) (take (k + 1) walks)
offsets_more n net slacks walks table k counts read range offsets h l is same value so_far =
    let at : counts ≡ nets_at table k = same ∙ is ∙ get_or_default table k read [] l in
    let P : List NetCount → Type 0 = λ cs. AreNetCounts n (cycle_at walks k) cs in
    let here = value (cycle_at walks k) (subst P (sym at) (h.each k l)) in
    ap (λ os. os ++ range ∷ []) so_far ∙ ap (λ (r : ℤ × ℤ). map (odijk_range net slacks) (take k walks) ++ r ∷ [])
    here ∙ sym (map_more (odijk_range net slacks) walks k [] (omega (arith, h.long)))
