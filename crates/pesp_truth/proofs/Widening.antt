-- The root with slack ranges that are widened so that they have the slacks of some times: these lie in it.
use Rattle.std.proofs.Common.{◌≡◌, ℕ, ◌+◌, ◌<◌, ◌≤◌, List, [], length, ap, sym, ◌∙◌, arith, zero-le}
use Rattle.std.specs.Prelude.{pos, max, map, All}
use Rattle.std.proofs.lemmas.List.{get_or-map, length-map}
use Rattle.pesp_problem.specs.declared.arc.Arc.{Arc}
use Rattle.pesp_problem.specs.declared.row.SignedRow.{SignedRow}
use Rattle.pesp_problem.specs.Arcs.{Net, no_arc, arc_at, arc_slack, slacks_at}
use Rattle.pesp_problem.specs.Walks.{IsWalk}
use Rattle.pesp_problem.specs.Nodes.{Node, slack_range, cycle_at, SlacksIn, LieIn, odijk_range, root_slacks, root}
use Rattle.pesp_problem.proofs.Walks.{has_offset}
use Rattle.pesp_problem.proofs.Nodes.{in_odijk_range}
use Rattle.pesp_truth.proofs.Agreeing.{Agree}
use Rattle.pesp_truth.proofs.AgreeingLeaves.{same_odijk, SameSlacks}

-- from 0 to the span, or to the slack where that is more
abbrev wide_range : ℕ → List ℕ → Arc → ℕ × ℕ
wide_range period times arc = (0, max arc.span (arc_slack period times arc))

abbrev wide_slacks : Net → List ℕ → List (ℕ × ℕ)
wide_slacks n times = map (wide_range n.period times) n.arcs

abbrev pub wide_root : Net → List (List SignedRow) → List ℕ → Node
wide_root n table times = record { slacks = wide_slacks n times; offsets = map (odijk_range n (wide_slacks n times)) table }

wide_range_is : (n : Net) (times : List ℕ) (i : ℕ) → i < length n.arcs
    → slack_range (wide_slacks n times) i ≡ wide_range n.period times (arc_at n.arcs i)
wide_range_is n times i l = get_or-map (wide_range n.period times) n.arcs i no_arc (0, 0) l

wide_slacks_in : (n : Net) (times : List ℕ) → SlacksIn n (slacks_at n times) (wide_slacks n times)
wide_slacks_in n times i l = rw (wide_range_is n times i l) (zero-le, omega arith)

pub lies_in_wide_root : (n : Net) (table : List (List SignedRow)) (times : List ℕ) → 0 < n.period
    → All (IsWalk n.arcs) table → LieIn n table (slacks_at n times) (wide_root n table times)
lies_in_wide_root n table times h w = (
  wide_slacks_in n times,
  λ c l.
      let offset = has_offset n times (cycle_at table c) h (w c [] l) in
      let bounds = in_odijk_range n (slacks_at n times) (wide_slacks n times) (cycle_at table c) offset.0 h
      (wide_slacks_in n times) offset.1 in
      let range = get_or-map (odijk_range n (wide_slacks n times)) table c [] (pos 0, pos 0) l in
      (offset.0, offset.1, rw range (bounds.0), rw range (bounds.1)),
)

-- a row whose slack is within its span keeps its range
same_range : (n : Net) (times : List ℕ) (i : ℕ) → i < length n.arcs → slacks_at n times i ≤ (arc_at n.arcs i).span
    → slack_range (root_slacks n) i ≡ slack_range (wide_slacks n times) i
same_range n times i l s =
    let full = λ (arc : Arc). let range : ℕ × ℕ = (0, arc.span) in range in
    let same : (arc_at n.arcs i).span ≡ max (arc_at n.arcs i).span (slacks_at n times i) = omega (arith, s) in
    get_or-map full n.arcs i no_arc (0, 0) l ∙ ap (λ (k : ℕ). let range : ℕ × ℕ = (0, k) in range) same ∙ sym (wide_range_is n times i l)

-- so the root and the widened root agree in the rows that are kept
pub roots_agree : (P : ℕ → Type 0) (n : Net) (table : List (List SignedRow)) (times : List ℕ)
    → ((i : ℕ) → i < length n.arcs → P (i + 1) → slacks_at n times i ≤ (arc_at n.arcs i).span)
    → Agree P (length n.arcs) table (root n table) (wide_root n table times)
roots_agree P n table times kept =
    let same : SameSlacks P (length n.arcs) (root_slacks n) (wide_slacks n times) = λ i l p. same_range n times i l (kept i l p) in
    record {
      slack_places = length-map n.arcs (λ (arc : Arc). let range : ℕ × ℕ = (0, arc.span) in range)
          ∙ sym (length-map n.arcs (wide_range n.period times));
      offset_places = length-map table (odijk_range n (root_slacks n)) ∙ sym (length-map table (odijk_range n (wide_slacks n times)));
      slacks = same;
      offsets = λ c l h. get_or-map (odijk_range n (root_slacks n)) table c [] (pos 0, pos 0) l
          ∙ same_odijk P n (root_slacks n) (wide_slacks n times) (cycle_at table c) h same
          ∙ sym (get_or-map (odijk_range n (wide_slacks n times)) table c [] (pos 0, pos 0) l);
    }
