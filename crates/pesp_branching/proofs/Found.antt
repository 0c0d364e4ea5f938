-- Leaves that are found at both parts of a node make a valid step.
use Rattle.std.proofs.Common.{◌≡◌, ◌-◌, ◌<◌, List, length, refl, arith, subst, sym}
use Rattle.std.specs.Global.{Vec}
use Rattle.std.specs.Prelude.{ℤ, ◌≤ℤ◌, Option, Some, None, IfSome, IsSomeAnd, true}
use Rattle.std.proofs.lemmas.Int.{ints}
use Rattle.std.proofs.lemmas.List.Elements.{All-contains}
use Rattle.pesp_problem.specs.declared.pair.Pair.{Pair}
use Rattle.pesp_problem.specs.declared.cut.Cut.{Cut}
use Rattle.pesp_problem.specs.declared.cut.Side.{Side}
use Rattle.pesp_problem.specs.declared.cut.Side.TheVariants.{Low, High}
use Rattle.pesp_problem.specs.Nodes.{Node, leaf_value, offset_part, part, LeavesBoth}
use Rattle.pesp_truth.specs.Trees.{Leaf, Ends, Branch, Bound, Shut, CutExists}
use Rattle.pesp_truth.specs.declared.tree.TreeLine.{TreeLine}
use Rattle.pesp_nodes.specs.Problems.{ProblemValue, problem_net, ArePairs, IsPairOf}
use Rattle.pesp_tree.specs.declared.work.Work.TheVariants as works
use Rattle.pesp_tree.specs.Events.{IsValidAt, IsGraft}
use Rattle.pesp_tree.proofs.LeafParts.{parts_shrink, leaf_value_shrinks}
use Rattle.pesp_tree.proofs.Making.{gap_of, no_part}
use Rattle.pesp_tree.proofs.Trees.{and_is}
use Rattle.pesp_branching.specs.Settled.{HaveOffsetsLeft}
use Rattle.pesp_branching.specs.Turns.{AreStep, IsFoundAt}

-- where each cycle has an offset left, pairs have a value
has_value : (p : ProblemValue) (node : Node) (pairs : List Pair) → HaveOffsetsLeft (problem_net p) p.table node
    → ArePairs (length p.table) pairs → (value : Option ℤ) → leaf_value (problem_net p) p.table node pairs true ≡ value
    → (v : ℤ) × (leaf_value (problem_net p) p.table node pairs true ≡ Some v)
has_value p node pairs left h None e =
    let gap = gap_of (problem_net p) p.table node pairs (no_part _ (offset_part (problem_net p) p.table node pairs) e) in
    let named = (All-contains (IsPairOf (length p.table)) pairs gap.0 h.each gap.1).names in
    absurd (left (gap.0.cycle - 1) (omega (arith, named)) gap.2)
has_value p node pairs left h (Some v) e = (v, e)

no_less : (value : Option ℤ) (w v : ℤ) → value ≡ Some w → IfSome value (λ u. u ≤ℤ v) → w ≤ℤ v
no_less None w v e h = cc
no_less (Some u) w v e h = let same : u ≡ w = cc in subst (λ x. x ≤ℤ v) same h

some_and : (value : Option ℤ) (P : ℤ → Type 0) (v : ℤ) → value ≡ Some v → P v → IsSomeAnd value P
some_and value P v e h = rw e h

found_grafts : (p : ProblemValue) (node : Node) (start : List Pair) (cut : Cut) (side : Side) (leaf : Leaf)
    → 0 < (problem_net p).period → ArePairs (length p.table) start → LeavesBoth node cut
    → IsFoundAt p start (part node cut side) leaf
    → IsGraft p (leaf_value (problem_net p) p.table node start true) (part node cut side) (Ends leaf)
found_grafts p node start cut side (Bound pairs) h are both f =
    let at = part node cut side in
    let mine = has_value p at start f.0 are (leaf_value (problem_net p) p.table at start true) refl in
    let was = leaf_value_shrinks (problem_net p) p.table node at start true mine.0 h (parts_shrink node cut side both) mine.1 in
    let value = and_is (leaf_value (problem_net p) p.table at pairs true)
    (λ v. IfSome (leaf_value (problem_net p) p.table at start true) (λ w. w ≤ℤ v)) f.2 in
    let more : mine.0 ≤ℤ value.0 = no_less (leaf_value (problem_net p) p.table at start true) mine.0 value.0 mine.1 value.2 in
    let above : was.0 ≤ℤ value.0 = let less = was.2 in omega (arith, ints, less, more) in (
      f.1,
      some_and (leaf_value (problem_net p) p.table at pairs true)
          (λ v. IfSome (leaf_value (problem_net p) p.table node start true) (λ w. w ≤ℤ v)) value.0 value.1
          (rw (was.1) above),
    )
found_grafts p node start cut side (Shut reason) h are both f = f

pub found_is_valid : (p : ProblemValue) (node : Node) (start : List Pair) (lines : Vec TreeLine) (cut : Cut)
    (low high : Leaf) → 0 < p.network.period → ArePairs (length p.table) start → AreStep lines.items cut low high
    → CutExists (problem_net p) p.table cut → LeavesBoth node cut → IsFoundAt p start (part node cut Low) low
    → IsFoundAt p start (part node cut High) high → IsValidAt p node start (works.Tree lines)
found_is_valid p node start lines cut low high h are step exists both first second = (
  Branch cut (Ends low) (Ends high),
  (
    sym step,
    (
      exists,
      both,
      found_grafts p node start cut Low low h are both first,
      found_grafts p node start cut High high h are both second,
    ),
  ),
)
