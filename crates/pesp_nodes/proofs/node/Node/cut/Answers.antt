use Rattle.std.proofs.Common.{◌≡◌, ◌∙◌, ◌-◌, ◌≤◌, ◌<◌, ℕ, List, length, ap, sym, subst, arith, FitsSigned}
use Rattle.std.proofs.lemmas.Grind.{common_steps}
use Rattle.std.specs.Prelude.{ℤ, pos, unsigned_abs, slice_set}
use Rattle.std.specs.Int.{w64}
use Rattle.std.proofs.lemmas.Int.{ints, to_z-of_z}
use Rattle.std.proofs.lemmas.List.{get_or_default}
use Rattle.std.proofs.lemmas.List.Elements.{All-set}
use Rattle.pesp_problem.specs.declared.cut.Cut.{Cut}
use Rattle.pesp_problem.specs.declared.cut.Cut.TheVariants.{Offset}
use Rattle.pesp_problem.specs.declared.cut.Side.{Side}
use Rattle.pesp_problem.specs.declared.cut.Side.TheVariants.{Low, High}
use Rattle.pesp_problem.specs.Walks.{Names}
use Rattle.pesp_problem.specs.Nodes.{Node, offset_range, part}
use Rattle.pesp_nodes.specs.Offsets.{IsOffsetEnds}
use Rattle.pesp_problem.specs.Ranges.{cut_offset}
use Rattle.pesp_nodes.specs.Problems.{IsCutOf}
use Rattle.pesp_nodes.proofs.node.Node.cut.Goals as goal

abbrev ranges : List (ℕ × ℕ) → List (ℤ × ℤ) → Node
ranges slacks offsets = record { slacks = slacks; offsets = offsets }

-- the cut is one of the node that is kept
given : (c : goal.After-self-in-Offset-1) → Names (length c.self.inside.offsets.items) c.in-Offset.cycle
    × (unsigned_abs c.in-Offset.k ≤ 100000000000000)
given c =
    let own = ranges c.self.inside.slacks.items c.self.inside.offsets.items in
    subst (λ (x : Cut). IsCutOf own x) c.in-Offset.is (subst (λ (n : Node). IsCutOf n c.args.cut) (sym c.self.view_is) c.requires)

inside : (c : goal.After-self-in-Offset-1) → c.in-Offset.cycle - 1 < length c.self.inside.offsets.items
inside c = let names = (given c).0 in let some = names.0 in let most = names.1 in omega arith

pub invariant_of-self-in-Offset : goal.invariant_of-self-in-Offset
invariant_of-self-in-Offset c =
    let offsets = c.self.inside.offsets.items in
    let was = c.self.invariant.1 (c.in-Offset.cycle - 1) c.index-in-Offset.result.now (inside c) in
    let here = subst IsOffsetEnds (sym c.index-in-Offset.ensures) was in (
      c.self.invariant.0,
      All-set IsOffsetEnds offsets (c.in-Offset.cycle - 1) c.cut_offset.result
          (c.cut_offset.ensures.ends here) c.self.invariant.1,
    )

part_of_offset : (slacks : List (ℕ × ℕ)) (offsets : List (ℤ × ℤ)) (cycle : ℕ) (k : ℤ) (side : Side) (r : ℤ × ℤ)
    → r ≡ cut_offset (offset_range offsets (cycle - 1)) k side
    → ranges slacks (slice_set offsets (cycle - 1) r) ≡ part (ranges slacks offsets) (Offset cycle k) side
part_of_offset slacks offsets cycle k Low r e = ap (λ (x : ℤ × ℤ). ranges slacks (slice_set offsets (cycle - 1) x)) e
part_of_offset slacks offsets cycle k High r e = ap (λ (x : ℤ × ℤ). ranges slacks (slice_set offsets (cycle - 1) x)) e

pub returns-in-Offset-clause-part : goal.returns-in-Offset-clause-part
returns-in-Offset-clause-part c =
    let slacks = c.self.inside.slacks.items in
    let offsets = c.self.inside.offsets.items in
    let cycle = c.in-Offset.cycle in
    let k = c.in-Offset.k in
    let small = (given c).1 in
    let fits : FitsSigned w64 k = omega (arith, ints, small) in
    let range : c.index-in-Offset.result.now ≡ offset_range offsets (cycle - 1) = c.index-in-Offset.ensures
    ∙ get_or_default offsets (cycle - 1) c.index-in-Offset.result.now (pos 0, pos 0) (inside c) in
    let is = c.cut_offset.ensures.part ∙ ap (λ (z : ℤ). cut_offset c.index-in-Offset.result.now z c.args.side)
    (to_z-of_z w64 k fits) ∙ ap (λ (r : ℤ × ℤ). cut_offset r k c.args.side) range in
    part_of_offset slacks offsets cycle k c.args.side c.cut_offset.result is
    ∙ ap (λ (n : Node). part n (Offset cycle k) c.args.side) c.self.view_is
    ∙ ap (λ (x : Cut). part c.args.self.now x c.args.side) (sym c.in-Offset.is)

pub returns-in-Slack-clause-part : goal.returns-in-Slack-clause-part
returns-in-Slack-clause-part c = grind (arith, common_steps)
