use Rattle.std.proofs.Common.{arith, ap, sym, to_z, of_z, ◌≡◌, ◌^◌, ◌∙◌}
use Rattle.std.specs.Prelude.{ℤ, pos, ◌*ℤ◌}
use Rattle.std.specs.Int.{w128}
use Rattle.pesp_problem.proofs.Integers.{zero-mul}
use Rattle.pesp_leaves.proofs.Kept.{kept}
use Rattle.pesp_leaves.proofs.terms.lower_part.Goals as goal

pub returns-then-flow-eq0-clause-value : goal.returns-then-flow-eq0-clause-value
returns-then-flow-eq0-clause-value c =
    let zero : to_z w128 (of_z w128 c.args.flow) ≡ pos 0 = ap (to_z w128) c.if-flow-eq0.true in
    let flow : c.args.flow ≡ pos 0 = sym (kept c.args.flow (10 ^ 24) c.requires.flow (omega arith)) ∙ zero in
    sym (ap (λ (z : ℤ). z *ℤ c.args.lower) flow ∙ zero-mul c.args.lower)
