use Rattle.std.proofs.Common.{List, [], ◌-◌, ◌∙◌, subst, arith}
use Rattle.std.proofs.lemmas.List.{get_or_default}
use Rattle.pesp_problem.specs.declared.row.SignedRow.{SignedRow}
use Rattle.pesp_problem.specs.Forests.{KeepsTo}
use Rattle.pesp_conflict.proofs.used.cycle_is_listed.Goals as goal

pub returns : goal.returns
returns c t =
    let there = get_or_default c.args.cycles.now (c.args.cycle - 1) _ [] (omega (arith, c.if-cycle-lt1.false, c.if-cycle-cycles.false)) in
    subst (λ (walk : List SignedRow). KeepsTo c.args.listed.now walk)
    (c.rows.ensures ∙ c.index-cycles-cycle.is ∙ there) (c.walk_is_listed.ensures t)
