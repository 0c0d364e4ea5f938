use Rattle.std.proofs.Common.{rules, arith}
use Rattle.pesp_conflict.specs.Refusals.{IsConflictRefusal}
use Rattle.pesp_conflict.proofs.Decisions.{decided_over, told_of_part}
use Rattle.pesp_conflict.proofs.Refusals.{fit_is_short, met_over}
use Rattle.pesp_conflict.proofs.decided_rows.decide.Goals as goal

pub part_of-requires-clause-few : goal.part_of-requires-clause-few
part_of-requires-clause-few g c =
    let short = fit_is_short c.args.instance.now c.args.listed.now c.requires.fit in
    let most = c.rows-limits.ensures.limits.rows in
    omega (arith, short, most)

pub returns-in_err-solved-clause-refused : goal.returns-in_err-solved-clause-refused
returns-in_err-solved-clause-refused g c =
    let refused : IsConflictRefusal c.args.instance.now c.args.steps c.in_err-solved.field-0.0 =
    met_over c.args.instance.now c.in_ok-part.part c.args.listed.now c.args.steps c.in_err-solved.field-0.0
    c.requires.fit c.in_ok-part.ensures c.in_err-solved.ensures.refused c.in_err-solved.ensures.passed in
    search rules

pub returns-clause-decided : goal.returns-clause-decided
returns-clause-decided g c =
    let p = c.args.instance.now in
    let listed = c.args.listed.now in
    let solved = c.in_ok-solved.ensures.solved in
    let content = c.in_ok-solved.solved.certificate in
    let told = told_of_part p c.in_ok-part.part listed content c.rows-limits.ensures.limits.some_period c.requires.fit
    c.in_ok-part.ensures solved.valid in
    decided_over p c.in_ok-part.part listed c.args.steps c.in_ok-solved.solved.steps_used content _ c.in_ok-part.ensures
    solved (c.in_ok-told_by.ensures p told)
