use Rattle.std.proofs.Common.{length, refl, subst, ap, ◌∙◌}
use Rattle.pesp_conflict.specs.Findings.{IsFinding}
use Rattle.pesp_report_run.proofs.Short.{conflict_is_short}
use Rattle.pesp_report_run.proofs.Telling.{told_of_list}
use Rattle.pesp_report_run.proofs.run.run_conflict.Goals as goal

pub count_of-listed-requires : goal.count_of-listed-requires
count_of-listed-requires g c =
    let p = c.in_ok-instance.instance in
    let found = subst (IsFinding p c.args.steps) c.in-Conflict.is c.in_ok-found.ensures.found in
    rw (c.deref-in-Conflict-2.ensures.value) (conflict_is_short p c.in-Conflict.found.rows.items c.rows-limits.ensures.limits found.0)

pub returns-in-Conflict-clause-ok : goal.returns-in-Conflict-clause-ok
returns-in-Conflict-clause-ok g c =
    let p = c.in_ok-instance.instance in
    let found = subst (IsFinding p c.args.steps) c.in-Conflict.is c.in_ok-found.ensures.found in
    let written = rw (c.deref.ensures.value) at c.in_ok-write_list-in-Conflict.ensures.ok in
    let told = told_of_list p _ _ _ _ _ _ _ c.in-Conflict.found.rows.items written found.1
    (c.count_of-listed.ensures ∙ ap length c.deref-in-Conflict-2.ensures.value) (ap length c.rows.ensures.rows) in
    (p, c.in_ok-instance.ensures.ok, rw (c.told_of.ensures) told)

pub returns-clause-ok : goal.returns-clause-ok
returns-clause-ok g c =
    let p = c.in_ok-instance.instance in
    let undecided = subst (IsFinding p c.args.steps) c.in-Undecided.is c.in_ok-found.ensures.found in
    (p, c.in_ok-instance.ensures.ok, (refl, undecided, refl))
