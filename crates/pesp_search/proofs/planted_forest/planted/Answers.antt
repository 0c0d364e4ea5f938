use Rattle.std.proofs.Common.{◌≡◌, ap, sym, ◌∙◌, subst}
use Rattle.std.specs.Prelude.{IfOk}
use Rattle.pesp_problem.specs.Timetables.{Pesp}
use Rattle.pesp_search.proofs.Lifting.{reduced_over}
use Rattle.pesp_search.proofs.planted_forest.planted.Goals as goal

pub returns-in-Ok-clause-original : goal.returns-in-Ok-clause-original
returns-in-Ok-clause-original g c = subst (λ (i : Pesp). IfOk c.with_forest.result (λ r. r.original ≡ i))
    c.in_ok-reduced.ensures.original c.with_forest.ensures.original

pub returns-in-Ok-clause-reduced : goal.returns-in-Ok-clause-reduced
returns-in-Ok-clause-reduced g c =
    let r = c.in_ok-reduced.ensures in
    let s = c.with_forest.ensures in
    reduced_over c.in_ok-reduced.reduced c.with_forest.result s.original s.fates s.stands s.shifts s.period s.rows
    (record {
      period = r.period ∙ sym (ap (λ (i : Pesp). i.period) r.original);
      rows = r.rows;
      kept = r.kept;
      fates = r.fates;
    })
