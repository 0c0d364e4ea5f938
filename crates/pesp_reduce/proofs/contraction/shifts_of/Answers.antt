use Rattle.std.proofs.Common.{◌≡◌, ℕ, length, replicate, ap, ◌∙◌, rules, List, arith}
use Rattle.std.specs.Prelude.{slice_index}
use Rattle.std.proofs.lemmas.Grind.{common_steps}
use Rattle.pesp_reduce.proofs.Lists.{zeros_index}
use Rattle.pesp_reduce.proofs.contraction.shifts_of.Goals as goal

pub unreachable-requires : goal.unreachable-requires
unreachable-requires c =
    let n = length c.rows.result.now in
    let e : c.in_ok-zeros.zeros.items ≡ replicate n 0 = search rules in
    let o = rw c.in-None.is at c.in_ok-times.ensures.none in
    o.open_each o.walk o.fundamental (c.requires (slice_index c.as_slice.result.now) o.walk
    (λ i. ap (λ (xs : List ℕ). slice_index xs i) (c.as_slice.ensures.value ∙ e) ∙ zeros_index n i)
    o.fundamental.closes)

pub timetable_of-requires-clause-count : goal.timetable_of-requires-clause-count
timetable_of-requires-clause-count c = grind (arith, common_steps)

pub timetable_of-requires-clause-below : goal.timetable_of-requires-clause-below
timetable_of-requires-clause-below c = grind (arith, common_steps)

pub returns-clause-count : goal.returns-clause-count
returns-clause-count c = grind (arith, common_steps)

pub returns-clause-below : goal.returns-clause-below
returns-clause-below c = grind (arith, common_steps)

pub returns-clause-slacks : goal.returns-clause-slacks
returns-clause-slacks c = grind (arith, common_steps)
