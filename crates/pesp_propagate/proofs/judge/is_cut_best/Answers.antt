use Rattle.std.proofs.Common.{◌≡◌, arith, subst, length, ℕ, List, true, eqb}
use Rattle.std.proofs.lemmas.Bool.Decides.{nat_tests}
use Rattle.pesp_propagate.specs.declared.crossing.Entry.{Entry}
use Rattle.pesp_propagate.specs.Shifts.{IsBestShift}
use Rattle.pesp_propagate.specs.Entries.{crossings_of, cut_entries}
use Rattle.pesp_problem.specs.Roots.{below}
use Rattle.pesp_propagate.proofs.Judging.{cut_is_best}
use Rattle.pesp_propagate.proofs.judge.is_cut_best.Goals as goal

is_zero : (n : ℕ) → eqb n 0 ≡ true → n ≡ 0
is_zero n h = grind (arith, nat_tests)

pub returns-in-Some-best : goal.returns-in-Some-best
returns-in-Some-best c times n r done l slacks listed =
    let zero : c.in-Some-best.amount ≡ 0 = is_zero c.in-Some-best.amount done in
    let entries = c.in-Some.entries.now in
    let lists : ℕ → List Entry = λ x. cut_entries (below r x) c.args.arcs.now (length c.args.arcs.now) in
    let P : ℕ → Type 0 = IsBestShift c.args.period (crossings_of c.args.arcs.now c.args.slacks.now entries) in
    cut_is_best (record { period = c.args.period; arcs = c.args.arcs.now }) times r c.args.cut c.args.slacks.now
    entries c.requires.some slacks (c.in-Some.ensures n lists l listed)
    (subst P zero c.in-Some-best.ensures.best)
