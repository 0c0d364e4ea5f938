use Rattle.std.proofs.Common.{◌<◌, ◌∙◌, ℕ, sym, arith, subst}
use Rattle.std.proofs.lemmas.List.Elements.{All-from_get_or}
use Rattle.pesp_problem.specs.ArcLimits.{HaveEnds}
use Rattle.pesp_network.specs.Networks.{arcs_of_network}
use Rattle.pesp_network.proofs.Places.{count}
use Rattle.pesp_network.proofs.Fitting.{opens_row}
use Rattle.pesp_network.proofs.times.timetable_of.Goals as goal

pub have_slacks-requires-clause-ends : goal.have_slacks-requires-clause-ends
have_slacks-requires-clause-ends c =
    let P : ℕ → Type 0 = λ n. HaveEnds n (arcs_of_network c.args.rows.now) in
    subst P (sym (c.as_slice.ensures.len ∙ c.in_ok-times.ensures.count)) c.requires.forest.ends

pub returns-then-have_slacks-clause-below : goal.returns-then-have_slacks-clause-below
returns-then-have_slacks-clause-below c = All-from_get_or (λ t. t < c.args.period) c.in_ok-times.times.items 0
    (λ i l. c.in_ok-times.ensures.less i)

pub returns-then-have_slacks-clause-slacks : goal.returns-then-have_slacks-clause-slacks
returns-then-have_slacks-clause-slacks c = rw c.as_slice.ensures.value at (c.have_slacks.ensures.all c.if-have_slacks.true)

pub returns-clause-none : goal.returns-clause-none
returns-clause-none c =
    let o = c.have_slacks.ensures.other c.if-have_slacks.false in
    let k = c.requires.slacks.count in let n = count c.args.rows.now in let l = o.1 in
    opens_row c.args.events c.args.period c.args.rows.now c.args.forest.now c.args.slacks.now
    c.in_ok-times.times.items o.0 c.requires.forest c.in_ok-times.ensures.fits l
    (c.requires.slacks.small o.0 (omega arith)) (rw c.as_slice.ensures.value at o.2)
