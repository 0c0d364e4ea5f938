use Rattle.std.proofs.Common.{◌∙◌, refl, arith, ◌<◌}
use Rattle.pesp_propagate.specs.Entries.{crossings_of}
use Rattle.pesp_propagate.proofs.Choosing.{best_none, best_is_best, fits_free, none_fits}
use Rattle.pesp_propagate.proofs.shift.best_shift.Goals as goal

pub loop-i-init : goal.loop-i-init
loop-i-init c =
    let e = c.if-not-shift_costs.ensures in
    let rows = crossings_of c.args.arcs.now c.args.slacks.now c.args.entries.now in
    best_none _ _ (e.bars refl 0 (e.some refl) ∙ fits_free c.args.period rows 0 (none_fits c.args.period rows (e.rows refl)))

pub returns-clause-best : goal.returns-clause-best
returns-clause-best c =
    let e = c.if-not-shift_costs.ensures in
    let rows = crossings_of c.args.arcs.now c.args.slacks.now c.args.entries.now in
    let some : 0 < c.args.period = e.some refl in let t = c.loop-i-test.false in let end = c.loop-i.auto.i-end in
    best_is_best c.args.period rows c.shift_costs.new.costs c.shift_costs.new.bars c.loop-i.best c.loop-i.i
    (omega (arith, end some)) (e.rows refl) (e.costs refl) (e.bars refl) c.loop-i.invariant
