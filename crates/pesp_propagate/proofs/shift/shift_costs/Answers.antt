use Rattle.std.proofs.Common.{arith, refl}
use Rattle.std.proofs.lemmas.List.Elements.{All-from_get_or}
use Rattle.pesp_propagate.specs.Shifts.{no_crossing, IsCrossing}
use Rattle.pesp_propagate.specs.Entries.{crossings_of}
use Rattle.pesp_propagate.proofs.Taking.{takes_none}
use Rattle.pesp_propagate.proofs.Tallying.{length-crossings_of}
use Rattle.pesp_propagate.proofs.shift.shift_costs.Goals as goal

pub tally-requires-clause-begin : goal.tally-requires-clause-begin
tally-requires-clause-begin c = takes_none c.args.period
    (crossings_of c.args.arcs.now c.args.slacks.now c.args.entries.now) _ _ (omega (arith, c.clear.ensures.long))
    (omega (arith, c.clear-2.ensures.long)) c.clear.ensures.zeros c.clear-2.ensures.zeros

pub returns-clause-rows : goal.returns-clause-rows
returns-clause-rows c e =
    let rows = crossings_of c.args.arcs.now c.args.slacks.now c.args.entries.now in
    let n = length-crossings_of c.args.arcs.now c.args.slacks.now c.args.entries.now in
    All-from_get_or (IsCrossing c.args.period) rows no_crossing (λ i l. (c.if-not-tally.ensures.takes refl).each i (omega arith))
