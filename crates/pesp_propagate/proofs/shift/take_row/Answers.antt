use Rattle.std.proofs.Common.{◌*◌, ◌≤◌, arith}
use Rattle.pesp_propagate.proofs.Taking.{takes_in, takes_out}
use Rattle.pesp_propagate.proofs.shift.take_row.Goals as goal

pub returns-then-row : goal.returns-then-row
returns-then-row c =
    let lap : c.args.row.weight * c.args.period ≤ 10000000000000 = omega (arith, c.lap.ensures.value, c.lap.ensures.most) in
    rw (c.lower-then-row.ensures, c.raise.ensures, c.lower.ensures, c.lap.ensures.value)
    (takes_in c.args.period c.args.row c.args.costs.now c.args.bars.now c.if-row.true c.requires.row
    c.requires.costs_long c.requires.bars_long lap)

pub returns-else-row : goal.returns-else-row
returns-else-row c =
    let lap : c.args.row.weight * c.args.period
    ≤ 10000000000000 = omega (arith, c.lap-else-row.ensures.value, c.lap-else-row.ensures.most) in
    rw (
      c.lower-else-row.ensures,
      c.raise-else-row-2.ensures,
      c.raise-else-row.ensures,
      c.lap-else-row.ensures.value,
    ) (takes_out c.args.period c.args.row c.args.costs.now c.args.bars.now
    c.if-row.false c.requires.row c.requires.costs_long c.requires.bars_long lap)
