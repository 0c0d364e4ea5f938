use Rattle.std.proofs.Common.{◌∙◌, sym}
use Rattle.pesp_conflict.proofs.Numbers.{more_among, all_among}
use Rattle.pesp_conflict.proofs.lists.are_among.Goals as goal

pub loop-row-preserved : goal.loop-row-preserved
loop-row-preserved c = more_among c.args.listed.now c.args.some.now c.loop-row.row-index c.loop-row.invariant
    (c.is_listed.ensures.only c.if-not-is_listed.false)

pub returns-then-not-is_listed-clause-found : goal.returns-then-not-is_listed-clause-found
returns-then-not-is_listed-clause-found c rising all =
    sym c.if-not-is_listed.true ∙ c.is_listed.ensures.found rising (all c.loop-row.row-index 0 c.loop-row-test.true)

pub returns-clause-only : goal.returns-clause-only
returns-clause-only c t = all_among c.args.listed.now c.args.some.now c.loop-row.row-index c.loop-row.invariant c.loop-row-test.false
