use Rattle.std.proofs.Common.{◌∙◌, sym, refl, true≢false}
use Rattle.pesp_conflict.proofs.Numbers.{more_among, all_among}
use Rattle.pesp_conflict.proofs.lists.are_found.Goals as goal

pub loop-row-preserved : goal.loop-row-preserved
loop-row-preserved c = more_among c.args.rows.now c.args.some.now c.loop-row.row-index c.loop-row.invariant
    (c.is_found.ensures.0 c.if-not-is_found.false)

pub returns-then-not-is_found : goal.returns-then-not-is_found
returns-then-not-is_found c = (
  λ never. absurd (true≢false (sym never)),
  λ all. sym c.if-not-is_found.true ∙ c.is_found.ensures.1 (all c.loop-row.row-index 0 c.loop-row-test.true),
)

pub returns : goal.returns
returns c = (
  λ t. all_among c.args.rows.now c.args.some.now c.loop-row.row-index c.loop-row.invariant c.loop-row-test.false,
  λ all. refl,
)
