use Rattle.std.proofs.Common.{◌∙◌, ◌+◌, sym, arith}
use Rattle.pesp_conflict.proofs.Numbers.{has_more}
use Rattle.pesp_conflict.proofs.lists.is_whole.Goals as goal

pub loop-place-preserved : goal.loop-place-preserved
loop-place-preserved c = has_more c.args.listed.now c.loop-place.place c.loop-place.invariant (c.is_listed.ensures.only c.if-not-is_listed.false)

pub returns-then-not-is_listed-clause-found : goal.returns-then-not-is_listed-clause-found
returns-then-not-is_listed-clause-found c rising all = sym c.if-not-is_listed.true ∙ c.is_listed.ensures.found rising
    (all (c.loop-place.place + 1) (omega arith, (let inside = c.loop-place-test.true in omega (arith, inside))))
