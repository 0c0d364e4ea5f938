use Rattle.std.proofs.Common.{refl, sym, ◌∙◌, []}
use Rattle.pesp_sharp_work.proofs.Passed.{none_passed, at_end, ends_here, shorter, goes_on}
use Rattle.pesp_sharp_work.proofs.joined_texts.behind_work.Goals as goal

pub loop-more-init : goal.loop-more-init
loop-more-init c = none_passed c.args.text.now

pub returns-in_default-clause-cut : goal.returns-in_default-clause-cut
returns-in_default-clause-cut c = at_end c.args.text.now c.loop-more.rest.now c.split_at_byte.result.0.now c.loop-more.invariant
    [] refl (rw c.in_default.is at c.split_at_byte.ensures.cut)

pub returns-then-ends_with-clause-cut : goal.returns-then-ends_with-clause-cut
returns-then-ends_with-clause-cut c = ends_here c.args.text.now c.loop-more.rest.now c.split_at_byte.result.0.now
    c.loop-more.invariant c.in-Some.more.now (rw c.in-Some.is at c.split_at_byte.ensures.cut)
    (sym c.ends_with.ensures ∙ c.if-ends_with.true)

pub returns-then-ends_with-clause-shorter : goal.returns-then-ends_with-clause-shorter
returns-then-ends_with-clause-shorter c = shorter c.args.text.now c.loop-more.rest.now c.split_at_byte.result.0.now
    c.loop-more.invariant c.in-Some.more.now (rw c.in-Some.is at c.split_at_byte.ensures.cut)

pub loop-more-preserved : goal.loop-more-preserved
loop-more-preserved c = goes_on c.args.text.now c.loop-more.rest.now c.split_at_byte.result.0.now
    c.loop-more.invariant c.in-Some.more.now (rw c.in-Some.is at c.split_at_byte.ensures.cut)
    (sym c.ends_with.ensures ∙ c.if-ends_with.false)
