use Rattle.std.proofs.Common.{true, false, add-zero, refl}
use Rattle.pesp_cert_lines.proofs.MarkedLoop.{marked_end, marked_bad, marked_more}
use Rattle.pesp_cert_lines.proofs.marked.count_marked.Goals as goal

pub returns-in_default-marked_at-clause-exact : goal.returns-in_default-marked_at-clause-exact
returns-in_default-marked_at-clause-exact c = marked_bad c.args.words _ c.in-Some.word.now c.loop-word.within
    c.loop-word.number c.in_default-marked_at.ensures (rw c.in-Some.ensures.steps at c.loop-word.invariant)

pub returns-then-within-clause-exact : goal.returns-then-within-clause-exact
returns-then-within-clause-exact c =
    let nil = c.in_default.ensures.steps.0 in
    let h = rw (nil, c.if-within.true) at c.loop-word.invariant in
    rw (← marked_end c.args.words true c.loop-word.number h) (rw add-zero refl)

pub returns-else-within-clause-exact : goal.returns-else-within-clause-exact
returns-else-within-clause-exact c =
    let nil = c.in_default.ensures.steps.0 in
    let h = rw (nil, c.if-within.false) at c.loop-word.invariant in
    marked_end c.args.words false c.loop-word.number h

pub loop-word-preserved : goal.loop-word-preserved
loop-word-preserved c = rw c.is_name-within.ensures
    (marked_more c.args.words c.next.new.self c.in-Some.word.now c.in-Some-marked_at.row c.in-Some-marked_at._plus c.in-Some-marked_at._flipped
    c.loop-word.within c.loop-word.number c.in-Some-marked_at.ensures
    (rw c.in-Some.ensures.steps at c.loop-word.invariant))
