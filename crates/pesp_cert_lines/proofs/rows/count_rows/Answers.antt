use Rattle.std.proofs.Common.{true, false, add-zero, refl}
use Rattle.pesp_cert_lines.proofs.RowLoop.{rows_end, rows_bad, rows_more}
use Rattle.pesp_cert_lines.proofs.rows.count_rows.Goals as goal

pub returns-in_default-spelt_row-clause-exact : goal.returns-in_default-spelt_row-clause-exact
returns-in_default-spelt_row-clause-exact c = rows_bad c.args.words _ c.in-Some.word.now c.loop-word.within
    c.loop-word.number c.in_default-spelt_row.ensures (rw c.in-Some.ensures.steps at c.loop-word.invariant)

pub returns-then-within-clause-exact : goal.returns-then-within-clause-exact
returns-then-within-clause-exact c =
    let nil = c.in_default.ensures.steps.0 in
    let h = rw (nil, c.if-within.true) at c.loop-word.invariant in
    rw (← rows_end c.args.words true c.loop-word.number h) (rw add-zero refl)

pub returns-else-within-clause-exact : goal.returns-else-within-clause-exact
returns-else-within-clause-exact c =
    let nil = c.in_default.ensures.steps.0 in
    let h = rw (nil, c.if-within.false) at c.loop-word.invariant in
    rows_end c.args.words false c.loop-word.number h

pub loop-word-preserved : goal.loop-word-preserved
loop-word-preserved c = rw c.is_name-within.ensures
    (rows_more c.args.words c.next.new.self c.in-Some.word.now c.in-Some-spelt_row.row c.in-Some-spelt_row._plus
    c.loop-word.within c.loop-word.number c.in-Some-spelt_row.ensures
    (rw c.in-Some.ensures.steps at c.loop-word.invariant))
