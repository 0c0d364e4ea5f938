use Rattle.std.proofs.Common.{◌≡◌, true, false, add-zero, refl, to_z, of_z, w64}
use Rattle.std.proofs.lemmas.Int.{to_z-of_z}
use Rattle.pesp_cert_lines.proofs.PairLoop.{judged_end, judged_odd, judged_bad, judged_more, mult_fits}
use Rattle.pesp_cert_lines.proofs.pairs.count_pairs.Goals as goal

pub returns-in_default-next-clause-exact : goal.returns-in_default-next-clause-exact
returns-in_default-next-clause-exact c =
    judged_odd c.args.words c.in-Some.first.now c.loop-first.least c.loop-first.within c.loop-first.number
    (rw (c.in-Some.ensures.steps, c.in_default-next.ensures.steps.0) at c.loop-first.invariant)

pub returns-in_default-pair_at-clause-exact : goal.returns-in_default-pair_at-clause-exact
returns-in_default-pair_at-clause-exact c = judged_bad c.args.words _ c.in-Some.first.now c.in-Some-next.second.now
    c.loop-first.least c.loop-first.within c.loop-first.number c.in_default-pair_at.ensures.exact
    (rw (c.in-Some.ensures.steps, c.in-Some-next.ensures.steps) at c.loop-first.invariant)

pub loop-first-preserved : goal.loop-first-preserved
loop-first-preserved c =
    let same : to_z w64 (of_z w64 c.in-Some-pair_at.mult)
    ≡ c.in-Some-pair_at.mult = to_z-of_z w64 c.in-Some-pair_at.mult
    (mult_fits c.loop-first.least c.in-Some.first.now c.in-Some-next.second.now c.in-Some-pair_at.cycle
    c.in-Some-pair_at.mult c.in-Some-pair_at.ensures.exact) in
    rw (c.is_within-within.ensures, same) (judged_more c.args.words c.next-in-Some.new.self c.in-Some.first.now
    c.in-Some-next.second.now c.loop-first.least c.in-Some-pair_at.cycle c.in-Some-pair_at.mult
    c.loop-first.within c.loop-first.number c.in-Some-pair_at.ensures.exact c.in-Some-pair_at.ensures.below
    (rw (c.in-Some.ensures.steps, c.in-Some-next.ensures.steps) at c.loop-first.invariant))

pub returns-then-within-clause-exact : goal.returns-then-within-clause-exact
returns-then-within-clause-exact c =
    let nil = c.in_default.ensures.steps.0 in
    let h = rw (nil, c.if-within.true) at c.loop-first.invariant in
    rw (← judged_end c.args.words c.loop-first.least true c.loop-first.number h) (rw add-zero refl)

pub returns-else-within-clause-exact : goal.returns-else-within-clause-exact
returns-else-within-clause-exact c =
    let nil = c.in_default.ensures.steps.0 in
    let h = rw (nil, c.if-within.false) at c.loop-first.invariant in
    judged_end c.args.words c.loop-first.least false c.loop-first.number h
