use Rattle.std.proofs.Common.{length, pos, ap, sym, ◌∙◌, ◌-ℤ◌, arith}
use Rattle.std.proofs.lemmas.Grind.{common_steps}
use Rattle.pesp_network.specs.Growing.{at}
use Rattle.pesp_network.proofs.Fitting.{reads_up, same_both}
use Rattle.pesp_network.proofs.times.time_of.Goals as goal

pub later-requires-clause-lower : goal.later-requires-clause-lower
later-requires-clause-lower c = (reads_up (length c.args.times.now) c.args.period c.args.rows.now c.args.forest.now
    c.args.slacks.now c.args.event _ _ c.requires.forest c.requires.slacks c.requires.event c.requires.joined
    c.index-by.ensures c.index-up.ensures).lower

pub later-requires-clause-slack : goal.later-requires-clause-slack
later-requires-clause-slack c = (reads_up (length c.args.times.now) c.args.period c.args.rows.now c.args.forest.now
    c.args.slacks.now c.args.event _ _ c.requires.forest c.requires.slacks c.requires.event c.requires.joined
    c.index-by.ensures c.index-up.ensures).small

pub earlier-requires-clause-lower : goal.earlier-requires-clause-lower
earlier-requires-clause-lower c = (reads_up (length c.args.times.now) c.args.period c.args.rows.now c.args.forest.now
    c.args.slacks.now c.args.event _ _ c.requires.forest c.requires.slacks c.requires.event c.requires.joined
    c.index-by.ensures c.index-up.ensures).lower

pub earlier-requires-clause-slack : goal.earlier-requires-clause-slack
earlier-requires-clause-slack c = (reads_up (length c.args.times.now) c.args.period c.args.rows.now c.args.forest.now
    c.args.slacks.now c.args.event _ _ c.requires.forest c.requires.slacks c.requires.event c.requires.joined
    c.index-by.ensures c.index-up.ensures).small

pub returns-then-row-up-clause-as_head : goal.returns-then-row-up-clause-as_head
returns-then-row-up-clause-as_head c = λ same. let r =
    reads_up (length c.args.times.now) c.args.period c.args.rows.now c.args.forest.now c.args.slacks.now c.args.event _ _
    c.requires.forest c.requires.slacks c.requires.event c.requires.joined c.index-by.ensures c.index-up.ensures in
    same_both c.args.period _ _ _ _ (ap (λ u. pos c.later.result -ℤ pos (at c.args.times.now u)) (sym r.up_is))
    r.lasts c.later.ensures.same

pub returns-then-row-up-clause-as_tail : goal.returns-then-row-up-clause-as_tail
returns-then-row-up-clause-as_tail c = λ other. let r =
    reads_up (length c.args.times.now) c.args.period c.args.rows.now c.args.forest.now c.args.slacks.now c.args.event _ _
    c.requires.forest c.requires.slacks c.requires.event c.requires.joined c.index-by.ensures c.index-up.ensures in
    absurd (other (sym r.tail ∙ c.if-row-up.true ∙ r.up_is))

pub returns-else-row-up-clause-as_head : goal.returns-else-row-up-clause-as_head
returns-else-row-up-clause-as_head c = λ same. let r =
    reads_up (length c.args.times.now) c.args.period c.args.rows.now c.args.forest.now c.args.slacks.now c.args.event _ _
    c.requires.forest c.requires.slacks c.requires.event c.requires.joined c.index-by.ensures c.index-up.ensures in
    absurd (c.if-row-up.false (r.tail ∙ same ∙ sym r.up_is))

pub returns-else-row-up-clause-as_tail : goal.returns-else-row-up-clause-as_tail
returns-else-row-up-clause-as_tail c = λ other. let r =
    reads_up (length c.args.times.now) c.args.period c.args.rows.now c.args.forest.now c.args.slacks.now c.args.event _ _
    c.requires.forest c.requires.slacks c.requires.event c.requires.joined c.index-by.ensures c.index-up.ensures in
    same_both c.args.period _ _ _ _ (ap (λ u. pos (at c.args.times.now u) -ℤ pos c.earlier.result) (sym r.up_is))
    r.lasts c.earlier.ensures.same

pub offset_bounds-rows-by : goal.offset_bounds-rows-by
offset_bounds-rows-by c = grind (arith, common_steps)

pub bounds-rows-by : goal.bounds-rows-by
bounds-rows-by c = grind (arith, common_steps)

pub offset_bounds-slacks-by : goal.offset_bounds-slacks-by
offset_bounds-slacks-by c = grind (arith, common_steps)

pub bounds-slacks-by : goal.bounds-slacks-by
bounds-slacks-by c = grind (arith, common_steps)

pub offset_bounds-times-up : goal.offset_bounds-times-up
offset_bounds-times-up c = grind (arith, common_steps)

pub bounds-times-up : goal.bounds-times-up
bounds-times-up c = grind (arith, common_steps)
