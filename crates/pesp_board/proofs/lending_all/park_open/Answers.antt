use Rattle.std.proofs.Common.{◌∙◌, sym}
use Rattle.std.proofs.lemmas.Bool.{false≢true}
use Rattle.pesp_board.proofs.LentAll.{parks_front, fewer_wait, parking_more, parked_till_none, parked_till_dear}
use Rattle.pesp_board.proofs.lending_all.park_open.Goals as goal

pub returns-then-not-is_cheaper : goal.returns-then-not-is_cheaper
returns-then-not-is_cheaper c = parked_till_dear c.args.queue.now c.loop-first.queue c.args.best.now
    c.in-Some.first c.loop-first.invariant c.in-Some.ensures.first
    (λ h. false≢true (sym c.if-not-is_cheaper.true ∙ c.is_cheaper.ensures.1 h))

pub loop-first-smaller : goal.loop-first-smaller
loop-first-smaller c = fewer_wait c.loop-first.queue c.park.new.self c.in-Some.first
    (parks_front c.loop-first.queue c.park.new.self c.in-Some.first c.park.result c.first.result
    c.park.ensures.front c.first.ensures.front c.in-Some.is c.park.ensures.waiting c.park.ensures.parked)

pub loop-first-preserved : goal.loop-first-preserved
loop-first-preserved c =
    parking_more c.args.queue.now c.loop-first.queue c.park.new.self c.args.best.now c.in-Some.first
    c.loop-first.invariant c.first.ensures.limits (c.is_cheaper.ensures.0 c.if-not-is_cheaper.false)
    (parks_front c.loop-first.queue c.park.new.self c.in-Some.first c.park.result c.first.result
    c.park.ensures.front c.first.ensures.front c.in-Some.is c.park.ensures.waiting c.park.ensures.parked)

pub returns : goal.returns
returns c = parked_till_none c.args.queue.now c.loop-first.queue c.args.best.now c.loop-first.invariant c.in_default.ensures.first
