use Rattle.pesp_truth.proofs.Starting.{start_full, start_more}
use Rattle.pesp_truth.proofs.support.start.Goals as goal

pub loop-event-init : goal.loop-event-init
loop-event-init c = start_full c.args.period c.args.firsts.now c.fill.new.words _ c.requires.period.0 c.requires.long c.fill.ensures

pub loop-event-preserved : goal.loop-event-preserved
loop-event-preserved c =
    start_more c.args.period c.args.firsts.now c.loop-event.words c.start_one.new.words c.loop-event.event
    c.loop-event-test.true c.loop-event.invariant c.start_one.ensures.alone c.start_one.ensures.whole
    c.start_one.ensures.zero c.start_one.ensures.others
