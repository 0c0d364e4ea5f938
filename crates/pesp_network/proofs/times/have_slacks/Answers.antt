use Rattle.std.proofs.Common.{◌∙◌, ap}
use Rattle.pesp_problem.specs.Arcs.{arc_slack}
use Rattle.pesp_network.proofs.Places.{tail_below, head_below}
use Rattle.pesp_network.proofs.Fitting.{lower_small, slack_read, slack_more}
use Rattle.pesp_network.proofs.times.have_slacks.Goals as goal

pub arc_slack-slack-requires-clause-lower : goal.arc_slack-slack-requires-clause-lower
arc_slack-slack-requires-clause-lower c = rw c.arc-arc.ensures
    (lower_small c.args.rows.now c.loop-i.i c.loop-i-test.true c.requires.slacks.lowers)

pub arc_slack-slack-requires-clause-tail : goal.arc_slack-slack-requires-clause-tail
arc_slack-slack-requires-clause-tail c = rw c.arc-arc.ensures (tail_below _ c.args.rows.now c.loop-i.i c.requires.ends c.loop-i-test.true)

pub arc_slack-slack-requires-clause-head : goal.arc_slack-slack-requires-clause-head
arc_slack-slack-requires-clause-head c = rw c.arc-arc.ensures (head_below _ c.args.rows.now c.loop-i.i c.requires.ends c.loop-i-test.true)

pub returns-then-slack-slacks-clause-other : goal.returns-then-slack-slacks-clause-other
returns-then-slack-slacks-clause-other c = λ no. (
  c.loop-i.i,
  c.loop-i-test.true,
  (λ e. c.if-slack-slacks.true (slack_read c.args.period c.args.rows.now c.args.times.now c.loop-i.i
      c.arc_slack-slack.result c.loop-i-test.true (c.arc_slack-slack.ensures.value
      ∙ ap (arc_slack c.args.period c.args.times.now) c.arc-arc.ensures) ∙ e)),
)

pub loop-i-preserved : goal.loop-i-preserved
loop-i-preserved c = slack_more c.args.period c.args.rows.now c.args.slacks.now c.args.times.now c.loop-i.i
    c.arc_slack-slack.result c.loop-i-test.true c.loop-i.invariant
    (c.arc_slack-slack.ensures.value ∙ ap (arc_slack c.args.period c.args.times.now) c.arc-arc.ensures)
    c.if-slack-slacks.false
