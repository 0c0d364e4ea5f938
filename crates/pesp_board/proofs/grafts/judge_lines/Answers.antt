use Rattle.std.proofs.Common.{arith}
use Rattle.pesp_board.proofs.Judged.{stands_there, judged_more, not_there, judged_all}
use Rattle.pesp_board.proofs.grafts.judge_lines.Goals as goal

pub returns-in_err-part : goal.returns-in_err-part
returns-in_err-part c = not_there c.args.lines.now c.loop-line.line-index c.line-item.result c.loop-line-test.true
    c.line-item.is c.args.problem.now c.args.worth c.args.walk.now c.loop-line.walk c.loop-line.parts.items
    c.loop-line.invariant c.node.result.now c.node.ensures.0 c.node.ensures.1 c.in_err-part.field-0.0 _
    c.in_err-part.ensures c.from_residual.ensures.1

pub pass-requires : goal.pass-requires
pass-requires c = stands_there c.args.lines.now c.loop-line.line-index c.line-item.result c.loop-line-test.true
    c.line-item.is c.args.problem.now c.args.worth c.args.walk.now c.loop-line.walk c.loop-line.parts.items
    c.loop-line.invariant c.node.result.now c.node.ensures.0 c.node.ensures.1 c.in_ok-part.part
    c.keeps_limits.ensures.network c.keeps_limits.ensures.table c.in_ok-part.ensures

pub loop-line-preserved : goal.loop-line-preserved
loop-line-preserved c =
    rw (c.in_ok-push.ensures.items) (judged_more c.args.lines.now c.loop-line.line-index c.line-item.result
    c.loop-line-test.true c.line-item.is c.args.problem.now c.args.worth c.args.walk.now c.loop-line.walk
    c.loop-line.parts.items c.loop-line.invariant c.node.result.now c.node.ensures.0 c.node.ensures.1
    c.in_ok-part.part c.pass.new.walk c.in_ok-part.ensures c.in_ok-pass.ensures)

pub returns : goal.returns
returns c =
    let test = c.loop-line-test.false in
    judged_all c.args.problem.now c.args.worth c.args.walk.now c.args.lines.now c.loop-line.walk
    c.loop-line.parts.items c.loop-line.line-index (omega (arith, test)) c.loop-line.invariant
    (c.is_done-2.ensures.0 c.if-not-is_done.false)
