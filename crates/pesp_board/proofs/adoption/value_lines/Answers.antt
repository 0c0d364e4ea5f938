use Rattle.std.proofs.Common.{arith}
use Rattle.pesp_board.proofs.Taken.{sound_there, keeps_there, may_pass, taken_more, taken_all}
use Rattle.pesp_board.proofs.adoption.value_lines.Goals as goal

pub valued_part-requires-clause-sound : goal.valued_part-requires-clause-sound
valued_part-requires-clause-sound c = sound_there c.args.lines.now c.loop-line.line-index c.line-item.result
    c.loop-line-test.true c.line-item.is c.args.problem.now c.args.walk.now c.loop-line.walk
    c.loop-line.parts.items c.loop-line.invariant c.node.result.now c.node.ensures.0 c.node.ensures.1

pub valued_part-requires-clause-limits : goal.valued_part-requires-clause-limits
valued_part-requires-clause-limits c = keeps_there c.args.lines.now c.loop-line.line-index c.line-item.result
    c.loop-line-test.true c.line-item.is c.args.problem.now c.args.walk.now c.loop-line.walk
    c.loop-line.parts.items c.loop-line.invariant

pub pass-requires : goal.pass-requires
pass-requires c = may_pass c.args.lines.now c.loop-line.line-index c.line-item.result c.loop-line-test.true
    c.line-item.is c.args.problem.now c.args.walk.now c.loop-line.walk c.loop-line.parts.items
    c.loop-line.invariant c.node.result.now c.node.ensures.0 c.node.ensures.1 c.in_ok-part.part
    c.in_ok-part.ensures.line

pub loop-line-preserved : goal.loop-line-preserved
loop-line-preserved c =
    rw (c.in_ok-push.ensures.items) (taken_more c.args.lines.now c.loop-line.line-index c.line-item.result
    c.loop-line-test.true c.line-item.is c.args.problem.now c.args.walk.now c.loop-line.walk
    c.loop-line.parts.items c.loop-line.invariant c.node.result.now c.node.ensures.0 c.node.ensures.1
    c.in_ok-part.part c.pass.new.walk c.in_ok-part.ensures.line c.in_ok-part.ensures.valued
    c.in_ok-pass.ensures)

pub returns-clause-lines : goal.returns-clause-lines
returns-clause-lines c =
    let test = c.loop-line-test.false in
    (taken_all c.args.problem.now c.args.walk.now c.args.lines.now c.loop-line.walk c.loop-line.parts.items
    c.loop-line.line-index (omega (arith, test)) c.loop-line.invariant).0

pub returns-clause-valued : goal.returns-clause-valued
returns-clause-valued c =
    let test = c.loop-line-test.false in
    (taken_all c.args.problem.now c.args.walk.now c.args.lines.now c.loop-line.walk c.loop-line.parts.items
    c.loop-line.line-index (omega (arith, test)) c.loop-line.invariant).1
