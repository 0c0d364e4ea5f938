use Rattle.std.proofs.Common.{arith}
use Rattle.pesp_problem.specs.Arcs.{arcs_of}
use Rattle.pesp_judges.proofs.MarkedClosing.{closed_more, mark_fault, all_closed}
use Rattle.pesp_judges.proofs.marked_walks.judge_walks.Goals as goal

pub returns-in-Err-clause-verdict : goal.returns-in-Err-clause-verdict
returns-in-Err-clause-verdict c =
    let fault = rw (c.in-Err.is, c.rows.ensures) at c.in_ok-_nets.ensures.verdict in
    let is = rw c.walks-walks.ensures.value at c.index-walks-place.is in
    let within = rw c.walks-walks.ensures.value at c.loop-place-test.true in
    mark_fault (arcs_of c.args.instance.now) c.args.marks.now.walks c.loop-place.place c.index-walks-place.result
    within is c.args.cycles c.args.line _ _ c.in-Err.refusal c.loop-place.invariant.closed (omega arith) (omega arith) fault

pub loop-place-preserved : goal.loop-place-preserved
loop-place-preserved c =
    let verdict = rw (c.in-Ok.is, c.rows.ensures) at c.in_ok-_nets.ensures.verdict in
    let is = rw c.walks-walks.ensures.value at c.index-walks-place.is in
    let within = rw c.walks-walks.ensures.value at c.loop-place-test.true in
    record {
      closed = closed_more (arcs_of c.args.instance.now) c.args.marks.now.walks c.loop-place.place
          c.index-walks-place.result within is c.loop-place.invariant.closed verdict.0;
      zeros = c.in_ok-_nets.ensures.zeros;
    }

pub returns-clause-verdict : goal.returns-clause-verdict
returns-clause-verdict c =
    let done = rw c.walks-walks.ensures.value at c.loop-place-test.false in
    all_closed (arcs_of c.args.instance.now) c.args.marks.now.walks c.loop-place.place done c.loop-place.invariant.closed
