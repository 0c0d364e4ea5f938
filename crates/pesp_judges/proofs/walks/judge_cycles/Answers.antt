use Rattle.std.proofs.Common.{◌+◌, ap, refl, length, arith}
use Rattle.std.proofs.lemmas.Grind.{common_steps}
use Rattle.std.proofs.lemmas.List.{take_all}
use Rattle.pesp_problem.specs.Arcs.{arcs_of}
use Rattle.pesp_judges.proofs.Closing.{cycle_is, walk_fault, all_walks, walks_more}
use Rattle.pesp_judges.proofs.Tables.{nets_more}
use Rattle.pesp_judges.proofs.walks.judge_cycles.Goals as goal

pub returns-in-Err-clause-verdict : goal.returns-in-Err-clause-verdict
returns-in-Err-clause-verdict c =
    let fault = rw c.in-Err.is at c.in_ok-nets.ensures.verdict in
    walk_fault (arcs_of c.args.instance.now) c.args.cycles.now c.args.line c.loop-place.place c.rows.result.now
    c.index-cycles-place.result c.loop-place-test.true c.index-cycles-place.is c.rows.ensures
    c.loop-place.invariant.walks c.in-Err.refusal _ _ refl (ap (λ n. c.args.line + n) c.from.ensures) fault

pub loop-place-preserved : goal.loop-place-preserved
loop-place-preserved c =
    let arcs = arcs_of c.args.instance.now in
    let cycles = c.args.cycles.now in
    let k = c.loop-place.place in
    let rows = c.index-cycles-place.result in
    let verdict = rw (c.in-Ok.is, c.rows.ensures) at c.in_ok-nets.ensures.verdict in
    record {
      walks = walks_more arcs cycles k rows (cycle_is arcs cycles c.args.line k rows rows c.loop-place-test.true
          c.index-cycles-place.is refl c.loop-place.invariant.walks) c.loop-place.invariant.walks verdict.0;
      nets = rw c.in_ok-push-in-Ok.ensures.items
          (nets_more (length c.args.instance.now.rows) cycles c.loop-place.table.items k rows c.in-Ok.nets
          c.loop-place-test.true c.index-cycles-place.is c.loop-place.invariant.nets verdict.1);
      zeros = c.in_ok-nets.ensures.zeros;
    }

pub returns-clause-verdict : goal.returns-clause-verdict
returns-clause-verdict c =
    let cycles = c.args.cycles.now in
    let k = c.loop-place.place in (
      all_walks (arcs_of c.args.instance.now) cycles k c.loop-place-test.false c.loop-place.invariant.walks,
      rw (take_all k cycles c.loop-place-test.false) at c.loop-place.invariant.nets,
    )

pub judge_cycle-requires-clause-short : goal.judge_cycle-requires-clause-short
judge_cycle-requires-clause-short c = grind (arith, common_steps)
