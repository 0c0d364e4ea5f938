use Rattle.std.proofs.Common.{◌≡◌, List, length, ap, arith}
use Rattle.pesp_problem.specs.declared.row.SignedRow.{SignedRow}
use Rattle.pesp_search.proofs.SinglePairs.{one_more, all_best}
use Rattle.pesp_search.proofs.single.best_single.Goals as goal

pub loop-place-preserved : goal.loop-place-preserved
loop-place-preserved c =
    let best = c.in_ok-best.ensures in
    one_more c.args.problem.now c.args.node.now c.loop-place.place c.loop-place.best.pairs.items
    c.in_ok-best.best.pairs.items c.loop-place.best.value c.in_ok-best.best.value c.loop-place.invariant
    best.value best.no_less best.plus best.minus

pub returns : goal.returns
returns c =
    let all : c.loop-place.place ≡ length c.args.problem.now.table =
    (let done = c.loop-place-test.false in let end = c.loop-place.auto.place-end in
    let same = ap (λ (t : List (List SignedRow)). length t) c.table-place-end.ensures.table in
    omega (arith, done, end, same)) in
    all_best c.args.problem.now c.args.node.now c.loop-place.place c.loop-place.best.pairs.items
    c.loop-place.best.value all c.loop-place.invariant
