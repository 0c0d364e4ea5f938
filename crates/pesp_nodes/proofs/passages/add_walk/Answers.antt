use Rattle.std.proofs.Common.{◌≡◌, ◌+◌, ◌-◌, ◌<◌, ◌∙◌, [], arith, get_or, length, take, false}
use Rattle.std.proofs.lemmas.List.{get_or_default}
use Rattle.pesp_problem.specs.declared.row.SignedRow.{SignedRow}
use Rattle.pesp_problem.specs.Walks.{net_count}
use Rattle.pesp_nodes.specs.Passages.{passages_at}
use Rattle.pesp_nodes.proofs.Passing.{counts_small, passed_more, row_before}
use Rattle.pesp_nodes.proofs.passages.add_walk.Goals as goal

none : SignedRow
none = record { row = 0; plus = false }

inside : (c : goal.After-index_mut) → (get_or c.args.walk.now c.loop-s.s-index none).row - 1 < length c.loop-s.by_row.items
unfolding none
inside c =
    let row = c.requires.exist c.loop-s.s-index none c.loop-s-test.true in
    let some = row.0 in
    let most = row.1 in
    let long : length c.loop-s.by_row.items ≡ c.loop-s.by_row.len = omega (arith, c.loop-s.by_row.ok.0) in
    let from : length c.args.by_row.now.items ≡ c.args.by_row.now.len = omega (arith, c.args.by_row.now.ok.0) in
    let same = c.loop-s.invariant.long in
    omega arith

read : (c : goal.After-index_mut) → c.index_mut.result.now
    ≡ passages_at c.loop-s.by_row.items ((get_or c.args.walk.now c.loop-s.s-index none).row - 1)
unfolding none
read c = c.index_mut.ensures.value ∙ get_or_default c.loop-s.by_row.items
    ((get_or c.args.walk.now c.loop-s.s-index none).row - 1) c.index_mut.result.now [] (inside c)

pub pass-requires : goal.pass-requires
unfolding none
pass-requires c =
    let at = (get_or c.args.walk.now c.loop-s.s-index none).row - 1 in
    rw (read c) (counts_small c.args.cycle c.args.walk.now c.args.by_row.now.items c.loop-s.by_row.items
    c.loop-s.s-index at c.requires.short (omega arith) (inside c) c.requires.before c.loop-s.invariant)

pub loop-s-preserved : goal.loop-s-preserved
unfolding none
loop-s-preserved c =
    let k = c.loop-s.s-index in
    let s = get_or c.args.walk.now k none in
    let at = s.row - 1 in
    let some = (c.requires.exist k none c.loop-s-test.true).0 in
    let is : s.row ≡ at + 1 = omega arith in
    let l = inside c.before.before.before.before in
    let m : at < length c.args.by_row.now.items = omega (arith, c.loop-s.invariant.long) in
    let before = row_before c.args.cycle c.args.by_row.now.items at m c.requires.before in
    let passed = c.in_ok-pass.ensures (passages_at c.args.by_row.now.items at)
    (net_count (take k c.args.walk.now) at) before
    (rw (read c.before.before.before.before) (c.loop-s.invariant.each at m)) in
    passed_more c.args.cycle c.args.walk.now c.args.by_row.now.items c.loop-s.by_row.items k at none
    c.pass.new.self c.loop-s-test.true is l passed c.loop-s.invariant
