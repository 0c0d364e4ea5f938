use Rattle.std.proofs.Common.{◌≡◌, ◌+◌, ◌-◌, ◌<◌, arith, refl, pos, get_or, length, rules}
use Rattle.std.specs.Int.{w64}
use Rattle.std.proofs.lemmas.Int.{to_z-of_z}
use Rattle.pesp_nodes.specs.declared.passages.Passage.{Passage}
use Rattle.pesp_nodes.proofs.Transposing.{row_more}
use Rattle.pesp_nodes.proofs.nets.add_row.Goals as goal

pub loop-passage-preserved : goal.loop-passage-preserved
loop-passage-preserved c =
    let none : Passage = record { cycle = 0; count = pos 0 } in
    let k = c.loop-passage.passage-index in
    let e = get_or c.args.passages.now k none in
    let names = c.requires k none c.loop-passage-test.true in
    let some = names.0 in
    let most = names.1 in
    let at : e.cycle ≡ e.cycle - 1 + 1 = omega arith in
    let long : length c.loop-passage.nets.items ≡ c.loop-passage.nets.len = omega (arith, c.loop-passage.nets.ok.0) in
    let from : length c.args.nets.now.items ≡ c.args.nets.now.len = omega (arith, c.args.nets.now.ok.0) in
    let same = c.loop-passage.invariant.long in
    let inside : e.cycle - 1 < length c.loop-passage.nets.items = omega arith in
    row_more c.args.place c.args.passages.now c.args.nets.now.items c.loop-passage.nets.items k
    (e.cycle - 1) none c.index_mut.result.now c.push.new.self _ c.loop-passage-test.true at inside refl
    (to_z-of_z w64 e.count (search rules)) c.index_mut.ensures.value c.in_ok-push.ensures.more
    c.loop-passage.invariant
