use Rattle.std.proofs.Common.{arith, sym, ◌∙◌, vec_len}
use Rattle.std.proofs.lemmas.List.{get_or_read}
use Rattle.pesp_network.proofs.Places.{count, tail_below, head_below}
use Rattle.pesp_network.proofs.Picking.{met_more}
use Rattle.pesp_network.proofs.forest.meets_all.Goals as goal

pub index-requires : goal.index-requires
index-requires c = let b = tail_below (vec_len c.args.forest.now.up) c.args.rows.now c.loop-row.row-index c.requires.ends
    c.loop-row-test.true in let n = c.requires.events in let s = c.args.forest.now.sized in omega arith

pub index-requires-in-loop-row : goal.index-requires-in-loop-row
index-requires-in-loop-row c = let b = head_below (vec_len c.args.forest.now.up) c.args.rows.now c.loop-row.row-index
    c.requires.ends c.loop-row-test.true in let n = c.requires.events in let s = c.args.forest.now.sized in
    omega arith

pub loop-row-preserved : goal.loop-row-preserved
loop-row-preserved c =
    let rows = c.args.rows.now in let f = c.args.forest.now in let i = c.loop-row.row-index in
    let t = tail_below (vec_len c.args.forest.now.up) rows i c.requires.ends c.loop-row-test.true in
    let h = head_below (vec_len c.args.forest.now.up) rows i c.requires.ends c.loop-row-test.true in
    let n = c.requires.events in let s = f.sized in let l = f.root.ok.0 in
    let a = get_or_read f.root.items _ _ (omega arith) c.index.ensures 0 in
    let b = get_or_read f.root.items _ _ (omega arith) c.index-in-loop-row.ensures 0 in
    met_more rows f i c.loop-row-test.true c.loop-row.invariant (sym a ∙ c.if-index.false ∙ b)

pub returns : goal.returns
returns c = λ t k h. let w = c.loop-row-test.false in let n = count c.args.rows.now in let h1 = h.1 in
    c.loop-row.invariant k h (omega arith)
