use Rattle.std.proofs.Common.{vec_len, ◌≡◌, ◌+◌, ◌++◌, ◌∷◌, [], length, arith, ap, ◌∙◌, sym, true, false, List}
use Rattle.pesp_problem.specs.declared.row.SignedRow.{SignedRow}
use Rattle.pesp_network.specs.Networks.{arcs_of_network, signed_rows}
use Rattle.pesp_network.specs.Ways.{joins_upwards, walks_of, walk_of}
use Rattle.pesp_network.proofs.Places.{tail_below, head_below}
use Rattle.pesp_network.proofs.Tables.{kept_is, kept_next, free_next, total_more, total_at_most}
use Rattle.pesp_network.proofs.walks.walks.Goals as goal

pub is_kept-requires-clause-tail : goal.is_kept-requires-clause-tail
is_kept-requires-clause-tail c = let b = tail_below (vec_len c.args.forest.now.up) c.args.rows.now c.loop-i.i c.requires.ends
    c.loop-i-test.true in let n = c.requires.events in omega arith

pub is_kept-requires-clause-head : goal.is_kept-requires-clause-head
is_kept-requires-clause-head c = let b = head_below (vec_len c.args.forest.now.up) c.args.rows.now c.loop-i.i c.requires.ends
    c.loop-i-test.true in let n = c.requires.events in omega arith

pub loop-i-preserved-then-is_kept : goal.loop-i-preserved-then-is_kept
loop-i-preserved-then-is_kept c =
    let rows = c.args.rows.now in let arcs = arcs_of_network rows in let g = c.args.forest.now in
    let i = c.loop-i.i in let v = c.loop-i.invariant in
    let e : joins_upwards arcs g (i + 1) ≡ true = sym (kept_is rows g i c.loop-i-test.true) ∙ sym c.is_kept.ensures ∙ c.if-is_kept.true in
    let q = kept_next arcs g i e in
    record { table = v.table ∙ sym q; total = v.total ∙ ap signed_rows (sym q); small = v.small }

pub returns-then-total-gt-MOST_SIGNED_ROWS-clause-refused : goal.returns-then-total-gt-MOST_SIGNED_ROWS-clause-refused
returns-then-total-gt-MOST_SIGNED_ROWS-clause-refused c =
    let rows = c.args.rows.now in let arcs = arcs_of_network rows in let g = c.args.forest.now in
    let i = c.loop-i.i in let v = c.loop-i.invariant.total in
    let e : joins_upwards arcs g (i + 1) ≡ false = sym (kept_is rows g i c.loop-i-test.true) ∙ sym c.is_kept.ensures ∙ c.if-is_kept.false in
    let more = total_more arcs g i e in
    let l = ap length c.in_ok-walk.ensures in let k = c.in_ok-walk.walk.ok.0 in let w = c.len-total.ensures in
    let most = total_at_most arcs g (i + 1) (length rows) (let t = c.loop-i-test.true in omega arith) in
    let t = c.if-total-gt-MOST_SIGNED_ROWS.true in
    omega arith

pub loop-i-preserved : goal.loop-i-preserved
loop-i-preserved c =
    let rows = c.args.rows.now in let arcs = arcs_of_network rows in let g = c.args.forest.now in
    let i = c.loop-i.i in let v = c.loop-i.invariant in
    let e : joins_upwards arcs g (i + 1) ≡ false = sym (kept_is rows g i c.loop-i-test.true) ∙ sym c.is_kept.ensures ∙ c.if-is_kept.false in
    let more = total_more arcs g i e in
    let vt = v.total in
    let l = ap length c.in_ok-walk.ensures in let k = c.in_ok-walk.walk.ok.0 in let w = c.len-total.ensures in
    let t = c.if-total-gt-MOST_SIGNED_ROWS.false in
    record {
      table = c.in_ok-push.ensures.items ∙ ap (λ (x : List SignedRow). c.loop-i.table.items ++ x ∷ [])
          (c.new.ensures ∙ c.in_ok-walk.ensures) ∙ ap
          (λ (xs : List (List SignedRow)). xs ++ walk_of arcs g (i + 1) ∷ []) v.table ∙ sym (free_next arcs g i e);
      total = omega arith;
      small = omega arith;
    }

pub returns-clause-table : goal.returns-clause-table
returns-clause-table c = let t = c.loop-i-test.false in let a = c.loop-i.auto.i-end in
    c.loop-i.invariant.table ∙ ap (walks_of (arcs_of_network c.args.rows.now) c.args.forest.now) (omega arith)

pub returns-clause-small : goal.returns-clause-small
returns-clause-small c = let v = c.loop-i.invariant in let s = v.small in let q = ap signed_rows v.table in let t = v.total in omega arith
