use Rattle.std.proofs.Common.{◌≡◌, ◌∙◌, []}
use Rattle.std.proofs.lemmas.List.{get_or_default}
use Rattle.pesp_problem.specs.Nodes.{cycle_at}
use Rattle.pesp_nodes.proofs.Passing.{table_more}
use Rattle.pesp_nodes.proofs.table.passages_of_table.Goals as goal

pub loop-place-preserved : goal.loop-place-preserved
loop-place-preserved c =
    let m = c.loop-place.place in
    let at : c.rows.result.now ≡ cycle_at c.args.table.now m = c.rows.ensures ∙ c.index-table-place.is
    ∙ get_or_default c.args.table.now m c.index-table-place.result [] c.loop-place-test.true in
    table_more c.args.rows c.args.table.now c.loop-place.by_row.items c.add_walk.new.by_row.items m
    (c.requires.short m [] c.loop-place-test.true) c.in_ok-add_walk.ensures.long
    (rw at at c.in_ok-add_walk.ensures.passed) c.loop-place.invariant
