use Rattle.std.proofs.Common.{if◌then◌else◌, ap, sym, ◌∙◌}
use Rattle.pesp_reduce.specs.Rows.{loop_at}
use Rattle.pesp_reduce.proofs.rows.row_that_matters.Goals as goal

pub returns-then-is_free : goal.returns-then-is_free
returns-then-is_free c =
    let row = c.args.row.now in
    c.loop_at.ensures ∙ ap (λ free. if free then loop_at row else row) (sym c.if-is_free.true ∙ c.is_free.ensures)

pub returns-else-is_free : goal.returns-else-is_free
returns-else-is_free c =
    let row = c.args.row.now in
    ap (λ free. if free then loop_at row else row) (sym c.if-is_free.false ∙ c.is_free.ensures)
