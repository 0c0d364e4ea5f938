use Rattle.std.proofs.Common.{arith, sym, ◌∙◌}
use Rattle.pesp_cert_lines.proofs.MarkedLoop.{bad_row, first_row}
use Rattle.pesp_cert_lines.proofs.RowLoop.{name_small}
use Rattle.pesp_cert_lines.proofs.marked.first_marked.Goals as goal

pub unreachable-requires : goal.unreachable-requires
unreachable-requires c = bad_row c.split_at_byte.result.0.now _ (sym c.in_default.is ∙ c.marked_at.ensures)
    (rw c.split_at_byte.ensures.cut at c.requires)

pub overflow_cast-row : goal.overflow_cast-row
overflow_cast-row c =
    let first = first_row c.split_at_byte.result.0.now _ c.in-Some.row c.in-Some.plus c.in-Some.flipped
    (sym c.in-Some.is ∙ c.marked_at.ensures) (rw c.split_at_byte.ensures.cut at c.requires) in
    omega (arith, name_small c.in-Some.row first.0)

pub returns : goal.returns
returns c = rw c.split_at_byte.ensures.cut (first_row c.split_at_byte.result.0.now _ c.in-Some.row c.in-Some.plus
    c.in-Some.flipped (sym c.in-Some.is ∙ c.marked_at.ensures) (rw c.split_at_byte.ensures.cut at c.requires)).1
