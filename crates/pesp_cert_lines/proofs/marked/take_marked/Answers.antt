use Rattle.std.proofs.Common.{arith, sym, ◌∙◌}
use Rattle.pesp_cert_lines.proofs.MarkedLoop.{no_row, bad_row, first_row}
use Rattle.pesp_cert_lines.proofs.RowLoop.{name_small}
use Rattle.pesp_cert_lines.proofs.marked.take_marked.Goals as goal

pub returns-in_err-word : goal.returns-in_err-word
returns-in_err-word c = rw (c.from_residual.ensures, c.in_err-word.ensures.steps.0, c.in_err-word.ensures.steps.1) no_row

pub returns-in_err-row : goal.returns-in_err-row
returns-in_err-row c = absurd (bad_row c.in_ok-word.word.now c.next.new.self
    (sym c.in_err-row.was ∙ c.marked_at.ensures) (rw c.in_ok-word.ensures.steps at c.requires))

pub overflow_cast-result : goal.overflow_cast-result
overflow_cast-result c =
    let first = first_row c.in_ok-word.word.now c.next.new.self c.in_ok-row.row c.in_ok-row.plus c.in_ok-row.flipped
    (sym c.in_ok-row.was ∙ c.marked_at.ensures) (rw c.in_ok-word.ensures.steps at c.requires) in
    omega (arith, name_small c.in_ok-row.row first.0)

pub returns : goal.returns
returns c =
    rw c.in_ok-word.ensures.steps (first_row c.in_ok-word.word.now c.next.new.self c.in_ok-row.row c.in_ok-row.plus c.in_ok-row.flipped
    (sym c.in_ok-row.was ∙ c.marked_at.ensures) (rw c.in_ok-word.ensures.steps at c.requires)).1
