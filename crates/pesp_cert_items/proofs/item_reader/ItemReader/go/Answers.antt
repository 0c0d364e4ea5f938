use Rattle.std.proofs.Common.{inr, refl, ◌∙◌}
use Rattle.pesp_cert_items.proofs.Stepping.{fault_read, item_read, ends_there, trails, of_going}
use Rattle.pesp_cert_items.proofs.item_reader.ItemReader.go.Goals as goal

pub returns-in-Ok-true-clause-gives : goal.returns-in-Ok-true-clause-gives
returns-in-Ok-true-clause-gives g c =
    let read = c.in_ok-read_line.ensures in
    let judged = c.in-Ok-true.ensures in
    let said = rw c.in-Ok-true.field-0-test at judged.says in
    let going = judged.same.0 ∙ read.same.0 ∙ c.requires.going in
    let line = of_going _ _ _ _ _ _ _ _ (read.same.0 ∙ c.requires.going) read.line in
    rw (judged.lines, said.1.kept)
    (going, said.1.more, rw (going, judged.same.1) (item_read _ _ _ _ _ _ _ _ said.0 line said.1.says said.1.more said.1.goes), (_, said.1.can))

pub returns-in-Ok-true-is_over-clause-gives : goal.returns-in-Ok-true-is_over-clause-gives
returns-in-Ok-true-is_over-clause-gives g c =
    let read = c.in_ok-read_line.ensures in
    let judged = c.in-Ok-false.ensures in
    let said = rw c.in-Ok-false.field-0-test at judged.says in
    let line = rw (← judged.lines, ← judged.same.1, ← said.1) at
    (of_going _ _ _ _ _ _ _ _ (read.same.0 ∙ c.requires.going) read.line) in
    let ended = rw (← judged.lines, ← said.1) at said.0 in
    (refl, ends_there _ _ _ _ _ _ _ _ _ _ line ended (rw c.in-Ok-true-is_over.field-0-test at c.in-Ok-true-is_over.ensures.ok))

pub returns-in-Ok-false-is_over-clause-gives : goal.returns-in-Ok-false-is_over-clause-gives
returns-in-Ok-false-is_over-clause-gives g c =
    let read = c.in_ok-read_line.ensures in
    let judged = c.in-Ok-false.ensures in
    let said = rw c.in-Ok-false.field-0-test at judged.says in
    let line = rw (← judged.lines, ← judged.same.1, ← said.1) at
    (of_going _ _ _ _ _ _ _ _ (read.same.0 ∙ c.requires.going) read.line) in
    let ended = rw (← judged.lines, ← said.1) at said.0 in (
      refl,
      inr (trails _ _ _ _ _ _ _ _ _ _ _ line ended
          (rw c.in-Ok-false-is_over.field-0-test at c.in-Ok-false-is_over.ensures.ok)),
    )

pub returns-in-Err-clause-gives : goal.returns-in-Err-clause-gives
returns-in-Err-clause-gives g c =
    let read = c.in_ok-read_line.ensures in
    let judged = c.in-Err.ensures in
    let line = rw (← judged.lines, ← judged.same.1) at
    (of_going _ _ _ _ _ _ _ _ (read.same.0 ∙ c.requires.going) read.line) in
    let said = rw (← judged.lines) at judged.says.0 in
    (refl, inr (rw c.refusal_at.ensures (fault_read _ _ _ _ _ _ _ _ c.in-Err.fault _ line said)))
