use Rattle.std.proofs.Common.{◌∙◌, arith, ⊎_elim, inl, inr}
use Rattle.pesp_instance.specs.Records.{records_of}
use Rattle.pesp_instance.proofs.Laws.{fault-law, read-law, pesp-is}
use Rattle.pesp_instance.proofs.Limits.{table-keeps}
use Rattle.pesp_instance.proofs.Steps.{err-is}
use Rattle.pesp_instance.proofs.whole_text.read_instance.Goals as goal

pub new-requires : goal.new-requires
new-requires c =
    let e = c.in_ok-table.ensures.table in
    rw c.in_ok-events.ensures
    (table-keeps c.args.period c.in_ok-table.table.rows.items c.in_ok-table.table.events.keys
    (records_of c.args.text.now) e.0 (omega arith) (omega arith) e.1 e.2)

pub returns-in_err-table-clause-first_fault : goal.returns-in_err-table-clause-first_fault
returns-in_err-table-clause-first_fault c = λ low high small.
    let e = err-is c.from_residual.result c.in_err-table.field-0.0 c.from_residual.ensures.1 in
    rw e (⊎_elim inl (λ k. inr (fault-law (records_of c.args.text.now) c.in_err-table.field-0.0 k)) c.in_err-table.ensures.refused)

pub returns-clause-activities : goal.returns-clause-activities
returns-clause-activities c =
    let e = c.in_ok-table.ensures.table in
    let made = rw c.in_ok-events.ensures at c.new.ensures in (
      e.0,
      read-law (records_of c.args.text.now) e.0 e.1,
      made
          ∙ pesp-is c.args.period c.in_ok-table.table.rows.items c.in_ok-table.table.events.keys e.0 e.2,
    )
