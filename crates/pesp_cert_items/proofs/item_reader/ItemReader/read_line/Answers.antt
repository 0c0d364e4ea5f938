use Rattle.std.proofs.Common.{inr, arith}
use Rattle.pesp_cert_items.proofs.Stepping.{line_read, line_counted, long_refused, cut_refused}
use Rattle.pesp_cert_items.proofs.item_reader.ItemReader.read_line.Goals as goal

pub returns-in-Ok-Line-clause-line : goal.returns-in-Ok-Line-clause-line
returns-in-Ok-Line-clause-line g c = line_read _ _ _ _ _ _ _ _ _ _ (rw c.in-Ok-Line.field-0-is at c.in-Ok-Line.ensures.ok)

pub returns-in-Ok-Line-clause-counted : goal.returns-in-Ok-Line-clause-counted
returns-in-Ok-Line-clause-counted g c = line_counted _ _ _ _ _ _ _ _
    (rw c.in-Ok-Line.field-0-is at c.in-Ok-Line.ensures.ok) (c.args.self.now.counted c.requires.open)

pub returns-in-Ok-Long-clause-fault : goal.returns-in-Ok-Long-clause-fault
returns-in-Ok-Long-clause-fault g c = inr (long_refused _ _ _ _ _ _ _ _ _ _ _ c.requires.open
    (rw c.in-Ok-Long.field-0-is at c.in-Ok-Long.ensures.ok))

pub returns-in-Ok-End-clause-fault : goal.returns-in-Ok-End-clause-fault
returns-in-Ok-End-clause-fault g c = inr (cut_refused _ _ _ _ _ _ _ _ _ _ _ c.requires.open
    (rw c.in-Ok-End.field-0-is at c.in-Ok-End.ensures.ok))

pub invariant_of-self : goal.invariant_of-self
invariant_of-self g c =
    let counted = line_counted _ _ _ _ _ _ _ _ (rw c.in-Ok-Line.field-0-is at c.in-Ok-Line.ensures.ok)
    (c.args.self.now.counted c.requires.open) in
    record {
      most_fits = c.args.self.now.most_fits;
      kept = c.args.self.now.kept;
      counted = λ _. omega (arith, counted);
    }
