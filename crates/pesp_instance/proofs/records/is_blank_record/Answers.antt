use Rattle.std.proofs.Common.{◌≡◌, ◌∙◌, sym, arith, ◌<◌, length, drop, [], drop_of_length-le}
use Rattle.csv.specs.Records.{fields_of}
use Rattle.pesp_instance.proofs.Leads.{blank-more, blank-stops}
use Rattle.pesp_instance.proofs.records.is_blank_record.Goals as goal

pub returns-then-not-is_blank_at : goal.returns-then-not-is_blank_at
returns-then-not-is_blank_at c =
    let there : c.loop-index.index < length (fields_of c.args.line.now) = omega (arith, c.len-index-end.ensures) in
    sym (c.loop-index.invariant ∙ blank-stops (fields_of c.args.line.now) c.loop-index.index there
    (sym c.is_blank_at.ensures ∙ c.if-not-is_blank_at.true))

pub loop-index-preserved : goal.loop-index-preserved
loop-index-preserved c =
    let there : c.loop-index.index < length (fields_of c.args.line.now) = omega (arith, c.len-index-end.ensures) in
    c.loop-index.invariant ∙ blank-more (fields_of c.args.line.now) c.loop-index.index there
    (sym c.is_blank_at.ensures ∙ c.if-not-is_blank_at.false)

pub returns : goal.returns
returns c =
    let e : drop c.loop-index.index (fields_of c.args.line.now)
    ≡ [] = drop_of_length-le (fields_of c.args.line.now) (omega (arith, c.len-index-end.ensures)) in
    sym (rw e at c.loop-index.invariant)
