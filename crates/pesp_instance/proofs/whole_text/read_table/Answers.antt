use Rattle.std.proofs.Common.{◌∙◌, sym, ◌+◌, ⊎_elim, inl, inr, false}
use Rattle.csv.specs.Reading.{strip_bom}
use Rattle.csv.specs.Records.{fields_of}
use Rattle.pesp_instance.specs.Records.{delimiter_of, line_config}
use Rattle.pesp_instance.proofs.Steps.{err-is, stands-end, stands-fault, stands-first, kept-head, kept-skip, stands-less, stands-next, stands-past}
use Rattle.pesp_instance.proofs.whole_text.read_table.Goals as goal

pub lines-init : goal.lines-init
lines-init c =
    let fr = c.from_reader-reader.ensures in
    let b = rw (c.flexible.ensures, c.has_headers.ensures) at c.delimiter.ensures in
    let config = rw (c.new.ensures.config, c.delimiter_of.ensures) at (rw b at fr.config) in
    let trims = rw b at fr.trim ∙ c.new.ensures.trim in
    stands-first c.args.text.now (line_config (delimiter_of (strip_bom c.args.text.now)))
    c.from_reader-reader.result c.new-table.result.rows.items c.new-table.result.events.keys config trims
    (inr (inr (rw b at fr.has_headers, fr.headers))) fr.state fr.source c.new-table.ensures.table c.new-table.ensures.few

pub returns-in-Ok-false-clause-table : goal.returns-in-Ok-false-clause-table
returns-in-Ok-false-clause-table c =
    let w = c.lines.invariant in
    let r = rw c.in-Ok-false.field-0-test at (c.in-Ok-false.ensures.reads w.trim w.ready) in
    stands-end c.args.text.now (line_config (delimiter_of (strip_bom c.args.text.now))) c.lines.reader
    c.read_byte_record.new.self c.lines.table.rows.items c.lines.table.events.keys c.lines.at
    c.lines.may_be_header w
    (fields_of c.read_byte_record.new.row) r

pub lines-smaller-then-is_skipped : goal.lines-smaller-then-is_skipped
lines-smaller-then-is_skipped c =
    let w = c.lines.invariant in
    let r = rw c.in-Ok-true.field-0-test at (c.in-Ok-true.ensures.reads w.trim w.ready) in
    stands-less c.args.text.now (line_config (delimiter_of (strip_bom c.args.text.now))) c.lines.reader
    c.read_byte_record.new.self c.lines.table.rows.items c.lines.table.events.keys c.lines.at
    c.lines.may_be_header w (fields_of c.read_byte_record.new.row) r

pub lines-smaller-then-names_columns : goal.lines-smaller-then-names_columns
lines-smaller-then-names_columns c =
    let w = c.lines.invariant in
    let r = rw c.in-Ok-true.field-0-test at (c.in-Ok-true.ensures.reads w.trim w.ready) in
    stands-less c.args.text.now (line_config (delimiter_of (strip_bom c.args.text.now))) c.lines.reader
    c.read_byte_record.new.self c.lines.table.rows.items c.lines.table.events.keys c.lines.at
    c.lines.may_be_header w (fields_of c.read_byte_record.new.row) r

pub lines-smaller : goal.lines-smaller
lines-smaller c =
    let w = c.lines.invariant in
    let r = rw c.in-Ok-true.field-0-test at (c.in-Ok-true.ensures.reads w.trim w.ready) in
    stands-less c.args.text.now (line_config (delimiter_of (strip_bom c.args.text.now))) c.lines.reader
    c.read_byte_record.new.self c.lines.table.rows.items c.lines.table.events.keys c.lines.at
    c.lines.may_be_header w (fields_of c.read_byte_record.new.row) r

pub lines-preserved-then-is_skipped : goal.lines-preserved-then-is_skipped
lines-preserved-then-is_skipped c =
    let w = c.lines.invariant in
    let r = rw c.in-Ok-true.field-0-test at (c.in-Ok-true.ensures.reads w.trim w.ready) in
    let skip = sym c.is_skipped.ensures ∙ c.if-is_skipped.true in
    stands-past c.args.text.now (line_config (delimiter_of (strip_bom c.args.text.now))) c.lines.reader
    c.read_byte_record.new.self c.lines.table.rows.items c.lines.table.events.keys c.lines.at
    c.lines.may_be_header w (fields_of c.read_byte_record.new.row) r c.lines.may_be_header
    (c.in-Ok-true.ensures.ready w.trim) (λ rest.
    kept-skip (c.lines.at + 1) c.lines.may_be_header (fields_of c.read_byte_record.new.row) rest skip)

pub lines-preserved-then-names_columns : goal.lines-preserved-then-names_columns
lines-preserved-then-names_columns c =
    let w = c.lines.invariant in
    let r = rw c.in-Ok-true.field-0-test at (c.in-Ok-true.ensures.reads w.trim w.ready) in
    let counts = sym c.is_skipped.ensures ∙ c.if-is_skipped.false in
    let header = sym c.names_columns.ensures ∙ c.if-names_columns.true in
    stands-past c.args.text.now (line_config (delimiter_of (strip_bom c.args.text.now))) c.lines.reader
    c.read_byte_record.new.self c.lines.table.rows.items c.lines.table.events.keys c.lines.at
    c.lines.may_be_header w (fields_of c.read_byte_record.new.row) r false (c.in-Ok-true.ensures.ready w.trim)
    (λ rest. kept-head (c.lines.at + 1) c.lines.may_be_header
    (fields_of c.read_byte_record.new.row) rest counts header)

pub lines-preserved : goal.lines-preserved
lines-preserved c =
    let w = c.lines.invariant in
    let r = rw c.in-Ok-true.field-0-test at (c.in-Ok-true.ensures.reads w.trim w.ready) in
    let counts = sym c.is_skipped.ensures ∙ c.if-is_skipped.false in
    let row = sym c.names_columns.ensures ∙ c.if-names_columns.false in
    let a = c.in_ok-read.ensures.added w.acts w.table in
    stands-next c.args.text.now (line_config (delimiter_of (strip_bom c.args.text.now))) c.lines.reader
    c.read_byte_record.new.self c.lines.table.rows.items c.lines.table.events.keys c.lines.at
    c.lines.may_be_header w (fields_of c.read_byte_record.new.row) r counts row c.read.new.self.rows.items
    c.read.new.self.events.keys a.0 (c.in-Ok-true.ensures.ready w.trim) a.1 a.2 c.in_ok-read.ensures.few

pub returns-in_err-read-clause-refused : goal.returns-in_err-read-clause-refused
returns-in_err-read-clause-refused c =
    let w = c.lines.invariant in
    let r = rw c.in-Ok-true.field-0-test at (c.in-Ok-true.ensures.reads w.trim w.ready) in
    let counts = sym c.is_skipped.ensures ∙ c.if-is_skipped.false in
    let row = sym c.names_columns.ensures ∙ c.if-names_columns.false in
    let a = c.in_err-read.ensures.refused w.acts w.table in
    let e = err-is c.from_residual.result c.in_err-read.field-0.0 c.from_residual.ensures.1 in
    rw e (⊎_elim inl (λ k. inr (stands-fault c.args.text.now
    (line_config (delimiter_of (strip_bom c.args.text.now))) c.lines.reader c.read_byte_record.new.self
    c.lines.table.rows.items c.lines.table.events.keys c.lines.at c.lines.may_be_header w
    (fields_of c.read_byte_record.new.row) r counts row c.in_err-read.field-0.0 k)) a)
