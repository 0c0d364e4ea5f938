use Rattle.std.proofs.Common.{◌∙◌, sym, refl, [], map}
use Rattle.pesp_report.specs.Naming.{name_of}
use Rattle.pesp_report.specs.Named.{named_header, named_fields, named_total}
use Rattle.pesp_report.specs.Written.{HasWritten}
use Rattle.pesp_report.proofs.Order.{keeps-known, records-whole}
use Rattle.pesp_report.proofs.named_records.named_text_of.Goals as goal

pub returns-in-Ok : goal.returns-in-Ok
returns-in-Ok c =
    let start : HasWritten c.from_writer-writer.result [] = record {
      text = rw (c.from_writer-writer.ensures.wtr, c.from_writer-writer.ensures.empty, c.new.ensures.items) refl;
      setup = c.from_writer-writer.ensures.cfg;
      fields = c.from_writer-writer.ensures.fields;
      clean = c.from_writer-writer.ensures.wrote;
    } in
    let head = c.in_ok-write_named_header.ensures [] start in
    let lines = c.in_ok-write_named_lines.ensures _ head in
    let total = c.in_ok-write_named_total.ensures _ lines in
    let whole = keeps-known _ _ _ _ total.text refl c.in-Ok.ensures.ok in
    whole ∙ sym (records-whole named_header (named_total c.args.slacks c.args.cost)
    (map (named_fields (name_of c.args.names.now)) c.args.lines.now))
