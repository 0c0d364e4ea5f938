use Rattle.std.proofs.Common.{refl, []}
use Rattle.pesp_report.specs.Written.{HasWritten}
use Rattle.pesp_report.proofs.Order.{keeps-known}
use Rattle.pesp_conflict.proofs.records.text_of.Goals as goal

pub returns-in-Ok : goal.returns-in-Ok
returns-in-Ok c =
    let start : HasWritten c.from_writer-writer.result [] = record {
      text = rw (c.from_writer-writer.ensures.wtr, c.from_writer-writer.ensures.empty, c.new.ensures.items) refl;
      setup = c.from_writer-writer.ensures.cfg;
      fields = c.from_writer-writer.ensures.fields;
      clean = c.from_writer-writer.ensures.wrote;
    } in
    let head = c.in_ok-write_header.ensures [] start in
    let records = c.in_ok-write_lines.ensures _ head in
    keeps-known _ _ _ _ records.text refl c.in-Ok.ensures.ok
