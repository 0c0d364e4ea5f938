use Rattle.std.proofs.Common.{◌++◌, ◌<◌, arith, take, map, length, get_or, append_assoc, List, ℕ, pos}
use Rattle.std.proofs.lemmas.List.{take_all}
use Rattle.csv.specs.Writing.{default_writer, row_text}
use Rattle.pesp_report.specs.Naming.{name_of}
use Rattle.pesp_report.specs.Named.{named_fields}
use Rattle.pesp_report.specs.Report.{records_text}
use Rattle.pesp_report.specs.declared.line.Line.{Line}
use Rattle.pesp_report.proofs.Order.{records-more}
use Rattle.pesp_report.proofs.named_records.write_named_lines.Goals as goal

abbrev no_line : Line
no_line = record { row = 0; label = pos 0; tail = pos 0; head = pos 0; duration = pos 0; slack = 0; weight = 0; weighted = 0 }

pub loop-line-preserved : goal.loop-line-preserved
loop-line-preserved c = λ before h.
    let i = c.loop-line.line-index in
    let there : i < length c.args.lines.now = omega arith in
    let so_far : List ℕ = records_text (map (named_fields (name_of c.args.names.now)) (take i c.args.lines.now)) in
    let next : List ℕ = row_text default_writer ((named_fields (name_of c.args.names.now)) (get_or c.args.lines.now i no_line)) in
    let more = c.in_ok-write_named_line.ensures (before ++ so_far) (c.loop-line.invariant before h) in
    rw (records-more (named_fields (name_of c.args.names.now)) c.args.lines.now i no_line there)
    (rw (append_assoc before so_far next) at more)

pub returns : goal.returns
returns c = λ before h.
    let all = take_all c.loop-line.line-index c.args.lines.now (omega arith) in
    rw all at (c.loop-line.invariant before h)
