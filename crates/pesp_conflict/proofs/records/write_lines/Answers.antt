use Rattle.std.proofs.Common.{◌++◌, ◌<◌, arith, take, map, length, get_or, append_assoc, List, ℕ, pos}
use Rattle.std.specs.Prelude.{option_copied}
use Rattle.std.proofs.lemmas.List.{take_all}
use Rattle.csv.specs.Writing.{default_writer, row_text}
use Rattle.pesp_report.specs.Report.{records_text}
use Rattle.pesp_report.proofs.Order.{records-more}
use Rattle.pesp_report.specs.Naming.{naming_of}
use Rattle.pesp_conflict.specs.Lists.{listed_fields}
use Rattle.pesp_conflict.specs.declared.listed.Listed.{Listed}
use Rattle.pesp_conflict.proofs.records.write_lines.Goals as goal

abbrev no_line : Listed
no_line = record { row = 0; label = pos 0; tail = pos 0; head = pos 0; lower = pos 0; upper = pos 0 }

pub loop-line-preserved : goal.loop-line-preserved
loop-line-preserved c = λ before h.
    let i = c.loop-line.line-index in
    let there : i < length c.args.lines.now = omega arith in
    let so_far : List ℕ = records_text (map (listed_fields (naming_of (option_copied c.args.names))) (take i c.args.lines.now)) in
    let next : List ℕ = row_text default_writer ((listed_fields (naming_of (option_copied c.args.names))) (get_or c.args.lines.now i no_line)) in
    let more = c.in_ok-write_listed.ensures (before ++ so_far) (c.loop-line.invariant before h) in
    rw (records-more (listed_fields (naming_of (option_copied c.args.names))) c.args.lines.now i no_line there) (rw (append_assoc before so_far next) at more)

pub returns : goal.returns
returns c = λ before h.
    let all = take_all c.loop-line.line-index c.args.lines.now (omega arith) in
    rw all at (c.loop-line.invariant before h)
