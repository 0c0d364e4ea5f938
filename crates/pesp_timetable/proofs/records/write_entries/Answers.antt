use Rattle.std.proofs.Common.{◌++◌, ◌<◌, arith, take, map, length, get_or, append_assoc, List, ℕ, pos}
use Rattle.std.proofs.lemmas.List.{take_all}
use Rattle.csv.specs.Writing.{default_writer, row_text}
use Rattle.pesp_report.specs.Report.{records_text}
use Rattle.pesp_report.proofs.Order.{records-more}
use Rattle.pesp_timetable.specs.Timetable.{entry_fields}
use Rattle.pesp_timetable.specs.declared.entry.Entry.{Entry}
use Rattle.pesp_timetable.proofs.records.write_entries.Goals as goal

abbrev no_entry : Entry
no_entry = record { event = 0; label = pos 0; way = 0; stop = 0; time = 0; running = 0 }

pub loop-entry-preserved : goal.loop-entry-preserved
loop-entry-preserved c = λ before h.
    let i = c.loop-entry.entry-index in
    let there : i < length c.args.entries.now = omega arith in
    let so_far : List ℕ = records_text (map (entry_fields c.args.tolds.now) (take i c.args.entries.now)) in
    let next : List ℕ = row_text default_writer (entry_fields c.args.tolds.now (get_or c.args.entries.now i no_entry)) in
    let more = c.in_ok-write_entry.ensures (before ++ so_far) (c.loop-entry.invariant before h) in
    rw (records-more (entry_fields c.args.tolds.now) c.args.entries.now i no_entry there) (rw (append_assoc before so_far next) at more)

pub returns : goal.returns
returns c = λ before h.
    let all = take_all c.loop-entry.entry-index c.args.entries.now (omega arith) in
    rw all at (c.loop-entry.invariant before h)
