use Rattle.std.proofs.Common.{◌<◌, arith, take, map, length, get_or, List, pos}
use Rattle.std.specs.List.{flat_map}
use Rattle.std.proofs.lemmas.List.{take_all}
use Rattle.json.specs.Token.{Token}
use Rattle.json.specs.Tree.{json_tokens}
use Rattle.pesp_timetable.specs.Objects.{entry_object}
use Rattle.pesp_timetable.specs.declared.entry.Entry.{Entry}
use Rattle.pesp_timetable.proofs.Arrays.{adds-more, adds-none, tokens-more}
use Rattle.pesp_timetable.proofs.objects.write_entries.Goals as goal

abbrev no_entry : Entry
no_entry = record { event = 0; label = pos 0; way = 0; stop = 0; time = 0; running = 0 }

pub loop-entry-init : goal.loop-entry-init
loop-entry-init c = adds-none _

pub loop-entry-preserved : goal.loop-entry-preserved
loop-entry-preserved c =
    let i = c.loop-entry.entry-index in
    let there : i < length c.args.entries.now = omega arith in
    let so_far : List Token = flat_map json_tokens (map (entry_object c.args.tolds.now) (take i c.args.entries.now)) in
    let next : List Token = json_tokens (entry_object c.args.tolds.now (get_or c.args.entries.now i no_entry)) in
    rw (tokens-more (entry_object c.args.tolds.now) c.args.entries.now i no_entry there)
    (adds-more _ _ _ so_far next c.loop-entry.invariant c.in_ok-write_entry.ensures)

pub returns : goal.returns
returns c =
    let all = take_all c.loop-entry.entry-index c.args.entries.now (omega arith) in
    rw all at c.loop-entry.invariant
