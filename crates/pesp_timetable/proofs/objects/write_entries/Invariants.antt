use Rattle.std.proofs.Common.{map, take}
use Rattle.std.specs.List.{flat_map}
use Rattle.json.specs.Tree.{json_tokens}
use Rattle.pesp_timetable.specs.Objects.{Adds, entry_object}
use Rattle.pesp_timetable.proofs.objects.write_entries.Given as goal

abbrev pub invariant-loop-entry : goal.invariant-loop-entry
invariant-loop-entry l = Adds l.fn.writer l.writer (flat_map json_tokens (map (entry_object l.tolds) (take l.entry-index l.entries)))
