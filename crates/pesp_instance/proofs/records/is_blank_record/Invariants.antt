use Rattle.std.proofs.Common.{◌≡◌, drop}
use Rattle.std.specs.List.{list_all}
use Rattle.csv.specs.Records.{fields_of}
use Rattle.pesp_instance.specs.Number.{all_blank}
use Rattle.pesp_instance.proofs.records.is_blank_record.Given as goal

abbrev pub invariant-loop-index : goal.invariant-loop-index
invariant-loop-index l = list_all all_blank (fields_of l.line) ≡ list_all all_blank (drop l.index (fields_of l.line))
