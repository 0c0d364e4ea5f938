use Rattle.std.proofs.Common.{◌≡◌, drop, take, length}
use Rattle.csv.specs.Records.{fields_of}
use Rattle.pesp_instance.specs.Activities.{numbers_from}
use Rattle.pesp_instance.proofs.Fields.{numbers_after}
use Rattle.pesp_instance.proofs.activity.read_numbers.Given as goal

abbrev pub invariant-loop-index : goal.invariant-loop-index
invariant-loop-index l = (numbers_from l.at 1 (take 6 (fields_of l.line))
    ≡ numbers_after l.at l.numbers.items (drop l.index (take 6 (fields_of l.line))))
    × (length l.numbers.items ≡ l.index)
