use Rattle.std.proofs.Common.{◌≡◌, drop, ◌+◌}
use Rattle.pesp_instance.specs.Activities.{out_of_range}
use Rattle.pesp_instance.proofs.activity.check_range.Given as goal

abbrev pub invariant-loop-number : goal.invariant-loop-number
invariant-loop-number l = (out_of_range l.at 1 l.numbers
    ≡ out_of_range l.at l.field (drop l.number-index l.numbers)) × (l.field ≡ l.number-index + 1)
