use Rattle.std.proofs.Common.{arith, rules, ◌<◌, ◌^◌}
use Rattle.std.proofs.lemmas.Int.{ints}
use Rattle.pesp_instance.proofs.Fields.{ok-weight}
use Rattle.pesp_instance.proofs.activity.assemble.Goals as goal

pub overflow_cast-result : goal.overflow_cast-result
overflow_cast-result c =
    let w = ok-weight c.args.at c.args.numbers.now c.in_ok-check_range.field-0 c.requires c.in_ok-check_range.ensures in
    let small : w.0 < 2 ^ 63 = omega (arith, w.2) in
    rw w.1 (search (rules, ints))
