use Rattle.std.proofs.Common.{map, ap, ◌∙◌}
use Rattle.pesp_reduce.specs.Rows.{fixed_row}
use Rattle.pesp_reduce.proofs.Contracting.{keeps_fixed}
use Rattle.pesp_reduce.proofs.contraction.fixed_forest.Goals as goal

pub network_of-requires : goal.network_of-requires
network_of-requires c =
    let n = c.args.whole.now in
    rw (c.period.ensures.period, c.events.ensures.events)
    (keeps_fixed n.period n.events n.rows c.in_ok-rows.rows.items n.forest c.period.ensures.limits
    (c.in_ok-rows.ensures ∙ ap (map fixed_row) c.rows.ensures.rows))
