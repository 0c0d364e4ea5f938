use Rattle.std.proofs.Common.{ap, map, ◌∙◌}
use Rattle.pesp_reduce.specs.Rows.{row_that_matters}
use Rattle.pesp_reduce.proofs.Reducing.{keeps_matters}
use Rattle.pesp_reduce.proofs.parts.whole_of.Goals as goal

pub network_of-requires : goal.network_of-requires
network_of-requires c =
    let g = c.args.given.now in
    rw (c.period-period.ensures.period, c.events.ensures.events)
    (keeps_matters g.period g.events g.rows c.in_ok-rows.rows.items g.forest c.period-period.ensures.limits
    (c.in_ok-rows.ensures ∙ ap (λ t. map (row_that_matters t) c.rows.result.now) c.period-period.ensures.period
    ∙ ap (map (row_that_matters g.period)) c.rows.ensures.rows))
