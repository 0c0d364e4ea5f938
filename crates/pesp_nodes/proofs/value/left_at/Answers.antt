use Rattle.std.proofs.Common.{◌≡◌, ◌<◌, ◌∙◌, [], length, arith, refl}
use Rattle.std.proofs.lemmas.List.{get_or_default}
use Rattle.pesp_problem.specs.Nodes.{cycle_at}
use Rattle.pesp_problem.specs.Nets.{AreNetCounts, nets_at}
use Rattle.pesp_nodes.proofs.value.left_at.Goals as goal

pub returns-clause-value : goal.returns-clause-value
returns-clause-value c =
    let nets = c.nets.ensures.nets in
    let inside : c.args.place < length c.nets.result.now = omega (arith, nets.long, c.requires.exists) in
    let at : c.counts-counts.result.now ≡ nets_at c.nets.result.now c.args.place = c.counts-counts.ensures
    ∙ c.index-nets-place.is ∙ get_or_default c.nets.result.now c.args.place c.index-nets-place.result []
    inside in
    let here : AreNetCounts (length c.arcs.result.now)
    (cycle_at c.args.problem.now.table c.args.place) c.counts-counts.result.now =
    rw (at, c.arcs.ensures.rows) (nets.each c.args.place inside) in
    let value = c.left_of.ensures.value (cycle_at c.args.problem.now.table c.args.place) here in
    value ∙ rw (c.period.ensures.period, c.arcs.ensures.arcs, c.slacks.ensures.slacks, c.offsets.ensures.offsets) refl
