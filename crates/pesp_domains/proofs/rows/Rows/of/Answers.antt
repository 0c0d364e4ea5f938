use Rattle.pesp_domains.proofs.Networks.{have_ends}
use Rattle.pesp_domains.proofs.rows.Rows.of.Goals as goal

pub invariant_of-result : goal.invariant_of-result
invariant_of-result c = (
  rw c.in_ok-arcs.ensures.items c.arcs.ensures.each.arcs_most,
  rw (c.in_ok-arcs.ensures.items, c.arcs.ensures.arcs, c.events.ensures.events) (have_ends c.args.network.now c.arcs.ensures.limits),
  rw (c.in_ok-arcs.ensures.items, c.arcs.ensures.arcs, c.events.ensures.events) c.in_ok-chains.ensures,
)
