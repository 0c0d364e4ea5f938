use Rattle.std.proofs.Common.{◌≡◌, pos, to_z, of_z, arith}
use Rattle.std.proofs.lemmas.Grind.{common_steps}
use Rattle.std.specs.Prelude.{◌+ℤ◌}
use Rattle.std.specs.Int.{w128}
use Rattle.std.proofs.lemmas.Int.{ints}
use Rattle.pesp_nodes.specs.declared.ends.End.TheVariants.{Low, High}
use Rattle.pesp_problem.specs.declared.nets.NetCount.{NetCount}
use Rattle.pesp_nodes.specs.Offsets.{end_term}
use Rattle.pesp_problem.proofs.Durations.{so_far_more}
use Rattle.pesp_nodes.proofs.offsets.sums_of.Goals as goal

none : NetCount
none = record { place = 0; count = pos 0 }

pub loop-net-preserved : goal.loop-net-preserved
unfolding none
loop-net-preserved c =
    let least : to_z w128 (of_z w128 c.plus-least.result)
    ≡ to_z w128 c.loop-net.least-bits +ℤ c.term_at.result =
    (let value = c.plus-least.ensures.value in omega (arith, ints)) in
    let greatest : to_z w128 (of_z w128 c.plus-greatest.result)
    ≡ to_z w128 c.loop-net.greatest-bits +ℤ c.term_at-in-loop-net.result =
    (let value = c.plus-greatest.ensures.value in omega (arith, ints)) in (
      rw least (so_far_more 1030000 (end_term Low c.args.arcs.now c.args.slacks.now) c.args.counts.now
          c.loop-net.net-index none (to_z w128 c.loop-net.least-bits) c.term_at.result c.loop-net-test.true
          c.term_at.ensures.value c.term_at.ensures.size c.loop-net.invariant.0),
      rw greatest (so_far_more 1030000 (end_term High c.args.arcs.now c.args.slacks.now) c.args.counts.now
          c.loop-net.net-index none (to_z w128 c.loop-net.greatest-bits) c.term_at-in-loop-net.result
          c.loop-net-test.true c.term_at-in-loop-net.ensures.value c.term_at-in-loop-net.ensures.size
          c.loop-net.invariant.1),
    )

pub term_at-requires-clause-small : goal.term_at-requires-clause-small
term_at-requires-clause-small c = grind (arith, common_steps)

pub plus-least-requires : goal.plus-least-requires
plus-least-requires c = grind (arith, common_steps)

pub term_at-requires-in-loop-net-clause-small : goal.term_at-requires-in-loop-net-clause-small
term_at-requires-in-loop-net-clause-small c = grind (arith, common_steps)

pub plus-greatest-requires : goal.plus-greatest-requires
plus-greatest-requires c = grind (arith, common_steps)

pub returns-clause-small : goal.returns-clause-small
returns-clause-small c = grind (arith, common_steps)

pub returns-clause-large : goal.returns-clause-large
returns-clause-large c = grind (arith, common_steps)
