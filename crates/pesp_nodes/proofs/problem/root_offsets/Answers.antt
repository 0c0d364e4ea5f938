use Rattle.std.proofs.Common.{◌≡◌, ◌∙◌, [], List, length, subst, sym, arith, All}
use Rattle.std.proofs.lemmas.Grind.{common_steps}
use Rattle.std.specs.Prelude.{ℤ}
use Rattle.std.proofs.lemmas.List.{get_or_default}
use Rattle.std.proofs.lemmas.List.Elements.{All-push}
use Rattle.pesp_problem.specs.Nodes as spec
use Rattle.pesp_problem.specs.Nodes.{cycle_at}
use Rattle.pesp_problem.specs.Nets.{AreNetCounts, nets_at}
use Rattle.pesp_nodes.specs.Offsets.{IsOffsetEnds, AreOffsetEnds, IsSmallRange}
use Rattle.pesp_nodes.proofs.Keeping.{ranges_more, pair_is}
use Rattle.pesp_nodes.proofs.problem.root_offsets.Goals as goal

pub loop-counts-preserved : goal.loop-counts-preserved
loop-counts-preserved c = record {
  ends = subst (λ (xs : List (ℤ × ℤ)). AreOffsetEnds xs) (sym c.in_ok-push.ensures.items)
      (All-push IsOffsetEnds c.loop-counts.offsets.items _ c.loop-counts.invariant.ends c.bounds_of.ensures.ends);
  small = subst (λ (xs : List (ℤ × ℤ)). All (IsSmallRange c.args.period) xs) (sym c.in_ok-push.ensures.items)
      (All-push (IsSmallRange c.args.period) c.loop-counts.offsets.items _ c.loop-counts.invariant.small
      c.bounds_of.ensures.small);
  offsets = λ walks nets.
      let k = c.loop-counts.counts-index in
      let at : c.counts.result.now ≡ nets_at c.args.nets.now k = c.counts.ensures ∙ c.counts-item.is
      ∙ get_or_default c.args.nets.now k c.counts-item.result [] c.loop-counts-test.true in
      let here : AreNetCounts (length c.args.arcs.now) (cycle_at walks k) c.counts.result.now =
      rw at (nets.each k c.loop-counts-test.true) in
      let low = c.bounds_of.ensures.low (cycle_at walks k) here in
      let high = c.bounds_of.ensures.high (cycle_at walks k) here in
      let within = rw nets.long at c.loop-counts-test.true in
      rw c.in_ok-push.ensures.items (ranges_more
      (spec.odijk_range (record { period = c.args.period; arcs = c.args.arcs.now }) c.args.slacks.now) walks
      c.loop-counts.offsets.items k [] _ within (pair_is c.bounds_of.result _ _ low high)
      (c.loop-counts.invariant.offsets walks nets));
}

pub returns-clause-offsets : goal.returns-clause-offsets
returns-clause-offsets c = grind (arith, common_steps)
