use Rattle.std.proofs.Common.{arith, FitsSigned, to_z, of_z, ap, sym, ◌≡◌, ◌<◌, ◌-◌, ◌+◌, ◌∙◌, length, None, Some}
use Rattle.std.specs.Prelude.{◌+ℤ◌}
use Rattle.std.specs.Int.{w64, w128}
use Rattle.std.proofs.lemmas.Int.{ints, to_z-of_z}
use Rattle.pesp_problem.specs.Arcs.{net_of}
use Rattle.pesp_problem.specs.Nodes.{offset_part}
use Rattle.pesp_leaves.specs.Ranges.{node_of}
use Rattle.pesp_problem.proofs.LeafValues.{offset_more, offset_none}
use Rattle.pesp_leaves.proofs.Leaves.{left_read}
use Rattle.pesp_leaves.proofs.Flowing.{pairs_apart}
use Rattle.pesp_leaves.proofs.leaf.offset_sum.Goals as goal

pub scaled_offset-requires-clause-mult : goal.scaled_offset-requires-clause-mult
scaled_offset-requires-clause-mult g c =
    let elements = g.P.Elements.elements in
    let exists = (pairs_apart (length c.args.checker.now.table.now) (elements c.loop-pair.left)
    (elements c.take_next.new.self) c.in-Some.pair c.in-Some.ensures c.loop-pair.invariant.exist).0 in
    omega (arith, ints, exists.1)

pub loop-pair-preserved : goal.loop-pair-preserved
loop-pair-preserved g c =
    let elements = g.P.Elements.elements in
    let p = c.in-Some.pair in
    let apart = pairs_apart (length c.args.checker.now.table.now) (elements c.loop-pair.left)
    (elements c.take_next.new.self) p c.in-Some.ensures c.loop-pair.invariant.exist in
    let exists = apart.0 in
    let at : p.cycle - 1 < length c.args.checker.now.table.now = omega (arith, exists.0) in
    let size = c.scaled_offset.ensures.size in
    let before = c.loop-pair.invariant.size in
    let fewer : length (elements c.loop-pair.left)
    ≡ length (elements c.take_next.new.self) + 1 = let e = ap length c.in-Some.ensures in omega (arith, e) in
    let plus = c.plus-sum.ensures.value in
    let e : to_z w128 (of_z w128 c.plus-sum.result) ≡ to_z w128 c.loop-pair.sum-bits +ℤ c.scaled_offset.result = omega (arith, ints) in
    let fits : FitsSigned w64 p.mult = omega (arith, ints, exists.1) in
    let here = rw (to_z-of_z w64 p.mult fits, c.period-period.ensures.period) at c.scaled_offset.ensures.value in
    record {
      exist = apart.1;
      whole = λ walks nets.
          rw e (offset_more (net_of c.args.checker.now.instance.now) walks (node_of c.args.ranges.now)
          (elements c.loop-pair.left) (elements c.take_next.new.self) p c.in-Some.ensures
          (to_z w128 c.loop-pair.sum-bits) c.scaled_offset.result c.in_ok-range.range _
          (left_read (length c.args.checker.now.instance.now.rows)
          (net_of c.args.checker.now.instance.now) walks c.args.checker.now.table.now
          (node_of c.args.ranges.now) (p.cycle - 1) c.counts.result.now c.index-checker-at.result
          c.deref.result.now c.index.result.now (Some c.in_ok-range.range) nets at c.requires.cycles
          c.index-checker-at.is (c.counts.ensures ∙ sym c.index-checker-at.is) c.deref.ensures.value
          c.index.ensures c.in_ok-range.ensures.value)
          here (c.loop-pair.invariant.whole walks nets));
      size = rw e (omega (arith, ints));
    }

pub returns-in_err-range-clause-value : goal.returns-in_err-range-clause-value
returns-in_err-range-clause-value g c walks nets =
    let elements = g.P.Elements.elements in
    let p = c.in-Some.pair in
    let exists = (pairs_apart (length c.args.checker.now.table.now) (elements c.loop-pair.left)
    (elements c.take_next.new.self) p c.in-Some.ensures c.loop-pair.invariant.exist).0 in
    let at : p.cycle - 1 < length c.args.checker.now.table.now = omega (arith, exists.0) in
    c.from_residual.ensures
    ∙ offset_none (net_of c.args.checker.now.instance.now) walks (node_of c.args.ranges.now)
    (elements c.loop-pair.left) (elements c.take_next.new.self) p c.in-Some.ensures
    (to_z w128 c.loop-pair.sum-bits) (offset_part (net_of c.args.checker.now.instance.now) walks
    (node_of c.args.ranges.now) (elements c.args.pairs))
    (left_read (length c.args.checker.now.instance.now.rows)
    (net_of c.args.checker.now.instance.now) walks c.args.checker.now.table.now (node_of c.args.ranges.now)
    (p.cycle - 1) c.counts.result.now c.index-checker-at.result c.deref.result.now c.index.result.now None nets
    at c.requires.cycles c.index-checker-at.is (c.counts.ensures ∙ sym c.index-checker-at.is)
    c.deref.ensures.value c.index.ensures c.in_err-range.ensures.value)
    (c.loop-pair.invariant.whole walks nets)
