use Rattle.std.proofs.Common.{◌≡◌, ◌∙◌, ◌-◌, ◌<◌, ap, sym, length, arith, refl, false, Option, Some, None}
use Rattle.std.specs.Prelude.{ℤ, IsNone, is_some}
use Rattle.pesp_problem.specs.Arcs.{net_of}
use Rattle.pesp_leaves.specs.Ranges.{node_of}
use Rattle.pesp_leaves.proofs.Leaves.{left_read}
use Rattle.pesp_judges.proofs.leaf.judge_gap.Goals as goal

-- what has no value is none
none_is : (o : Option (ℤ × ℤ)) → is_some o ≡ false → IsNone o
none_is None e = refl
none_is (Some x) e = cc

pub returns : goal.returns
returns c walks claim nets =
    let exists = c.if-not-names.ensures.0 refl in
    let at : c.args.cycle - 1 < length c.args.checker.now.table.now = omega (arith, exists) in
    let left = left_read (length c.args.checker.now.instance.now.rows)
    (net_of c.args.checker.now.instance.now) walks c.args.checker.now.table.now (node_of c.args.ranges.now)
    (c.args.cycle - 1) c.counts.result.now c.index-checker-place.result c.deref.result.now c.index.result.now
    c.offsets_left-left.result nets at c.requires.cycles c.index-checker-place.is
    (c.counts.ensures ∙ sym c.index-checker-place.is) c.deref.ensures.value c.index.ensures
    c.offsets_left-left.ensures.value in (
      (omega (arith, exists), omega (arith, exists, nets.long)),
      none_is _ (ap is_some (sym left) ∙ sym c.is_some.ensures ∙ c.if-is_some.false),
    )
