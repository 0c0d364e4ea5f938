use Rattle.std.proofs.Common.{◌≡◌, refl, replicate, false, sym, subst, rules, List, Bool}
use Rattle.pesp_reduce.proofs.Flags.{AreFlaggedUpTo, flags_none, flags_more, flags_all}
use Rattle.pesp_reduce.proofs.contraction.flags_of.Goals as goal

pub loop-row-init : goal.loop-row-init
loop-row-init c =
    let e : c.in_ok-flags.flags.items ≡ replicate c.args.count false = search rules in
    let P : List Bool → Type 0 = λ xs. AreFlaggedUpTo c.args.count 0 c.args.forest.now xs in
    subst P (sym e) (flags_none c.args.count c.args.forest.now)

pub loop-row-preserved : goal.loop-row-preserved
loop-row-preserved c = flags_more c.args.count c.loop-row.row-index _ c.args.forest.now c.loop-row.flags.items
    c.loop-row.invariant c.loop-row-test.true refl (c.requires c.loop-row.row-index 0 c.loop-row-test.true)

pub returns : goal.returns
returns c = flags_all c.args.count c.loop-row.row-index c.args.forest.now c.loop-row.flags.items c.loop-row.invariant c.loop-row-test.false
