use Rattle.std.proofs.Common.{ℕ, ◌+◌, ◌≤◌, arith, sym, ◌∙◌, subst, List}
use Rattle.std.specs.Prelude.{Option}
use Rattle.pesp_bound.specs.Settling.{edge_at, at}
use Rattle.pesp_bound.proofs.Lifting.{when_true, when_false, SoFar, so_far_lifts, so_far_stays, low_but}
use Rattle.pesp_bound.proofs.passes.pass.Goals as goal
use Rattle.pesp_bound.proofs.passes.pass.Goals.{then-lift+else-level-start, else-lift}

pub lift-requires-clause-start : goal.lift-requires-clause-start
lift-requires-clause-start c =
    let within = (c.requires.within.2 c.loop-k.k c.loop-k-test.true).0 in
    let size = c.loop-k.invariant.size in
    omega (arith, within, size)

pub lift-requires-clause-finish : goal.lift-requires-clause-finish
lift-requires-clause-finish c =
    let within = (c.requires.within.2 c.loop-k.k c.loop-k-test.true).1 in
    let size = c.loop-k.invariant.size in
    omega (arith, within, size)

pub lift-requires-clause-small : goal.lift-requires-clause-small
lift-requires-clause-small c =
    let gain = (c.requires.within.2 c.loop-k.k c.loop-k-test.true).2 in
    let low = c.loop-k.invariant.low (edge_at c.args.edges.now c.loop-k.k).finish in
    let small = c.requires.within.1 in
    omega (arith, gain, low, small)

pub loop-k-preserved : goal.loop-k-preserved
loop-k-preserved c =
    let i = c.loop-k.invariant in
    let edges = c.args.edges.now in
    let k = c.loop-k.k in
    let old = c.loop-k.level in
    let new = c.lift.new.level in
    let start = (edge_at edges k).start in
    let e = c.lift.ensures in
    let w = c.requires.within.2 k c.loop-k-test.true in
    record {
      size = e.events ∙ i.size;
      size_by = e.events_by ∙ i.size;
      low = elim c.if-lift.branch [
        | then-lift+else-level-start w ↦ λ x. low_but old new c.args.limit start x i.low e.others w.if-level-start.false
        | else-lift w ↦ λ x. subst (λ (xs : List ℕ). at xs x ≤ c.args.limit)
            (sym (when_false _ _ c.lift.result w.if-lift.false e.cases).0) (i.low x)
      ];
      grown = e.grown;
      so_far = elim c.if-lift.branch [
        | then-lift+else-level-start b ↦ subst (λ (l : Option ℕ). SoFar edges c.args.level.now new l (k + 1))
            (sym b.last-is) (so_far_lifts edges c.args.level.now old new c.loop-k.last k start i.so_far
            (when_true _ _ c.lift.result b.if-lift.true e.cases) w.0)
        | else-lift b ↦ let f = when_false _ _ c.lift.result b.if-lift.false e.cases in
            subst (λ (l : Option ℕ). SoFar edges c.args.level.now new l (k + 1)) (sym b.last-is)
            (so_far_stays edges c.args.level.now old new c.loop-k.last k i.so_far f.0 f.1)
      ];
    }
