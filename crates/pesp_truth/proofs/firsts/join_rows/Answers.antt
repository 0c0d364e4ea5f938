use Rattle.std.proofs.Common.{◌≡◌, ◌∙◌, sym, arith, length}
use Rattle.pesp_problem.specs.Arcs.{arc_at}
use Rattle.pesp_problem.proofs.Joined.{first_none}
use Rattle.pesp_truth.proofs.Labelling.{joined_more, first_end}
use Rattle.pesp_truth.proofs.firsts.join_rows.Goals as goal

pub loop-place-init : goal.loop-place-init
loop-place-init c = λ event l. c.requires.own event l ∙ sym (first_none c.args.arcs.now event)

pub loop-place-preserved : goal.loop-place-preserved
loop-place-preserved c = λ event l.
    let k = c.loop-place.place in
    let arc = arc_at c.args.arcs.now k in
    let e = c.requires.ends k c.loop-place-test.true in
    let long : length c.relabel.new.labels ≡ length c.loop-place.labels = c.relabel.auto.labels in
    let same : length c.loop-place.labels ≡ length c.args.labels.now = c.loop-place.auto.labels in
    joined_more c.args.arcs.now k event _ _ c.loop-place.labels c.relabel.new.labels
    (c.loop-place.invariant arc.tail (omega (arith, e.0)))
    (c.loop-place.invariant arc.head (omega (arith, e.1))) (c.loop-place.invariant event (omega arith))
    (λ q. c.relabel.ensures.changed event (omega arith) (q ∙ sym c.max.ensures) ∙ c.min.ensures)
    (λ n. c.relabel.ensures.same event (omega arith) (λ q. n (q ∙ c.max.ensures)))

pub returns : goal.returns
returns c = λ event l.
    let e = c.loop-place.auto.place-end in
    let m = c.loop-place-test.false in
    let same : length c.loop-place.labels ≡ length c.args.labels.now = c.loop-place.auto.labels in
    first_end c.args.arcs.now c.loop-place.place event _ (omega arith) (c.loop-place.invariant event (omega arith))
