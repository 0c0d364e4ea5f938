use Rattle.std.proofs.Common.{◌≡◌, ◌<◌, ◌≤◌, ◌∙◌, ap, sym, arith, length, FitsSigned, to_z, of_z, refl, get_or}
use Rattle.std.specs.Prelude.{pos, unsigned_abs}
use Rattle.std.specs.Int.{w64, w128}
use Rattle.std.proofs.lemmas.Int.{ints, to_z-of_z}
use Rattle.pesp_leaves.proofs.Collecting.{collected-none, collected-push, collected-skip, collected-all, all_zeros}
use Rattle.pesp_leaves.proofs.nets.take_counts.Goals as goal
use Rattle.pesp_leaves.proofs.nets.take_counts.Goals.{then-count-ne0+in_ok-push, else-count-ne0}

pub loop-place-init : goal.loop-place-init
loop-place-init c =
    rw (c.reserve.ensures.items, c.new-counts.ensures.items)
    (collected-none c.args.places.now c.args.working.now c.requires.entered c.requires.small)

pub loop-place-preserved : goal.loop-place-preserved
loop-place-preserved c =
    let places = c.args.places.now in
    let k = c.loop-place.place-index in
    let at = get_or places k 0 in
    let so_far = c.loop-place.invariant in
    let named = c.requires.entered.inside k 0 c.loop-place-test.true in
    let inside : at < length c.loop-place.working = omega (arith, named, c.loop-place.auto.working) in
    let small = so_far.small at inside in
    let count : unsigned_abs c.take-count.result ≤ 10000000 = omega (arith, ap unsigned_abs c.take-count.ensures.value) in
    let wide_fits : FitsSigned w128 c.take-count.result = omega (arith, ints) in
    let wide = to_z-of_z w128 c.take-count.result wide_fits in
    let narrow_fits : FitsSigned w64 c.take-count.result = omega (arith, ints) in
    let narrow : to_z w64 (of_z w64 (to_z w128 (of_z w128 c.take-count.result)))
    ≡ c.take-count.result = rw wide (to_z-of_z w64 c.take-count.result narrow_fits) in
    elim c.if-count-ne0.branch [
      | then-count-ne0+in_ok-push w ↦
          (let items = w.in_ok-push.ensures.items in let n = w.counts-is in
          rw (w.counts-is, items, c.take-count.ensures.zero)
          (collected-push places c.args.working.now c.loop-place.working c.loop-place.counts.items k at _
          c.loop-place-test.true refl inside refl (narrow ∙ c.take-count.ensures.value) so_far))
      | else-count-ne0 w ↦
          (let z = w.if-count-ne0.false in
          let zero : c.take-count.result ≡ pos 0 = omega (arith, ints) in
          rw (w.counts-is, c.take-count.ensures.zero)
          (collected-skip places c.args.working.now c.loop-place.working c.loop-place.counts.items k at
          c.loop-place-test.true refl inside (sym c.take-count.ensures.value ∙ zero) so_far))
    ]

pub returns-clause-counts : goal.returns-clause-counts
returns-clause-counts c walk short are = collected-all c.args.places.now walk c.args.working.now
    c.loop-place.working c.loop-place.counts.items c.loop-place.place-index c.loop-place.auto.working short
    c.loop-place-test.false are c.loop-place.invariant

pub returns-clause-zeros : goal.returns-clause-zeros
returns-clause-zeros c = all_zeros c.args.places.now c.args.working.now c.loop-place.working
    c.loop-place.counts.items c.loop-place.place-index c.loop-place-test.false c.loop-place.invariant
