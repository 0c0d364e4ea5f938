use Rattle.std.proofs.Common.{◌∙◌, refl, sym, ap, ap₂, arith, ℕ, ◌+◌}
use Rattle.std.specs.Prelude.{max}
use Rattle.pesp_old_times.specs.Moves.{farthest, count_moved, some_move}
use Rattle.pesp_old_times.proofs.Moved.{farthest-more, moved-more}
use Rattle.pesp_old_times.proofs.moves.moves_of.Goals as goal

pub loop-place-init : goal.loop-place-init
unfolding count_moved farthest
loop-place-init c = record { count = refl; small = omega arith; top = refl }

pub loop-place-preserved : goal.loop-place-preserved
loop-place-preserved c =
    let before = c.loop-place.invariant in
    let one = c.some_move-moved.ensures.exact ∙ ap some_move c.move_of-by.ensures in
    let more = moved-more c.args.period c.args.wanted.now c.args.times.now c.loop-place.place in
    let further = farthest-more c.args.period c.args.wanted.now c.args.times.now c.loop-place.place in
    record {
      count = ap₂ (λ (m n : ℕ). m + n) before.count one ∙ sym more;
      small = omega (arith, before.small, c.some_move-moved.ensures.small);
      top = c.max-most.ensures ∙ ap₂ (λ (m n : ℕ). max m n) before.top c.move_of-by.ensures ∙ sym further;
    }
