use Rattle.std.proofs.Common.{◌≡◌, Bool, true, false}
use Rattle.std.specs.Prelude.{IsTrue}
use Rattle.pesp_truth.proofs.Revising.{loop_kept, loop_refuted}
use Rattle.pesp_truth.proofs.visit.visit.Goals as goal

never : {P : Type 0} (b : Bool) → b ≡ false → (P → IsTrue b) → P → ⊥
never true e f p = absurd (cc)
never false e f p = let t : false ≡ true = f p in absurd (cc)

pub returns-then-loop_holds : goal.returns-then-loop_holds
returns-then-loop_holds c =
    let h = c.loop_holds.ensures.0 c.if-loop_holds.true in
    loop_kept c.args.period c.shift_of-shift.result c.args.arc.now c.args.range.0 c.args.range.1 c.args.words.now
    c.requires.period.0 c.if-arc.false c.shift_of-shift.ensures h.0 h.1 c.requires.some_tail
    c.requires.some_head

pub returns-else-loop_holds : goal.returns-else-loop_holds
returns-else-loop_holds c =
    loop_refuted c.args.period c.shift_of-shift.result c.args.arc.now c.args.range.0 c.args.range.1
    c.args.words.now c.requires.period.0 c.if-arc.false c.shift_of-shift.ensures
    (λ lo hi. never c.loop_holds.result c.if-loop_holds.false c.loop_holds.ensures.1 (lo, hi))
