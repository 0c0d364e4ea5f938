use Rattle.std.proofs.Common.{arith, ℕ, ◌-◌, ◌%◌, subst, refl, length}
use Rattle.pesp_domains.specs.Sets.{Narrows}
use Rattle.pesp_domains.proofs.Ends.{both_ends, loop_kept, loop_cleared}
use Rattle.pesp_domains.proofs.Holding.{narrows_at}
use Rattle.pesp_domains.proofs.Changing.{changed_both, changed_loop}
use Rattle.pesp_domains.proofs.revise.revise.Goals as goal
use Rattle.pesp_domains.proofs.revise.revise.Goals.{then-low-back+then-back-high, else-low-back, else-low-back-via-then-low-back+else-back-high, else-low-back-via-else-low-back}

pub returns-clause-revises : goal.returns-clause-revises
returns-clause-revises c =
    both_ends c.args.period (length c.args.beside.now) c.shift_of-shift.result c.args.arc.now c.args.range.0
    c.args.range.1 c.min-high.result c.saturating_sub-count.result c.args.words.now _ _ c.min-high.ensures
    c.saturating_sub-count.ensures c.requires.period.0 c.if-tail-head.false c.requires.clear
    c.shift_of-shift.ensures c.narrow-fewer_tails.ensures.narrows
    (narrows_at c.args.period _ (length c.args.beside.now) _ _ _ _ _ _ c.narrow-fewer_tails.auto.beside
    c.narrow-fewer_heads.ensures.narrows)

pub returns-then-tail-head-clause-revises : goal.returns-then-tail-head-clause-revises
returns-then-tail-head-clause-revises c =
    let P : ℕ → Type 0 = λ n. Narrows c.args.period
    (length c.args.beside.now) c.args.arc.now.tail c.args.arc.now.tail 0 n c.args.words.now
    c.narrow-fewer.new.words in
    elim c.if-low-back.branch [
      | then-low-back+then-back-high w ↦
          loop_kept c.args.period (length c.args.beside.now) c.shift_of-shift.result c.args.arc.now c.args.range.0
          c.args.range.1 c.min-high.result ((c.args.period - c.shift_of-shift.result) % c.args.period)
          c.args.words.now c.narrow-fewer.new.words c.min-high.ensures refl c.requires.period.0
          c.if-tail-head.true
          c.requires.clear c.shift_of-shift.ensures (omega arith) (omega arith) (subst P w.count-is c.narrow-fewer.ensures.narrows)
      | else-low-back w ↦
          loop_cleared c.args.period (length c.args.beside.now) c.shift_of-shift.result c.args.arc.now
          c.args.range.0 c.args.range.1 c.min-high.result
          ((c.args.period - c.shift_of-shift.result) % c.args.period) c.args.words.now c.narrow-fewer.new.words
          c.min-high.ensures refl c.requires.period.0 c.if-tail-head.true
          c.requires.clear c.shift_of-shift.ensures
          (λ lo hi. elim w.else-low-back.branch [
            | else-low-back-via-then-low-back+else-back-high v ↦
                omega arith
            | else-low-back-via-else-low-back v ↦ omega arith
          ])
          (subst P w.count-is c.narrow-fewer.ensures.narrows)
    ]

pub returns-clause-changes : goal.returns-clause-changes
returns-clause-changes c =
    changed_both c.args.period (length c.args.beside.now) _ _ _ _ c.args.arc.now c.args.words.now _ _
    c.narrow-fewer_tails.result c.narrow-fewer_heads.result c.if-tail-head.false
    c.narrow-fewer_tails.ensures.narrows (narrows_at c.args.period _
    (length c.args.beside.now) _ _ _ _ _ _ c.narrow-fewer_tails.auto.beside
    c.narrow-fewer_heads.ensures.narrows) c.narrow-fewer_tails.ensures.less c.narrow-fewer_heads.ensures.less

pub returns-then-tail-head-clause-changes : goal.returns-then-tail-head-clause-changes
returns-then-tail-head-clause-changes c = changed_loop c.args.period
    (length c.args.beside.now) _ _ c.args.arc.now c.args.words.now c.narrow-fewer.new.words c.narrow-fewer.result
    c.narrow-fewer.ensures.narrows c.narrow-fewer.ensures.less
