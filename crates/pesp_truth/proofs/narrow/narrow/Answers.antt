use Rattle.std.proofs.Common.{◌≡◌, arith, refl, ◌+◌, ◌-◌, ◌<◌, subst, ℕ}
use Rattle.pesp_problem.proofs.Words.{less_step}
use Rattle.pesp_truth.specs.Sets.{family_at}
use Rattle.pesp_truth.proofs.Narrowing.{IsGap, Partly, whole, gap_first, none_yet, all_places, gap_step, partly_step}
use Rattle.pesp_truth.proofs.narrow.narrow.Goals as goal

pub returns-then-window-period-clause-narrows : goal.returns-then-window-period-clause-narrows
returns-then-window-period-clause-narrows c = whole c.args.period c.args.kept c.args.other c.args.window.first
    c.args.window.count c.requires.some.0 c.args.words.now c.requires.period.0 c.if-window-period.true
    c.requires.some.1

pub loop-step-init : goal.loop-step-init
loop-step-init c =
    let t = c.args.period in
    let e : t ≡ t - 0 = omega arith in
    record {
      bound = let m = c.least-gap.ensures.most in omega arith;
      gap = subst (λ m. IsGap t c.args.other (family_at t c.args.words.now) m c.least-gap.result) e
          (gap_first t c.args.other c.least-gap.result
          (family_at t c.args.words.now) c.requires.period.0 c.least-gap.ensures);
      partly = subst (λ m. Partly t c.args.kept c.args.other c.args.window.first c.args.window.count m
          (family_at t c.args.words.now) (family_at t c.args.words.now)) e
          (none_yet t c.args.kept c.args.other c.args.window.first c.args.window.count (family_at t c.args.words.now));
      less = record { same = λ _. refl; less = λ e. absurd (cc) };
    }

pub loop-step-preserved : goal.loop-step-preserved
loop-step-preserved c =
    let t = c.args.period in
    let i = c.loop-step.step in
    let p : ℕ = t - 1 - i in
    let old = family_at t c.args.words.now in
    let l : i < t = c.loop-step-test.true in
    let e : p ≡ t - (i + 1) = omega arith in
    let gaps : IsGap t c.args.other old p c.gap_at-gap.result =
    gap_step t c.args.kept c.args.other c.args.window.first c.args.window.count i p c.loop-step.gap
    c.gap_at-gap.result old c.loop-step.words l refl c.requires.apart c.loop-step.invariant.gap
    c.loop-step.invariant.partly c.gap_at-gap.ensures.here c.gap_at-gap.ensures.further in
    let part : Partly t c.args.kept c.args.other c.args.window.first c.args.window.count p old
    (family_at t c.take_lonely-changed.new.words) =
    partly_step t c.args.kept c.args.other c.args.window.first c.args.window.count i p c.gap_at-gap.result old
    c.loop-step.words c.take_lonely-changed.new.words l refl c.if-window-period.false c.requires.first gaps
    c.loop-step.invariant.partly c.take_lonely-changed.ensures.taken c.take_lonely-changed.ensures.same in
    record {
      bound = let m = c.gap_at-gap.ensures.most in let b = c.loop-step.invariant.bound in omega arith;
      gap = subst (λ m. IsGap t c.args.other old m c.gap_at-gap.result) e gaps;
      partly = subst (λ m. Partly t c.args.kept c.args.other c.args.window.first c.args.window.count m old
          (family_at t c.take_lonely-changed.new.words)) e part;
      less = less_step c.args.words.now c.loop-step.words c.take_lonely-changed.new.words c.loop-step.changed
          c.take_lonely-changed.result c.loop-step.invariant.less c.take_lonely-changed.ensures.less;
    }

pub returns-clause-narrows : goal.returns-clause-narrows
returns-clause-narrows c =
    let t = c.args.period in
    let e : t - c.loop-step.step ≡ 0 = let l = c.loop-step-test.false in omega arith in
    all_places t c.args.kept c.args.other c.args.window.first c.args.window.count (family_at t c.args.words.now) c.loop-step.words
    (subst (λ m. Partly t c.args.kept c.args.other c.args.window.first c.args.window.count m
    (family_at t c.args.words.now) (family_at t c.loop-step.words)) e c.loop-step.invariant.partly)
