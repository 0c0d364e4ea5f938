use Rattle.std.proofs.Common.{arith, subst, sym, ◌≡◌, ℕ}
use Rattle.pesp_domains.proofs.Words.{window_more, window_one, window_none}
use Rattle.pesp_domains.specs.Bits.{IsWindow}
use Rattle.pesp_domains.proofs.step.spread.Goals as goal

pub returns-then-count-eq0 : goal.returns-then-count-eq0
returns-then-count-eq0 c = let P : ℕ → Type 0 = λ n. IsWindow c.args.words.now c.clear.new.words n in
    subst P (sym c.if-count-eq0.true) (window_none c.args.words.now c.clear.new.words c.clear.ensures)

pub loop-reach-init : goal.loop-reach-init
loop-reach-init c = record { window = window_one c.args.words.now; some = omega arith; most = omega arith }

pub loop-reach-preserved : goal.loop-reach-preserved
loop-reach-preserved c = record {
  window = window_more c.args.words.now c.loop-reach.words c.or_ahead.new.words c.loop-reach.reach c.min-by.result
      (omega (arith, c.min-by.ensures, c.loop-reach.invariant.some))
      (omega (arith, c.min-by.ensures)) c.loop-reach.invariant.window c.or_ahead.ensures;
  some = omega (arith, c.loop-reach.invariant.some);
  most = omega (arith, c.min-by.ensures, c.loop-reach.invariant.most);
}

pub returns : goal.returns
returns c =
    let e : c.loop-reach.reach ≡ c.args.count = omega (arith, c.loop-reach.invariant.most, c.loop-reach-test.false) in
    let P : ℕ → Type 0 = λ n. IsWindow c.args.words.now c.loop-reach.words n in
    subst P e c.loop-reach.invariant.window
