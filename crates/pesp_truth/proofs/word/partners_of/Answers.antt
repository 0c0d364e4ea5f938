use Rattle.std.proofs.Common.{◌≡◌, ℕ, arith, subst}
use Rattle.pesp_truth.specs.Words.{HavePartners}
use Rattle.pesp_truth.proofs.Words.{partners_none, partners_one, partners_more}
use Rattle.pesp_truth.proofs.word.partners_of.Goals as goal

pub returns-then-window-eq0 : goal.returns-then-window-eq0
returns-then-window-eq0 c = partners_none c.args.period c.args.window.first c.args.set c.args.window.count c.if-window-eq0.true

pub loop-count-init : goal.loop-count-init
loop-count-init c = record {
  some = omega arith;
  most = omega arith;
  partners = partners_one c.args.period c.args.window.first c.args.set c.turned-partners.result
      c.turned-partners.ensures;
}

pub loop-count-preserved : goal.loop-count-preserved
loop-count-preserved c = record {
  some = omega (arith, c.loop-count.invariant.some);
  most = omega (arith, c.min-step.ensures, c.loop-count.invariant.most);
  partners = partners_more c.args.period c.args.window.first c.loop-count.count c.min-step.result c.args.set
      c.loop-count.partners c.turned-more.result c.requires.period.0
      (omega (arith, c.min-step.ensures)) c.loop-count.invariant.partners c.turned-more.ensures;
}

pub returns : goal.returns
returns c =
    let e : c.loop-count.count ≡ c.args.window.count = omega (arith, c.loop-count.invariant.most, c.loop-count-test.false) in
    let P : ℕ → Type 0 = λ n. HavePartners c.args.period c.args.window.first n c.args.set c.loop-count.partners in
    subst P e c.loop-count.invariant.partners
