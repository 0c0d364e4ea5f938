use Rattle.std.proofs.Common.{◌≡◌, ◌∙◌, sym, ap, arith, ◌<◌, inl, inr, ℕ}
use Rattle.std.proofs.lemmas.Bool.{cases_lt}
use Rattle.pesp_truth.specs.Sets.{family_at}
use Rattle.pesp_truth.proofs.Placing.{at_place}
use Rattle.pesp_truth.proofs.narrow.least.Goals as goal

pub returns-then-has : goal.returns-then-has
returns-then-has c =
    let t = c.args.period in
    let d = c.loop-difference.difference in
    record {
      most = let l = c.loop-difference-test.true in omega arith;
      below = c.loop-difference.invariant;
      found = λ l. at_place t c.args.event d c.args.words.now l ∙ (sym c.has.ensures ∙ c.if-has.true);
    }

pub loop-difference-preserved : goal.loop-difference-preserved
loop-difference-preserved c = λ d l.
    let t = c.args.period in
    let e = c.loop-difference.difference in
    elim (cases_lt d e) [
      | inl m ↦ c.loop-difference.invariant d m
      | inr m ↦
          let q : d ≡ e = omega arith in
          let b : e < t = c.loop-difference-test.true in
          ap (λ (x : ℕ). family_at t c.args.words.now c.args.event x) q
          ∙ (at_place t c.args.event e c.args.words.now b ∙ (sym c.has.ensures ∙ c.if-has.false))
    ]
