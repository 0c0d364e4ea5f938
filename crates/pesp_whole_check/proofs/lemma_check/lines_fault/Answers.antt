use Rattle.std.proofs.Common.{◌+◌, ◌∙◌, arith, refl, sym}
use Rattle.pesp_judges.proofs.Options.{match_none, match_some}
use Rattle.pesp_judges.specs.Showing.{kept_of_lemma}
use Rattle.pesp_whole_check.proofs.LemmaCheck.{line_more, all_lines_came}
use Rattle.pesp_whole_check.proofs.lemma_check.lines_fault.Goals as goal

pub loop-place-preserved : goal.loop-place-preserved
loop-place-preserved c =
    let inv = c.loop-place.invariant in
    let none = sym c.is_some.ensures ∙ c.if-is_some.false in
    record {
      instance = c.in_ok-found.ensures.instance ∙ inv.instance;
      zeros = c.in_ok-found.ensures.zeros;
      long = c.take_line.auto.working ∙ inv.long;
      shown = λ s at limits same begins begun.
          match_none c.in_ok-found.found _ _ none
          (line_more c.args.judge.now.instance.now (kept_of_lemma c.loop-place.judge) (kept_of_lemma c.take_line.new.self) c.loop-place.place
          (c.args.first + c.loop-place.place) c.in_ok-found.found c.args.facts.now c.args.lines.now c.index-lines-place.result _ c.args.first
          (rw inv.instance at c.in_ok-found.ensures.verdict) c.loop-place-test.true c.index-lines-place.is c.said_by.ensures.line refl
          s at limits same begins (inv.shown s at limits same begins begun));
    }

pub returns-then-is_some-clause-verdict : goal.returns-then-is_some-clause-verdict
returns-then-is_some-clause-verdict c s at limits same begins begun =
    let inv = c.loop-place.invariant in
    let some = sym c.is_some.ensures ∙ c.if-is_some.true in
    match_some c.in_ok-found.found _ _ _ _ some (λ refusal fault. fault)
    (line_more c.args.judge.now.instance.now (kept_of_lemma c.loop-place.judge) (kept_of_lemma c.take_line.new.self) c.loop-place.place
    (c.args.first + c.loop-place.place) c.in_ok-found.found c.args.facts.now c.args.lines.now c.index-lines-place.result _ c.args.first
    (rw inv.instance at c.in_ok-found.ensures.verdict) c.loop-place-test.true c.index-lines-place.is c.said_by.ensures.line refl
    s at limits same begins (inv.shown s at limits same begins begun))

pub returns-clause-verdict : goal.returns-clause-verdict
returns-clause-verdict c s at limits same begins begun =
    all_lines_came c.args.judge.now.instance.now c.args.facts.now s at (kept_of_lemma c.loop-place.judge) c.loop-place.place c.args.lines.now same
    (omega arith) (c.loop-place.invariant.shown s at limits same begins begun)
