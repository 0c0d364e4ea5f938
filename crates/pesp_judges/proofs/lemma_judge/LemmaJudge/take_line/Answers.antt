use Rattle.std.proofs.Common.{sym, ◌∙◌}
use Rattle.pesp_judges.proofs.Options.{match_none, of_some}
use Rattle.pesp_judges.proofs.lemma_judge.LemmaJudge.take_line.Goals as goal

pub returns-then-is_some-clause-verdict : goal.returns-then-is_some-clause-verdict
returns-then-is_some-clause-verdict g c s at k limits before within is line =
    let some = sym c.is_some.ensures ∙ c.if-is_some.true in
    of_some c.in_ok-found.found _ _ _ _ some (c.in_ok-found.ensures.verdict c.args.facts.now s at k limits before) (λ refusal h. h)

pub returns-clause-verdict : goal.returns-clause-verdict
returns-clause-verdict g c s at k limits before within is line =
    let none = sym c.is_some.ensures ∙ c.if-is_some.false in
    let told = match_none c.in_ok-found.found _ _ none (c.in_ok-found.ensures.verdict c.args.facts.now s at k limits before) in
    (rw c.in_ok-found.ensures.instance at c.in_ok-judge_line.ensures.verdict) s at k told.0 limits told.1 within is line
