use Rattle.std.proofs.Common.{sym, ◌∙◌}
use Rattle.pesp_judges.specs.Showing.{kept_of_lemma}
use Rattle.pesp_judges.proofs.Telling.{begun, not_begun, told_at}
use Rattle.pesp_judges.proofs.Options.{ok_then}
use Rattle.pesp_judges.proofs.lemma_judge.LemmaJudge.end_cycles.Goals as goal

pub returns-then-is_some-clause-verdict : goal.returns-then-is_some-clause-verdict
returns-then-is_some-clause-verdict c earlier s at k limits before =
    let j = c.args.self.now in begun j.instance.now earlier s at (kept_of_lemma j) k (sym c.is_some.ensures ∙ c.if-is_some.true) before

pub returns-clause-verdict : goal.returns-clause-verdict
returns-clause-verdict c =
    let j = c.args.self.now in
    ok_then c.begin_tree.result _ _ c.begin_tree.ensures.verdict (λ found h earlier s at k limits before.
    let cycles = not_begun j.instance.now earlier s at (kept_of_lemma j) k (sym c.is_some.ensures ∙ c.if-is_some.false) before in
    told_at j.instance.now earlier s at (kept_of_lemma j) k (kept_of_lemma c.begin_tree.new.self) found cycles.0 (h earlier s at limits cycles.1))
