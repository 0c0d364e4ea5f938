use Rattle.std.proofs.Common.{◌≡◌, List, sym, subst, ap, ◌∙◌, true, Option}
use Rattle.std.proofs.lemmas.List.{take_all}
use Rattle.pesp_cert.specs.Limits.{is_shown_lemma, are_lemmas}
use Rattle.pesp_truth.specs.Shown.{LemmaProof, lemmas_of}
use Rattle.pesp_truth.specs.Certificates.{Front as FrontOf}
use Rattle.pesp_whole_check.specs.Costs.{facts_said}
use Rattle.pesp_whole_check.proofs.Limits.{lemmas_keep, each_lemma}
use Rattle.pesp_whole_check.proofs.LemmaCheck.{facts_more, none_said}
use Rattle.pesp_whole_check.proofs.lemma_check.facts_of.Goals as goal

pub returns-in_default : goal.returns-in_default
returns-in_default c = c.new-facts.ensures.items ∙ none_said c.args.front.now c.in_default.not-Some

pub fact_said-requires : goal.fact_said-requires
fact_said-requires c =
    let L : List LemmaProof → Type 0 = λ ss. are_lemmas ss ≡ true in
    let P : LemmaProof → Type 0 = λ s. is_shown_lemma s ≡ true in
    let all = c.lemmas-lemma-items.ensures in
    let keep = subst L (sym all.value) (lemmas_keep c.in-Some.front all.limits) in
    subst P (sym c.lemma-item.is)
    (each_lemma c.lemmas-lemma-items.result.now keep c.loop-lemma.lemma-index c.lemma-item.result c.loop-lemma-test.true)

pub loop-lemma-preserved : goal.loop-lemma-preserved
loop-lemma-preserved c =
    facts_more c.lemmas-lemma-items.result.now c.loop-lemma.lemma-index c.lemma-item.result c.loop-lemma-test.true c.lemma-item.is
    c.loop-lemma.facts.items c.push.new.self.items c.in_ok-fact.fact c.loop-lemma.invariant c.in_ok-fact.ensures c.in_ok-push.ensures.items

pub returns : goal.returns
returns c =
    let all = take_all c.loop-lemma.lemma-index c.lemmas-lemma-items.result.now c.loop-lemma-test.false in
    c.loop-lemma.invariant ∙ ap lemmas_of (all ∙ c.lemmas-lemma-items.ensures.value)
    ∙ sym (ap (λ (front : Option FrontOf). facts_said front) c.in-Some.is)
