use Rattle.std.proofs.Common.{◌≡◌, ◌∙◌, List, ap, sym, subst, true}
use Rattle.pesp_problem.specs.declared.pair.Pair.{Pair}
use Rattle.pesp_truth.specs.Lemmas.{Lemma as Fact}
use Rattle.pesp_truth.specs.Limits.{weights_keep_limits}
use Rattle.pesp_truth.specs.Shown.{LemmaProof}
use Rattle.pesp_whole_check.proofs.Limits.{shown_within}
use Rattle.pesp_whole_check.proofs.lemma_check.fact_of.Goals as goal

pub unreachable-requires : goal.unreachable-requires
unreachable-requires c =
    let P : List Pair → Type 0 = λ weights. weights_keep_limits weights ≡ true in
    let same : c.in_ok-weights.weights.items ≡ c.args.lemma.now.fact.weights =
    c.in_ok-weights.ensures ∙ c.deref.ensures.value ∙ ap (λ (s : LemmaProof). s.fact.weights) c.lemma.view_is in
    c.in-Err.ensures.refused (subst P (sym same) (shown_within c.args.lemma.now c.requires).weights)

pub returns : goal.returns
returns c =
    ap (λ (fact : Fact). fact.weights) c.in-Ok.ensures.parts ∙ c.in_ok-weights.ensures ∙ c.deref.ensures.value
    ∙ ap (λ (s : LemmaProof). s.fact.weights) c.lemma.view_is
