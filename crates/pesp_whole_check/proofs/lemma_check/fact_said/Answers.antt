use Rattle.std.proofs.Common.{rules, ◌∙◌, ap, FitsSigned, w64}
use Rattle.std.proofs.lemmas.Int.{to_z-of_z}
use Rattle.pesp_truth.specs.Shown.{LemmaProof}
use Rattle.pesp_whole_check.proofs.LemmaCheck.{same_fact}
use Rattle.pesp_whole_check.proofs.lemma_check.fact_said.Goals as goal

pub returns : goal.returns
returns c =
    let least = c.lemma.inside.least in
    let fits : FitsSigned w64 least = search rules in
    let made = rw (to_z-of_z w64 least fits) at c.with_least.ensures in
    made ∙ same_fact c.in_ok-fact.fact.weights least c.args.lemma.now.fact c.in_ok-fact.ensures
    (ap (λ (s : LemmaProof). s.fact.least) c.lemma.view_is)
