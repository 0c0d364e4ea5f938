use Rattle.std.proofs.Common.{rules, ◌≡◌, ◌∙◌, ◌++◌, ap, sym, subst, List, FitsSigned, w64}
use Rattle.std.proofs.lemmas.Int.{to_z-of_z}
use Rattle.pesp_problem.specs.declared.pair.Pair.{Pair}
use Rattle.pesp_problem.specs.Arcs.{arcs_of}
use Rattle.pesp_problem.specs.declared.marked.MarkedRow.{MarkedRow}
use Rattle.pesp_truth.specs.Lemmas.{NamesRows}
use Rattle.pesp_truth.specs.Shown.{LemmaProof}
use Rattle.pesp_judges.specs.Showing.{KeptLemma, CyclesShown, kept_of_lemma, rows_kept}
use Rattle.pesp_whole_check.proofs.LemmaCheck.{head_came}
use Rattle.pesp_whole_check.proofs.lemma_check.judge_of.Goals as goal

pub returns-in-Err : goal.returns-in-Err
returns-in-Err c =
    let found = rw c.in-Err.is at c.new.ensures in
    let N : List Pair → Type 0 = λ weights. NamesRows (arcs_of c.args.instance.now) weights → ⊥ in
    (found.0, subst N c.in_ok-fact.ensures found.1)

pub returns-in-Ok-take_walks : goal.returns-in-Ok-take_walks
returns-in-Ok-take_walks c =
    let p = c.args.instance.now in
    let inside = c.lemma.inside in
    let s : LemmaProof = record {
      fact = record { weights = inside.weights.items; least = inside.least };
      marks = record { scale = inside.scale; walks = inside.walks.items };
      cycles = inside.cycles.items;
      tree = inside.tree.items;
    } in
    let fits : FitsSigned w64 inside.least = search rules in
    let least = rw (to_z-of_z w64 inside.least fits) at c.take_least.ensures.kept in
    let weights : c.in_ok-fact.fact.weights ≡ s.fact.weights = c.in_ok-fact.ensures ∙ sym (ap (λ (x : LemmaProof). x.fact.weights) c.lemma.view_is) in
    let found = rw c.in-Ok.is at c.new.ensures in
    let W : KeptLemma → KeptLemma = λ k. record k { walks = k.walks ++ c.deref.result.now } in
    let S : KeptLemma → KeptLemma = λ k. record k { scale = inside.scale } in
    let L : KeptLemma → KeptLemma = λ k. record k { least = inside.least } in
    let E : List (List MarkedRow) → KeptLemma = λ ws. record (rows_kept c.args.at c.in_ok-fact.fact.weights) {
      least = inside.least;
      scale = inside.scale;
      walks = ws;
    } in
    let walked = rw c.in-Ok-take_walks.is at c.take_walks.ensures.kept in
    let is = walked ∙ ap W (c.take_scale.ensures.kept ∙ ap S (least ∙ ap L found.2))
    ∙ ap E c.deref.ensures.value in
    let P : LemmaProof → Type 0 = λ x. CyclesShown p x c.args.at (kept_of_lemma c.take_walks.new.judge) 0 in (
      c.take_walks.ensures.instance ∙ c.take_scale.ensures.instance ∙ c.take_least.ensures.instance ∙ found.0,
      subst P c.lemma.view_is (head_came p s c.args.at c.in_ok-fact.fact.weights _ found.1 weights is),
    )
