use Rattle.std.proofs.Common.{rules, ◌≡◌, ◌+◌, ◌∙◌, refl, ap, subst, List, Option}
use Rattle.std.specs.Prelude.{option_map}
use Rattle.pesp_problem.specs.declared.pair.Pair.{Pair}
use Rattle.pesp_problem.specs.Arcs.{arcs_of}
use Rattle.pesp_truth.specs.Lemmas.{NamesRows}
use Rattle.pesp_cert_items.specs.Lent.{pairs_left_in}
use Rattle.pesp_judges.specs.Showing.{KeptLemma, kept_of_lemma as kept_lemma, rows_kept}
use Rattle.pesp_check.specs.declared.stage.Stage.TheVariants as stages
use Rattle.pesp_check.specs.Judging.{Kept}
use Rattle.pesp_check.specs.Views.{kept}
use Rattle.pesp_check.proofs.Lists.{no_lemma}
use Rattle.pesp_check.proofs.LemmaSteps.{lemma_begins, lemma_never, lemma_passed}
use Rattle.pesp_check.proofs.judge.Judge.begin_lemma.Goals as goal

pub returns-then-ne-clause-judged : goal.returns-then-ne-clause-judged
returns-then-ne-clause-judged c front c' rest before =
    let j = c.args.self.now in
    let other : j.stage ≡ stages.Front → ⊥ = search rules in
    lemma_passed j.stage j.instance.now front c' (pairs_left_in c.args.pairs) rest (kept j) _ other refl refl before

pub returns-in-Err-clause-judged : goal.returns-in-Err-clause-judged
returns-in-Err-clause-judged c front c' rest before =
    let j = c.args.self.now in
    let at : j.stage ≡ stages.Front = search rules in
    let none = no_lemma j.lemma c.requires.none in
    let found = rw c.in-Err.is at c.new.ensures in
    let R : List Pair → Type 0 = λ weights. NamesRows (arcs_of j.instance.now) weights → ⊥ in
    lemma_never j.stage j.instance.now front c' (pairs_left_in c.args.pairs) rest (kept j) none at before c.in-Err.refusal _ none found.0
    (subst R c.in_ok-fact.ensures found.1)

pub returns-clause-judged : goal.returns-clause-judged
returns-clause-judged c front c' rest before =
    let j = c.args.self.now in
    let at : j.stage ≡ stages.Front = search rules in
    let found = rw c.in-Ok.is at c.new.ensures in
    let R : List Pair → Type 0 = λ weights. NamesRows (arcs_of j.instance.now) weights in
    let L : Option KeptLemma → Kept = λ lemma. record (kept j) { line = j.line + 1; lemma = lemma } in
    lemma_begins j.stage j.instance.now front c' (pairs_left_in c.args.pairs) rest (kept j) (no_lemma j.lemma c.requires.none) at before
    (kept_lemma c.in-Ok.lemma) _ (ap L (ap (option_map kept_lemma) c.replace.ensures.after)) (subst R c.in_ok-fact.ensures found.1) (found.2 ∙ ap (rows_kept (j.line + 1)) c.in_ok-fact.ensures)
