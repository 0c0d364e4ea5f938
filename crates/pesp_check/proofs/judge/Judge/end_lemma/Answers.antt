use Rattle.std.proofs.Common.{◌≡◌, ◌∙◌, ◌++◌, ◌∷◌, [], List, Option, None, ap, sym, subst, true, length}
use Rattle.std.specs.Prelude.{All, option_map}
use Rattle.pesp_problem.specs.Timetables.{Pesp}
use Rattle.pesp_problem.specs.Walks.{Names}
use Rattle.pesp_truth.specs.Lemmas.{Lemma as Fact}
use Rattle.pesp_cert_items.specs.Lent.{item_said}
use Rattle.pesp_judges.specs.Showing.{KeptLemma, kept_of_lemma as kept_lemma}
use Rattle.pesp_check.specs.Items.{ends_lemma}
use Rattle.pesp_check.specs.Judging.{Kept}
use Rattle.pesp_check.specs.Views.{kept}
use Rattle.pesp_check.proofs.LemmaSteps.{ended_behind}
use Rattle.pesp_check.proofs.judge.Judge.end_lemma.Goals as goal

pub returns-clause-judged : goal.returns-clause-judged
returns-clause-judged c front c' rest has before =
    let j = c.args.self.now in
    let ends : ends_lemma (item_said c.args.next.now) ≡ true = cc in
    let K : List Fact → Kept = λ facts. record (kept j) { facts = facts; lemma = None } in
    let L : Option KeptLemma → Kept = λ lemma. record (kept j) { facts = c.add_fact.new.facts.items; lemma = lemma } in
    let facts = c.in_ok-add_fact.ensures.items ∙ ap (λ (fact : Fact). j.facts.items ++ fact ∷ []) c.into_lemma.ensures.lemma in
    ended_behind j.stage j.instance.now front c' (item_said c.args.next.now) rest (kept j) (kept_lemma c.in-Some.lemma) has
    (ap (option_map kept_lemma) (sym c.take.ensures.value ∙ c.in-Some.is)) before _ ends
    (ap L (ap (option_map kept_lemma) c.take.ensures.after) ∙ ap K facts)

pub invariant_of-self-2-clause-named : goal.invariant_of-self-2-clause-named
invariant_of-self-2-clause-named c =
    let j = c.args.self.now in
    let weights = c.into_lemma.result.weights in
    let N : Pesp → Type 0 = λ p. All (λ pair. Names (length p.rows) pair.cycle) weights in
    let same = j.shown c.in-Some.lemma (sym c.take.ensures.value ∙ c.in-Some.is) in
    c.add_fact.ensures.rows (length j.instance.now.rows) j.named (subst N same c.into_lemma.ensures.rows)
