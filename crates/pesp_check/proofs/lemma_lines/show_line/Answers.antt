use Rattle.std.proofs.Common.{rules, ◌≡◌, ◌++◌, ◌∷◌, ◌∙◌, ℕ, List, [], ap, sym, subst, refl, true, false, FitsSigned, w64}
use Rattle.std.proofs.lemmas.Int.{to_z-of_z}
use Rattle.pesp_problem.specs.declared.marked.MarkedRow.{MarkedRow}
use Rattle.pesp_cert_items.specs.Lent.{item_said, marked_in}
use Rattle.pesp_judges.specs.Showing.{KeptLemma, kept_of_lemma}
use Rattle.pesp_check.specs.Judging.{LemmaTo}
use Rattle.pesp_check.proofs.LemmaItems.{least_shown, scale_shown, walk_shown, no_other}
use Rattle.pesp_check.proofs.lemma_lines.show_line.Goals as goal

pub returns-in-Least-clause-shown : goal.returns-in-Least-clause-shown
returns-in-Least-clause-shown c s first before rest more limits b ends there to =
    let p = c.args.lemma.now.instance.now in
    let facts = c.args.facts.now in
    let new = kept_of_lemma c.take_least.new.self in
    let least = c.in-Least.least in
    let fits : FitsSigned w64 least = search rules in
    let N : ℕ → Type 0 = λ n. LemmaTo p facts s first new n rest more in
    subst N (sym there) (least_shown p facts s first (kept_of_lemma c.args.lemma.now) before rest more b least new
    (rw (to_z-of_z w64 least fits) at c.take_least.ensures.kept) (rw c.in-Least.is at to))

pub returns-in-Scale-clause-shown : goal.returns-in-Scale-clause-shown
returns-in-Scale-clause-shown c s first before rest more limits b ends there to =
    let p = c.args.lemma.now.instance.now in
    let facts = c.args.facts.now in
    let new = kept_of_lemma c.take_scale.new.self in
    let N : ℕ → Type 0 = λ n. LemmaTo p facts s first new n rest more in
    subst N (sym there) (scale_shown p facts s first (kept_of_lemma c.args.lemma.now) before rest more b c.in-Scale.scale new
    c.take_scale.ensures.kept (rw c.in-Scale.is at to))

pub returns-in_ok-take_walk-in-Walk-clause-shown : goal.returns-in_ok-take_walk-in-Walk-clause-shown
returns-in_ok-take_walk-in-Walk-clause-shown c s first before rest more limits b ends there to =
    let p = c.args.lemma.now.instance.now in
    let facts = c.args.facts.now in
    let old = kept_of_lemma c.args.lemma.now in
    let new = kept_of_lemma c.take_walk.new.self in
    let N : ℕ → Type 0 = λ n. LemmaTo p facts s first new n rest more in
    let W : List MarkedRow → KeptLemma = λ walk. record old { walks = old.walks ++ walk ∷ [] } in
    subst N (sym there) (walk_shown p facts s first old before rest more b (marked_in c.in-Walk.rows) new
    (c.in_ok-take_walk-in-Walk.ensures.kept ∙ ap W c.in_ok-walk-in-Walk.ensures) (rw c.in-Walk.is at to))

pub returns-in-Front-clause-shown : goal.returns-in-Front-clause-shown
returns-in-Front-clause-shown c s first before rest more limits b ends there to =
    absurd (no_other c.args.lemma.now.instance.now c.args.facts.now s first (kept_of_lemma c.args.lemma.now) before rest more b
    (item_said c.args.line) (rw c.in-Front.is refl) (rw c.in-Front.is (λ e. cc)) (rw c.in-Front.is (λ e. cc)) to)

pub returns-in-Own-clause-shown : goal.returns-in-Own-clause-shown
returns-in-Own-clause-shown c = rw c.in-Own.is c.show_item.ensures.shown

pub returns-in-Lemma-clause-shown : goal.returns-in-Lemma-clause-shown
returns-in-Lemma-clause-shown c s first before rest more limits b ends there to =
    let never : true ≡ false = rw c.in-Lemma.is at ends in absurd cc
