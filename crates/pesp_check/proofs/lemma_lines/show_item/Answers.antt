use Rattle.std.proofs.Common.{◌≡◌, ◌∷◌, subst, refl, ◌∙◌, true, false}
use Rattle.pesp_cert_lines.specs.declared.item.Item.{Item}
use Rattle.pesp_cert_items.specs.Lent.{rows_in, listed}
use Rattle.pesp_judges.specs.Showing.{kept_of_lemma}
use Rattle.pesp_check.specs.Judging.{LemmaTo}
use Rattle.pesp_check.specs.Said.{pairs_of, tree_line}
use Rattle.pesp_check.proofs.Lists.{said_is}
use Rattle.pesp_check.proofs.LemmaItems.{next_cycle, cycle_told, cycle_line, next_line, line_told, tree_line_is, read_there, no_other}
use Rattle.pesp_judges.proofs.Options.{ok_then}
use Rattle.pesp_check.proofs.lemma_lines.show_item.Goals as goal

pub returns-in_ok-take_cycle-in-Cycle-clause-shown : goal.returns-in_ok-take_cycle-in-Cycle-clause-shown
returns-in_ok-take_cycle-in-Cycle-clause-shown c s first line rest more limits b ends there to =
    let p = c.args.lemma.now.instance.now in
    let facts = c.args.facts.now in
    let rows = rows_in c.in-Cycle.rows in
    let old = kept_of_lemma c.args.lemma.now in
    let n = next_cycle p facts s first old line rest more b rows (rw c.in-Cycle.is at to) in
    cycle_told p facts s first old line rest more b c.args.at there rows n.0 _ _ n.1
    (c.in_ok-take_cycle-in-Cycle.ensures.verdict s first n.0 limits n.1.shown n.1.within n.1.is
    (cycle_line p facts s first old line rest more b c.args.at there rows n.0 n.1))

pub returns-in-Version-clause-shown : goal.returns-in-Version-clause-shown
returns-in-Version-clause-shown c s first line rest more limits b ends there to =
    let never : true ≡ false = rw c.in-Version.is at ends in absurd cc

pub returns-in-Period-clause-shown : goal.returns-in-Period-clause-shown
returns-in-Period-clause-shown c s first line rest more limits b ends there to =
    absurd (no_other c.args.lemma.now.instance.now c.args.facts.now s first (kept_of_lemma c.args.lemma.now) line rest more b
    (listed c.args.item) (rw c.in-Period.is refl) (rw c.in-Period.is (λ e. cc)) (rw c.in-Period.is (λ e. cc)) to)

pub returns-in-Answer-clause-shown : goal.returns-in-Answer-clause-shown
returns-in-Answer-clause-shown c s first line rest more limits b ends there to =
    absurd (no_other c.args.lemma.now.instance.now c.args.facts.now s first (kept_of_lemma c.args.lemma.now) line rest more b
    (listed c.args.item) (rw c.in-Answer.is refl) (rw c.in-Answer.is (λ e. cc)) (rw c.in-Answer.is (λ e. cc)) to)

pub returns-in-Time-clause-shown : goal.returns-in-Time-clause-shown
returns-in-Time-clause-shown c s first line rest more limits b ends there to =
    absurd (no_other c.args.lemma.now.instance.now c.args.facts.now s first (kept_of_lemma c.args.lemma.now) line rest more b
    (listed c.args.item) (rw c.in-Time.is refl) (rw c.in-Time.is (λ e. cc)) (rw c.in-Time.is (λ e. cc)) to)

pub returns-in_default-clause-shown : goal.returns-in_default-clause-shown
returns-in_default-clause-shown c = ok_then c.take_line.result _ _ c.take_line.ensures.verdict
    (λ found told s first line rest more limits b ends there to.
    let p = c.args.lemma.now.instance.now in
    let facts = c.args.facts.now in
    let old = kept_of_lemma c.args.lemma.now in
    let tree = tree_line pairs_of c.said_line.result in
    let T : Item → Type 0 = λ item. LemmaTo p facts s first old line (item ∷ rest) more in
    let n = next_line p facts s first old line rest more b tree (subst T c.said_line.ensures.same to) in
    let read = said_is pairs_of c.said_line.result ∙ read_there p facts s first old line rest more b tree n.0 n.1 in
    line_told p facts s first old line rest more b c.args.at there tree n.0 (kept_of_lemma c.take_line.new.self) found n.1
    (told s first n.0 limits n.1.shown n.1.within read
    (tree_line_is p facts s first old line rest more b c.args.at there tree n.0 n.1)))
