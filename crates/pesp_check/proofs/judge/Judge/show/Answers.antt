use Rattle.std.proofs.Common.{◌+◌, ap, refl, Some, None}
use Rattle.std.specs.Prelude.{option_map}
use Rattle.pesp_cert_items.specs.Lent.{item_said}
use Rattle.pesp_judges.specs.Showing.{kept_of_lemma as kept_lemma}
use Rattle.pesp_check.specs.Views.{kept}
use Rattle.pesp_whole_check.proofs.Refusing.{of_none}
use Rattle.pesp_check.proofs.LemmaSteps.{shown_behind}
use Rattle.pesp_check.proofs.judge.Judge.show.Goals as goal

pub returns-in-Some-found-clause-judged : goal.returns-in-Some-found-clause-judged
returns-in-Some-found-clause-judged c front c' rest has before =
    let j = c.args.self.now in
    let told = rw (j.shown c.in-Some.lemma c.in-Some.is, c.deref.ensures.value) at c.in_ok-found.ensures.shown in
    let new = kept_lemma c.show_line.new.lemma in
    rw c.in-Some-found.is at
    (shown_behind j.stage j.instance.now front c' (item_said c.args.line) rest (kept j) (kept_lemma c.in-Some.lemma) has
    (ap (option_map kept_lemma) c.in-Some.is) before new (j.line + 1) c.in_ok-found.found
    (record (kept j) { line = j.line + 1; lemma = Some new })
    (record (kept j) { line = j.line + 1; lemma = option_map kept_lemma c.take.new.self })
    c.requires.goes_on refl told refl (ap (option_map kept_lemma) c.take.ensures.after))

pub returns-clause-judged : goal.returns-clause-judged
returns-clause-judged c front c' rest has before =
    let j = c.args.self.now in
    let told = rw (j.shown c.in-Some.lemma c.in-Some.is, c.deref.ensures.value) at c.in_ok-found.ensures.shown in
    let new = kept_lemma c.show_line.new.lemma in
    of_none c.in_ok-found.found _ _ c.in_default-found.not-Some
    (shown_behind j.stage j.instance.now front c' (item_said c.args.line) rest (kept j) (kept_lemma c.in-Some.lemma) has
    (ap (option_map kept_lemma) c.in-Some.is) before new (j.line + 1) c.in_ok-found.found
    (record (kept j) { line = j.line + 1; lemma = Some new }) (record (kept j) { lemma = None })
    c.requires.goes_on refl told refl refl)
