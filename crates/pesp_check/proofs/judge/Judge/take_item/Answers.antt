use Rattle.std.proofs.Common.{rules, ◌+◌, sym, subst, List, FitsSigned, w64}
use Rattle.pesp_check.specs.Judging.{JudgedAt}
use Rattle.pesp_check.specs.Views.{kept}
use Rattle.std.specs.Prelude.{ℤ, ℕ}
use Rattle.std.proofs.lemmas.Int.{to_z-of_z}
use Rattle.pesp_check.proofs.Lists.{no_lemma}
use Rattle.pesp_check.proofs.Fronts.{version_taken, period_taken, answer_taken, time_taken}
use Rattle.pesp_check.proofs.judge.Judge.take_item.Goals as goal

pub returns-in-Version-clause-judged : goal.returns-in-Version-clause-judged
returns-in-Version-clause-judged c front c' rest has before =
    let j = c.args.self.now in
    version_taken j.stage j.instance.now front c' rest (kept j) (no_lemma j.lemma c.requires.none) c.in-Version.field-0 (rw c.in-Version.is at before)

pub returns-in-Period-clause-judged : goal.returns-in-Period-clause-judged
returns-in-Period-clause-judged c front c' rest has before =
    let j = c.args.self.now in
    period_taken j.stage j.instance.now front c' rest (kept j) (no_lemma j.lemma c.requires.none) c.in-Period.period (rw c.in-Period.is at before)

pub returns-in-Answer-clause-judged : goal.returns-in-Answer-clause-judged
returns-in-Answer-clause-judged c front c' rest has before =
    let j = c.args.self.now in
    answer_taken j.stage j.instance.now front c' rest (kept j) (no_lemma j.lemma c.requires.none) c.in-Answer.answer (rw c.in-Answer.is at before)

pub returns-in_ok-push-in-Time-clause-judged : goal.returns-in_ok-push-in-Time-clause-judged
returns-in_ok-push-in-Time-clause-judged c front c' rest has before =
    let j = c.args.self.now in
    let fits : FitsSigned w64 c.in-Time.label = search rules in
    let pushed = rw (to_z-of_z w64 c.in-Time.label fits) at c.in_ok-push-in-Time.ensures.items in
    let P : List (ℤ × ℕ) → Type 0 = λ ts. JudgedAt j.stage j.instance.now front c' rest (record (kept j) { line = j.line + 1; times = ts }) in
    subst P (sym pushed) (time_taken j.stage j.instance.now front c' rest (kept j) (no_lemma j.lemma c.requires.none) c.in-Time.label c.in-Time.time (rw c.in-Time.is at before))
