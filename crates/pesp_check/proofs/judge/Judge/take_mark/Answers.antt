use Rattle.std.proofs.Common.{◌+◌, sym, subst}
use Rattle.pesp_check.specs.Judging.{MarksSaid, JudgedAt}
use Rattle.pesp_check.specs.Views.{kept}
use Rattle.pesp_check.proofs.Lists.{no_lemma}
use Rattle.pesp_check.proofs.Fronts.{mark_taken}
use Rattle.pesp_check.proofs.judge.Judge.take_mark.Goals as goal

pub returns-clause-judged : goal.returns-clause-judged
returns-clause-judged c front c' rest before =
    let j = c.args.self.now in
    let P : MarksSaid → Type 0 = λ d. JudgedAt j.stage j.instance.now front c' rest (record (kept j) { line = j.line + 1; draft = d }) in
    subst P (sym c.in_ok-note_line.ensures) (mark_taken j.stage j.instance.now front c' rest (kept j) (no_lemma j.lemma c.requires.none) c.args.line c.requires.mark before)
