use Rattle.std.proofs.Common.{rules, ◌≡◌, subst}
use Rattle.pesp_check.specs.declared.stage.Stage.{Stage}
use Rattle.pesp_check.specs.declared.stage.Stage.TheVariants as stages
use Rattle.pesp_check.specs.Judging.{JudgedAt}
use Rattle.pesp_check.specs.Views.{kept}
use Rattle.pesp_whole_check.proofs.Refusing.{of_none}
use Rattle.pesp_check.proofs.Fronts.{front_ends, front_refused}
use Rattle.pesp_check.proofs.Lists.{no_lemma}
use Rattle.pesp_check.proofs.judge.Judge.end_front.Goals as goal

pub returns-in-Some-clause-judged : goal.returns-in-Some-clause-judged
returns-in-Some-clause-judged c f c' rest b before =
    let front : c.args.self.now.stage ≡ stages.Front = search rules in
    let held = subst (λ (s : Stage). JudgedAt s c.args.self.now.instance.now f c' rest (kept c.args.self.now)) front before in
    front_refused c.args.self.now.instance.now f c' rest (kept c.args.self.now) b (no_lemma c.args.self.now.lemma c.requires.none) held c.in-Some.refusal
    (rw (c.in-Some.is, c.deref.ensures.value) at c.in_ok-found.ensures)

pub returns-clause-judged : goal.returns-clause-judged
returns-clause-judged c f c' rest b before =
    let front : c.args.self.now.stage ≡ stages.Front = search rules in
    let held = subst (λ (s : Stage). JudgedAt s c.args.self.now.instance.now f c' rest (kept c.args.self.now)) front before in
    front_ends c.args.self.now.instance.now f c' rest (kept c.args.self.now) b (no_lemma c.args.self.now.lemma c.requires.none) held
    (of_none c.in_ok-found.found _ _ c.in_default.not-Some (rw c.deref.ensures.value at c.in_ok-found.ensures))
