use Rattle.std.proofs.Common.{◌∙◌, inr, sym, subst, arith, List, length, Option}
use Rattle.std.proofs.lemmas.Grind.{common_steps}
use Rattle.std.proofs.lemmas.Result.{IfOk-weaker}
use Rattle.pesp_truth.specs.Lemmas.{Lemma as Fact}
use Rattle.pesp_leaves.specs.Taken.{HaveRows}
use Rattle.pesp_judges.specs.declared.refusal.Refusal.{Refusal}
use Rattle.pesp_judges.proofs.Options.{match_map, match_some, match_none}
use Rattle.pesp_whole_check.proofs.Refusing.{head_refused, cycle_refused, inner_refused, valid_there}
use Rattle.pesp_whole_check.proofs.Valid.{front_rows}
use Rattle.pesp_whole_check.proofs.whole_check.own_fault.Goals as goal

pub returns-then-is_some : goal.returns-then-is_some
returns-then-is_some c =
    let period = sym c.period.ensures.value ∙ c.if-period.false ∙ c.period-2.ensures.period in
    let judged = rw (c.answer.ensures.value, c.times-times.ensures.value) at c.in_ok-found.ensures in
    match_some c.in_ok-found.found _ _ _ _ (sym c.is_some.ensures ∙ c.if-is_some.true)
    (λ refusal f. head_refused c.args.instance.now c.args.certificate.now refusal c.args.front.now c.requires.shown (inr (period, f))) judged

pub returns-in-Err : goal.returns-in-Err
returns-in-Err c =
    let content = c.args.certificate.now in
    let period = sym c.period.ensures.value ∙ c.if-period.false ∙ c.period-2.ensures.period in
    let judged = rw (c.answer.ensures.value, c.times-times.ensures.value) at c.in_ok-found.ensures in
    let answer = match_none c.in_ok-found.found _ _ (sym c.is_some.ensures ∙ c.if-is_some.false) judged in
    let fault = rw (c.in-Err.is, c.cycles.ensures.value, c.own_line-line.ensures.value, c.times-times.ensures.value) at
    c.in_ok-table.ensures.verdict in
    cycle_refused c.args.instance.now content c.in-Err.refusal c.args.front.now c.requires.shown period answer fault

pub inner_fault-requires-clause-rows : goal.inner_fault-requires-clause-rows
inner_fault-requires-clause-rows c =
    let p = c.args.instance.now in
    let R : List Fact → Type 0 = HaveRows (length p.rows) in
    subst R (sym c.requires.facts) (front_rows p c.args.front.now c.requires.shown)

pub inner_fault-requires-clause-zeros : goal.inner_fault-requires-clause-zeros
inner_fault-requires-clause-zeros c = grind (arith, common_steps)

pub returns-in-Ok : goal.returns-in-Ok
returns-in-Ok c =
    let p = c.args.instance.now in
    let front = c.args.front.now in
    let content = c.args.certificate.now in
    let period = sym c.period.ensures.value ∙ c.if-period.false ∙ c.period-2.ensures.period in
    let judged = rw (c.answer.ensures.value, c.times-times.ensures.value) at c.in_ok-found.ensures in
    let answer = match_none c.in_ok-found.found _ _ (sym c.is_some.ensures ∙ c.if-is_some.false) judged in
    let cycles = (rw (c.in-Ok.is, c.cycles.ensures.value) at c.in_ok-table.ensures.verdict).0 in
    IfOk-weaker c.inner_fault.result _ _ (λ (found : Option Refusal) h. match_map found _ _ _ _
    (λ inner. valid_there front p content c.own_line-line.ensures.limits c.requires.shown period answer cycles inner.0 inner.1)
    (λ refusal fault. inner_refused p content refusal front c.requires.shown period answer cycles c.times-times.ensures.limits.whole fault) h)
    c.inner_fault.ensures
