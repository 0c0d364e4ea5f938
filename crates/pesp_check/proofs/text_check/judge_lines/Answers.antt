use Rattle.std.proofs.Common.{◌≡◌, ◌+◌, refl, sym, ap, ◌∙◌, subst, arith, length}
use Rattle.pesp_cert_items.specs.Lent.{item_said}
use Rattle.pesp_cert_items.specs.Readings.{Reading}
use Rattle.pesp_cert_items.proofs.Running.{gives_of, on_ok}
use Rattle.pesp_cert_items.proofs.Telling.{at_first}
use Rattle.pesp_check.specs.Views.{kept}
use Rattle.pesp_check.proofs.Items.{item_limits}
use Rattle.pesp_check.proofs.Texts.{IsCheckedTo, checked_none, checked_more, checked_all, checked_fault, blamed_since, not_blamed}
use Rattle.pesp_check.proofs.text_check.judge_lines.Goals as goal

pub loop-judge-init : goal.loop-judge-init
loop-judge-init g c =
    let first = at_first c.args.versions (g.S.Source.remaining c.args.source.now) 1073741824 in
    let judge = c.args.judge.now in
    record {
      checked = subst (λ (r : Reading). IsCheckedTo judge.instance.now first r judge.stage (kept judge))
          (sym (c.new-lines.ensures.begins (g.S.Source.remaining c.args.source.now)))
          (checked_none judge.instance.now first judge.stage (kept judge) refl c.requires.judged);
      instance = refl;
      line = omega (arith, c.requires.line);
      zeros = c.requires.zeros;
      long = c.requires.long;
      most = refl;
      worked = (refl, omega (arith, c.new-lines.ensures.most, c.interrupted_reads-most.ensures));
    }

pub returns-in-Ok-None-clause-ok : goal.returns-in-Ok-None-clause-ok
returns-in-Ok-None-clause-ok g c =
    let inv = c.loop-judge.invariant in
    let answers = rw (c.in-Ok-None.is, c.in-Ok-None.field-0-is) at c.next_from.follows.holds-at-none.2 in
    let gives = gives_of _ _ _ _ inv.checked.going answers in
    let judge = c.loop-judge.judge in
    checked_all c.args.versions c.args.judge.now.instance.now _ _ _ judge.stage
    (kept judge) c.verdict.result c.answer.result inv.checked gives (rw inv.instance at c.verdict.ensures)
    (rw inv.instance at c.answer.ensures)
    (λ front content valid. c.valid_is_true.ensures front c.args.judge.now.instance.now content c.requires.period valid)

pub returns-in-Ok-None-clause-counts : goal.returns-in-Ok-None-clause-counts
returns-in-Ok-None-clause-counts g c =
    let inv = c.loop-judge.invariant in
    let counts = on_ok _ c.next_from.result _ c.in-Ok-None.is c.next_from.follows.holds-at-none.1 in (
      counts.0 ∙ inv.worked.0,
      omega (
        arith,
        counts.1 inv.checked.going,
        inv.most,
        c.new-lines.ensures.most,
        c.interrupted_reads-most.ensures,
      ),
    )

pub take-requires-clause-limits : goal.take-requires-clause-limits
take-requires-clause-limits g c =
    let answers = rw (c.in-Ok-Some.is, c.in-Ok-Some.field-0-is) at c.next_from.follows.holds-at-none.2 in
    let gives = gives_of _ _ _ _ c.loop-judge.invariant.checked.going answers in
    item_limits gives.3.0 (item_said c.in-Ok-Some.line) gives.3.1

pub loop-judge-preserved : goal.loop-judge-preserved
loop-judge-preserved g c =
    let inv = c.loop-judge.invariant in
    let holds = c.next_from.follows.holds-at-none in
    let answers = rw (c.in-Ok-Some.is, c.in-Ok-Some.field-0-is) at holds.2 in
    let gives = gives_of _ _ _ _ inv.checked.going answers in
    let counts = on_ok _ c.next_from.result _ c.in-Ok-Some.is holds.1 in
    let few = counts.1 inv.checked.going in
    let took = c.in_ok-take-in-Ok-Some.ensures in
    let old = c.loop-judge.judge in
    let new = c.take.new.self in
    record {
      checked = checked_more c.args.judge.now.instance.now _ _ _ old.stage new.stage (kept old) (kept new)
          (item_said c.in-Ok-Some.line) inv.checked gives (rw inv.instance at took.judged);
      instance = took.instance ∙ inv.instance;
      line = omega (arith, inv.line, took.line, gives.2.later);
      zeros = took.zeros;
      long = c.take.auto.working ∙ inv.long;
      most = holds.0 ∙ inv.most;
      worked = (counts.0 ∙ inv.worked.0, omega (arith, few, holds.0));
    }

pub returns-in-Err-clause-fault : goal.returns-in-Err-clause-fault
returns-in-Err-clause-fault g c =
    let inv = c.loop-judge.invariant in
    let holds = c.next_from.follows.holds-at-none in
    let answers = rw c.in-Err.is at holds.2 in
    let gives = gives_of _ _ _ _ inv.checked.going answers in
    let most = inv.most ∙ c.new-lines.ensures.most ∙ ap (λ n. n + 1000) c.interrupted_reads-most.ensures in
    let blamed = blamed_since c.in-Err.fault (g.S.Source.calls c.args.source.now) _ _ _ _ inv.worked.0 most
    (rw c.in-Err.is at (holds.3 inv.checked.going)) in
    rw c.from.ensures (checked_fault c.args.versions c.args.judge.now.instance.now _ _ _ c.loop-judge.judge.stage
    (kept c.loop-judge.judge) c.in-Err.fault _ _ _ inv.checked gives blamed)

pub returns-in-Err-clause-counts_else : goal.returns-in-Err-clause-counts_else
returns-in-Err-clause-counts_else g c =
    let inv = c.loop-judge.invariant in
    let holds = c.next_from.follows.holds-at-none in
    let most = inv.most ∙ c.new-lines.ensures.most ∙ ap (λ n. n + 1000) c.interrupted_reads-most.ensures in
    let blamed = blamed_since c.in-Err.fault (g.S.Source.calls c.args.source.now) _ _ _ _ inv.worked.0 most
    (rw c.in-Err.is at (holds.3 inv.checked.going)) in
    rw c.from.ensures (not_blamed c.in-Err.fault _ _ _ blamed)
