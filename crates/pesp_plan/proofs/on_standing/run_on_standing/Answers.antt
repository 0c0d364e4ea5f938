use Rattle.std.proofs.Common.{inl, inr}
use Rattle.std.proofs.lemmas.Result.{on_ok_weaker, IfErr-weaker}
use Rattle.pesp_plan.proofs.on_standing.run_on_standing.Goals as goal

pub returns-in-Ok-Accepted-clause-ok : goal.returns-in-Ok-Accepted-clause-ok
returns-in-Ok-Accepted-clause-ok g c =
    let is_text = rw c.deref.ensures.value at c.in_ok-base.ensures.found in
    let valid = c.in-Ok-Accepted.ensures.exactly.0 c.in-Ok-Accepted.field-0-is in
    on_ok_weaker c.write.result (λ w. (
      c.in_ok-instance.instance,
      c.in_ok-instance.ensures.ok,
      record {
        text = c.in_ok-text.text.items;
        read = c.in_ok-text.ensures.ok;
        holds = (c.in_ok-base.base, is_text, inl (valid, w));
      },
    )) c.write.ensures.ok

pub returns-then-has_other_period-clause-cause : goal.returns-then-has_other_period-clause-cause
returns-then-has_other_period-clause-cause g c =
    let is_text = rw c.deref.ensures.value at c.in_ok-base.ensures.found in
    inr (
      c.in_ok-instance.instance,
      c.in_ok-instance.ensures.ok,
      inl (record {
        text = c.in_ok-text.text.items;
        read = c.in_ok-text.ensures.ok;
        holds = (c.in_ok-base.base, is_text, c.has_other_period.ensures.0 c.if-has_other_period.true);
      }),
    )

pub returns-in-Ok-Refused : goal.returns-in-Ok-Refused
returns-in-Ok-Refused g c =
    let is_text = rw c.deref.ensures.value at c.in_ok-base.ensures.found in
    let times = c.in_ok-times-in-Ok-Refused in
    let begins = rw c.deref-in-Ok-Refused.ensures.value at times.ensures.begins in
    let run = c.write-in-Ok-Refused in
    let written = rw c.deref-in-Ok-Refused-2.ensures.value at run.ensures.ok in
    record {
      ok = on_ok_weaker run.result (λ w. (
        c.in_ok-instance.instance,
        c.in_ok-instance.ensures.ok,
        record {
          text = c.in_ok-text.text.items;
          read = c.in_ok-text.ensures.ok;
          holds = (c.in_ok-base.base, is_text, inr (times.times.items, begins, w));
        },
      )) written;
      cause = IfErr-weaker run.result _ _ (λ fault stops.
          inr (
            c.in_ok-instance.instance,
            c.in_ok-instance.ensures.ok,
            inr (record {
              text = c.in_ok-text.text.items;
              read = c.in_ok-text.ensures.ok;
              holds = (c.in_ok-base.base, is_text, inr (times.times.items, begins, stops));
            }),
          )) run.ensures.cause;
      silent = run.ensures.silent;
    }

pub returns-clause-cause : goal.returns-clause-cause
returns-clause-cause g c = inr (c.in_ok-instance.instance, c.in_ok-instance.ensures.ok, inl tt)
