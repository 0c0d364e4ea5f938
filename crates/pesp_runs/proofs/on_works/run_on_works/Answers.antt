use Rattle.std.proofs.Common.{inl, inr}
use Rattle.std.proofs.lemmas.Result.{on_ok_weaker, IfErr-weaker}
use Rattle.pesp_check.proofs.ReadingLemmas.{told_as}
use Rattle.pesp_runs.proofs.on_works.run_on_works.Goals as goal

pub returns-in_err-works-clause-cause : goal.returns-in_err-works-clause-cause
returns-in_err-works-clause-cause g c =
    told_as _ _ _ c.from_residual-in_err-works.ensures.1 (inr (
      c.in_ok-instance.instance,
      c.in_ok-instance.ensures.ok,
      inr (c.in_ok-base.base, c.in_ok-base.ensures.ok, inl c.in_err-works.ensures.cause),
    ))

pub returns-clause-ok : goal.returns-clause-ok
returns-clause-ok g c =
    let works = c.in_ok-works in
    let written = rw c.deref.ensures.value at c.write.ensures.ok in
    on_ok_weaker c.write.result (λ w. (
      c.in_ok-instance.instance,
      c.in_ok-instance.ensures.ok,
      (
        c.in_ok-base.base,
        c.in_ok-base.ensures.ok,
        record { text = works.works.items; read = works.ensures.ok; holds = w },
      ),
    )) written

pub returns-clause-cause : goal.returns-clause-cause
returns-clause-cause g c =
    let works = c.in_ok-works in
    let cause = rw c.deref.ensures.value at c.write.ensures.cause in
    IfErr-weaker c.write.result _ _ (λ fault out. inr (
      c.in_ok-instance.instance,
      c.in_ok-instance.ensures.ok,
      inr (
        c.in_ok-base.base,
        c.in_ok-base.ensures.ok,
        inr (record { text = works.works.items; read = works.ensures.ok; holds = out }),
      ),
    )) cause
