use Rattle.std.proofs.Common.{inr}
use Rattle.std.proofs.lemmas.Result.{on_ok_weaker, IfErr-weaker}
use Rattle.pesp_runs.proofs.search.run_from_times.Goals as goal

pub returns-clause-ok : goal.returns-clause-ok
returns-clause-ok g c =
    let times = c.in_ok-times in
    let written = rw c.deref.ensures.value at c.write.ensures.ok in
    on_ok_weaker c.write.result (λ w. (
      c.in_ok-instance.instance,
      c.in_ok-instance.ensures.ok,
      (times.times.items, times.ensures.ok, w),
    )) written

pub returns-clause-cause : goal.returns-clause-cause
returns-clause-cause g c =
    let times = c.in_ok-times in
    let cause = rw c.deref.ensures.value at c.write.ensures.cause in
    IfErr-weaker c.write.result _ _ (λ fault out.
    inr (
      c.in_ok-instance.instance,
      c.in_ok-instance.ensures.ok,
      inr (times.times.items, times.ensures.ok, out),
    )) cause
