use Rattle.std.proofs.Common.{refl}
use Rattle.pesp_check.proofs.ReadingLemmas.{refusal_has_cause, reads_instance, told_as, is_instance}
use Rattle.pesp_check.proofs.whole_instance.read_whole_instance.Goals as goal

pub returns-in_err-instance-clause-cause : goal.returns-in_err-instance-clause-cause
returns-in_err-instance-clause-cause g c =
    let exact = rw c.deref.ensures.value at c.in_err-instance.ensures.exact in
    told_as _ _ _ c.from_residual-in_err-instance.ensures.1 (refusal_has_cause _ _ _ _ _ _ _ c.in_ok-text.ensures.ok exact)

pub returns-clause-ok : goal.returns-clause-ok
returns-clause-ok g c =
    let exact = rw c.deref.ensures.value at c.in_ok-instance.ensures.exact in
    reads_instance _ _ c.in_ok-text.text.items c.args.period _ c.in_ok-text.ensures.ok
    (is_instance _ _ c.in_ok-text.text.items c.args.period refl exact)
