use Rattle.std.proofs.Common.{arith, rules}
use Rattle.pesp_judges.proofs.Faults.{fault_is_not_valid}
use Rattle.pesp_whole_check.proofs.whole_check.check_behind.Goals as goal

pub returns-in-None-clause-truth : goal.returns-in-None-clause-truth
returns-in-None-clause-truth c _ =
    let limits = c.in_ok-first_fault.ensures.limits in
    c.valid_is_true.ensures c.args.front.now c.args.instance.now c.args.certificate.now (omega (arith, limits.some_period))
    (rw c.in-None.is at c.in_ok-first_fault.ensures.found)

pub returns-in-Some-clause-exactly : goal.returns-in-Some-clause-exactly
returns-in-Some-clause-exactly c =
    let fault = rw c.in-Some.is at c.in_ok-first_fault.ensures.found in
    (λ e. cc, λ valid. absurd (fault_is_not_valid c.args.front.now c.args.instance.now c.args.certificate.now c.in-Some.refusal fault valid))

pub returns-in-None-clause-verdict : goal.returns-in-None-clause-verdict
returns-in-None-clause-verdict c = search rules
