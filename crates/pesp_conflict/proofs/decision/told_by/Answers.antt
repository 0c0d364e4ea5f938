use Rattle.std.proofs.Common.{sym, ap, ◌∙◌}
use Rattle.pesp_truth.specs.Certificates.{cost_of}
use Rattle.pesp_conflict.proofs.Decisions.{kept_by_shown}
use Rattle.pesp_conflict.proofs.decision.told_by.Goals as goal

pub returns-in-Optimal : goal.returns-in-Optimal
returns-in-Optimal c p told = kept_by_shown p c.args.listed.now c.args.certificate.now c.in-Optimal.field-0 told
    (ap cost_of (sym c.answer.ensures.value ∙ c.in-Optimal.is))

pub returns-in-Bounded-default-Some : goal.returns-in-Bounded-default-Some
returns-in-Bounded-default-Some c p told = kept_by_shown p c.args.listed.now c.args.certificate.now
    c.in-Bounded-default-Some.cost-0 told (ap cost_of (sym c.answer.ensures.value ∙ c.in-Bounded-default-Some.is)
    ∙ c.in-Bounded-default-Some.cost-is)
