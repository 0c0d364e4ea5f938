use Rattle.pesp_cert_items.proofs.LimitLaws.{work_limits_iff}
use Rattle.pesp_cert_items.proofs.laws.limits_are_those_of_texts.Goals as goal

pub returns : goal.returns
returns c = work_limits_iff
