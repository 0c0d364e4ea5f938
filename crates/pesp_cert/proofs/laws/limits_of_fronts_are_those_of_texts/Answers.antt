use Rattle.pesp_cert.proofs.FrontRuns.{fronts_iff}
use Rattle.pesp_cert.proofs.laws.limits_of_fronts_are_those_of_texts.Goals as goal

pub returns : goal.returns
returns c = fronts_iff
