use Rattle.pesp_cert.proofs.Runs.{limits_iff}
use Rattle.pesp_cert.proofs.laws.limits_are_those_of_texts.Goals as goal

pub returns : goal.returns
returns c = limits_iff
