use Rattle.pesp_cert.proofs.LimitFacts.{limits_of}
use Rattle.pesp_cert.proofs.certificate.Certificate.version.Goals as goal

pub returns-clause-limits : goal.returns-clause-limits
returns-clause-limits c = rw (← c.self.view_is) (limits_of _ c.self.invariant)
