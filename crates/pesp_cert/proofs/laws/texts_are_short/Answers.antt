use Rattle.pesp_cert.proofs.TextLengths.{texts_short}
use Rattle.pesp_cert.proofs.laws.texts_are_short.Goals as goal

pub returns : goal.returns
returns c = texts_short
