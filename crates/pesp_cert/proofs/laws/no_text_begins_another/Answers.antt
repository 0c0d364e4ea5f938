use Rattle.pesp_cert.proofs.TextLaws.{none_begins_another}
use Rattle.pesp_cert.proofs.laws.no_text_begins_another.Goals as goal

pub returns : goal.returns
returns c = none_begins_another
