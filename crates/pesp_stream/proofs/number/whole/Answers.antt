use Rattle.pesp_stream.proofs.Digits.{whole_iff}
use Rattle.pesp_stream.proofs.number.whole.Goals as goal

pub returns-clause-spelt : goal.returns-clause-spelt
returns-clause-spelt c = λ z. whole_iff c.args.word.now c.signed_value.result z c.signed_value.ensures
