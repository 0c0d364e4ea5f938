use Rattle.pesp_stream.proofs.Digits.{natural_iff}
use Rattle.pesp_stream.proofs.number.natural.Goals as goal

pub returns-clause-spelt : goal.returns-clause-spelt
returns-clause-spelt c = λ n. natural_iff c.args.word.now c.digits_value.result n c.digits_value.ensures.exact
