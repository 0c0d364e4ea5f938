use Rattle.pesp_stream.proofs.Digits.{IsReadTo}
use Rattle.pesp_stream.proofs.number.digits_value.Given as goal

abbrev pub invariant-loop-byte : goal.invariant-loop-byte
invariant-loop-byte l = IsReadTo l.word l.byte-index l.number
