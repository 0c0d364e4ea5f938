use denote.Shadow.{shadow}
use denote.Text.{Utf8}
use Rattle.pesp_tests.proofs.parts.row_of.Given as goal

abbrev pub invariant-loop-end : goal.invariant-loop-end
invariant-loop-end l = shadow (Utf8 l.rest)
