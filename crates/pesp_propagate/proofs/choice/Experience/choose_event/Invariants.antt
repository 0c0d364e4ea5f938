use Rattle.std.proofs.Common.{◌≡◌}
use Rattle.pesp_propagate.proofs.choice.Experience.choose_event.Given as goal

abbrev pub invariant-loop-block : goal.invariant-loop-block
invariant-loop-block l = l.domains ≡ l.fn.domains
