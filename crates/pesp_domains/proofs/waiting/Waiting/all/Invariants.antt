use Rattle.std.proofs.Common.{◌≡◌, ◌<◌, ℕ, true}
use Rattle.pesp_domains.specs.Waiting.{waits_at, WaitingAreListed}
use Rattle.pesp_domains.proofs.waiting.Waiting.all.Given as goal

abbrev pub invariant-loop-row : goal.invariant-loop-row
invariant-loop-row l = record {
  listed : WaitingAreListed l.count l.waiting;
  all : (row : ℕ) → row < l.row → waits_at l.waiting row ≡ true;
}
