use Rattle.std.proofs.Common.{◌≡◌, ◌≢◌, ℕ, ◌-◌, ◌<◌, ◌≤◌, ◌⊎◌, length, true}
use Rattle.pesp_problem.specs.Arcs.{tail_of, head_of}
use Rattle.pesp_domains.specs.Waiting.{waits_at, WaitingGrows}
use Rattle.pesp_domains.proofs.waiting.Waiting.wake.Given as goal

abbrev pub invariant-loop-row : goal.invariant-loop-row
invariant-loop-row l = record {
  grows : WaitingGrows l.initial.self l.self;
  within : l.row ≤ length l.arcs;
  end : 0 < l.row → (tail_of l.arcs l.row ≡ l.event) ⊎ (head_of l.arcs l.row ≡ l.event);
  woken : (k : ℕ) → l.row < k → k ≤ length l.arcs → (tail_of l.arcs k ≡ l.event) ⊎ (head_of l.arcs k ≡ l.event)
      → k ≢ l.but → waits_at l.self (k - 1) ≡ true;
}

abbrev pub decreases-loop-row : goal.decreases-loop-row
decreases-loop-row l = l.row
