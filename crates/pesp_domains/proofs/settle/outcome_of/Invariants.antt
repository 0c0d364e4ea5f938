use Rattle.std.proofs.Common.{◌≡◌, ◌<◌, ℕ, true}
use Rattle.pesp_domains.specs.Domains.{family_of}
use Rattle.pesp_domains.proofs.settle.outcome_of.Given as goal

abbrev pub invariant-loop-event : goal.invariant-loop-event
invariant-loop-event l = (event : ℕ) → event < l.event → (difference : ℕ) × (family_of l.domains event difference ≡ true)
