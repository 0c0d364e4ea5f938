use Rattle.std.proofs.Common.{◌≡◌, ◌≤◌, ◌⊎◌, inl, inr, subst, false}
use Rattle.pesp_domains.specs.Domains.{SetRows, family_of}
use Rattle.pesp_domains.proofs.Holding.{nothing_past}
use Rattle.pesp_domains.proofs.domains.Domains.has.Goals as goal
use Rattle.pesp_domains.proofs.domains.Domains.has.Goals.{then-event-self-via-then-event-self, then-event-self-via-else-event-self+then-difference-self}

pub returns-then-event-self-clause-has : goal.returns-then-event-self-clause-has
returns-then-event-self-clause-has c =
    let P : SetRows → Type 0 = λ s. false ≡ family_of s c.args.event c.args.difference in
    let past : (c.self.inside.events ≤ c.args.event) ⊎ (c.self.inside.period ≤ c.args.difference) = elim c.then-event-self.branch [
      | then-event-self-via-then-event-self w ↦ inl w.if-event-self.true
      | then-event-self-via-else-event-self+then-difference-self w ↦ inr w.if-difference-self.true
    ] in
    subst P c.self.view_is (nothing_past _ c.args.event c.args.difference c.self.invariant.0 past)
