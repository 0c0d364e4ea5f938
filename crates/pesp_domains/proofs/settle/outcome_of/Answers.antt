use Rattle.std.proofs.Common.{◌≡◌, ℕ, true}
use borrow.Author.Count.{below_more}
use Rattle.pesp_domains.specs.Domains.{family_of}
use Rattle.pesp_domains.proofs.settle.outcome_of.Goals as goal

pub loop-event-preserved : goal.loop-event-preserved
loop-event-preserved c = below_more (λ event. (difference : ℕ)
    × (family_of c.args.domains.now event difference ≡ true)) c.loop-event.event c.loop-event.invariant
    (c.has_none.ensures.some c.if-has_none.false)
