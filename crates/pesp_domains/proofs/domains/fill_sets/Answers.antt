use Rattle.std.proofs.Common.{◌≡◌, ◌∙◌, ◌+◌, ◌-◌, ◌*◌, ◌<◌, ◌≤◌, ℕ, arith, sym, subst, ap, length}
use Rattle.std.specs.Prelude.{slice_range}
use Rattle.pesp_domains.specs.Domains.{width_of}
use borrow.Rule.Slice.PartMut.{put_mid}
use Rattle.pesp_network.specs.Networks.{net_of_network}
use Rattle.pesp_domains.specs.Filling.{IsFullSet, AreFull}
use Rattle.pesp_domains.proofs.Narrowing.{part_length}
use Rattle.pesp_domains.proofs.Holding.{row_fits}
use Rattle.pesp_domains.proofs.Filling.{IsFilled, full_first, full_other, full_more}
use Rattle.pesp_domains.proofs.domains.fill_sets.Goals as goal
use Rattle.pesp_domains.proofs.domains.fill_sets.Goals.{then-first-event, else-first-event}

pub loop-event-preserved : goal.loop-event-preserved
loop-event-preserved c =
    let n = c.args.network.now in
    let w = c.width_of-width.result in
    let a = c.loop-event.event * w in
    let e : w ≡ width_of n.period = c.width_of-width.ensures ∙ ap width_of c.period-period.ensures.period in
    let below : c.loop-event.event < n.events = let t = c.loop-event-test.true in
    let q = c.events-event-end.ensures.events in omega arith in
    let l : a + w ≤ length c.loop-event.words =
    row_fits c.loop-event.event n.events w (length c.loop-event.words) below
    (c.loop-event.auto.words ∙ c.requires ∙ ap (λ (k : ℕ). n.events * k) (sym e)) in
    let part : length (slice_range c.loop-event.words a (a + w)) ≡ w = part_length a w c.loop-event.words l in
    let some : 0 < n.period = c.period-period.ensures.limits.some_period in
    let long : n.period ≤ 64 * length (slice_range c.loop-event.words a (a + w)) = omega arith in
    let filled : IsFilled c.if-first-event.count
    (length (slice_range c.loop-event.words a (a + w))) c.fill.new.set =
    record { ones = c.fill.ensures.ones; zeros = c.fill.ensures.zeros } in
    let full : IsFullSet (net_of_network n) c.loop-event.event c.fill.new.set = elim c.if-first-event.branch [
      | then-first-event v ↦ full_first (net_of_network n) c.loop-event.event c.first_of-first.result _
          c.if-first-event.count c.fill.new.set some long c.first_of-first.ensures v.if-first-event.true v.count-is
          filled
      | else-first-event v ↦ full_other (net_of_network n) c.loop-event.event c.first_of-first.result _
          c.if-first-event.count c.fill.new.set long c.first_of-first.ensures v.if-first-event.false
          (v.count-is ∙ c.period-period.ensures.period) filled
    ] in
    let m : a + w - a ≡ w = omega arith in
    let P : ℕ → Type 0 = λ k. AreFull (net_of_network n) (c.loop-event.event + 1) (put_mid a k c.loop-event.words c.fill.new.set) in
    subst P (sym m) (full_more (net_of_network n) c.loop-event.event w c.loop-event.words c.fill.new.set e l
    (c.fill.auto.set ∙ part) c.loop-event.invariant full)
