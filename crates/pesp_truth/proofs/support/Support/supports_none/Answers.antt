use Rattle.std.proofs.Common.{◌≡◌, ◌∙◌, ap, arith, length}
use Rattle.std.specs.Prelude.{IsTrue}
use Rattle.pesp_truth.specs.Sets.{family_at}
use Rattle.pesp_truth.proofs.Labelling.{whole}
use Rattle.pesp_truth.proofs.Starting.{wide_start, wide_at, start_at, exact_at}
use Rattle.pesp_truth.proofs.support.Support.supports_none.Goals as goal

pub is_emptied-requires-clause-wide : goal.is_emptied-requires-clause-wide
is_emptied-requires-clause-wide c =
    let s = c.self.inside in
    let i = c.self.invariant in
    let len : length c.start.new.words ≡ s.words.len = omega arith in
    wide_at s.period s.arcs.items c.deref-2.result.now c.args.ranges.now s.events
    (length c.deref_mut-3.result.now) c.start.new.words c.deref_mut-2.result.now c.deref-2.ensures.value
    (ap length c.deref_mut-3.ensures.value ∙ i.marks_before)
    (c.deref_mut-2.ensures.value ∙ whole s.words.len s.words.items c.start.new.words len)
    (wide_start s.period s.arcs.items c.args.ranges.now s.events s.firsts.items c.start.new.words i.some_period
    i.long i.first_events (start_at s.period s.firsts.items c.deref.result.now
    (family_at s.period c.start.new.words) c.deref.ensures.value c.start.ensures))

pub returns-clause-exact : goal.returns-clause-exact
returns-clause-exact c =
    let s = c.self.inside in
    exact_at (IsTrue c.is_emptied.result) s.period
    (length c.deref_mut-3.result.now) s.events s.arcs.items c.deref-2.result.now c.args.ranges.now
    c.args.self.now c.deref-2.ensures.value (ap length c.deref_mut-3.ensures.value
    ∙ c.self.invariant.marks_before) c.self.view_is
    c.is_emptied.ensures
