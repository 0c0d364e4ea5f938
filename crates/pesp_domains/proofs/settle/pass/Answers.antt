use Rattle.std.proofs.Common.{◌∙◌, sym, refl}
use Rattle.pesp_domains.proofs.Visiting.{takes_at, shrinks_more, none_visited, some_passed, passed_none, passed_more}
use Rattle.pesp_domains.proofs.settle.pass.Goals as goal

pub loop-row-init : goal.loop-row-init
loop-row-init c = record {
  sizes = record { period = refl; events = refl };
  passed = passed_none c.args.domains.now.period c.args.arcs.now c.args.ranges.now c.args.line.now
      c.args.domains.now.words c.args.waiting.now c.requires.listed c.requires.none;
}

pub returns-in_err-empty-clause-shrinks : goal.returns-in_err-empty-clause-shrinks
returns-in_err-empty-clause-shrinks c =
    shrinks_more c.args.domains.now.period c.args.arcs.now c.args.ranges.now _ c.args.domains.now.words
    c.loop-row.domains.words c.visit.new.domains.words
    (c.requires.line c.loop-row.row-index 0 c.loop-row-test.true) c.loop-row.invariant.passed.shrinks
    (takes_at c.loop-row.domains.period c.args.domains.now.period c.args.arcs.now c.args.ranges.now _
    c.loop-row.domains.words c.visit.new.domains.words c.loop-row.invariant.sizes.period c.visit.ensures.takes)

pub returns-then-is_some-clause-shrinks : goal.returns-then-is_some-clause-shrinks
returns-then-is_some-clause-shrinks c =
    shrinks_more c.args.domains.now.period c.args.arcs.now c.args.ranges.now _ c.args.domains.now.words
    c.loop-row.domains.words c.visit.new.domains.words
    (c.requires.line c.loop-row.row-index 0 c.loop-row-test.true) c.loop-row.invariant.passed.shrinks
    (takes_at c.loop-row.domains.period c.args.domains.now.period c.args.arcs.now c.args.ranges.now _
    c.loop-row.domains.words c.visit.new.domains.words c.loop-row.invariant.sizes.period c.visit.ensures.takes)

pub returns-then-is_some-clause-pass : goal.returns-then-is_some-clause-pass
returns-then-is_some-clause-pass c =
    some_passed c.loop-row.domains.period c.args.domains.now.period c.loop-row.domains.events
    c.args.domains.now.events c.args.arcs.now c.args.ranges.now c.args.line.now _ c.args.domains.now.words
    c.loop-row.domains.words c.visit.new.domains.words
    c.args.waiting.now c.loop-row.waiting c.visit.new.waiting c.in_ok-empty.empty c.loop-row.invariant.sizes.period
    c.loop-row.invariant.sizes.events (sym c.is_some.ensures ∙ c.if-is_some.true) c.in_ok-empty.ensures.visit

pub loop-row-preserved : goal.loop-row-preserved
loop-row-preserved c =
    record {
      sizes = record {
        period = c.visit.ensures.sizes.period ∙ c.loop-row.invariant.sizes.period;
        events = c.visit.ensures.sizes.events ∙ c.loop-row.invariant.sizes.events;
      };
      passed = passed_more c.args.domains.now.period c.args.arcs.now c.args.ranges.now c.args.line.now
          c.loop-row.row-index _ c.args.domains.now.words c.loop-row.domains.words c.visit.new.domains.words
          c.args.waiting.now c.loop-row.waiting c.visit.new.waiting
          (c.requires.line c.loop-row.row-index 0 c.loop-row-test.true) refl c.loop-row.invariant.passed
          (takes_at c.loop-row.domains.period c.args.domains.now.period c.args.arcs.now c.args.ranges.now _
          c.loop-row.domains.words c.visit.new.domains.words c.loop-row.invariant.sizes.period
          c.visit.ensures.takes)
          (none_visited c.loop-row.domains.period c.args.domains.now.period c.loop-row.domains.events
          c.args.arcs.now _ c.loop-row.domains.words c.visit.new.domains.words c.loop-row.waiting
          c.visit.new.waiting c.in_ok-empty.empty c.loop-row.invariant.sizes.period
          (sym c.is_some.ensures ∙ c.if-is_some.false) c.in_ok-empty.ensures.visit);
    }
