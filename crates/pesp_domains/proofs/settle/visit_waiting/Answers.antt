use Rattle.std.proofs.Common.{◌≡◌, ◌∙◌, sym, ℕ, refl, subst, arith, rules, vec_len}
use Rattle.std.specs.Prelude.{Option}
use Rattle.pesp_domains.specs.declared.waiting.Waiting.{Waiting}
use Rattle.pesp_domains.specs.Visits.{IsPass}
use Rattle.pesp_domains.proofs.Visiting.{settling_more, shrinks_both, shrinks_at, passed_at, settled, is_zero}
use Rattle.pesp_domains.proofs.settle.visit_waiting.Goals as goal

pub pass-requires-clause-listed : goal.pass-requires-clause-listed
pass-requires-clause-listed c = search rules

pub returns-in_err-event-clause-shrinks : goal.returns-in_err-event-clause-shrinks
returns-in_err-event-clause-shrinks c =
    let t = c.args.domains.now.period in
    shrinks_both t c.args.arcs.now c.args.ranges.now c.args.domains.now.words c.passes.domains.words
    c.pass.new.domains.words c.passes.invariant.settling.shrinks
    (shrinks_at c.passes.domains.period t c.args.arcs.now c.args.ranges.now c.passes.domains.words
    c.pass.new.domains.words c.passes.invariant.sizes.period c.pass.ensures.shrinks)

pub returns-in-Some-clause-shrinks : goal.returns-in-Some-clause-shrinks
returns-in-Some-clause-shrinks c =
    let t = c.args.domains.now.period in
    shrinks_both t c.args.arcs.now c.args.ranges.now c.args.domains.now.words c.passes.domains.words
    c.pass.new.domains.words c.passes.invariant.settling.shrinks
    (shrinks_at c.passes.domains.period t c.args.arcs.now c.args.ranges.now c.passes.domains.words
    c.pass.new.domains.words c.passes.invariant.sizes.period c.pass.ensures.shrinks)

pub passes-preserved : goal.passes-preserved
passes-preserved c =
    let t = c.args.domains.now.period in
    let d = c.passes.domains in
    let v0 : Waiting = record c.passes.waiting { rows = c.replace-line.new.dest } in
    let P : Option ℕ → Type 0 = λ o. IsPass d.period d.events c.args.arcs.now c.args.ranges.now c.deref.result.now
    d.words c.pass.new.domains.words v0 c.pass.new.waiting o in
    record {
      sizes = record {
        period = c.pass.ensures.sizes.period ∙ c.passes.invariant.sizes.period;
        events = c.pass.ensures.sizes.events ∙ c.passes.invariant.sizes.events;
      };
      settling = settling_more t c.args.arcs.now c.args.ranges.now c.deref.result.now c.args.domains.now.words
          d.words c.pass.new.domains.words c.args.waiting c.passes.waiting v0 c.pass.new.waiting refl
          c.passes.invariant.settling
          (passed_at d.period t c.args.arcs.now c.args.ranges.now c.deref.result.now _ d.words
          c.pass.new.domains.words v0 c.pass.new.waiting c.passes.invariant.sizes.period
          (subst P c.in_default.is c.in_ok-event.ensures.pass));
    }

pub returns-clause-supported : goal.returns-clause-supported
returns-clause-supported c = λ outcome rest ends.
    settled c.args.domains.now.period c.args.arcs.now c.args.ranges.now c.args.domains.now.words
    c.passes.domains.words c.args.waiting c.passes.waiting outcome c.passes.invariant.settling
    (let z : vec_len c.passes.waiting.rows ≡ 0 = is_zero _ (sym c.is_empty.ensures ∙ c.passes-test.false) in
    omega (arith, c.passes.waiting.rows.ok.0)) rest
