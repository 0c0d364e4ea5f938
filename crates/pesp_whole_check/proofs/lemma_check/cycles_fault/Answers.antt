use Rattle.std.proofs.Common.{◌+◌, ◌∙◌, arith, refl, sym, ap, length}
use Rattle.pesp_judges.proofs.Options.{match_none, match_some}
use Rattle.pesp_judges.specs.Showing.{kept_of_lemma}
use Rattle.pesp_whole_check.proofs.LemmaCheck.{one_short, cycle_more, all_cycles_came}
use Rattle.pesp_whole_check.proofs.lemma_check.cycles_fault.Goals as goal

pub take_cycle-requires-clause-short : goal.take_cycle-requires-clause-short
take_cycle-requires-clause-short c =
    let one = one_short c.args.cycles.now c.loop-place.place c.index-cycles-place.result c.loop-place-test.true in
    omega (arith, one, ap length c.rows.ensures, ap length c.index-cycles-place.is, c.requires.rows)

pub loop-place-preserved : goal.loop-place-preserved
loop-place-preserved c =
    let inv = c.loop-place.invariant in
    let none = sym c.is_some.ensures ∙ c.if-is_some.false in
    record {
      instance = c.in_ok-found.ensures.instance ∙ inv.instance;
      zeros = c.in_ok-found.ensures.zeros;
      long = c.take_cycle.auto.working ∙ inv.long;
      shown = λ s at limits same first begun.
          match_none c.in_ok-found.found _ _ none
          (cycle_more c.args.judge.now.instance.now (kept_of_lemma c.loop-place.judge) (kept_of_lemma c.take_cycle.new.self) c.loop-place.place
          (c.args.line + c.loop-place.place + 1) c.in_ok-found.found c.args.cycles.now c.rows.result.now c.index-cycles-place.result c.args.line
          (rw inv.instance at c.in_ok-found.ensures.verdict) c.loop-place-test.true (c.rows.ensures ∙ c.index-cycles-place.is) refl
          s at limits same first (inv.shown s at limits same first begun));
    }

pub returns-then-is_some-clause-verdict : goal.returns-then-is_some-clause-verdict
returns-then-is_some-clause-verdict c s at limits same first begun =
    let inv = c.loop-place.invariant in
    let some = sym c.is_some.ensures ∙ c.if-is_some.true in
    match_some c.in_ok-found.found _ _ _ _ some (λ refusal fault. fault)
    (cycle_more c.args.judge.now.instance.now (kept_of_lemma c.loop-place.judge) (kept_of_lemma c.take_cycle.new.self) c.loop-place.place
    (c.args.line + c.loop-place.place + 1) c.in_ok-found.found c.args.cycles.now c.rows.result.now c.index-cycles-place.result c.args.line
    (rw inv.instance at c.in_ok-found.ensures.verdict) c.loop-place-test.true (c.rows.ensures ∙ c.index-cycles-place.is) refl
    s at limits same first (inv.shown s at limits same first begun))

pub returns-clause-verdict : goal.returns-clause-verdict
returns-clause-verdict c s at limits same first begun =
    all_cycles_came c.args.judge.now.instance.now s at (kept_of_lemma c.loop-place.judge) c.loop-place.place c.args.cycles.now same
    c.loop-place-test.false (c.loop-place.invariant.shown s at limits same first begun)
