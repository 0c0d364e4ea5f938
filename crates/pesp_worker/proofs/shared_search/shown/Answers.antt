use Rattle.std.proofs.Common.{ℕ, refl, sym, ap, subst, ◌∙◌, inl, arith}
use Rattle.std.specs.Prelude.{Option, IfSome}
use Rattle.pesp_truth.specs.Certificates.{cost_of}
use Rattle.pesp_tree.specs.Events.{IsCheaper}
use Rattle.pesp_worker.specs.HandingIn.{AreTimesFor, AreShort}
use Rattle.pesp_worker.proofs.Fitting.{times_for}
use Rattle.pesp_worker.proofs.shared_search.shown.Goals as goal

pub returns-then-not-costs_less-clause-times : goal.returns-then-not-costs_less-clause-times
returns-then-not-costs_less-clause-times c instance valid = inl c.new.ensures.items

pub returns-then-not-costs_less-clause-short : goal.returns-then-not-costs_less-clause-short
returns-then-not-costs_less-clause-short c = subst AreShort (sym c.new.ensures.items) (omega arith, refl)

pub returns-clause-times : goal.returns-clause-times
returns-clause-times c instance valid =
    let less = subst (λ (o : Option ℕ). IfSome o (λ n. IsCheaper n c.args.known))
    (c.cost_in-cost.ensures ∙ ap cost_of c.answer.ensures.value)
    (c.costs_less.ensures c.if-not-costs_less.false) in
    subst (AreTimesFor instance c.args.known) (sym (c.in_ok-copy.ensures ∙ c.times.ensures.value))
    (times_for instance c.args.known c.args.certificate.now less valid)

pub returns-clause-short : goal.returns-clause-short
returns-clause-short c = subst AreShort (sym (c.in_ok-copy.ensures ∙ c.times.ensures.value))
    (c.times.ensures.limits.times, c.times.ensures.limits.each_time)
