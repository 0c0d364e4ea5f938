use Rattle.std.proofs.Common.{◌≡◌, arith, sym, ◌∙◌, to_z, of_z, w64}
use Rattle.std.proofs.lemmas.Int.{to_z-of_z}
use Rattle.pesp_cert_lines.proofs.PairLoop.{no_pair, odd_pair, bad_pair, first_pair, cycle_small, mult_fits}
use Rattle.pesp_cert_lines.proofs.pairs.take_pair.Goals as goal

pub returns-in_err-first : goal.returns-in_err-first
returns-in_err-first c = rw (c.from_residual.ensures, c.in_err-first.ensures.steps.0, c.in_err-first.ensures.steps.1) (no_pair c.args.least)

pub returns-in_err-second : goal.returns-in_err-second
returns-in_err-second c = absurd (odd_pair c.args.least c.in_ok-first.first.now
    (rw (c.in_ok-first.ensures.steps, c.in_err-second.ensures.steps.0) at c.requires))

pub returns-in_err-cycle : goal.returns-in_err-cycle
returns-in_err-cycle c = absurd (bad_pair c.args.least c.in_ok-first.first.now c.in_ok-second.second.now _
    (sym c.in_err-cycle.was ∙ c.pair_at.ensures.exact)
    (rw (c.in_ok-first.ensures.steps, c.in_ok-second.ensures.steps) at c.requires))

pub overflow_cast-result : goal.overflow_cast-result
overflow_cast-result c =
    let first = first_pair c.args.least c.in_ok-first.first.now c.in_ok-second.second.now _ c.in_ok-cycle.cycle
    c.in_ok-cycle.mult (sym c.in_ok-cycle.was ∙ c.pair_at.ensures.exact)
    (rw (c.in_ok-first.ensures.steps, c.in_ok-second.ensures.steps) at c.requires) in
    omega (arith, cycle_small c.in_ok-cycle.cycle c.in_ok-cycle.mult first.0)

pub returns : goal.returns
returns c =
    let first = first_pair c.args.least c.in_ok-first.first.now c.in_ok-second.second.now _ c.in_ok-cycle.cycle
    c.in_ok-cycle.mult (sym c.in_ok-cycle.was ∙ c.pair_at.ensures.exact)
    (rw (c.in_ok-first.ensures.steps, c.in_ok-second.ensures.steps) at c.requires) in
    let same : to_z w64 (of_z w64 c.in_ok-cycle.mult)
    ≡ c.in_ok-cycle.mult = to_z-of_z w64 c.in_ok-cycle.mult
    (mult_fits c.args.least c.in_ok-first.first.now c.in_ok-second.second.now c.in_ok-cycle.cycle
    c.in_ok-cycle.mult (sym c.in_ok-cycle.was ∙ c.pair_at.ensures.exact)) in
    rw (same, c.in_ok-first.ensures.steps, c.in_ok-second.ensures.steps) first.1
