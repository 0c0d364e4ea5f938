use Rattle.std.proofs.Common.{arith, FitsSigned, ℕ, ◌≡◌, subst}
use Rattle.std.specs.Prelude.{◌+ℤ◌, ◌*ℤ◌}
use Rattle.std.specs.Int.{w64}
use Rattle.std.proofs.lemmas.Int.{ints, to_z-of_z}
use Rattle.pesp_problem.specs.Marked.{walk_sum}
use Rattle.pesp_problem.specs.Rates.{rates_at, rate_of, passed}
use Rattle.pesp_problem.proofs.rates.add_walk.Goals as goal

pub returns-clause-sum : goal.returns-clause-sum
returns-clause-sum c i flipped l =
    let fits : FitsSigned w64 c.args.mult = omega (arith, ints, c.requires.mult) in
    let P : ℕ → Type 0 = λ a. rate_of flipped (rates_at c.add_rates.new.rates i)
    ≡ rate_of flipped (rates_at c.args.rates.now i)
    +ℤ c.args.mult *ℤ walk_sum c.args.walk.now (passed c.args.period a i flipped) in
    let added : P c.rest-alpha.result = rw (to_z-of_z w64 c.args.mult fits) at (c.add_rates.ensures.sum i flipped l) in
    subst P c.rest-alpha.ensures.value added
