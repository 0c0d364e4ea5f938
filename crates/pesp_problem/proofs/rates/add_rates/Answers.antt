use Rattle.std.proofs.Common.{arith, unsigned_abs, FitsSigned, to_z, of_z, get_or, true, false, ◌≡◌, ◌≤◌, ◌<◌, ◌+◌, ◌-◌, ◌*◌, ◌^◌, length, subst}
use Rattle.std.specs.Prelude.{ℤ, pos, ◌+ℤ◌, ◌*ℤ◌}
use Rattle.std.specs.Int.{w64, w128}
use Rattle.std.proofs.lemmas.Int.{ints, to_z-of_z}
use Rattle.pesp_problem.specs.declared.marked.MarkedRow.{MarkedRow}
use Rattle.pesp_problem.specs.Marked.{walk_sum, rate}
use Rattle.pesp_problem.specs.Rates.{rates_at, rate_of, passed}
use Rattle.pesp_problem.proofs.Passes.{rated_more, rated_all}
use Rattle.pesp_problem.proofs.rates.add_rates.Goals as goal

none : MarkedRow
none = record { signed = record { row = 0; plus = false }; flipped = false }

pub more-next-requires-clause-plain : goal.more-next-requires-clause-plain
unfolding none
more-next-requires-clause-plain c =
    let s = get_or c.args.walk.now c.loop-s.s-index none in
    let exists = c.requires.exist c.loop-s.s-index none c.loop-s-test.true in
    let at : s.signed.row - 1 < length c.loop-s.rates = omega (arith, exists, c.loop-s.auto.rates) in
    let first_at : s.signed.row - 1 < length c.args.rates.now = omega (arith, exists) in
    let old : unsigned_abs (rates_at c.loop-s.rates (s.signed.row - 1)).plain
    ≤ unsigned_abs (rates_at c.args.rates.now (s.signed.row - 1)).plain + c.loop-s.s-index * 10 ^ 16 =
    c.loop-s.invariant.size (s.signed.row - 1) false at in
    let first : unsigned_abs (rates_at c.args.rates.now (s.signed.row - 1)).plain
    ≤ 99999 * 10 ^ 23 = c.requires.small (s.signed.row - 1) false first_at in
    let m : unsigned_abs (to_z w128 (of_z w128 c.from.result)) ≤ 1000000000000 = omega (arith, ints) in
    let r : unsigned_abs (to_z w128 (of_z w128 c.rate.result)) ≤ 10000 = omega (arith, ints) in
    let by = c.times-by.ensures.size 1000000000000 10000 m r in
    let by_small : unsigned_abs (to_z w128 (of_z w128 c.times-by.result)) ≤ 10 ^ 16 = omega (arith, ints) in
    omega (arith, old, first, by_small, c.loop-s-test.true, c.requires.short)

pub more-next-requires-clause-flipped : goal.more-next-requires-clause-flipped
unfolding none
more-next-requires-clause-flipped c =
    let s = get_or c.args.walk.now c.loop-s.s-index none in
    let exists = c.requires.exist c.loop-s.s-index none c.loop-s-test.true in
    let at : s.signed.row - 1 < length c.loop-s.rates = omega (arith, exists, c.loop-s.auto.rates) in
    let first_at : s.signed.row - 1 < length c.args.rates.now = omega (arith, exists) in
    let old : unsigned_abs (rates_at c.loop-s.rates (s.signed.row - 1)).flipped
    ≤ unsigned_abs (rates_at c.args.rates.now (s.signed.row - 1)).flipped + c.loop-s.s-index * 10 ^ 16 =
    c.loop-s.invariant.size (s.signed.row - 1) true at in
    let first : unsigned_abs (rates_at c.args.rates.now (s.signed.row - 1)).flipped
    ≤ 99999 * 10 ^ 23 = c.requires.small (s.signed.row - 1) true first_at in
    let m : unsigned_abs (to_z w128 (of_z w128 c.from.result)) ≤ 1000000000000 = omega (arith, ints) in
    let r : unsigned_abs (to_z w128 (of_z w128 c.rate.result)) ≤ 10000 = omega (arith, ints) in
    let by = c.times-by.ensures.size 1000000000000 10000 m r in
    let by_small : unsigned_abs (to_z w128 (of_z w128 c.times-by.result)) ≤ 10 ^ 16 = omega (arith, ints) in
    omega (arith, old, first, by_small, c.loop-s-test.true, c.requires.short)

pub loop-s-preserved : goal.loop-s-preserved
unfolding none
loop-s-preserved c =
    let s = get_or c.args.walk.now c.loop-s.s-index none in
    let exists = c.requires.exist c.loop-s.s-index none c.loop-s-test.true in
    let at : s.signed.row - 1 < length c.loop-s.rates = omega (arith, exists, c.loop-s.auto.rates) in
    let is : s.signed.row ≡ (s.signed.row - 1) + 1 = omega (arith, exists) in
    let m : unsigned_abs (to_z w128 (of_z w128 c.from.result)) ≤ 1000000000000 = omega (arith, ints) in
    let r : unsigned_abs (to_z w128 (of_z w128 c.rate.result)) ≤ 10000 = omega (arith, ints) in
    let by = c.times-by.ensures.size 1000000000000 10000 m r in
    let by_small : unsigned_abs (to_z w128 (of_z w128 c.times-by.result)) ≤ 10 ^ 16 = omega (arith, ints) in
    let mult : to_z w128 (of_z w128 c.from.result) ≡ to_z w64 (of_z w64 c.args.mult) = omega (arith, ints) in
    let rated : to_z w128 (of_z w128 c.rate.result) ≡ c.rate.result = omega (arith, ints) in
    let by_is : to_z w128 (of_z w128 c.times-by.result) ≡ c.times-by.result = omega (arith, ints) in
    let product = c.times-by.ensures.value in
    let value = c.rate.ensures.value in
    let e : to_z w128 (of_z w128 c.times-by.result) ≡ to_z w64 (of_z w64 c.args.mult) *ℤ pos (rate c.args.period c.args.alpha s) = cc in
    rated_more c.args.period c.args.alpha c.args.walk.now
    (to_z w64 (of_z w64 c.args.mult)) c.args.rates.now c.loop-s.rates c.loop-s.s-index (s.signed.row - 1) none
    (to_z w128 (of_z w128 c.times-by.result)) c.more-next.result c.loop-s-test.true is at e by_small
    c.more-next.ensures c.loop-s.invariant

pub returns-clause-sum : goal.returns-clause-sum
returns-clause-sum c i flipped l =
    let fits : FitsSigned w64 c.args.mult = omega (arith, ints, c.requires.mult) in
    let l' : i < length c.loop-s.rates = omega (arith, c.loop-s.auto.rates) in
    let P : ℤ → Type 0 = λ z. rate_of flipped (rates_at c.loop-s.rates i)
    ≡ rate_of flipped (rates_at c.args.rates.now i)
    +ℤ z *ℤ walk_sum c.args.walk.now (passed c.args.period c.args.alpha i flipped) in
    subst P (to_z-of_z w64 c.args.mult fits) (rated_all c.args.period c.args.alpha c.args.walk.now
    (to_z w64 (of_z w64 c.args.mult)) c.args.rates.now c.loop-s.rates c.loop-s.s-index i flipped
    c.loop-s-test.false l' c.loop-s.invariant)
