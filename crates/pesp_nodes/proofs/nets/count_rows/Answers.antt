use Rattle.std.proofs.Common.{◌≡◌, ◌-◌, ◌≤◌, ◌∙◌, ap, arith, get_or, false, FitsSigned, to_z, of_z, rules}
use Rattle.std.specs.Prelude.{ℤ, pos, ◌+ℤ◌, unsigned_abs}
use Rattle.std.specs.Int.{w64}
use Rattle.std.proofs.lemmas.Int.{ints, to_z-of_z}
use Rattle.std.proofs.lemmas.List.{length-set}
use Rattle.pesp_problem.specs.declared.row.SignedRow.{SignedRow}
use Rattle.pesp_problem.specs.Walks.{sign}
use Rattle.pesp_problem.proofs.Counts.{count_small, count_step}
use Rattle.pesp_nodes.proofs.nets.count_rows.Goals as goal

none : SignedRow
none = record { row = 0; plus = false }

pub with_sign-requires : goal.with_sign-requires
unfolding none
with_sign-requires c =
    let k = c.loop-s.s-index in
    let s = get_or c.args.walk.now k none in
    let exists = c.requires.exist k none c.loop-s-test.true in
    let some = exists.0 in
    let most = exists.1 in
    let short = c.requires.short in
    let same = c.loop-s.auto.working in
    let small : unsigned_abs (get_or c.loop-s.working (s.row - 1) (pos 0))
    ≤ 10000000 = rw (c.loop-s.invariant (s.row - 1) (omega arith))
    (count_small c.args.walk.now k (s.row - 1) (omega arith)) in
    let fits : FitsSigned w64 (get_or c.loop-s.working (s.row - 1) (pos 0)) = omega (arith, ints) in
    rw (to_z-of_z w64 (get_or c.loop-s.working (s.row - 1) (pos 0)) fits) small

pub loop-s-preserved : goal.loop-s-preserved
unfolding none
loop-s-preserved c i l =
    let k = c.loop-s.s-index in
    let s = get_or c.args.walk.now k none in
    let exists = c.requires.exist k none c.loop-s-test.true in
    let some = exists.0 in
    let most = exists.1 in
    let short = c.requires.short in
    let same = c.loop-s.auto.working in
    let was = get_or c.loop-s.working (s.row - 1) (pos 0) in
    let small : unsigned_abs was ≤ 10000000 = rw (c.loop-s.invariant (s.row - 1) (omega arith))
    (count_small c.args.walk.now k (s.row - 1) (omega arith)) in
    let fits : FitsSigned w64 was = omega (arith, ints) in
    let result_fits : FitsSigned w64 c.with_sign.result = search rules in
    let add : ℤ → ℤ = λ z. z +ℤ sign s in
    let next : to_z w64 (of_z w64 c.with_sign.result)
    ≡ was +ℤ sign s = to_z-of_z w64 c.with_sign.result result_fits ∙ c.with_sign.ensures
    ∙ ap add (to_z-of_z w64 was fits) in
    count_step c.loop-s.working c.args.walk.now k none
    (to_z w64 (of_z w64 c.with_sign.result)) c.loop-s-test.true some (omega arith) next c.loop-s.invariant i
    (omega (arith, length-set c.loop-s.working (s.row - 1) (to_z w64 (of_z w64 c.with_sign.result))))
