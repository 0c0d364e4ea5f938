use Rattle.std.proofs.Common.{◌∙◌, ◌<◌, ℕ, arith, ap, sym, Option, Some, w64}
use Rattle.std.specs.Prelude.{ℤ, pos, option_map}
use Rattle.std.proofs.lemmas.Int.{to_z_pos}
use Rattle.pesp_whole_check.proofs.OwnWeights.{no_least}
use Rattle.pesp_whole_check.proofs.room.least_sum.Goals as goal

pub returns-in_default : goal.returns-in_default
returns-in_default c few = no_least c.args.least c.in_default.not-Some

pub returns-then-least-ge1000000000000000000 : goal.returns-then-least-ge1000000000000000000
returns-then-least-ge1000000000000000000 c few =
    let less = rw c.in-Some.is at few in absurd (omega (arith, less, c.if-least-ge1000000000000000000.true))

pub returns : goal.returns
returns c few =
    let less : c.in-Some.least < 1000000000000000000 = omega (arith, c.if-least-ge1000000000000000000.false) in
    let fits : c.in-Some.least < 9223372036854775808 = omega (arith, less) in
    ap (λ (z : ℤ). Some z) (to_z_pos w64 c.in-Some.least fits) ∙ sym (ap (λ (o : Option ℕ). option_map pos o) c.in-Some.is)
