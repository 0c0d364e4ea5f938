use Rattle.std.proofs.Common.{◌≡◌, arith, sym, subst, to_z, of_z, Option, FitsSigned}
use Rattle.std.specs.Prelude.{ℤ, pos, ◌+ℤ◌, ◌*ℤ◌, ◌≤ℤ◌, IsSomeAnd}
use Rattle.std.specs.Int.{w128}
use Rattle.std.proofs.lemmas.Int.{ints, to_z-of_z}
use Rattle.pesp_problem.specs.Sums.{ceil_div}
use Rattle.pesp_leaves.proofs.Reaching.{rounded_is_enough}
use Rattle.pesp_leaves.proofs.reached.reaches.Goals as goal

pub returns-in-Some : goal.returns-in-Some
returns-in-Some c =
    let v = c.in-Some.v in
    let size = rw c.in-Some.is at c.requires.size in
    let law = rounded_is_enough v c.args.scale c.args.least c.requires.some in
    let fits : FitsSigned w128 c.args.least = omega (arith, ints, c.requires.least) in
    let scaled = rw (to_z-of_z w128 c.args.least fits) at c.scaled.ensures.value in
    let a : to_z w128 (of_z w128 c.scaled.result)
    ≡ pos c.args.scale *ℤ c.args.least = omega (arith, ints, scaled, c.scaled.ensures.size) in
    let b : to_z w128 (of_z w128 c.plus.result)
    ≡ v +ℤ pos c.args.scale = omega (arith, ints, c.plus.ensures.value, size, c.requires.scale) in
    let P : Option ℤ → Type 0 = λ o. IsSomeAnd o (λ z. c.args.least ≤ℤ ceil_div z c.args.scale) in (
      λ t. subst P (sym c.in-Some.is) (law.1 (rw (a, b) at (c.is_less.ensures.0 t))),
      λ h. c.is_less.ensures.1 (rw (a, b) (law.0 (subst P c.in-Some.is h))),
    )
