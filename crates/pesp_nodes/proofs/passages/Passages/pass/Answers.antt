use Rattle.std.proofs.Common.{◌≡◌, ◌≤◌, ◌∙◌, ap, arith, refl, inl, rules, FitsSigned, to_z, of_z}
use Rattle.std.specs.Prelude.{ℤ, ◌+ℤ◌, unsigned_abs}
use Rattle.std.specs.Int.{w64}
use Rattle.std.proofs.lemmas.Int.{ints, to_z-of_z}
use Rattle.pesp_problem.specs.Walks.{sign}
use Rattle.pesp_nodes.specs.Passages.{IsPassed}
use Rattle.pesp_nodes.proofs.Passing.{pushed}
use Rattle.pesp_nodes.proofs.passages.Passages.pass.Goals as goal

-- the count as the code widens it
counted : (taken z sign count : ℤ) → unsigned_abs taken ≤ 10000000 → FitsSigned w64 z
    → z ≡ to_z w64 (of_z w64 taken) +ℤ sign → taken ≡ count → to_z w64 (of_z w64 z) ≡ count +ℤ sign
counted taken z sign count small fits sum is =
    let taken_fits : FitsSigned w64 taken = omega (arith, ints) in
    let add : ℤ → ℤ = λ x. x +ℤ sign in
    to_z-of_z w64 z fits ∙ sum ∙ ap add (to_z-of_z w64 taken taken_fits ∙ is)

pub returns-in_ok-push : goal.returns-in_ok-push
returns-in_ok-push c before count are passed =
    let inside : IsPassed c.args.cycle count before c.self.inside.passages.items = rw (← c.self.view_is) at passed in
    let is = counted c.take_last.result c.with_sign-count.result (sign c.args.s.now) count c.take_last.ensures.size
    (search rules) c.with_sign-count.ensures (c.take_last.ensures.value before count are inside) in
    pushed c.args.cycle (count +ℤ sign c.args.s.now) before c.take_last.new.passages.items c.push.new.self.items _
    (c.take_last.ensures.rest before count are inside) c.in_ok-push.ensures.items refl is

pub returns-else-count-ne0 : goal.returns-else-count-ne0
returns-else-count-ne0 c before count are passed =
    let inside : IsPassed c.args.cycle count before c.self.inside.passages.items = rw (← c.self.view_is) at passed in
    let is = counted c.take_last.result c.with_sign-count.result (sign c.args.s.now) count c.take_last.ensures.size
    (search rules) c.with_sign-count.ensures (c.take_last.ensures.value before count are inside) in
    let z = c.if-count-ne0.false in
    let fits : FitsSigned w64 c.with_sign-count.result = search rules in
    inl (c.take_last.ensures.rest before count are inside, omega (arith, ints))
