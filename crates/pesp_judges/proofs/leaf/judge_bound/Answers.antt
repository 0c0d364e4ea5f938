use Rattle.std.proofs.Common.{Bool, refl, length, sym, ap, subst, ◌∙◌, arith, FitsSigned}
use Rattle.std.specs.Prelude.{ℤ, ◌≤ℤ◌, IsSomeAnd}
use Rattle.std.specs.Int.{w128}
use Rattle.std.proofs.lemmas.Int.{ints, to_z-of_z}
use Rattle.pesp_problem.specs.Arcs.{net_of}
use Rattle.pesp_problem.specs.Sums.{ceil_div}
use Rattle.pesp_leaves.specs.Claims.{scale_told}
use Rattle.pesp_leaves.specs.Ranges.{node_of}
use Rattle.pesp_judges.proofs.Judging.{bound_below, bound_sound}
use Rattle.pesp_judges.proofs.leaf.judge_bound.Goals as goal

pub returns-then-not-reaches-clause-verdict : goal.returns-then-not-reaches-clause-verdict
returns-then-not-reaches-clause-verdict g c walks claim nets told =
    let named = c.if-not-pairs_exist.ensures.0 refl in
    let fits : FitsSigned w128 c.in-Some.least = omega (arith, ints, c.in-Some.ensures.size) in
    let P : ℤ → Type 0 = λ z. IsSomeAnd c.value_of-value.result (λ v. z ≤ℤ ceil_div v c.scale_of.result) in
    bound_below c.args.checker.now.claim claim told (net_of c.args.checker.now.instance.now) walks
    (g.P.Elements.elements c.args.pairs) (node_of c.args.ranges.now) c.args.line (length c.args.checker.now.table.now) nets.long
    c.in-Some.least c.scale_of.result c.value_of-value.result (sym c.in-Some.ensures.value)
    (c.scale_of.ensures.value ∙ ap (λ (more : Bool). scale_told c.args.checker.now.claim more) c.names_more-more.ensures)
    (c.value_of-value.ensures.value walks claim nets told) named
    (λ s. let bad = c.if-not-reaches.ensures.1 (subst P (sym (to_z-of_z w128 c.in-Some.least fits)) s) in absurd cc)

pub returns-clause-verdict : goal.returns-clause-verdict
returns-clause-verdict g c walks claim nets told =
    let named = c.if-not-pairs_exist.ensures.0 refl in
    let fits : FitsSigned w128 c.in-Some.least = omega (arith, ints, c.in-Some.ensures.size) in
    let P : ℤ → Type 0 = λ z. IsSomeAnd c.value_of-value.result (λ v. z ≤ℤ ceil_div v c.scale_of.result) in
    let enough = subst P (to_z-of_z w128 c.in-Some.least fits) (c.if-not-reaches.ensures.0 refl) in
    bound_sound c.args.checker.now.claim claim told (net_of c.args.checker.now.instance.now) walks
    (g.P.Elements.elements c.args.pairs) (node_of c.args.ranges.now) c.args.line (length c.args.checker.now.table.now) nets.long
    c.in-Some.least c.scale_of.result c.value_of-value.result (sym c.in-Some.ensures.value)
    (c.scale_of.ensures.value ∙ ap (λ (more : Bool). scale_told c.args.checker.now.claim more) c.names_more-more.ensures)
    (c.value_of-value.ensures.value walks claim nets told) named enough
