use Rattle.std.proofs.Common.{refl, length}
use Rattle.pesp_problem.specs.Arcs.{net_of}
use Rattle.pesp_leaves.specs.Ranges.{node_of}
use Rattle.pesp_judges.proofs.Judging.{nothing_open, nothing_sound}
use Rattle.pesp_judges.proofs.leaf.judge_nothing.Goals as goal

pub returns-then-not-is_positive-clause-verdict : goal.returns-then-not-is_positive-clause-verdict
returns-then-not-is_positive-clause-verdict g c walks claim nets told =
    nothing_open c.args.checker.now.claim claim told (net_of c.args.checker.now.instance.now) walks
    (g.P.Elements.elements c.args.pairs) (node_of c.args.ranges.now) c.args.line (length c.args.checker.now.table.now) nets.long
    c.value_of-value.result (c.value_of-value.ensures.value walks claim nets told) (c.if-not-pairs_exist.ensures.0 refl)
    (λ s. let bad = c.if-not-is_positive.ensures.1 s in absurd cc)

pub returns-clause-verdict : goal.returns-clause-verdict
returns-clause-verdict g c walks claim nets told =
    nothing_sound c.args.checker.now.claim claim told (net_of c.args.checker.now.instance.now) walks
    (g.P.Elements.elements c.args.pairs) (node_of c.args.ranges.now) c.args.line (length c.args.checker.now.table.now) nets.long
    c.value_of-value.result (c.value_of-value.ensures.value walks claim nets told) (c.if-not-pairs_exist.ensures.0 refl)
    (c.if-not-is_positive.ensures.0 refl)
