use Rattle.std.proofs.Common.{◌≡◌, ℕ, ◌+◌, ◌<◌, ◌∙◌, arith, refl, sym, subst, length, false}
use Rattle.pesp_problem.specs.Arcs.{net_of}
use Rattle.pesp_truth.specs.Named.{names_more}
use Rattle.pesp_leaves.specs.Ranges.{node_of}
use Rattle.pesp_leaves.proofs.Arcs.{arcs_long}
use Rattle.pesp_leaves.proofs.Weighing.{plain_value, plain_pairs}
use Rattle.pesp_leaves.proofs.values.value_of.Goals as goal

pub leaf_value-requires-then-is_plain-clause-pairs : goal.leaf_value-requires-then-is_plain-clause-pairs
leaf_value-requires-then-is_plain-clause-pairs g c =
    let shown = c.in-Behind.shown in
    plain_pairs (length c.args.checker.now.table.now) (length shown.marks.now.walks + length shown.facts.now)
    (g.P.Elements.elements c.args.pairs) (sym c.requires.more ∙ c.if-is_plain.ensures.cycles refl)
    (rw c.in-Behind.is at c.requires.named) c.requires.limits

pub returns-then-is_plain-clause-value : goal.returns-then-is_plain-clause-value
returns-then-is_plain-clause-value g c walks claim nets told =
    let p = c.args.checker.now.instance.now in
    let pairs = g.P.Elements.elements c.args.pairs in
    let shown = c.in-Behind.shown in
    let fits = c.args.checker.now.fits shown c.in-Behind.is in
    let there = rw c.in-Behind.is at told in
    let goal = there.0 in
    let P : ℕ → Type 0 = λ k. names_more k pairs ≡ false in
    let none = subst P nets.long (sym c.requires.more ∙ c.if-is_plain.ensures.cycles refl) in
    let value = c.leaf_value-then-is_plain.ensures.value walks nets
    ∙ plain_value (net_of p) walks shown.marks.now shown.facts.now (node_of c.args.ranges.now) pairs c.args.weighted goal.weights none
    (λ w i l. let below : i < length shown.weights.now = omega (arith, l, arcs_long p, fits.weights) in
    sym (there.2.weights_are i below) ∙ fits.own (c.if-is_plain.ensures.weights refl w) i below) in
    rw (there.1) value

pub value_behind-requires-clause-fits : goal.value_behind-requires-clause-fits
value_behind-requires-clause-fits g c = c.args.checker.now.fits c.in-Behind.shown c.in-Behind.is

pub returns-else-is_plain-clause-value : goal.returns-else-is_plain-clause-value
returns-else-is_plain-clause-value g c walks claim nets told =
    let there = rw c.in-Behind.is at told in
    let goal = there.0 in
    let value = c.value_behind.ensures.value walks goal.weights nets there.2.weights_are in
    rw (there.1) value
