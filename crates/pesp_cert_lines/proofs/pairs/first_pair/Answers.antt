use Rattle.std.proofs.Common.{◌≡◌, arith, sym, ◌∙◌, to_z, of_z, w64}
use Rattle.std.proofs.lemmas.Int.{to_z-of_z}
use Rattle.pesp_cert_lines.proofs.PairLoop.{odd_pair, bad_pair, first_pair, cycle_small, mult_fits}
use Rattle.pesp_cert_lines.proofs.pairs.first_pair.Goals as goal

pub unreachable-requires : goal.unreachable-requires
unreachable-requires c = odd_pair c.args.least c.split_at_byte.result.0.now
    (rw (c.split_at_byte.ensures.cut, c.in_default.is) at c.requires)

pub unreachable-requires-in_default-pair_at : goal.unreachable-requires-in_default-pair_at
unreachable-requires-in_default-pair_at c =
    bad_pair c.args.least c.split_at_byte.result.0.now c.split_at_byte-2.result.0.now _
    (sym c.in_default-pair_at.is ∙ c.pair_at.ensures.exact)
    (rw (c.split_at_byte.ensures.cut, c.in-Some.is, c.split_at_byte-2.ensures.cut) at c.requires)

pub overflow_cast-pair : goal.overflow_cast-pair
overflow_cast-pair c =
    let first = first_pair c.args.least c.split_at_byte.result.0.now c.split_at_byte-2.result.0.now _
    c.in-Some-pair_at.cycle c.in-Some-pair_at.mult (sym c.in-Some-pair_at.is ∙ c.pair_at.ensures.exact)
    (rw (c.split_at_byte.ensures.cut, c.in-Some.is, c.split_at_byte-2.ensures.cut) at c.requires) in
    omega (arith, cycle_small c.in-Some-pair_at.cycle c.in-Some-pair_at.mult first.0)

pub returns : goal.returns
returns c =
    let exact = sym c.in-Some-pair_at.is ∙ c.pair_at.ensures.exact in
    let first = first_pair c.args.least c.split_at_byte.result.0.now c.split_at_byte-2.result.0.now _
    c.in-Some-pair_at.cycle c.in-Some-pair_at.mult exact
    (rw (c.split_at_byte.ensures.cut, c.in-Some.is, c.split_at_byte-2.ensures.cut) at c.requires) in
    let same : to_z w64 (of_z w64 c.in-Some-pair_at.mult)
    ≡ c.in-Some-pair_at.mult = to_z-of_z w64 c.in-Some-pair_at.mult
    (mult_fits c.args.least c.split_at_byte.result.0.now c.split_at_byte-2.result.0.now c.in-Some-pair_at.cycle
    c.in-Some-pair_at.mult exact) in
    rw (same, c.split_at_byte.ensures.cut, c.in-Some.is, c.split_at_byte-2.ensures.cut) first.1
