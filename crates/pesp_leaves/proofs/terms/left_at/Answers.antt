use Rattle.std.proofs.Common.{arith, ap, unsigned_abs, ◌≤◌, ◌*◌, ◌^◌, ◌∙◌}
use Rattle.pesp_leaves.proofs.Kept.{kept}
use Rattle.pesp_leaves.proofs.terms.left_at.Goals as goal

pub returns-clause-value : goal.returns-clause-value
returns-clause-value c =
    let scaled = kept c.args.scaled (10 ^ 18) c.requires.scaled (omega arith) in
    let flow = kept c.args.flow (100001 * 10 ^ 24) c.requires.flow (omega arith) in
    let small : unsigned_abs c.minus.result ≤ 11 * 10 ^ 28 = omega
    (arith, c.minus.ensures.size, ap unsigned_abs scaled, ap unsigned_abs flow, c.requires.scaled, c.requires.flow) in
    let left = rw (scaled, flow) at c.minus.ensures.value in
    kept c.minus.result (11 * 10 ^ 28) small (omega arith) ∙ left

pub returns-clause-size : goal.returns-clause-size
returns-clause-size c =
    let scaled = ap unsigned_abs (kept c.args.scaled (10 ^ 18) c.requires.scaled (omega arith)) in
    let flow = ap unsigned_abs (kept c.args.flow (100001 * 10 ^ 24) c.requires.flow (omega arith)) in
    let small : unsigned_abs c.minus.result ≤ 11 * 10 ^ 28 = omega
    (arith, c.minus.ensures.size, scaled, flow, c.requires.scaled, c.requires.flow) in
    omega (arith, ap unsigned_abs (kept c.minus.result (11 * 10 ^ 28) small (omega arith)), small)
