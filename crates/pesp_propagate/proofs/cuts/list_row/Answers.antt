use Rattle.std.proofs.Common.{arith, vec_len}
use Rattle.pesp_propagate.specs.Rooted.{roots_of}
use Rattle.pesp_propagate.proofs.Climbing.{begins, met}
use Rattle.pesp_propagate.proofs.cuts.list_row.Goals as goal

pub loop-at-init : goal.loop-at-init
loop-at-init c = record {
  inside = (let e = c.requires.trees.inside c.args.row c.requires.row in (e.1, e.0));
  climbed = λ h. begins (vec_len c.args.rooted.now.by) c.args.arcs.now (roots_of c.args.rooted.now) c.args.row c.args.cuts.now h;
}

pub loop-at-smaller : goal.loop-at-smaller
loop-at-smaller c = (c.in-Some.ensures c.args.arcs.now c.requires.trees).nearer

pub loop-at-preserved : goal.loop-at-preserved
loop-at-preserved c =
    let step = c.in-Some.ensures c.args.arcs.now c.requires.trees in
    record { inside = step.inside; climbed = λ h. step.climbed (c.loop-at.invariant.climbed h) }

pub returns : goal.returns
returns c done h =
    met (vec_len c.args.rooted.now.by) c.args.arcs.now (roots_of c.args.rooted.now) c.args.row c.loop-at.at.0 c.loop-at.at.1
    c.loop-at.cuts (omega arith) (c.loop-at.invariant.climbed h)
