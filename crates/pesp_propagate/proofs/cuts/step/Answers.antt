use Rattle.std.proofs.Common.{◌<◌, arith, length, vec_len}
use Rattle.std.proofs.lemmas.List.{get_or_read}
use Rattle.pesp_propagate.specs.Rooted.{roots_of}
use Rattle.pesp_propagate.proofs.Climbing.{step_head, step_tail}
use Rattle.pesp_propagate.proofs.cuts.step.Goals as goal

pub returns-then-index : goal.returns-then-index
returns-then-index c arcs trees =
    let depths = c.args.rooted.now.depth in
    let lh : c.args.at.0 < length depths.items = omega (arith, depths.ok.0) in
    let lt : c.args.at.1 < length depths.items = omega (arith, depths.ok.0) in
    let h = get_or_read depths.items c.args.at.0 c.index.result.now lh c.index.ensures 0 in
    let t = get_or_read depths.items c.args.at.1 c.index-2.result.now lt c.index-2.ensures 0 in
    step_head (vec_len c.args.rooted.now.by) arcs (roots_of c.args.rooted.now) c.args.row c.args.at.0 c.args.at.1
    c.in_ok-up.up c.args.cuts.now c.climb.new.cuts
    trees c.requires.head c.requires.tail c.requires.apart
    (omega arith) c.in_ok-up.ensures.joined c.in_ok-up.ensures.above c.in_ok-up.ensures.put

pub returns : goal.returns
returns c arcs trees =
    let depths = c.args.rooted.now.depth in
    let lh : c.args.at.0 < length depths.items = omega (arith, depths.ok.0) in
    let lt : c.args.at.1 < length depths.items = omega (arith, depths.ok.0) in
    let h = get_or_read depths.items c.args.at.0 c.index.result.now lh c.index.ensures 0 in
    let t = get_or_read depths.items c.args.at.1 c.index-2.result.now lt c.index-2.ensures 0 in
    step_tail (vec_len c.args.rooted.now.by) arcs (roots_of c.args.rooted.now) c.args.row c.args.at.0 c.args.at.1
    c.in_ok-up-2.up c.args.cuts.now c.climb-2.new.cuts
    trees c.requires.head c.requires.tail c.requires.apart
    (omega arith) c.in_ok-up-2.ensures.joined c.in_ok-up-2.ensures.above c.in_ok-up-2.ensures.put
