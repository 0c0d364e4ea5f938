use Rattle.std.proofs.Common.{◌≡◌, arith, length}
use Rattle.pesp_truth.specs.Rounds.{net_at}
use Rattle.pesp_truth.proofs.Rounding.{known_of}
use Rattle.pesp_truth.proofs.rounds.is_emptied.Goals as goal

pub loop-round-preserved : goal.loop-round-preserved
loop-round-preserved c =
    let e : length c.copy_from_slice.new.self ≡ length c.args.before.now =
    omega (arith, c.copy_from_slice.auto.self, c.loop-round.auto.before) in
    known_of (net_at c.args.period c.args.arcs.now) c.args.ranges.now (length c.args.before.now)
    (length c.copy_from_slice.new.self) c.loop-round.words c.visit_rows-round.new.words
    c.visit_rows-round.new.now c.visit_rows-round.result e c.visit_rows-round.ensures
