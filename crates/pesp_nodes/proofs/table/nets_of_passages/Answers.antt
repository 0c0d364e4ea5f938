use Rattle.std.proofs.Common.{◌≡◌, arith, length}
use Rattle.pesp_nodes.proofs.Transposing.{AreNetsTo, nets_are}
use Rattle.pesp_nodes.proofs.table.nets_of_passages.Goals as goal

pub returns : goal.returns
returns c walks long short are =
    let end : c.loop-place.place ≡ length c.args.by_row.now = omega arith in
    let all : AreNetsTo c.args.cycles c.args.by_row.now c.loop-place.nets.items (length c.args.by_row.now) =
    rw end at c.loop-place.invariant in
    nets_are (length c.args.by_row.now) c.args.cycles walks c.args.by_row.now c.loop-place.nets.items long short are all
