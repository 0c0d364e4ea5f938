use Rattle.std.proofs.Common.{◌<◌, arith, length}
use Rattle.std.proofs.lemmas.List.{get_or_read}
use Rattle.pesp_propagate.proofs.Listing.{list_is}
use Rattle.pesp_propagate.proofs.cuts.list.Goals as goal

pub returns : goal.returns
returns c n lists l h =
    let cuts = c.args.cuts.now in
    let cut = c.args.cut in
    let ls : cut < length cuts.starts.items = omega (arith, cuts.starts.ok.0) in
    let le : cut < length cuts.ends.items = omega (arith, cuts.ends.ok.0) in
    let from = get_or_read cuts.starts.items cut c.index-from.result.now ls c.index-from.ensures 0 in
    let to = get_or_read cuts.ends.items cut c.index-to.result.now le c.index-to.ensures 0 in
    rw c.deref.ensures.value (list_is n cuts.starts.items cuts.ends.items cuts.entries.items lists cut
    c.index-from.result.now c.index-to.result.now h l from to (omega (arith, cuts.entries.ok.0)))
