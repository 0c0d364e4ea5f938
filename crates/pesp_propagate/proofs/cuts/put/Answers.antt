use Rattle.std.proofs.Common.{◌≡◌, ◌<◌, ◌+◌, arith, get_or, length}
use Rattle.std.proofs.lemmas.List.{get_or_read}
use Rattle.pesp_propagate.proofs.Listing.{put_holds}
use Rattle.pesp_propagate.proofs.cuts.put.Goals as goal

pub returns-clause-put : goal.returns-clause-put
returns-clause-put c done n lists l h =
    let cuts = c.args.cuts.now in
    let cut = c.args.cut in
    let at = c.index-at.result.now in
    let inside : cut < length cuts.ends.items = omega (arith, cuts.ends.ok.0) in
    let before : cut + 1 < length cuts.starts.items = omega (arith, cuts.starts.ok.0) in
    let own : at ≡ get_or cuts.ends.items cut 0 = get_or_read cuts.ends.items cut at inside c.index-at.ensures 0 in
    let next : c.index.result.now ≡ get_or cuts.starts.items (cut + 1) 0 =
    get_or_read cuts.starts.items (cut + 1) c.index.result.now before c.index.ensures 0 in
    put_holds n cuts.starts.items cuts.ends.items cuts.entries.items lists cut at c.args.entry h l inside own
    (omega arith) (omega (arith, cuts.entries.ok.0))
