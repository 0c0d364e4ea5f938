use Rattle.std.proofs.Common.{◌≡◌, length, ◌∙◌, arith}
use Rattle.std.proofs.lemmas.Grind.{common_steps}
use Rattle.pesp_bound.specs.Differences.{walk_along}
use Rattle.pesp_bound.proofs.Gathering.{names_along}
use Rattle.pesp_bound.proofs.closed_way.flows_along.Goals as goal

pub count_rows-requires-clause-exist : goal.count_rows-requires-clause-exist
count_rows-requires-clause-exist c =
    let walk : c.deref.result.now ≡ walk_along c.args.rows.now c.args.way.now = c.deref.ensures.value ∙ c.in_ok-walk.ensures in
    let long : c.args.count ≡ length c.deref_mut.result.now = let l = c.in_ok-flows.ensures.len in
    let e = c.deref_mut.ensures.len in omega (arith, l, e) in
    names_along c.args.count (length c.deref_mut.result.now) c.args.rows.now c.args.way.now c.deref.result.now walk
    long c.requires.exist c.requires.places

pub count_rows-requires-clause-short : goal.count_rows-requires-clause-short
count_rows-requires-clause-short c = grind (arith, common_steps)
