use Rattle.std.proofs.Common.{◌≤◌, ◌<◌, length, get_or, pos, rules}
use Rattle.pesp_nodes.proofs.Rising.{not_risen}
use Rattle.pesp_nodes.proofs.pairs.are_pairs.Goals as goal

pub returns-then-pair-last : goal.returns-then-pair-last
returns-then-pair-last c =
    let pairs = c.args.pairs.now in
    let k = c.loop-pair.pair-index in
    let here : k < length pairs = search rules in
    let low : (get_or pairs k (record { cycle = 0; mult = pos 0 })).cycle ≤ c.loop-pair.last = search rules in (
      (λ f. search rules),
      λ are. absurd (not_risen c.args.cycles pairs c.loop-pair.last k
          (record { cycle = 0; mult = pos 0 }) here low c.loop-pair.invariant are),
    )
