use Rattle.std.proofs.Common.{◌≡◌, to_z, of_z, pos, true, rules}
use Rattle.std.specs.Prelude.{◌-ℤ◌}
use Rattle.std.specs.Int.{w128}
use Rattle.pesp_nodes.specs.Values.{plain_row_term}
use Rattle.pesp_nodes.proofs.Singles.{gain_small}
use Rattle.pesp_nodes.proofs.single.gain.Goals as goal

pub returns-clause-size : goal.returns-clause-size
returns-clause-size c =
    let whole : to_z w128 (of_z w128 c.minus.result)
    ≡ plain_row_term c.args.arc.now c.args.range true c.args.flow -ℤ plain_row_term c.args.arc.now c.args.range true
    (pos 0) = search rules in
    rw whole (gain_small c.args.arc.now c.args.range c.args.flow c.requires.lower c.requires.low c.requires.high)
