use Rattle.std.proofs.Common.{◌-◌, arith}
use Rattle.std.specs.Prelude.{pos}
use Rattle.std.proofs.lemmas.Int.{ints}
use Rattle.pesp_nodes.proofs.laws.cuts_inside_ranges_keep_limits.Goals as goal

pub returns-clause-slacks : goal.returns-clause-slacks
returns-clause-slacks c node row k ends names inside =
    let some = names.0 in
    let most = names.1 in
    let range = ends (row - 1) (0, 0) (omega arith) in
    let high = range.1 in
    (names, omega (arith, inside, high))

pub returns-clause-offsets : goal.returns-clause-offsets
returns-clause-offsets c node cycle k ends names from to =
    let some = names.0 in
    let most = names.1 in
    let range = ends (cycle - 1) (pos 0, pos 0) (omega arith) in
    let low = range.0 in
    let high = range.1 in
    (names, omega (arith, ints, from, to, low, high))
