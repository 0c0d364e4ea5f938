use Rattle.std.proofs.Common.{◌≡◌, []}
use Rattle.std.specs.Prelude.{replicate}
use Rattle.pesp_nodes.proofs.table.no_nets.Given as goal

abbrev pub invariant-loop : goal.invariant-loop
invariant-loop l = l.nets.items ≡ replicate l.counter []
