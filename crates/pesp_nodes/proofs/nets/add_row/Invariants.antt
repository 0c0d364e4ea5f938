use Rattle.std.proofs.Common.{take}
use Rattle.pesp_nodes.specs.Nets.{IsRowAdded}
use Rattle.pesp_nodes.proofs.nets.add_row.Given as goal

abbrev pub invariant-loop-passage : goal.invariant-loop-passage
invariant-loop-passage l = IsRowAdded l.fn.place (take l.passage-index l.passages) l.initial.nets.items l.nets.items
