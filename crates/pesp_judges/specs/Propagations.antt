-- What the pass over an instance is asked of.
use Rattle.std.specs.Prelude.{length}
use Rattle.pesp_problem.specs.Timetables.{Pesp}
use Rattle.pesp_problem.specs.Arcs.{net_of}
use Rattle.pesp_truth.specs.Supports.{Rows}

-- the net of an instance, between all its events
abbrev pub net_rows : Pesp → Rows
net_rows p = record { net = net_of p; events = length p.events }
