use Rattle.std.proofs.Common.{◌≡◌, drop}
use Rattle.pesp_report.specs.Naming.{distance_among}
use Rattle.pesp_report.proofs.names.first_distance.Given as goal

abbrev pub invariant-loop-entry : goal.invariant-loop-entry
invariant-loop-entry l = distance_among l.station l.entries ≡ distance_among l.station (drop l.entry-index l.entries)
