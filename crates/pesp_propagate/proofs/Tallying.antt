-- The rows of a list's entries.
use Rattle.std.proofs.Common.{◌≡◌, ℕ, ◌<◌, List, length}
use Rattle.std.proofs.lemmas.List.{get_or-map}
use Rattle.std.proofs.Math.ListN.{length-map}
use Rattle.pesp_problem.specs.declared.arc.Arc.{Arc}
use Rattle.pesp_propagate.specs.declared.crossing.Entry.{Entry}
use Rattle.pesp_propagate.specs.Entries.{crossing_of, crossings_of, cut_entry_at, no_entry}
use Rattle.pesp_propagate.specs.Shifts.{crossing_at, no_crossing}

pub crossing_at-entry : (arcs : List Arc) (slacks : List ℕ) (entries : List Entry) (i : ℕ) → i < length entries
    → crossing_at (crossings_of arcs slacks entries) i ≡ crossing_of arcs slacks (cut_entry_at entries i)
crossing_at-entry arcs slacks entries i l = get_or-map (crossing_of arcs slacks) entries i no_entry no_crossing l

pub length-crossings_of : (arcs : List Arc) (slacks : List ℕ) (entries : List Entry)
    → length (crossings_of arcs slacks entries) ≡ length entries
length-crossings_of arcs slacks entries = length-map entries (crossing_of arcs slacks)
