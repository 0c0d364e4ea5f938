-- Distances that records of names tell.
use Rattle.std.proofs.Common.{◌≡◌, ◌∙◌, sym, ap, ℕ, List, ◌<◌, ◌+◌, length, drop, get_or}
use Rattle.std.proofs.lemmas.List.{drop_more}
use Rattle.pesp_report.specs.Naming.{distance_among, distance_by, first_told}
use Rattle.pesp_report.specs.declared.names.Name.{Name}

-- from a record on, what it tells comes first, and then what those behind it tell
pub distance-at : (station : List ℕ) (names : List Name) (i : ℕ) (name : Name) → i < length names → name ≡ get_or names i name
    → distance_among station (drop i names)
    ≡ first_told (distance_by station name) (distance_among station (drop (i + 1) names))
unfolding distance_among first_told
distance-at station names i name there is =
    ap (distance_among station) (drop_more names i name there)
    ∙ ap (λ (n : Name). first_told (distance_by station n) (distance_among station (drop (i + 1) names))) (sym is)
