-- Levels that meet the demands of edges, or a closed way along which they gain for ever.
use Rattle.std.specs.Prelude.{◌≡◌, ℕ, ◌+◌, ◌<◌, ◌≤◌, List, [], ◌∷◌, length, slice_index, slice_index_or}
use Rattle.pesp_bound.specs.declared.edge.Edge.{Edge}
use Rattle.pesp_bound.specs.declared.edge.Outcome.{Outcome}
use Rattle.pesp_bound.specs.declared.edge.Outcome.TheVariants.{Levels, Gains}

-- what a place past the end is read as
abbrev pub no_edge : Edge
no_edge = record { start = 0; finish = 0; gain = 0; loss = 0 }

-- the edge at a place, from 0
abbrev pub edge_at : List Edge → ℕ → Edge
edge_at edges k = slice_index_or edges k no_edge

-- the number at a place, from 0
abbrev pub at : List ℕ → ℕ → ℕ
at xs i = slice_index xs i

-- edges between so many events, with gains of at most so much
abbrev pub EdgesAreWithin : ℕ → ℕ → List Edge → Type 0
EdgesAreWithin events most edges = (k : ℕ) → k < length edges
    → ((edge_at edges k).start < events) × ((edge_at edges k).finish < events) × ((edge_at edges k).gain ≤ most)

-- the start is no lower than the edge demands
abbrev pub SettlesEdge : List Edge → (ℕ → ℕ) → ℕ → Type 0
SettlesEdge edges h k = h (edge_at edges k).finish + (edge_at edges k).gain ≤ h (edge_at edges k).start + (edge_at edges k).loss

-- the levels settle each edge
abbrev pub AreSettled : List Edge → (ℕ → ℕ) → Type 0
AreSettled edges h = (k : ℕ) → k < length edges → SettlesEdge edges h k

-- edges, by their places, that lead from event a to event b
abbrev pub IsEdgeWay : List Edge → ℕ → List ℕ → ℕ → Type 0
IsEdgeWay edges a [] b = a ≡ b
IsEdgeWay edges a (k ∷ way) b = (k < length edges) × ((edge_at edges k).start ≡ a) × IsEdgeWay edges (edge_at edges k).finish way b

-- what the edges of a way gain in all
abbrev pub gains : List Edge → List ℕ → ℕ
gains edges [] = 0
gains edges (k ∷ way) = (edge_at edges k).gain + gains edges way

-- what the edges of a way lose in all
abbrev pub losses : List Edge → List ℕ → ℕ
losses edges [] = 0
losses edges (k ∷ way) = (edge_at edges k).loss + losses edges way

-- a closed way that gains more than it loses
abbrev pub GainsForEver : List Edge → List ℕ → Type 0
GainsForEver edges way = (a : ℕ) × IsEdgeWay edges a way a × (losses edges way < gains edges way)

-- a level for each event that settles all edges, or a closed way of at most so many edges that gains for ever
abbrev pub IsLevelOutcome : List Edge → ℕ → Outcome → Type 0
IsLevelOutcome edges events (Levels level) = (length level.items ≡ events) × AreSettled edges (at level.items)
IsLevelOutcome edges events (Gains way) = GainsForEver edges way.items × (length way.items ≤ events)
