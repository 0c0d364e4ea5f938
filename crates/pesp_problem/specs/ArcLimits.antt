-- The limits that the arcs of every network keep, and their ends.
use Rattle.std.specs.Prelude.{ℕ, ◌<◌, ◌≤◌, List, length, unsigned_abs, All}
use Rattle.pesp_problem.specs.declared.limits.TheConstants.{MOST_EVENTS, MOST_LOWER, MOST_PERIOD, MOST_ROWS, MOST_WEIGHT}
use Rattle.pesp_problem.specs.declared.arc.Arc.{Arc}
use Rattle.pesp_problem.specs.Arcs.{arc_at}

-- an arc of a network of such a period and so many events
pub record ArcKeepsLimits (period events : ℕ) (arc : Arc) : Type 0 where
  pub tail : arc.tail < events
  pub head : arc.head < events
  pub span : arc.span < period
  pub lower : unsigned_abs arc.lower ≤ MOST_LOWER
  pub weight : arc.weight ≤ MOST_WEIGHT

-- the period, the counts and each arc
pub record KeepArcLimits (period events : ℕ) (arcs : List Arc) : Type 0 where
  pub some_period : 1 ≤ period
  pub period_most : period ≤ MOST_PERIOD
  pub events_most : events ≤ MOST_EVENTS
  pub arcs_most : length arcs ≤ MOST_ROWS
  pub each : All (ArcKeepsLimits period events) arcs

-- both ends of each arc are among so many events
abbrev pub HaveEnds : ℕ → List Arc → Type 0
HaveEnds events arcs = (i : ℕ) → i < length arcs → ((arc_at arcs i).tail < events) × ((arc_at arcs i).head < events)
