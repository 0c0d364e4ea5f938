-- The rows for which the question is asked, what stands ready for it, and the sets at the start.
use Rattle.std.specs.Prelude.{◌≡◌, ◌≢◌, ℕ, ◌*◌, ◌<◌, ◌≤◌, List, length, slice_index, true}
use Rattle.pesp_problem.specs.declared.limits.TheConstants.{MOST_EVENTS, MOST_PERIOD}
use Rattle.pesp_problem.specs.Arcs.{Net}
use Rattle.pesp_problem.specs.Families.{Family}
use Rattle.pesp_problem.specs.Forests.{IsFirstOf}
use Rattle.pesp_problem.specs.ArcLimits.{HaveEnds}
use Rattle.pesp_truth.specs.Sets.{padded_period}

-- a net between so many events
pub record Rows : Type 0 where
  pub net : Net
  pub events : ℕ

-- the limits; the first event of each event's component; and room for the sets and for two marks of each event
pub record AreReadyForRounds (rows : Rows) (firsts : List ℕ) (words before now : ℕ) : Type 0 where
  pub some_period : 0 < rows.net.period
  pub period_most : rows.net.period ≤ MOST_PERIOD
  pub events_most : rows.events ≤ MOST_EVENTS
  pub ends : HaveEnds rows.events rows.net.arcs
  pub long : length firsts ≡ rows.events
  pub first_events : (event : ℕ) → event < rows.events → IsFirstOf rows.net.arcs event (slice_index firsts event)
  pub room : rows.events * padded_period rows.net.period ≤ 64 * words
  pub marks_before : before ≡ rows.events
  pub marks_now : now ≡ rows.events

-- at the start a component's first event has 0 alone, every other event every difference
pub record IsStart (period : ℕ) (firsts : List ℕ) (count : ℕ) (s : Family) : Type 0 where
  pub zero : (event : ℕ) → event < length firsts → s event 0 ≡ true
  pub alone : (event d : ℕ) → event < count → slice_index firsts event ≡ event → s event d ≡ true → d ≡ 0
  pub others : (event d : ℕ) → event < length firsts → slice_index firsts event ≢ event → d < period → s event d ≡ true
