-- Domains: what clauses see of them, and what one arc takes from them.
use Rattle.std.specs.Prelude.{◌≡◌, ℕ, ◌+◌, ◌*◌, ◌/◌, ◌<◌, ◌≤◌, List, length, Bool}
use Rattle.pesp_problem.specs.declared.limits.TheConstants.{MOST_EVENTS, MOST_PERIOD}
use Rattle.pesp_problem.specs.declared.arc.Arc.{Arc}
use Rattle.pesp_problem.specs.Families.{Family}
use Rattle.pesp_domains.specs.Sets.{family, IsClear, Revises, Changes}

-- the period, the number of events, and one row of 64-bit words for each event: its set has a difference where that bit is 1
pub record SetRows : Type 0 where
  pub period : ℕ
  pub events : ℕ
  pub words : List ℕ

-- how many words a set has
abbrev pub width_of : ℕ → ℕ
width_of period = (period + 63) / 64

-- the sets as a family
abbrev pub family_of : SetRows → Family
family_of sets = family (width_of sets.period) sets.words

-- sets for the period t and n events
pub record HaveSizes (t n : ℕ) (sets : SetRows) : Type 0 where
  pub period : sets.period ≡ t
  pub events : sets.events ≡ n

-- the limits, and no bit from the period on
pub record AreKept (sets : SetRows) : Type 0 where
  pub some_period : 0 < sets.period
  pub period_most : sets.period ≤ MOST_PERIOD
  pub events_most : sets.events ≤ MOST_EVENTS
  pub long : length sets.words ≡ sets.events * width_of sets.period
  pub clear : IsClear sets.period (width_of sets.period) sets.words

-- room for one set, and for a set that is laid out twice
pub record HasScratchRoom (t one both : ℕ) : Type 0 where
  pub once : one ≡ width_of t
  pub twice : 2 * t ≤ 64 * both
  pub few : both ≤ 1000

-- the ends of an arc were narrowed to what it supports, and nothing else was lost; at each end it is known whether the set is another
pub record Revised (arc : Arc) (range : ℕ × ℕ) (old new : SetRows) (tail head : Bool) : Type 0 where
  pub sizes : HaveSizes old.period old.events new
  pub revises : Revises old.period (width_of old.period) arc range old.words new.words
  pub changes : Changes (width_of old.period) arc old.words new.words tail head
