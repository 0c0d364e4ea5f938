-- How far a text has come, line by line, and which lines may stand next.
use Rattle.std.specs.Prelude.{◌≡◌, ℕ, ◌+◌, ◌-◌, ◌≤◌, Bool, true, false, ◌&&◌, ◌||◌, ◌==◌, nat_le, if◌then◌else◌, Option, Some, None, length}
use Rattle.pesp_problem.specs.declared.limits.TheConstants.{MOST_CYCLES, MOST_EVENTS, MOST_LINES, MOST_PAIRS, MOST_SIGNED_ROWS}
use Rattle.pesp_cert_lines.specs.declared.kind.Kind.{Kind}
use Rattle.pesp_cert_lines.specs.declared.kind.Kind.TheVariants as kinds
use Rattle.pesp_cert_lines.specs.declared.item.Item.{Item}
use Rattle.pesp_cert_lines.specs.declared.item.Item.TheVariants.{Front, Scale, Walk, Lemma, Least, Version, Period, Answer as Says, Time, Cycle, Slack, Offset, Bound, Nothing, Gap, Propagated, End}
use Rattle.pesp_cert_lines.specs.declared.progress.Place.{Place}
use Rattle.pesp_cert_lines.specs.declared.progress.Place.TheVariants as places
use Rattle.pesp_cert_lines.specs.declared.progress.Progress.{Progress}
use Rattle.pesp_cert_lines.specs.declared.versions.Versions.{Versions}
use Rattle.pesp_cert_lines.specs.declared.versions.Versions.TheVariants.{Plain, All}
use Rattle.pesp_cert_lines.specs.Items.{IsProper, is_item_within}

-- ---- the versions

-- whether a text may have a front
abbrev pub takes_fronts : Versions → Bool
takes_fronts Plain = false
takes_fronts All = true

-- ---- the place

-- whether a line of this kind is one of the tree
abbrev pub is_tree_kind : Kind → Bool
is_tree_kind kinds.Slack = true
is_tree_kind kinds.Offset = true
is_tree_kind kinds.Bound = true
is_tree_kind kinds.Nothing = true
is_tree_kind kinds.Gap = true
is_tree_kind kinds.Propagated = true
is_tree_kind _ = false

-- whether it is that of a cycle
abbrev pub is_cycle_kind : Kind → Bool
is_cycle_kind kinds.Cycle = true
is_cycle_kind _ = false

-- whether it is that of a time
abbrev pub is_time_kind : Kind → Bool
is_time_kind kinds.Time = true
is_time_kind _ = false

-- whether it is the first line of a front
abbrev pub is_front_kind : Kind → Bool
is_front_kind kinds.Front = true
is_front_kind _ = false

-- whether it is that of a scale
abbrev pub is_scale_kind : Kind → Bool
is_scale_kind kinds.Scale = true
is_scale_kind _ = false

-- whether it is that of a marked walk
abbrev pub is_walk_kind : Kind → Bool
is_walk_kind kinds.Walk = true
is_walk_kind _ = false

-- whether it is that of a lemma's rows
abbrev pub is_lemma_kind : Kind → Bool
is_lemma_kind kinds.Lemma = true
is_lemma_kind _ = false

-- whether it is that of a lemma's least sum
abbrev pub is_least_kind : Kind → Bool
is_least_kind kinds.Least = true
is_least_kind _ = false

-- whether it is the certificate's own first line
abbrev pub is_version_kind : Kind → Bool
is_version_kind kinds.Version = true
is_version_kind _ = false

-- whether it is that of the period
abbrev pub is_period_kind : Kind → Bool
is_period_kind kinds.Period = true
is_period_kind _ = false

-- whether it is that of the answer
abbrev pub is_answer_kind : Kind → Bool
is_answer_kind kinds.Answer = true
is_answer_kind _ = false

-- whether it is the last line of a text
abbrev pub is_end_kind : Kind → Bool
is_end_kind kinds.End = true
is_end_kind _ = false

-- whether a line of this kind may stand behind a scale or a marked walk: of the front, or of a lemma that is shown
abbrev pub may_follow_walks : Bool → Kind → Bool
may_follow_walks shows k = is_walk_kind k || (if shows then is_cycle_kind k || is_tree_kind k else is_lemma_kind k || is_version_kind k)

-- whether a line of this kind may stand next, while the tree isn't whole
abbrev pub may_follow : Place → Bool → Kind → Bool
may_follow places.Front shows k = is_version_kind k || is_front_kind k
may_follow places.Marked shows k = is_scale_kind k
may_follow places.Walks shows k = may_follow_walks shows k
may_follow places.Lemma shows k = is_least_kind k
may_follow places.Least shows k = is_scale_kind k
may_follow places.Header shows k = is_period_kind k
may_follow places.Period shows k = is_answer_kind k
may_follow places.Times shows k = is_time_kind k || is_cycle_kind k || is_tree_kind k
may_follow places.Cycles shows k = is_cycle_kind k || is_tree_kind k
may_follow places.Tree shows k = is_tree_kind k

-- behind a whole tree: the next lemma or the certificate's own first line where it is a lemma's, else `end`
abbrev pub may_end : Bool → Kind → Bool
may_end shows k = if shows then is_lemma_kind k || is_version_kind k else is_end_kind k

-- behind a line of a front, or of a lemma
abbrev pub is_in_front : Place → Bool → Bool
is_in_front places.Marked shows = true
is_in_front places.Walks shows = true
is_in_front places.Lemma shows = true
is_in_front places.Least shows = true
is_in_front _ shows = shows

-- the last line was a scale or a marked walk
abbrev pub is_walks_place : Place → Bool
is_walks_place places.Walks = true
is_walks_place _ = false

-- the certificate's own first line, behind a front
abbrev pub is_behind_front : Place → Bool → Kind → Bool
is_behind_front place shows k = (shows || is_walks_place place) && is_version_kind k

-- whether texts of this version have lines of this kind, where these versions are taken; lemmas are shown by lines of all kinds
abbrev pub has_kind : Versions → ℕ → Bool → Kind → Bool
has_kind versions version shows kinds.Propagated = shows || nat_le 2 version
has_kind versions version shows kinds.Front = takes_fronts versions
has_kind versions version shows _ = true

-- whether a line of this kind may stand next, by what came so far and the versions that are taken
abbrev pub allows : Progress → Kind → Bool
allows p k = if p.needs == 0 then may_end p.shows k else may_follow p.place p.shows k && has_kind p.versions p.version p.shows k

-- ---- the counts

-- before the first line of a text, where these versions are taken
abbrev pub beginning : Versions → Progress
beginning versions = record {
  versions = versions;
  place = places.Front;
  version = 0;
  needs = 1;
  times = 0;
  cycles = 0;
  rows = 0;
  lines = 0;
  pairs = 0;
  walks = 0;
  marked = 0;
  lemmas = 0;
  shows = false;
}

-- behind a line at this place
abbrev pub at_place : Progress → Place → Progress
at_place p place = record p { place = place }

-- behind a line of the tree that asks for so many trees in place of the one that it is, and has so many pairs
abbrev pub after_tree : Progress → ℕ → ℕ → Progress
after_tree p parts pairs = record p { place = places.Tree; needs = (p.needs + parts) - 1; lines = p.lines + 1; pairs = p.pairs + pairs }

-- what shows a lemma is counted from its first line on, and the certificate's own lines from theirs
abbrev pub progress_after : Progress → Item → Progress
progress_after p Front = record p { place = places.Marked }
progress_after p (Scale n) = record p { place = places.Walks }
progress_after p (Walk walk) = record p { place = places.Walks; walks = p.walks + 1; marked = p.marked + length walk }
progress_after p (Lemma ps) = record (beginning p.versions) { place = places.Lemma; lemmas = p.lemmas + 1; shows = true }
progress_after p (Least n) = record p { place = places.Least }
progress_after p (Version n) = record (beginning p.versions) { place = places.Header; version = n }
progress_after p (Period n) = record p { place = places.Period }
progress_after p (Says a) = record p { place = places.Times }
progress_after p (Time label time) = record p { times = p.times + 1 }
progress_after p (Cycle rs) = record p { place = places.Cycles; cycles = p.cycles + 1; rows = p.rows + length rs }
progress_after p (Slack row k) = after_tree p 2 0
progress_after p (Offset cycle k) = after_tree p 2 0
progress_after p (Bound ps) = after_tree p 0 (length ps)
progress_after p (Nothing ps) = after_tree p 0 (length ps)
progress_after p (Gap cycle) = after_tree p 0 0
progress_after p Propagated = after_tree p 0 0
progress_after p End = p

-- the limits of the counts
abbrev pub keeps_counts : Progress → Bool
keeps_counts p = nat_le p.times MOST_EVENTS && nat_le p.cycles MOST_CYCLES && nat_le p.rows MOST_SIGNED_ROWS
    && nat_le p.lines MOST_LINES && nat_le p.pairs MOST_PAIRS
    && nat_le p.walks MOST_CYCLES && nat_le p.marked MOST_SIGNED_ROWS && nat_le p.lemmas MOST_CYCLES

-- what came with this item, where the counts are within their limits
abbrev pub counted_after : Progress → Item → Option Progress
counted_after p item = if keeps_counts (progress_after p item) then Some (progress_after p item) else None

-- the counts are within their limits, and no more trees are asked for than the lines so far allow
pub record ProgressIsKept (p : Progress) : Type 0 where
  pub times : p.times ≤ MOST_EVENTS
  pub cycles : p.cycles ≤ MOST_CYCLES
  pub rows : p.rows ≤ MOST_SIGNED_ROWS
  pub lines : p.lines ≤ MOST_LINES
  pub pairs : p.pairs ≤ MOST_PAIRS
  pub walks : p.walks ≤ MOST_CYCLES
  pub marked : p.marked ≤ MOST_SIGNED_ROWS
  pub lemmas : p.lemmas ≤ MOST_CYCLES
  pub needs : p.needs ≤ p.lines + 1

-- ---- what may stand next

-- the kind of an item's line
abbrev pub kind_in : Item → Kind
kind_in Front = kinds.Front
kind_in (Scale n) = kinds.Scale
kind_in (Walk walk) = kinds.Walk
kind_in (Lemma ps) = kinds.Lemma
kind_in (Least n) = kinds.Least
kind_in (Version n) = kinds.Version
kind_in (Period n) = kinds.Period
kind_in (Says a) = kinds.Answer
kind_in (Time label time) = kinds.Time
kind_in (Cycle rs) = kinds.Cycle
kind_in (Slack row k) = kinds.Slack
kind_in (Offset cycle k) = kinds.Offset
kind_in (Bound ps) = kinds.Bound
kind_in (Nothing ps) = kinds.Nothing
kind_in (Gap cycle) = kinds.Gap
kind_in Propagated = kinds.Propagated
kind_in End = kinds.End

-- the item may stand behind what came so far
pub record CanStand (p : Progress) (item : Item) : Type 0 where
  pub allowed : allows p (kind_in item) ≡ true
  pub proper : IsProper item
  pub within : is_item_within item ≡ true
  pub counts : keeps_counts (progress_after p item) ≡ true
