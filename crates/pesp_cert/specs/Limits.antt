-- The limits that every certificate keeps.
use Rattle.std.specs.Prelude.{◌≡◌, ℕ, ◌≤◌, Bool, true, false, ◌&&◌, nat_lt, nat_le, ℤ, nat_abs, Option, Some, None, List, length, map}
use Rattle.std.specs.List.{list_all, sum_by}
use Rattle.pesp_problem.specs.declared.limits.TheConstants.{MOST_CYCLES, MOST_EVENTS, MOST_LABEL, MOST_LINES, MOST_OFFSET, MOST_PAIRS, MOST_PERIOD, MOST_SIGNED_ROWS, MOST_SLACK, MOST_TIME}
use Rattle.pesp_problem.specs.declared.row.SignedRow.{SignedRow}
use Rattle.pesp_problem.specs.declared.pair.Pair.{Pair}
use Rattle.pesp_truth.specs.declared.answer.Answer.{Answer}
use Rattle.pesp_truth.specs.declared.answer.Answer.TheVariants.{Optimal, Infeasible, Bounded}
use Rattle.pesp_truth.specs.declared.tree.TreeLine.{TreeLine}
use Rattle.pesp_truth.specs.declared.tree.TreeLine.TheVariants.{Slack, Offset, Bound, Nothing, Gap, Propagated}
use Rattle.pesp_truth.specs.FrontLimits.{marks_keep_limits as marks_keep_limits}
use Rattle.pesp_truth.specs.Trees.{are_trees, line_of}
use Rattle.pesp_truth.specs.Certificates.{Content, lines_of, Front}
use Rattle.pesp_truth.specs.Lemmas.{Lemma}
use Rattle.pesp_truth.specs.Shown.{LemmaProof}
use Rattle.pesp_stream.specs.Number.{NATURALS}
use Rattle.pesp_cert_lines.specs.Rows.{is_name, rows_are_named}
use Rattle.pesp_cert_lines.specs.Pairs.{rise_from, all_within}

-- costs have at most 18 digits
abbrev pub is_cost : Option ℕ → Bool
is_cost None = true
is_cost (Some c) = nat_lt c NATURALS

-- the bound and the cost of an answer have at most 18 digits
abbrev pub has_costs : Answer → Bool
has_costs (Optimal c) = nat_lt c NATURALS
has_costs Infeasible = true
has_costs (Bounded least cost) = nat_lt least NATURALS && is_cost cost

-- a period from 1 up to its limit
abbrev pub is_period : ℕ → Bool
is_period period = nat_le 1 period && nat_le period MOST_PERIOD

-- the label of an event, and a time
abbrev pub is_time : ℤ × ℕ → Bool
is_time t = nat_le (nat_abs t.0) MOST_LABEL && nat_le t.1 MOST_TIME

-- there are few enough times, each within its limits
abbrev pub are_times : List (ℤ × ℕ) → Bool
are_times times = nat_le (length times) MOST_EVENTS && list_all is_time times

-- at least one row, each with a number that a row may have
abbrev pub is_cycle : List SignedRow → Bool
is_cycle rows = nat_le 1 (length rows) && rows_are_named rows

-- how many signed rows the table has
abbrev pub total_rows : List (List SignedRow) → ℕ
total_rows cycles = sum_by (λ rows. length rows) cycles

-- there are few enough cycles and signed rows, and each cycle is within its limits
abbrev pub are_cycles : List (List SignedRow) → Bool
are_cycles cycles = nat_le (length cycles) MOST_CYCLES && nat_le (total_rows cycles) MOST_SIGNED_ROWS && list_all is_cycle cycles

-- the numbers of pairs rise, no multiplier is 0, and all are within their limits
abbrev pub are_pairs : List Pair → Bool
are_pairs ps = rise_from 0 ps && all_within ps

-- the numbers of a line of the tree are within their limits, and those of its pairs rise
abbrev pub line_keeps_limits : TreeLine → Bool
line_keeps_limits (Slack row k) = is_name row && nat_le k MOST_SLACK
line_keeps_limits (Offset cycle k) = is_name cycle && nat_le (nat_abs k) MOST_OFFSET
line_keeps_limits (Bound ps) = are_pairs ps
line_keeps_limits (Nothing ps) = are_pairs ps
line_keeps_limits (Gap cycle) = is_name cycle
line_keeps_limits Propagated = true

-- whether a line of the tree is a branch
abbrev pub is_branch : TreeLine → Bool
is_branch (Slack row k) = true
is_branch (Offset cycle k) = true
is_branch _ = false

-- how many pairs a line of the tree has
abbrev pub count_pairs : TreeLine → ℕ
count_pairs (Bound ps) = length ps
count_pairs (Nothing ps) = length ps
count_pairs _ = 0

-- how many pairs the tree has
abbrev pub total_pairs : List TreeLine → ℕ
total_pairs lines = sum_by count_pairs lines

-- one whole tree
abbrev pub are_lines : List TreeLine → Bool
are_lines lines = nat_le (length lines) MOST_LINES && nat_le (total_pairs lines) MOST_PAIRS && list_all line_keeps_limits lines
    && are_trees 1 (map line_of lines)

-- whether certificates of this version have such a line
abbrev pub has_line : ℕ → TreeLine → Bool
has_line version Propagated = nat_le 2 version
has_line version _ = true

-- there is such a version, and it has all these lines
abbrev pub has_lines : ℕ → List TreeLine → Bool
has_lines version lines = nat_le 1 version && nat_le version 2 && list_all (has_line version) lines

-- what a certificate may hold
unfoldable pub keeps_limits : Content → Bool
keeps_limits c = is_period c.period && has_costs c.answer && are_times c.times && are_cycles c.cycles
    && are_lines c.tree && has_lines c.version c.tree

-- the same as facts
pub record ContentKeepsLimits (c : Content) : Type 0 where
  pub version : (1 ≤ c.version) × (c.version ≤ 2)
  pub period : (1 ≤ c.period) × (c.period ≤ MOST_PERIOD)
  pub answer : has_costs c.answer ≡ true
  pub times : length c.times ≤ MOST_EVENTS
  pub each_time : list_all is_time c.times ≡ true
  pub cycles : length c.cycles ≤ MOST_CYCLES
  pub rows : total_rows c.cycles ≤ MOST_SIGNED_ROWS
  pub each_cycle : list_all is_cycle c.cycles ≡ true
  pub lines : length c.tree ≤ MOST_LINES
  pub pairs : total_pairs c.tree ≤ MOST_PAIRS
  pub each_line : list_all line_keeps_limits c.tree ≡ true
  pub whole : are_trees 1 (lines_of c) ≡ true
  pub known : list_all (has_line c.version) c.tree ≡ true

-- ---- the front

-- rows that rise, with weights other than 0, and a least sum of at most 18 digits
abbrev pub is_lemma : Lemma → Bool
is_lemma fact = are_pairs fact.weights && nat_lt (nat_abs fact.least) NATURALS

-- what a lemma and what shows it may hold
unfoldable pub is_shown_lemma : LemmaProof → Bool
is_shown_lemma s = is_lemma s.fact && marks_keep_limits s.marks && are_cycles s.cycles && are_lines s.tree

-- there are few enough lemmas, each within its limits
abbrev pub are_lemmas : List LemmaProof → Bool
are_lemmas lemmas = nat_le (length lemmas) MOST_CYCLES && list_all is_shown_lemma lemmas

-- what a front may hold
unfoldable pub front_keeps_limits : Front → Bool
front_keeps_limits f = marks_keep_limits f.marks && are_lemmas f.lemmas
