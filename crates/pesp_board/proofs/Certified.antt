-- What a board certifies keeps the limits of certificates.
use Rattle.std.proofs.Common.{◌≡◌, ℕ, suc, ◌+◌, ◌<◌, ◌≤◌, List, [], ◌∷◌, length, get_or, map, refl, sym, ap, ◌∙◌, arith, subst, true}
use Rattle.std.specs.Prelude.{ℤ, pos, negsuc, unsigned_abs, All, Option, Some, None, IfSome, option_map, nat_lt, Result, Ok, Err, IfOk, OnErr, IsOk, nat_le, if◌then◌else◌, sum_by, Bool, false, ◌||◌}
use Rattle.std.specs.List.{list_all, list_any}
use Rattle.std.proofs.lemmas.Bool.Decides.{nat_tests}
use Rattle.std.proofs.lemmas.List.{length-map}
use Rattle.std.proofs.lemmas.List.Sums.{sum_by-cons}
use Rattle.std.proofs.lemmas.List.Elements.{All-head, All-tail}
use Rattle.pesp_problem.specs.declared.row.SignedRow.{SignedRow}
use Rattle.pesp_problem.specs.declared.arc.Arc.{Arc}
use Rattle.pesp_problem.specs.declared.pair.Pair.{Pair}
use Rattle.pesp_problem.specs.Limits.{IsLabel}
use Rattle.pesp_problem.specs.Limits as instances
use Rattle.pesp_problem.specs.Timetables.{Pesp}
use Rattle.pesp_problem.specs.NetTimetables.{IsNetTimetable, net_cost}
use Rattle.pesp_problem.specs.Walks.{RowExists, AreRows, IsWalk}
use Rattle.pesp_problem.specs.Nodes.{odijk_range, root_slacks}
use Rattle.pesp_network.specs.Networks.{NetworkValue, arc_of_net, KeepsNetLimits}
use Rattle.pesp_truth.specs.declared.answer.Answer.TheVariants.{Optimal, Bounded}
use Rattle.pesp_truth.specs.declared.tree.TreeLine.{TreeLine}
use Rattle.pesp_truth.specs.declared.tree.TreeLine.TheVariants.{Slack, Offset, Bound, Nothing, Gap, Propagated}
use Rattle.pesp_truth.specs.Trees.{preorder, line_of}
use Rattle.pesp_truth.specs.Certificates.{Content, lines_of, shown_times, shown_labels}
use Rattle.pesp_truth.proofs.Lines.{whole_tree}
use Rattle.pesp_nodes.specs.Problems.{ProblemValue, problem_net, IsSmallTable, IsPairOf, ArePairs, Rise}
use Rattle.pesp_stream.specs.Number.{NATURALS}
use Rattle.pesp_cert_lines.specs.Rows.{is_name, rows_are_named}
use Rattle.pesp_cert_lines.specs.Pairs.{is_pair_within, all_within, follows, rise_from}
use Rattle.pesp_cert_lines.proofs.Tests.{and_both}
use Rattle.pesp_tree.specs.BoardLeaves.{least_value, told}
use Rattle.pesp_tree.specs.States.{State, BoardValue, root_of, least, best_cost}
use Rattle.pesp_tree.specs.Limits.{IsLineOf}
use Rattle.pesp_tree.specs.Limits as machine
use Rattle.pesp_tree.specs.Reached.{IsOrderly}
use Rattle.pesp_tree.specs.Certificates.{answer_of, is_propagated, version_of, ShowsBest, IsCertificateOf}
use Rattle.pesp_tree.proofs.Costs.{costs_are_small}
use Rattle.pesp_cert.specs.Limits.{has_costs, is_time, is_cycle, line_keeps_limits, has_line, count_pairs, total_pairs, ContentKeepsLimits}

-- ---- costs

-- at most 999999999999999999, where it is there
abbrev IsShort : Option ℕ → Type 0
IsShort o = IfSome o (λ n. n ≤ 999999999999999999)

told_is_short : (o : Option ℤ) → IsShort (option_map told o)
told_is_short None = tt
told_is_short (Some (pos n)) = omega arith
told_is_short (Some (negsuc n)) = omega arith

cost_is_short : (p : ProblemValue) (best : Option (List ℕ)) → KeepsNetLimits p.network → IsShort (option_map (net_cost (problem_net p)) best)
cost_is_short p None limits = tt
cost_is_short p (Some times) limits = omega (arith, costs_are_small p.network times limits)

closed_fits : (b : Bool) (l c : ℕ) → l ≤ 999999999999999999 → c ≤ 999999999999999999
    → has_costs (if b then Optimal c else Bounded l (Some c)) ≡ true
closed_fits true l c h k = grind (arith, nat_tests)
closed_fits false l c h k = and_both (nat_lt l NATURALS) (nat_lt c NATURALS) (grind (arith, nat_tests)) (grind (arith, nat_tests))

costs_fit : (l c : Option ℕ) → IsShort l → IsShort c → has_costs (answer_of l c) ≡ true
costs_fit None c h k = refl
costs_fit (Some l) None h k = and_both (nat_lt l NATURALS) true (grind (arith, nat_tests)) refl
costs_fit (Some l) (Some c) h k = closed_fits (nat_le c l) l c h k

-- ---- times

time_fits : (t : ℤ × ℕ) → IsLabel t.0 → t.1 ≤ 9999 → is_time t ≡ true
time_fits t label below = grind (arith, nat_tests)

times_fit : (ts : List (ℤ × ℕ)) → All IsLabel (map (λ t. t.0) ts) → All (λ n. n ≤ 9999) (map (λ t. t.1) ts) → list_all is_time ts ≡ true
times_fit [] labels below = refl
times_fit (t ∷ ts) labels below =
    rw (
      time_fits t (All-head IsLabel t.0 (map (λ t. t.0) ts) labels) (All-head (λ n. n ≤ 9999) t.1 (map (λ t. t.1) ts) below),
      times_fit ts (All-tail IsLabel t.0 (map (λ t. t.0) ts) labels) (All-tail (λ n. n ≤ 9999) t.1 (map (λ t. t.1) ts) below),
    ) refl

no_times : (ts : List (ℤ × ℕ)) → map (λ t. t.1) ts ≡ [] → ts ≡ []
no_times [] e = refl
no_times (t ∷ ts) e = cc

-- as many as there are events, and each fits
record TimesFit (ts : List (ℤ × ℕ)) : Type 0 where
  few : length ts ≤ 100000
  each : list_all is_time ts ≡ true

shown_fit : (i : Pesp) (p : ProblemValue) (best : Option (List ℕ)) (ts : List (ℤ × ℕ)) → instances.KeepsLimits i
    → KeepsNetLimits p.network → IfSome best (IsNetTimetable (problem_net p) p.network.events)
    → ShowsBest i.events best (map (λ t. t.0) ts) (map (λ t. t.1) ts) → TimesFit ts
shown_fit i p None ts l n k s = rw (no_times ts s) (record { few = omega arith; each = refl })
shown_fit i p (Some best) ts l n k s = record {
  few = (let e = ap length s.0 in let few = l.events in omega (arith, length-map ts (λ t. t.0), e, few));
  each = times_fit ts (subst (All IsLabel) (sym s.0) l.labels)
      (subst (All (λ m. m ≤ 9999)) (sym s.1) (λ j d within. let below = k.below j d within in
      let most = n.period_most in omega (arith, below, most)));
}

-- ---- cycles

row_fits : (count row : ℕ) → (1 ≤ row) × (row ≤ count) → count ≤ 100000 → is_name row ≡ true
row_fits count row h few = (let low = h.0 in let high = h.1 in grind (arith, nat_tests))

rows_fit : (arcs : List Arc) (walk : List SignedRow) → length arcs ≤ 100000 → AreRows arcs walk → rows_are_named walk ≡ true
rows_fit arcs [] few h = refl
rows_fit arcs (s ∷ walk) few h = rw (
  row_fits (length arcs) s.row (All-head (RowExists arcs) s walk h) few,
  rows_fit arcs walk few (All-tail (RowExists arcs) s walk h),
) refl

cycle_fits : (arcs : List Arc) (walk : List SignedRow) → length arcs ≤ 100000 → IsWalk arcs walk → is_cycle walk ≡ true
cycle_fits arcs [] few w = absurd w
cycle_fits arcs (s ∷ walk) few w = and_both (nat_le 1 (length (s ∷ walk))) (rows_are_named (s ∷ walk))
    (grind (arith, nat_tests)) (rows_fit arcs (s ∷ walk) few w.0)

cycles_fit : (arcs : List Arc) (table : List (List SignedRow)) → length arcs ≤ 100000 → All (IsWalk arcs) table
    → list_all is_cycle table ≡ true
cycles_fit arcs [] few h = refl
cycles_fit arcs (walk ∷ table) few h = rw (
  cycle_fits arcs walk few (All-head (IsWalk arcs) walk table h),
  cycles_fit arcs table few (All-tail (IsWalk arcs) walk table h),
) refl

-- ---- pairs

pair_fits : (n : ℕ) (pair : Pair) → n ≤ 100000 → IsPairOf n pair → is_pair_within pair ≡ true
pair_fits n pair few h = (let low = h.names.0 in let high = h.names.1 in let most = h.most in grind (arith, nat_tests))

pairs_fit : (n : ℕ) (pairs : List Pair) → n ≤ 100000 → All (IsPairOf n) pairs → all_within pairs ≡ true
pairs_fit n [] few h = refl
pairs_fit n (pair ∷ pairs) few h = rw (
  pair_fits n pair few (All-head (IsPairOf n) pair pairs h),
  pairs_fit n pairs few (All-tail (IsPairOf n) pair pairs h),
) refl

follows_least : (least : ℕ) (pair : Pair) (n : ℕ) → least ≤ pair.cycle → IsPairOf n pair → follows least pair ≡ true
follows_least least pair n h k = (let some = k.some in grind (arith, nat_tests))

do_rise : (n least : ℕ) (pairs : List Pair) → ((i : ℕ) (d : Pair) → i < length pairs
    → least ≤ (get_or pairs i d).cycle) → Rise pairs → All (IsPairOf n) pairs → rise_from least pairs ≡ true
do_rise n least [] from rise each = refl
do_rise n least (pair ∷ pairs) from rise each =
    and_both (follows least pair) (rise_from (pair.cycle + 1) pairs)
    (follows_least least pair n (from 0 pair (omega arith)) (All-head (IsPairOf n) pair pairs each))
    (do_rise n (pair.cycle + 1) pairs (λ i d l. let above = rise 0 (suc i) d (omega arith) (omega (arith, l)) in
    omega (arith, above)) (λ i j d below l. rise (suc i) (suc j) d (omega (arith, below)) (omega (arith, l)))
    (All-tail (IsPairOf n) pair pairs each))

are_pairs_fit : (n : ℕ) (pairs : List Pair) → n ≤ 100000 → ArePairs n pairs → line_keeps_limits (Bound pairs) ≡ true
are_pairs_fit n pairs few h = and_both (rise_from 0 pairs) (all_within pairs)
    (do_rise n 0 pairs (λ i d l. omega arith) h.rise h.each) (pairs_fit n pairs few h.each)

-- ---- lines

slack_fits : (count row k : ℕ) → (1 ≤ row) × (row ≤ count) → count ≤ 100000 → k ≤ 9999 → line_keeps_limits (Slack row k) ≡ true
slack_fits count row k h few small = (let low = h.0 in let high = h.1 in grind (arith, nat_tests))

offset_fits : (count cycle : ℕ) (k : ℤ) → (1 ≤ cycle) × (cycle ≤ count) → count ≤ 100000
    → unsigned_abs k ≤ 100000000000000 → line_keeps_limits (Offset cycle k) ≡ true
offset_fits count cycle k h few small = (let low = h.0 in let high = h.1 in grind (arith, nat_tests))

line_fits : (p : ProblemValue) (line : TreeLine) → KeepsNetLimits p.network → IsSmallTable p.table
    → IsLineOf p (line_of line) → line_keeps_limits line ≡ true
line_fits p (Slack row k) n t h = (let long = length-map p.network.rows arc_of_net in
    let wide = length-map (problem_net p).arcs (λ (arc : Arc). let range : ℕ × ℕ = (0, arc.span) in range) in
    let few = n.rows_most in slack_fits (length (root_of p).slacks) row k h.0 (omega (arith, long, wide, few)) h.1)
line_fits p (Offset cycle k) n t h = (let wide =
    length-map p.table (odijk_range (problem_net p) (root_slacks (problem_net p))) in let few = t.cycles in
    offset_fits (length (root_of p).offsets) cycle k h.0 (omega (arith, wide, few)) h.1)
line_fits p (Bound pairs) n t h = are_pairs_fit (length p.table) pairs t.cycles h
line_fits p (Nothing pairs) n t h = are_pairs_fit (length p.table) pairs t.cycles h
line_fits p (Gap cycle) n t h = row_fits (length p.table) cycle h t.cycles
line_fits p Propagated n t h = refl

pub lines_fit : (p : ProblemValue) (lines : List TreeLine) → KeepsNetLimits p.network → IsSmallTable p.table
    → All (IsLineOf p) (map line_of lines) → list_all line_keeps_limits lines ≡ true
lines_fit p [] n t h = refl
lines_fit p (line ∷ lines) n t h = rw (
  line_fits p line n t
      (All-head (IsLineOf p) (line_of line) (map line_of lines) h),
  lines_fit p lines n t (All-tail (IsLineOf p) (line_of line) (map line_of lines) h),
) refl

same_pairs_in : (line : TreeLine) → count_pairs line ≡ machine.pairs_in (line_of line)
same_pairs_in (Slack row k) = refl
same_pairs_in (Offset cycle k) = refl
same_pairs_in (Bound pairs) = refl
same_pairs_in (Nothing pairs) = refl
same_pairs_in (Gap cycle) = refl
same_pairs_in Propagated = refl

pub same_pairs : (lines : List TreeLine) → total_pairs lines ≡ sum_by machine.pairs_in (map line_of lines)
same_pairs [] = refl
same_pairs (line ∷ lines) =
    let this = same_pairs_in line in
    let others = same_pairs lines in
    omega (arith, this, others, sum_by-cons count_pairs line lines, sum_by-cons machine.pairs_in (line_of line) (map line_of lines))

-- ---- the version

has_two : (line : TreeLine) → has_line 2 line ≡ true
has_two (Slack row k) = refl
has_two (Offset cycle k) = refl
has_two (Bound pairs) = refl
has_two (Nothing pairs) = refl
has_two (Gap cycle) = refl
has_two Propagated = refl

pub all_two : (lines : List TreeLine) → list_all (has_line 2) lines ≡ true
all_two [] = refl
all_two (line ∷ lines) = rw (has_two line, all_two lines) refl

has_one : (line : TreeLine) → is_propagated (line_of line) ≡ false → has_line 1 line ≡ true
has_one (Slack row k) e = refl
has_one (Offset cycle k) e = refl
has_one (Bound pairs) e = refl
has_one (Nothing pairs) e = refl
has_one (Gap cycle) e = refl
has_one Propagated e = cc

neither : (a b : Bool) → (a || b) ≡ false → (a ≡ false) × (b ≡ false)
neither true b e = cc
neither false b e = (refl, e)

all_one : (lines : List TreeLine) → list_any is_propagated (map line_of lines) ≡ false → list_all (has_line 1) lines ≡ true
all_one [] e = refl
all_one (line ∷ lines) e =
    let both = neither (is_propagated (line_of line)) (list_any is_propagated (map line_of lines)) e in
    rw (has_one line both.0, all_one lines both.1) refl

-- the version is one that there is, and has these lines
abbrev HasLines : ℕ → List TreeLine → Type 0
HasLines version lines = ((1 ≤ version) × (version ≤ 2)) × (list_all (has_line version) lines ≡ true)

by_lines : (lines : List TreeLine) (b : Bool) → list_any is_propagated (map line_of lines) ≡ b → HasLines (if b then 2 else 1) lines
by_lines lines true e = ((omega arith, omega arith), all_two lines)
by_lines lines false e = ((omega arith, omega arith), all_one lines e)

version_fits : (version : ℕ) (lines : List TreeLine) → version ≡ version_of (map line_of lines) → HasLines version lines
version_fits version lines e = subst (λ (v : ℕ). HasLines v lines) (sym e)
    (by_lines lines (list_any is_propagated (map line_of lines)) refl)

-- ---- all of it

pub keeps_limits : (i : Pesp) (p : ProblemValue) (state : State) (content : Content) → instances.KeepsLimits i
    → KeepsNetLimits p.network → IsSmallTable p.table → All (IsWalk (problem_net p).arcs) p.table → IsOrderly p state
    → IsCertificateOf p i.events state content → ContentKeepsLimits content
keeps_limits i p state content l n t walks o c =
    let known = version_fits content.version content.tree (c.version ∙ ap version_of (sym c.tree)) in
    let shown = shown_fit i p state.best content.times l n o.kept.best c.times in
    let long : length content.tree ≡ length (preorder state.tree) = sym (length-map content.tree line_of) ∙ ap length c.tree in
    let many : total_pairs content.tree ≡ sum_by machine.pairs_in (preorder state.tree) = same_pairs content.tree
    ∙ ap (sum_by machine.pairs_in) c.tree in
    let few : length (problem_net p).arcs ≤ 100000 =
    (let same = length-map p.network.rows arc_of_net in let most = n.rows_most in omega (arith, same, most)) in
    record {
      version = known.0;
      period = rw c.period (n.some_period, n.period_most);
      answer = rw c.answer (costs_fit (least p state) (best_cost p state)
          (told_is_short (least_value (problem_net p) p.table state.tree (root_of p))) (cost_is_short p state.best n));
      times = shown.few;
      each_time = shown.each;
      cycles = rw c.cycles t.cycles;
      rows = rw c.cycles t.rows;
      each_cycle = rw c.cycles (cycles_fit (problem_net p).arcs p.table few walks);
      lines = (let small = o.limits.small.lines in omega (arith, long, small));
      pairs = (let small = o.limits.small.pairs in omega (arith, many, small));
      each_line = lines_fit p content.tree n t (subst (All (IsLineOf p)) (sym c.tree) o.limits.lines);
      whole = (whole_tree (lines_of content)).1 (state.tree, sym c.tree);
      known = known.1;
    }

-- ---- what is made of the parts

-- the parts are those of what the board certifies
pub says : (p : ProblemValue) (state : State) (events : List ℤ) (self : BoardValue) (value cost : Option ℕ)
    (labels : List ℤ) (table : List (List SignedRow)) (network : NetworkValue) (content : Content)
    → record { problem = p; state = state } ≡ self
    → content.version ≡ version_of (lines_of content)
    → network ≡ p.network → content.period ≡ network.period
    → value ≡ least self.problem self.state → cost ≡ best_cost self.problem self.state → content.answer ≡ answer_of value cost
    → labels ≡ events → ShowsBest labels state.best (shown_labels content) (shown_times content)
    → table ≡ p.table → content.cycles ≡ table → lines_of content ≡ preorder state.tree → IsCertificateOf p events state content
says p state events self value cost labels table network content view version n period v k answer l times t cycles lines = record {
  version = version ∙ ap version_of lines;
  period = period ∙ ap (λ (m : NetworkValue). m.period) n;
  answer = (let value_is : value ≡ least p state = rw (← view) at v in
      let cost_is : cost ≡ best_cost p state = rw (← view) at k in
      answer ∙ (λ i. answer_of (value_is i) (cost_is i)));
  times = subst (λ (names : List ℤ). ShowsBest names state.best (shown_labels content) (shown_times content)) l times;
  cycles = cycles ∙ t;
  tree = lines;
}

pub not_refused : {A E : Type 0} (r : Result A E) (T : Type 0) → OnErr r (¬ T) → T → IsOk r
not_refused (Ok a) T refused text = refl
not_refused (Err e) T refused text = absurd (refused text)

pub what_is_made : {A E : Type 0} (r : Result A E) (a made : A) → r ≡ Ok a → IfOk r (λ b. b ≡ made) → a ≡ made
what_is_made (Ok b) a made e h = cc
what_is_made (Err x) a made e h = cc
