-- A content keeps the limits exactly where its items are a run. Cycles and trees are those of lemmas too.
use Rattle.std.proofs.Common.{◌≡◌, ℕ, zero, suc, ◌+◌, ◌-◌, ◌<◌, ◌≤◌, Bool, true, false, cond, ◌&&◌, List, [], ◌∷◌, ◌++◌, length, refl, sym, ◌∙◌, arith, append_assoc}
use Rattle.std.specs.Prelude.{◌↔◌, nat_le, map, ℤ, ◌==◌, Some, None}
use Rattle.std.specs.List.{list_all}
use Rattle.std.proofs.lemmas.Bool.{ne_eqb, eqb-true}
use Rattle.std.proofs.lemmas.Bool.Decides.{nat_tests}
use Rattle.std.proofs.lemmas.List.Sums.{sum_by-cons}
use Rattle.pesp_problem.specs.declared.row.SignedRow.{SignedRow}
use Rattle.pesp_truth.specs.declared.answer.Answer.{Answer}
use Rattle.pesp_truth.specs.declared.answer.Answer.TheVariants as answers
use Rattle.pesp_truth.specs.declared.tree.TreeLine.{TreeLine}
use Rattle.pesp_truth.specs.declared.tree.TreeLine.TheVariants as lines
use Rattle.pesp_truth.specs.Trees.{Line, are_trees, line_of}
use Rattle.pesp_truth.specs.Certificates.{Content}
use Rattle.pesp_cert_lines.specs.declared.kind.Kind.{Kind}
use Rattle.pesp_cert_lines.specs.declared.kind.Kind.TheVariants as kinds
use Rattle.pesp_cert_lines.specs.declared.item.Item.{Item}
use Rattle.pesp_cert_lines.specs.declared.item.Item.TheVariants.{Version, Period, Answer as Says, Cycle, End}
use Rattle.pesp_cert_lines.specs.declared.progress.Place.{Place}
use Rattle.pesp_cert_lines.specs.declared.progress.Place.TheVariants as places
use Rattle.pesp_cert_lines.specs.declared.progress.Progress.{Progress}
use Rattle.pesp_cert_lines.specs.declared.versions.Versions.{Versions}
use Rattle.pesp_cert_lines.specs.declared.versions.Versions.TheVariants.{All}
use Rattle.pesp_cert_lines.specs.Rows.{rows_are_named}
use Rattle.pesp_cert_lines.specs.Pairs.{rise_from, all_within}
use Rattle.pesp_cert_lines.specs.Items.{IsProper, HasProperCosts, is_item_within}
use Rattle.pesp_cert_lines.specs.Counts.{beginning, progress_after, after_tree, allows, may_follow, may_end, has_kind, keeps_counts, kind_in, CanStand}
use Rattle.pesp_cert_lines.proofs.Tests.{and_left, and_right, and_both}
use Rattle.pesp_cert.specs.Limits.{has_costs, is_period, is_time, are_times, is_cycle, total_rows, are_cycles, line_keeps_limits, is_branch, count_pairs, total_pairs, are_lines, has_line, has_lines, keeps_limits, ContentKeepsLimits}
use Rattle.pesp_cert.specs.Texts.{is_end, IsRun, HasText, own_items, time_item, tree_item}
use Rattle.pesp_cert.proofs.LimitFacts.{limits_of}

-- ---- one item and the others

pub run_onto : (p : Progress) (item : Item) (rest : List Item) → CanStand p item → is_end item ≡ false
    → IsRun (progress_after p item) rest → IsRun p (item ∷ rest)
run_onto p item [] can e h = absurd h
run_onto p item (next ∷ more) can e h = (can, e, h)

pub run_first : (p : Progress) (item : Item) (rest : List Item) → IsRun p (item ∷ rest) → CanStand p item
run_first p item [] run = run.0
run_first p item (next ∷ more) run = run.0

pub run_rest : (p : Progress) (item : Item) (rest : List Item) → is_end item ≡ false → IsRun p (item ∷ rest) → IsRun (progress_after p item) rest
run_rest p item [] e run = let bad : true ≡ false = sym run.1 ∙ e in cc
run_rest p item (next ∷ more) e run = run.2

-- ---- costs, pairs and lines

costs_proper : (a : Answer) → has_costs a ≡ true → HasProperCosts a
costs_proper (answers.Optimal c) h = grind (arith, nat_tests, h)
costs_proper answers.Infeasible h = tt
costs_proper (answers.Bounded least None) h = (grind (arith, nat_tests, h), tt)
costs_proper (answers.Bounded least (Some c)) h = (grind (arith, nat_tests, h), grind (arith, nat_tests, h))

proper_costs : (a : Answer) → HasProperCosts a → has_costs a ≡ true
proper_costs (answers.Optimal c) h = grind (arith, nat_tests, h)
proper_costs answers.Infeasible h = refl
proper_costs (answers.Bounded least None) h = grind (arith, nat_tests, h.0)
proper_costs (answers.Bounded least (Some c)) h = grind (arith, nat_tests, h.0, h.1)

line_proper : (line : TreeLine) → line_keeps_limits line ≡ true → IsProper (tree_item line)
line_proper (lines.Slack row k) h = tt
line_proper (lines.Offset cycle k) h = tt
line_proper (lines.Bound ps) h = and_left (rise_from 0 ps) (all_within ps) h
line_proper (lines.Nothing ps) h = and_left (rise_from 0 ps) (all_within ps) h
line_proper (lines.Gap cycle) h = tt
line_proper lines.Propagated h = tt

line_within : (line : TreeLine) → line_keeps_limits line ≡ true → is_item_within (tree_item line) ≡ true
line_within (lines.Slack row k) h = h
line_within (lines.Offset cycle k) h = h
line_within (lines.Bound ps) h = and_right (rise_from 0 ps) (all_within ps) h
line_within (lines.Nothing ps) h = and_right (rise_from 0 ps) (all_within ps) h
line_within (lines.Gap cycle) h = h
line_within lines.Propagated h = h

proper_line : (line : TreeLine) → IsProper (tree_item line) → is_item_within (tree_item line) ≡ true → line_keeps_limits line ≡ true
proper_line (lines.Slack row k) h w = w
proper_line (lines.Offset cycle k) h w = w
proper_line (lines.Bound ps) h w = and_both (rise_from 0 ps) (all_within ps) h w
proper_line (lines.Nothing ps) h w = and_both (rise_from 0 ps) (all_within ps) h w
proper_line (lines.Gap cycle) h w = w
proper_line lines.Propagated h w = w

-- ---- the tree

-- what doesn't change behind the marked walks of a lemma, or behind the certificate's own first line
pub record Base : Type 0 where
  pub versions : Versions
  pub version : ℕ
  pub walks : ℕ
  pub marked : ℕ
  pub lemmas : ℕ
  pub shows : Bool
  pub few_walks : walks ≤ 100000
  pub few_marked : marked ≤ 10000000
  pub few_lemmas : lemmas ≤ 100000

-- behind the other lines, with so many trees to come
abbrev pub in_tree : (v : Base) (place : Place) (needs times cycles rows lines pairs : ℕ) → Progress
in_tree v place needs times cycles rows lines pairs =
    record {
      versions = v.versions;
      place = place;
      version = v.version;
      needs = needs;
      times = times;
      cycles = cycles;
      rows = rows;
      lines = lines;
      pairs = pairs;
      walks = v.walks;
      marked = v.marked;
      lemmas = v.lemmas;
      shows = v.shows;
    }

abbrev parts_in : TreeLine → ℕ
parts_in line = cond (is_branch line) 2 0

after_line : (p : Progress) (line : TreeLine) → progress_after p (tree_item line) ≡ after_tree p (parts_in line) (count_pairs line)
after_line p (lines.Slack row k) = refl
after_line p (lines.Offset cycle k) = refl
after_line p (lines.Bound ps) = refl
after_line p (lines.Nothing ps) = refl
after_line p (lines.Gap cycle) = refl
after_line p lines.Propagated = refl

line_goes : (line : TreeLine) → is_end (tree_item line) ≡ false
line_goes (lines.Slack row k) = refl
line_goes (lines.Offset cycle k) = refl
line_goes (lines.Bound ps) = refl
line_goes (lines.Nothing ps) = refl
line_goes (lines.Gap cycle) = refl
line_goes lines.Propagated = refl

-- each kind of line may follow where one may
line_follows : (place : Place) (shows : Bool) (line : TreeLine) → may_follow place shows kinds.Gap ≡ true
    → may_follow place shows (kind_in (tree_item line)) ≡ true
line_follows places.Front shows line h = absurd cc
line_follows places.Marked shows line h = absurd cc
line_follows places.Lemma shows line h = absurd cc
line_follows places.Least shows line h = absurd cc
line_follows places.Header shows line h = absurd cc
line_follows places.Period shows line h = absurd cc
line_follows places.Walks false line h = absurd cc
line_follows places.Walks true (lines.Slack row k) h = refl
line_follows places.Walks true (lines.Offset cycle k) h = refl
line_follows places.Walks true (lines.Bound ps) h = refl
line_follows places.Walks true (lines.Nothing ps) h = refl
line_follows places.Walks true (lines.Gap cycle) h = refl
line_follows places.Walks true lines.Propagated h = refl
line_follows places.Times shows (lines.Slack row k) h = refl
line_follows places.Times shows (lines.Offset cycle k) h = refl
line_follows places.Times shows (lines.Bound ps) h = refl
line_follows places.Times shows (lines.Nothing ps) h = refl
line_follows places.Times shows (lines.Gap cycle) h = refl
line_follows places.Times shows lines.Propagated h = refl
line_follows places.Cycles shows (lines.Slack row k) h = refl
line_follows places.Cycles shows (lines.Offset cycle k) h = refl
line_follows places.Cycles shows (lines.Bound ps) h = refl
line_follows places.Cycles shows (lines.Nothing ps) h = refl
line_follows places.Cycles shows (lines.Gap cycle) h = refl
line_follows places.Cycles shows lines.Propagated h = refl
line_follows places.Tree shows (lines.Slack row k) h = refl
line_follows places.Tree shows (lines.Offset cycle k) h = refl
line_follows places.Tree shows (lines.Bound ps) h = refl
line_follows places.Tree shows (lines.Nothing ps) h = refl
line_follows places.Tree shows (lines.Gap cycle) h = refl
line_follows places.Tree shows lines.Propagated h = refl

-- a line of the tree may not stand behind a whole one
not_end : (shows : Bool) (line : TreeLine) → may_end shows (kind_in (tree_item line)) ≡ false
not_end true (lines.Slack row k) = refl
not_end true (lines.Offset cycle k) = refl
not_end true (lines.Bound ps) = refl
not_end true (lines.Nothing ps) = refl
not_end true (lines.Gap cycle) = refl
not_end true lines.Propagated = refl
not_end false (lines.Slack row k) = refl
not_end false (lines.Offset cycle k) = refl
not_end false (lines.Bound ps) = refl
not_end false (lines.Nothing ps) = refl
not_end false (lines.Gap cycle) = refl
not_end false lines.Propagated = refl

-- what a line of a tree needs behind it
trees_step : (n : ℕ) (line : TreeLine) (ls : List Line) → are_trees (suc n) (line_of line ∷ ls) ≡ are_trees (suc n + parts_in line - 1) ls
trees_step n (lines.Slack row k) ls = let e : suc n + 2 - 1 ≡ suc (suc n) = omega arith in rw e refl
trees_step n (lines.Offset cycle k) ls = let e : suc n + 2 - 1 ≡ suc (suc n) = omega arith in rw e refl
trees_step n (lines.Bound ps) ls = let e : suc n + 0 - 1 ≡ n = omega arith in rw e refl
trees_step n (lines.Nothing ps) ls = let e : suc n + 0 - 1 ≡ n = omega arith in rw e refl
trees_step n (lines.Gap cycle) ls = let e : suc n + 0 - 1 ≡ n = omega arith in rw e refl
trees_step n lines.Propagated ls = let e : suc n + 0 - 1 ≡ n = omega arith in rw e refl

counts_fit : (v : Base) (place : Place) (needs times cycles rows lines pairs : ℕ) → times ≤ 100000 → cycles ≤ 100000
    → rows ≤ 10000000 → lines ≤ 1000000 → pairs ≤ 20000000
    → keeps_counts (in_tree v place needs times cycles rows lines pairs) ≡ true
counts_fit v place needs times cycles rows lines pairs a b c d e = grind (arith, nat_tests, a, b, c, d, e, v.few_walks, v.few_marked, v.few_lemmas)

-- what the counts keep to
pub record Fit (times cycles rows lines pairs : ℕ) : Type 0 where
  pub few_times : times ≤ 100000
  pub few_cycles : cycles ≤ 100000
  pub few_rows : rows ≤ 10000000
  pub few_lines : lines ≤ 1000000
  pub few_pairs : pairs ≤ 20000000

fit_counts : (v : Base) (place : Place) (needs times cycles rows lines pairs : ℕ)
    → keeps_counts (in_tree v place needs times cycles rows lines pairs) ≡ true → Fit times cycles rows lines pairs
fit_counts v place needs times cycles rows lines pairs h =
    record {
      few_times = grind (arith, nat_tests, h);
      few_cycles = grind (arith, nat_tests, h);
      few_rows = grind (arith, nat_tests, h);
      few_lines = grind (arith, nat_tests, h);
      few_pairs = grind (arith, nat_tests, h);
    }

none_needed : (n : ℕ) → are_trees n [] ≡ true → n ≡ 0
none_needed zero h = refl
none_needed (suc n) h = absurd cc

-- whether a line may stand in such a tree
abbrev pub knows : Base → TreeLine → Bool
knows v line = has_kind v.versions v.version v.shows (kind_in (tree_item line))

-- the certificate's own tree has the lines that its version has, and that of a lemma has all
line_known : (w : Versions) (v : ℕ) (line : TreeLine) → has_kind w v false (kind_in (tree_item line)) ≡ has_line v line
line_known w v (lines.Slack row k) = refl
line_known w v (lines.Offset cycle k) = refl
line_known w v (lines.Bound ps) = refl
line_known w v (lines.Nothing ps) = refl
line_known w v (lines.Gap cycle) = refl
line_known w v lines.Propagated = refl

lines_known : (w : Versions) (v : ℕ) (ls : List TreeLine)
    → list_all (λ line. has_kind w v false (kind_in (tree_item line))) ls ≡ list_all (has_line v) ls
lines_known w v [] = refl
lines_known w v (line ∷ ls) = rw (line_known w v line, lines_known w v ls) refl

pub shown_known : (w : Versions) (v : ℕ) (ls : List TreeLine)
    → list_all (λ line. has_kind w v true (kind_in (tree_item line))) ls ≡ true
shown_known w v [] = refl
shown_known w v (lines.Slack row k ∷ ls) = shown_known w v ls
shown_known w v (lines.Offset cycle k ∷ ls) = shown_known w v ls
shown_known w v (lines.Bound ps ∷ ls) = shown_known w v ls
shown_known w v (lines.Nothing ps ∷ ls) = shown_known w v ls
shown_known w v (lines.Gap cycle ∷ ls) = shown_known w v ls
shown_known w v (lines.Propagated ∷ ls) = shown_known w v ls

allows_next : (p : Progress) (k : Kind) → 0 < p.needs → may_follow p.place p.shows k ≡ true
    → has_kind p.versions p.version p.shows k ≡ true → allows p k ≡ true
allows_next p k some h known = rw (ne_eqb p.needs 0 (omega arith)) (and_both (may_follow p.place p.shows k)
    (has_kind p.versions p.version p.shows k) h known)

known_next : (p : Progress) (k : Kind) → 0 < p.needs → allows p k ≡ true → has_kind p.versions p.version p.shows k ≡ true
known_next p k some h = and_right (may_follow p.place p.shows k) (has_kind p.versions p.version p.shows k)
    (rw (ne_eqb p.needs 0 (omega arith)) at h)

allows_line : (b : Bool) (w : Versions) (v : ℕ) (place : Place) (shows : Bool) (line : TreeLine)
    → cond b (may_end shows (kind_in (tree_item line)))
    (may_follow place shows (kind_in (tree_item line)) && has_kind w v shows (kind_in (tree_item line))) ≡ true → b ≡ false
allows_line true w v place shows line h = let bad : false ≡ true = sym (not_end shows line) ∙ h in cc
allows_line false w v place shows line h = refl

pub tree_gives : (v : Base) (ls : List TreeLine) (place : Place) (needs times cycles rows lines pairs : ℕ) (more : List Item)
    → may_follow place v.shows kinds.Gap ≡ true → are_trees needs (map line_of ls) ≡ true → list_all line_keeps_limits ls ≡ true
    → list_all (knows v) ls ≡ true → Fit times cycles rows (lines + length ls) (pairs + total_pairs ls)
    → ((last : Place) → IsRun (in_tree v last 0 times cycles rows (lines + length ls) (pairs + total_pairs ls)) more)
    → IsRun (in_tree v place needs times cycles rows lines pairs) (map tree_item ls ++ more)
tree_gives v [] place needs times cycles rows lines pairs more follows whole each known fit others =
    let none : needs ≡ 0 = none_needed needs whole in
    let l : lines + 0 ≡ lines = omega arith in
    let p : pairs + 0 ≡ pairs = omega arith in
    rw none (rw (l, p) at (others place))
tree_gives v (line ∷ ls) place zero times cycles rows lines pairs more follows whole each known fit others = absurd cc
tree_gives v (line ∷ ls) place (suc n) times cycles rows lines pairs more follows whole each known fit others =
    let p : Progress = in_tree v place (suc n) times cycles rows lines pairs in
    let one = and_left (line_keeps_limits line) (list_all line_keeps_limits ls) each in
    let total : total_pairs (line ∷ ls) ≡ count_pairs line + total_pairs ls = sum_by-cons count_pairs line ls in
    let few : lines + 1 ≤ 1000000 = omega (arith, fit.few_lines) in
    let few_pairs : pairs + count_pairs line ≤ 20000000 = omega (arith, fit.few_pairs, total) in
    let later : Fit times cycles rows (lines + 1 + length ls) (pairs + count_pairs line + total_pairs ls) =
    record {
      few_times = fit.few_times;
      few_cycles = fit.few_cycles;
      few_rows = fit.few_rows;
      few_lines = omega (arith, fit.few_lines);
      few_pairs = omega (arith, fit.few_pairs, total);
    } in
    let l : lines + length (line ∷ ls) ≡ lines + 1 + length ls = omega arith in
    let t : pairs + total_pairs (line ∷ ls) ≡ pairs + count_pairs line + total_pairs ls = omega (arith, total) in
    let run = tree_gives v ls places.Tree (suc n + parts_in line - 1) times cycles rows (lines + 1)
    (pairs + count_pairs line) more refl (sym (trees_step n line (map line_of ls)) ∙ whole)
    (and_right (line_keeps_limits line) (list_all line_keeps_limits ls) each)
    (and_right (knows v line) (list_all (knows v) ls) known) later (λ last. rw (l, t) at (others last)) in
    let can : CanStand p (tree_item line) = record {
      allowed = allows_next p (kind_in (tree_item line)) (omega arith) (line_follows place v.shows line follows)
          (and_left (knows v line) (list_all (knows v) ls) known);
      proper = line_proper line one;
      within = line_within line one;
      counts = rw (after_line p line) (counts_fit v places.Tree (suc n + parts_in line - 1) times cycles rows
          (lines + 1) (pairs + count_pairs line) fit.few_times fit.few_cycles fit.few_rows few few_pairs);
    } in
    run_onto p (tree_item line) (map tree_item ls ++ more) can (line_goes line) (rw (after_line p line) run)

-- what a run of lines says of them, and the run behind them
pub record IsTree (v : Base) (ls : List TreeLine) (needs times cycles rows lines pairs : ℕ) (more : List Item) : Type 0 where
  pub whole : are_trees needs (map line_of ls) ≡ true
  pub each : list_all line_keeps_limits ls ≡ true
  pub known : list_all (knows v) ls ≡ true
  pub fit : Fit times cycles rows (lines + length ls) (pairs + total_pairs ls)
  pub last : Place
  pub others : IsRun (in_tree v last 0 times cycles rows (lines + length ls) (pairs + total_pairs ls)) more

-- what stands behind a tree stands there once it is whole
abbrev pub ends_tree : Kind → Bool
ends_tree kinds.End = true
ends_tree kinds.Lemma = true
ends_tree kinds.Version = true
ends_tree _ = false

needs_none : (b known shows : Bool) (place : Place) (k : Kind) → may_follow place shows kinds.Gap ≡ true → ends_tree k ≡ true
    → cond b (may_end shows k) (may_follow place shows k && known) ≡ true → b ≡ true
needs_none true known shows place k f e h = refl
needs_none false known shows places.Front k f e h = absurd cc
needs_none false known shows places.Marked k f e h = absurd cc
needs_none false known false places.Walks k f e h = absurd cc
needs_none false known true places.Walks kinds.End f e h = absurd cc
needs_none false known true places.Walks k f e h = absurd cc
needs_none false known shows places.Lemma k f e h = absurd cc
needs_none false known shows places.Least k f e h = absurd cc
needs_none false known shows places.Header k f e h = absurd cc
needs_none false known shows places.Period k f e h = absurd cc
needs_none false known shows places.Times kinds.End f e h = absurd cc
needs_none false known shows places.Times k f e h = absurd cc
needs_none false known shows places.Cycles kinds.End f e h = absurd cc
needs_none false known shows places.Cycles k f e h = absurd cc
needs_none false known shows places.Tree kinds.End f e h = absurd cc
needs_none false known shows places.Tree k f e h = absurd cc

pub tree_takes : (v : Base) (ls : List TreeLine) (place : Place) (needs times cycles rows lines pairs : ℕ) (item : Item) (more : List Item)
    → may_follow place v.shows kinds.Gap ≡ true → ends_tree (kind_in item) ≡ true → Fit times cycles rows lines pairs
    → IsRun (in_tree v place needs times cycles rows lines pairs) (map tree_item ls ++ item ∷ more)
    → IsTree v ls needs times cycles rows lines pairs (item ∷ more)
tree_takes v [] place needs times cycles rows lines pairs item more follows ends fit run =
    let can = run_first (in_tree v place needs times cycles rows lines pairs) item more run in
    let none : needs ≡ 0 = eqb-true needs 0 (needs_none (needs == 0) (has_kind v.versions v.version v.shows (kind_in item)) v.shows place
    (kind_in item) follows ends can.allowed) in
    let l : lines ≡ lines + 0 = omega arith in
    let p : pairs ≡ pairs + 0 = omega arith in
    record {
      whole = rw none refl;
      each = refl;
      known = refl;
      fit = record {
        few_times = fit.few_times;
        few_cycles = fit.few_cycles;
        few_rows = fit.few_rows;
        few_lines = omega (arith, fit.few_lines);
        few_pairs = omega (arith, fit.few_pairs);
      };
      last = place;
      others = at_sums needs 0 lines (lines + 0) pairs (pairs + 0) none l p run;
    }
  where
    at_sums : (a b c d e f : ℕ) → a ≡ b → c ≡ d → e ≡ f → IsRun (in_tree v place a times cycles rows c e) (item ∷ more)
        → IsRun (in_tree v place b times cycles rows d f) (item ∷ more)
    at_sums a b c d e f x y z h = rw (← x, ← y, ← z) h
tree_takes v (line ∷ ls) place zero times cycles rows lines pairs item more follows ends fit run =
    let can = run_first (in_tree v place zero times cycles rows lines pairs) (tree_item line) (map tree_item ls ++ item ∷ more) run in
    let bad : true ≡ false = allows_line true v.versions v.version place v.shows line can.allowed in
    absurd cc
tree_takes v (line ∷ ls) place (suc n) times cycles rows lines pairs item more follows ends fit run =
    let p : Progress = in_tree v place (suc n) times cycles rows lines pairs in
    let can = run_first p (tree_item line) (map tree_item ls ++ item ∷ more) run in
    let rest = run_rest p (tree_item line) (map tree_item ls ++ item ∷ more) (line_goes line) run in
    let fits = fit_counts v places.Tree (suc n + parts_in line - 1) times cycles rows (lines + 1) (pairs + count_pairs line)
    (rw (after_line p line) at can.counts) in
    let later = tree_takes v ls places.Tree (suc n + parts_in line - 1) times cycles rows (lines + 1)
    (pairs + count_pairs line) item more refl ends fits (rw (after_line p line) at rest) in
    let total : total_pairs (line ∷ ls) ≡ count_pairs line + total_pairs ls = sum_by-cons count_pairs line ls in
    let l : lines + length (line ∷ ls) ≡ lines + 1 + length ls = omega arith in
    let t : pairs + total_pairs (line ∷ ls) ≡ pairs + count_pairs line + total_pairs ls = omega (arith, total) in
    record {
      whole = trees_step n line (map line_of ls) ∙ later.whole;
      each = and_both (line_keeps_limits line) (list_all line_keeps_limits ls) (proper_line line can.proper can.within) later.each;
      known = and_both (knows v line) (list_all (knows v) ls) (known_next p (kind_in (tree_item line)) (omega arith) can.allowed) later.known;
      fit = record {
        few_times = later.fit.few_times;
        few_cycles = later.fit.few_cycles;
        few_rows = later.fit.few_rows;
        few_lines = omega (arith, later.fit.few_lines);
        few_pairs = omega (arith, later.fit.few_pairs, total);
      };
      last = later.last;
      others = rw (l, t) later.others;
    }

-- ---- the cycles

-- behind the answer, times and cycles
abbrev pub in_cycles : (v : Base) (place : Place) (times cycles rows : ℕ) → Progress
in_cycles v place times cycles rows = in_tree v place 1 times cycles rows 0 0

some_rows : (rows : List SignedRow) → is_cycle rows ≡ true → 0 < length rows
some_rows rows h = let some = and_left (nat_le 1 (length rows)) (rows_are_named rows) h in grind (arith, nat_tests, some)

rows_some : (rows : List SignedRow) → 0 < length rows → rows_are_named rows ≡ true → is_cycle rows ≡ true
rows_some rows h k = let some : nat_le 1 (length rows) ≡ true = grind (arith, nat_tests, h) in
    and_both (nat_le 1 (length rows)) (rows_are_named rows) some k

pub cycles_give : (v : Base) (cs : List (List SignedRow)) (place : Place) (times cycles rows : ℕ) (more : List Item)
    → may_follow place v.shows kinds.Cycle ≡ true → list_all is_cycle cs ≡ true
    → times ≤ 100000 → cycles + length cs ≤ 100000 → rows + total_rows cs ≤ 10000000
    → ((last : Place) → may_follow last v.shows kinds.Cycle ≡ true
    → IsRun (in_cycles v last times (cycles + length cs) (rows + total_rows cs)) more)
    → IsRun (in_cycles v place times cycles rows) (map Cycle cs ++ more)
cycles_give v [] place times cycles rows more follows each few_times few_cycles few_rows others =
    let c : cycles + 0 ≡ cycles = omega arith in
    let r : rows + 0 ≡ rows = omega arith in
    rw (c, r) at (others place follows)
cycles_give v (w ∷ cs) place times cycles rows more follows each few_times few_cycles few_rows others =
    let p : Progress = in_cycles v place times cycles rows in
    let one = and_left (is_cycle w) (list_all is_cycle cs) each in
    let total : total_rows (w ∷ cs) ≡ length w + total_rows cs = sum_by-cons (λ (rs : List SignedRow). length rs) w cs in
    let few_c : cycles + 1 ≤ 100000 = omega (arith, few_cycles) in
    let few_r : rows + length w ≤ 10000000 = omega (arith, few_rows, total) in
    let c : cycles + length (w ∷ cs) ≡ cycles + 1 + length cs = omega arith in
    let r : rows + total_rows (w ∷ cs) ≡ rows + length w + total_rows cs = omega (arith, total) in
    let run = cycles_give v cs places.Cycles times (cycles + 1) (rows + length w) more refl
    (and_right (is_cycle w) (list_all is_cycle cs) each) few_times (omega (arith, few_cycles))
    (omega (arith, few_rows, total)) (λ last f. rw (c, r) at (others last f)) in
    let can : CanStand p (Cycle w) = record {
      allowed = and_both (may_follow place v.shows kinds.Cycle) true follows refl;
      proper = some_rows w one;
      within = and_right (nat_le 1 (length w)) (rows_are_named w) one;
      counts = counts_fit v places.Cycles 1 times (cycles + 1) (rows + length w) 0 0 few_times few_c few_r (omega arith) (omega arith);
    } in
    run_onto p (Cycle w) (map Cycle cs ++ more) can refl run

-- what a run of cycles says of them, and the run behind it
pub record AreCycles (v : Base) (cs : List (List SignedRow)) (times cycles rows : ℕ) (more : List Item) : Type 0 where
  pub each : list_all is_cycle cs ≡ true
  pub few_cycles : cycles + length cs ≤ 100000
  pub few_rows : rows + total_rows cs ≤ 10000000
  pub last : Place
  pub follows : may_follow last v.shows kinds.Cycle ≡ true
  pub others : IsRun (in_cycles v last times (cycles + length cs) (rows + total_rows cs)) more

pub cycles_take : (v : Base) (cs : List (List SignedRow)) (place : Place) (times cycles rows : ℕ) (more : List Item)
    → may_follow place v.shows kinds.Cycle ≡ true → cycles ≤ 100000 → rows ≤ 10000000
    → IsRun (in_cycles v place times cycles rows) (map Cycle cs ++ more) → AreCycles v cs times cycles rows more
cycles_take v [] place times cycles rows more follows few_c few_r run =
    let c : cycles ≡ cycles + 0 = omega arith in
    let r : rows ≡ rows + 0 = omega arith in
    record {
      each = refl;
      few_cycles = omega (arith, few_c);
      few_rows = omega (arith, few_r);
      last = place;
      follows = follows;
      others = at_sums cycles (cycles + 0) rows (rows + 0) c r run;
    }
  where
    at_sums : (a b c d : ℕ) → a ≡ b → c ≡ d → IsRun (in_cycles v place times a c) more → IsRun (in_cycles v place times b d) more
    at_sums a b c d e f h = rw (← e, ← f) h
cycles_take v (w ∷ cs) place times cycles rows more follows few_c few_r run =
    let p : Progress = in_cycles v place times cycles rows in
    let can = run_first p (Cycle w) (map Cycle cs ++ more) run in
    let rest = run_rest p (Cycle w) (map Cycle cs ++ more) refl run in
    let fit = fit_counts v places.Cycles 1 times (cycles + 1) (rows + length w) 0 0 can.counts in
    let later = cycles_take v cs places.Cycles times (cycles + 1) (rows + length w) more refl fit.few_cycles fit.few_rows rest in
    let total : total_rows (w ∷ cs) ≡ length w + total_rows cs = sum_by-cons (λ (rs : List SignedRow). length rs) w cs in
    let c : cycles + length (w ∷ cs) ≡ cycles + 1 + length cs = omega arith in
    let r : rows + total_rows (w ∷ cs) ≡ rows + length w + total_rows cs = omega (arith, total) in
    record {
      each = and_both (is_cycle w) (list_all is_cycle cs) (rows_some w can.proper can.within) later.each;
      few_cycles = omega (arith, later.few_cycles);
      few_rows = omega (arith, later.few_rows, total);
      last = later.last;
      follows = later.follows;
      others = rw (c, r) later.others;
    }

-- ---- the times

abbrev in_times : Base → ℕ → Progress
in_times v times = in_cycles v places.Times times 0 0

times_give : (v : Base) (ts : List (ℤ × ℕ)) (times : ℕ) (more : List Item) → list_all is_time ts ≡ true
    → times + length ts ≤ 100000 → IsRun (in_times v (times + length ts)) more
    → IsRun (in_times v times) (map time_item ts ++ more)
times_give v [] times more each few run = let t : times + 0 ≡ times = omega arith in rw t at run
times_give v (t ∷ ts) times more each few run =
    let few_t : times + 1 ≤ 100000 = omega (arith, few) in
    let n : times + length (t ∷ ts) ≡ times + 1 + length ts = omega arith in
    let later = times_give v ts (times + 1) more (and_right (is_time t) (list_all is_time ts) each) (omega (arith, few)) (rw n at run) in
    let can : CanStand (in_times v times) (time_item t) = record {
      allowed = refl;
      proper = tt;
      within = and_left (is_time t) (list_all is_time ts) each;
      counts = counts_fit v places.Times 1 (times + 1) 0 0 0 0 few_t (omega arith) (omega arith) (omega arith) (omega arith);
    } in
    run_onto (in_times v times) (time_item t) (map time_item ts ++ more) can refl later

-- what a run of times says of them, and the run behind it
record AreTimes (v : Base) (ts : List (ℤ × ℕ)) (times : ℕ) (more : List Item) : Type 0 where
  each : list_all is_time ts ≡ true
  few : times + length ts ≤ 100000
  others : IsRun (in_times v (times + length ts)) more

times_take : (v : Base) (ts : List (ℤ × ℕ)) (times : ℕ) (more : List Item) → times ≤ 100000
    → IsRun (in_times v times) (map time_item ts ++ more) → AreTimes v ts times more
times_take v [] times more few run =
    let t : times + 0 ≡ times = omega arith in
    record { each = refl; few = omega (arith, few); others = rw t run }
times_take v (t ∷ ts) times more few run =
    let can = run_first (in_times v times) (time_item t) (map time_item ts ++ more) run in
    let rest = run_rest (in_times v times) (time_item t) (map time_item ts ++ more) refl run in
    let fit = fit_counts v places.Times 1 (times + 1) 0 0 0 0 can.counts in
    let later = times_take v ts (times + 1) more fit.few_times rest in
    let n : times + length (t ∷ ts) ≡ times + 1 + length ts = omega arith in
    record {
      each = and_both (is_time t) (list_all is_time ts) can.within later.each;
      few = omega (arith, later.few);
      others = rw n later.others;
    }

-- ---- a whole content

pub tree_where_cycle : (place : Place) (shows : Bool) → may_follow place shows kinds.Cycle ≡ true → may_follow place shows kinds.Gap ≡ true
tree_where_cycle places.Front shows h = absurd cc
tree_where_cycle places.Marked shows h = absurd cc
tree_where_cycle places.Walks true h = refl
tree_where_cycle places.Walks false h = absurd cc
tree_where_cycle places.Lemma shows h = absurd cc
tree_where_cycle places.Least shows h = absurd cc
tree_where_cycle places.Header shows h = absurd cc
tree_where_cycle places.Period shows h = absurd cc
tree_where_cycle places.Times shows h = refl
tree_where_cycle places.Cycles shows h = refl
tree_where_cycle places.Tree shows h = absurd cc

pub items_shape : {A : Type 0} (t c l e : List A) → ((t ++ c) ++ l) ++ e ≡ t ++ (c ++ (l ++ e))
items_shape t c l e = append_assoc (t ++ c) l e ∙ append_assoc t c (l ++ e)

-- behind the certificate's own first line
abbrev base : (versions : Versions) (version : ℕ) → Base
base versions version =
    record {
      versions = versions;
      version = version;
      walks = 0;
      marked = 0;
      lemmas = 0;
      shows = false;
      few_walks = omega arith;
      few_marked = omega arith;
      few_lemmas = omega arith;
    }

pub own_give : (p : Progress) (c : Content) → allows p kinds.Version ≡ true → ContentKeepsLimits c → IsRun p (own_items c)
own_give p c allowed k =
    let v : Base = base p.versions c.version in
    let tree : List Item = map tree_item c.tree ++ End ∷ [] in
    let others : List Item = ((map time_item c.times ++ map Cycle c.cycles) ++ map tree_item c.tree) ++ End ∷ [] in
    let fit : Fit (0 + length c.times) (0 + length c.cycles) (0 + total_rows c.cycles) (0 + length c.tree) (0 + total_pairs c.tree) =
    record {
      few_times = omega (arith, k.times);
      few_cycles = omega (arith, k.cycles);
      few_rows = omega (arith, k.rows);
      few_lines = omega (arith, k.lines);
      few_pairs = omega (arith, k.pairs);
    } in
    let ended : (last : Place) → IsRun (in_tree v last 0 (0 + length c.times) (0 + length c.cycles) (0 + total_rows c.cycles)
    (0 + length c.tree) (0 + total_pairs c.tree)) (End ∷ []) = λ last. (
      record {
        allowed = refl;
        proper = tt;
        within = refl;
        counts = counts_fit v last 0 (0 + length c.times) (0 + length c.cycles) (0 + total_rows c.cycles) (0 + length c.tree)
            (0 + total_pairs c.tree) fit.few_times fit.few_cycles fit.few_rows fit.few_lines fit.few_pairs;
      },
      refl,
    ) in
    let behind : (last : Place) → may_follow last false kinds.Cycle ≡ true
    → IsRun (in_cycles v last (0 + length c.times) (0 + length c.cycles) (0 + total_rows c.cycles)) tree = λ last f.
    tree_gives v c.tree last 1 (0 + length c.times) (0 + length c.cycles) (0 + total_rows c.cycles) 0 0 (End ∷ [])
    (tree_where_cycle last false f) k.whole k.each_line (lines_known p.versions c.version c.tree ∙ k.known) fit ended in
    let cycles = cycles_give v c.cycles places.Times (0 + length c.times) 0 0 tree refl k.each_cycle
    (omega (arith, k.times)) (omega (arith, k.cycles)) (omega (arith, k.rows)) behind in
    let times = times_give v c.times 0 (map Cycle c.cycles ++ tree) k.each_time (omega (arith, k.times)) cycles in
    let shaped : IsRun (in_times v 0) (((map time_item c.times ++ map Cycle c.cycles)
    ++ map tree_item c.tree) ++ End ∷ []) = rw (items_shape (map time_item c.times) (map Cycle c.cycles)
    (map tree_item c.tree) (End ∷ [])) times in
    let fits : (at : Place) → keeps_counts (in_tree v at 1 0 0 0 0 0) ≡ true = λ at.
    counts_fit v at 1 0 0 0 0 0 (omega arith) (omega arith) (omega arith) (omega arith) (omega arith) in
    let answer = run_onto (in_tree v places.Period 1 0 0 0 0 0) (Says c.answer) others
    (record { allowed = refl; proper = costs_proper c.answer k.answer; within = refl; counts = fits places.Times }) refl
    shaped in
    let within : (nat_le 1 c.period && nat_le c.period 10000) ≡ true = grind (arith, nat_tests, k.period) in
    let version : (nat_le 1 c.version && nat_le c.version 2) ≡ true = grind (arith, nat_tests, k.version) in
    let period = run_onto (in_tree v places.Header 1 0 0 0 0 0) (Period c.period) (Says c.answer ∷ others)
    (record { allowed = refl; proper = tt; within = within; counts = fits places.Period }) refl answer in
    run_onto p (Version c.version) (Period c.period ∷ Says c.answer ∷ others)
    (record {
      allowed = allowed;
      proper = tt;
      within = version;
      counts = fits places.Header;
    }) refl period

le_test : (m n : ℕ) → m ≤ n → nat_le m n ≡ true
le_test m n h = grind (arith, nat_tests, h)

pub cycles_test : (cs : List (List SignedRow)) → length cs ≤ 100000 → total_rows cs ≤ 10000000 → list_all is_cycle cs ≡ true
    → are_cycles cs ≡ true
cycles_test cs few rows each =
    let k1 = and_both (nat_le (length cs) 100000) (nat_le (total_rows cs) 10000000)
    (le_test (length cs) 100000 few) (le_test (total_rows cs) 10000000 rows) in
    and_both (nat_le (length cs) 100000 && nat_le (total_rows cs) 10000000) (list_all is_cycle cs) k1 each

pub lines_test : (ls : List TreeLine) → length ls ≤ 1000000 → total_pairs ls ≤ 20000000 → list_all line_keeps_limits ls ≡ true
    → are_trees 1 (map line_of ls) ≡ true → are_lines ls ≡ true
lines_test ls few pairs each whole =
    let l1 = and_both (nat_le (length ls) 1000000) (nat_le (total_pairs ls) 20000000)
    (le_test (length ls) 1000000 few) (le_test (total_pairs ls) 20000000 pairs) in
    let l2 = and_both (nat_le (length ls) 1000000 && nat_le (total_pairs ls) 20000000) (list_all line_keeps_limits ls) l1 each in
    and_both (nat_le (length ls) 1000000 && nat_le (total_pairs ls) 20000000 && list_all line_keeps_limits ls)
    (are_trees 1 (map line_of ls)) l2 whole

pub own_take : (p : Progress) (c : Content) → IsRun p (own_items c) → keeps_limits c ≡ true
unfolding keeps_limits
own_take p c run =
    let v : Base = base p.versions c.version in
    let tree : List Item = map tree_item c.tree ++ End ∷ [] in
    let others : List Item = ((map time_item c.times ++ map Cycle c.cycles) ++ map tree_item c.tree) ++ End ∷ [] in
    let version = run_first p (Version c.version) (Period c.period ∷ Says c.answer ∷ others) run in
    let behind_version = run_rest p (Version c.version) (Period c.period ∷ Says c.answer ∷ others) refl run in
    let period = run_first (in_tree v places.Header 1 0 0 0 0 0) (Period c.period) (Says c.answer ∷ others) behind_version in
    let behind_period = run_rest (in_tree v places.Header 1 0 0 0 0 0) (Period c.period)
    (Says c.answer ∷ others) refl behind_version in
    let answer = run_first (in_tree v places.Period 1 0 0 0 0 0) (Says c.answer) others behind_period in
    let behind_answer = run_rest (in_tree v places.Period 1 0 0 0 0 0) (Says c.answer) others refl behind_period in
    let shaped : IsRun (in_times v 0) (map time_item c.times ++ (map Cycle c.cycles ++ tree)) =
    rw (items_shape (map time_item c.times) (map Cycle c.cycles) (map tree_item c.tree) (End ∷ [])) at
    behind_answer in
    let times = times_take v c.times 0 (map Cycle c.cycles ++ tree) (omega arith) shaped in
    let cycles = cycles_take v c.cycles places.Times (0 + length c.times) 0 0 tree refl (omega arith) (omega arith) times.others in
    let fit : Fit (0 + length c.times) (0 + length c.cycles) (0 + total_rows c.cycles) 0 0 =
    record {
      few_times = times.few;
      few_cycles = cycles.few_cycles;
      few_rows = cycles.few_rows;
      few_lines = omega arith;
      few_pairs = omega arith;
    } in
    let lines = tree_takes v c.tree cycles.last 1 (0 + length c.times) (0 + length c.cycles)
    (0 + total_rows c.cycles) 0 0 End [] (tree_where_cycle cycles.last false cycles.follows) refl fit cycles.others in
    let t : are_times c.times ≡ true = and_both (nat_le (length c.times) 100000) (list_all is_time c.times)
    (le_test (length c.times) 100000 (omega (arith, times.few))) times.each in
    let k : are_cycles c.cycles ≡ true = cycles_test c.cycles (omega (arith, cycles.few_cycles)) (omega (arith, cycles.few_rows)) cycles.each in
    let l : are_lines c.tree ≡ true = lines_test c.tree (omega (arith, lines.fit.few_lines)) (omega (arith, lines.fit.few_pairs))
    lines.each lines.whole in
    let a = and_both (is_period c.period) (has_costs c.answer) period.within (proper_costs c.answer answer.proper) in
    let at = and_both (is_period c.period && has_costs c.answer) (are_times c.times) a t in
    let atc = and_both (is_period c.period && has_costs c.answer && are_times c.times) (are_cycles c.cycles) at k in
    let atcl = and_both (is_period c.period && has_costs c.answer && are_times c.times && are_cycles c.cycles) (are_lines c.tree) atc l in
    let known = and_both (nat_le 1 c.version && nat_le c.version 2) (list_all (has_line c.version) c.tree) version.within
    (sym (lines_known p.versions c.version c.tree) ∙ lines.known) in
    and_both (is_period c.period && has_costs c.answer && are_times c.times && are_cycles c.cycles
    && are_lines c.tree) (has_lines c.version c.tree) atcl known

pub limits_give : (c : Content) → ContentKeepsLimits c → HasText None c
limits_give c k = record { run = own_give (beginning All) c refl k }

pub text_keeps_limits : (c : Content) → HasText None c → keeps_limits c ≡ true
text_keeps_limits c h = own_take (beginning All) c h.run

pub no_text : (c : Content) → keeps_limits c ≡ false → HasText None c → ⊥
no_text c h text = let bad : true ≡ false = sym (text_keeps_limits c text) ∙ h in cc

pub kept_is_text : (c : Content) → keeps_limits c ≡ true → HasText None c
kept_is_text c h = limits_give c (limits_of c h)

-- the limits are kept exactly by what has a text
pub limits_iff : (c : Content) → ContentKeepsLimits c ↔ HasText None c
limits_iff c = (limits_give c, λ text. limits_of c (text_keeps_limits c text))
