-- A front and a content keep their limits exactly where the items of both are a run.
use Rattle.std.proofs.Common.{◌≡◌, ℕ, ◌+◌, ◌<◌, ◌≤◌, Bool, true, false, ◌&&◌, List, [], ◌∷◌, ◌++◌, length, Option, Some, None, refl, sym, subst, ap, ◌∙◌, arith, append_assoc}
use Rattle.std.specs.Prelude.{◌↔◌, nat_le, nat_lt, nat_abs, map, IfSome}
use Rattle.std.specs.List.{list_all, flat_map}
use Rattle.std.proofs.lemmas.Bool.Decides.{nat_tests}
use Rattle.std.proofs.lemmas.List.Sums.{sum_by-cons}
use Rattle.std.proofs.lemmas.List.Concat.{flat_map-cons}
use Rattle.pesp_problem.specs.declared.marked.MarkedRow.{MarkedRow}
use Rattle.pesp_truth.specs.Marks.{Marks}
use Rattle.pesp_truth.specs.FrontLimits.{is_scale, are_few, is_walk, total_rows, marks_keep_limits as marks_keep_limits}
use Rattle.pesp_problem.specs.declared.row.SignedRow.{SignedRow}
use Rattle.pesp_truth.specs.declared.tree.TreeLine.{TreeLine}
use Rattle.pesp_truth.specs.Trees.{are_trees, line_of}
use Rattle.pesp_truth.specs.Certificates.{Content, Front as FrontOf}
use Rattle.pesp_truth.specs.Shown.{LemmaProof}
use Rattle.pesp_cert_lines.specs.declared.kind.Kind.TheVariants as kinds
use Rattle.pesp_cert_lines.specs.declared.item.Item.{Item}
use Rattle.pesp_cert_lines.specs.declared.item.Item.TheVariants.{Front, Scale, Walk, Lemma, Least, Version, Cycle}
use Rattle.pesp_cert_lines.specs.declared.progress.Place.{Place}
use Rattle.pesp_cert_lines.specs.declared.progress.Place.TheVariants as places
use Rattle.pesp_cert_lines.specs.declared.progress.Progress.{Progress}
use Rattle.pesp_cert_lines.specs.declared.versions.Versions.{Versions}
use Rattle.pesp_cert_lines.specs.declared.versions.Versions.TheVariants.{Plain, All}
use Rattle.pesp_cert_lines.specs.Marked.{are_named}
use Rattle.pesp_cert_lines.specs.Pairs.{rise_from, all_within}
use Rattle.pesp_cert_lines.specs.Counts.{beginning, allows, keeps_counts, kind_in, CanStand}
use Rattle.pesp_cert_lines.proofs.Tests.{and_left, and_right, and_both}
use Rattle.pesp_cert.specs.Limits.{ContentKeepsLimits, are_pairs, is_lemma, are_cycles, is_cycle, total_rows as cycle_rows, are_lines, line_keeps_limits, total_pairs, is_shown_lemma, are_lemmas, front_keeps_limits, keeps_limits}
use Rattle.pesp_cert.specs.Texts.{IsRun, HasText, own_items, tree_item, lemma_items, items_of, takes}
use Rattle.pesp_cert.proofs.LimitFacts.{limits_of, le_of}
use Rattle.pesp_cert.proofs.Runs.{Base, in_tree, in_cycles, Fit, run_onto, run_first, run_rest, items_shape, tree_gives, ends_tree, tree_takes, tree_where_cycle, shown_known, cycles_give, cycles_take, cycles_test, lines_test, own_give, own_take, limits_give, text_keeps_limits}

-- ---- marked walks, of a front or of a lemma

-- behind so many marked walks with so many marked rows
abbrev in_walks : (versions : Versions) (lemmas : ℕ) (shows : Bool) (walks marked : ℕ) → Progress
in_walks versions lemmas shows walks marked =
    record {
      versions = versions;
      place = places.Walks;
      version = 0;
      needs = 1;
      times = 0;
      cycles = 0;
      rows = 0;
      lines = 0;
      pairs = 0;
      walks = walks;
      marked = marked;
      lemmas = lemmas;
      shows = shows;
    }

fit : (versions : Versions) (lemmas : ℕ) (shows : Bool) (walks marked : ℕ) → lemmas ≤ 100000 → walks ≤ 100000 → marked ≤ 10000000
    → keeps_counts (in_walks versions lemmas shows walks marked) ≡ true
fit versions lemmas shows walks marked l a b = grind (arith, nat_tests, l, a, b)

few_walks : (versions : Versions) (lemmas : ℕ) (shows : Bool) (walks marked : ℕ)
    → keeps_counts (in_walks versions lemmas shows walks marked) ≡ true → walks ≤ 100000
few_walks versions lemmas shows walks marked h = grind (arith, nat_tests, h)

few_marked : (versions : Versions) (lemmas : ℕ) (shows : Bool) (walks marked : ℕ)
    → keeps_counts (in_walks versions lemmas shows walks marked) ≡ true → marked ≤ 10000000
few_marked versions lemmas shows walks marked h = grind (arith, nat_tests, h)

some_rows : (walk : List MarkedRow) → is_walk walk ≡ true → 0 < length walk
some_rows walk h = let some = and_left (nat_le 1 (length walk)) (are_named walk) h in grind (arith, nat_tests, some)

rows_some : (walk : List MarkedRow) → 0 < length walk → are_named walk ≡ true → is_walk walk ≡ true
rows_some walk h k = let some : nat_le 1 (length walk) ≡ true = grind (arith, nat_tests, h) in
    and_both (nat_le 1 (length walk)) (are_named walk) some k

module _ (versions : Versions) (lemmas : ℕ) (shows : Bool) where
  abbrev walking : (walks marked : ℕ) → Progress
  walking walks marked = in_walks versions lemmas shows walks marked

  walks_give : (ws : List (List MarkedRow)) (walks marked : ℕ) (more : List Item) → lemmas ≤ 100000 → list_all is_walk ws ≡ true
      → walks + length ws ≤ 100000 → marked + total_rows ws ≤ 10000000
      → IsRun (walking (walks + length ws) (marked + total_rows ws)) more
      → IsRun (walking walks marked) (map Walk ws ++ more)
  walks_give [] walks marked more few_l each few_w few_m run =
      let w : walks + 0 ≡ walks = omega arith in
      let m : marked + 0 ≡ marked = omega arith in
      rw (w, m) at run
  walks_give (x ∷ ws) walks marked more few_l each few_w few_m run =
      let one = and_left (is_walk x) (list_all is_walk ws) each in
      let total : total_rows (x ∷ ws) ≡ length x + total_rows ws = sum_by-cons (λ (walk : List MarkedRow). length walk) x ws in
      let w : walks + length (x ∷ ws) ≡ walks + 1 + length ws = omega arith in
      let m : marked + total_rows (x ∷ ws) ≡ marked + length x + total_rows ws = omega (arith, total) in
      let later = walks_give ws (walks + 1) (marked + length x) more few_l (and_right (is_walk x) (list_all is_walk ws) each)
      (omega (arith, few_w)) (omega (arith, few_m, total)) (rw (w, m) at run) in
      let can : CanStand (walking walks marked) (Walk x) = record {
        allowed = refl;
        proper = some_rows x one;
        within = and_right (nat_le 1 (length x)) (are_named x) one;
        counts = fit versions lemmas shows (walks + 1) (marked + length x) few_l (omega (arith, few_w)) (omega (arith, few_m, total));
      } in
      run_onto (walking walks marked) (Walk x) (map Walk ws ++ more) can refl later

  -- what a run of marked walks says of them, and the run behind it
  record AreWalks (ws : List (List MarkedRow)) (walks marked : ℕ) (more : List Item) : Type 0 where
    each : list_all is_walk ws ≡ true
    few_w : walks + length ws ≤ 100000
    few_m : marked + total_rows ws ≤ 10000000
    others : IsRun (walking (walks + length ws) (marked + total_rows ws)) more

  walks_take : (ws : List (List MarkedRow)) (walks marked : ℕ) (more : List Item) → walks ≤ 100000 → marked ≤ 10000000
      → IsRun (walking walks marked) (map Walk ws ++ more) → AreWalks ws walks marked more
  walks_take [] walks marked more few_w few_m run =
      let w : walks ≡ walks + 0 = omega arith in
      let m : marked ≡ marked + 0 = omega arith in
      record {
        each = refl;
        few_w = omega (arith, few_w);
        few_m = omega (arith, few_m);
        others = at_sums walks (walks + 0) marked (marked + 0) w m run;
      }
    where
      at_sums : (a b c d : ℕ) → a ≡ b → c ≡ d → IsRun (walking a c) more → IsRun (walking b d) more
      at_sums a b c d e f h = rw (← e, ← f) h
  walks_take (x ∷ ws) walks marked more few_w few_m run =
      let can = run_first (walking walks marked) (Walk x) (map Walk ws ++ more) run in
      let rest = run_rest (walking walks marked) (Walk x) (map Walk ws ++ more) refl run in
      let later = walks_take ws (walks + 1) (marked + length x) more
      (few_walks versions lemmas shows (walks + 1) (marked + length x) can.counts)
      (few_marked versions lemmas shows (walks + 1) (marked + length x) can.counts) rest in
      let total : total_rows (x ∷ ws) ≡ length x + total_rows ws = sum_by-cons (λ (walk : List MarkedRow). length walk) x ws in
      let w : walks + length (x ∷ ws) ≡ walks + 1 + length ws = omega arith in
      let m : marked + total_rows (x ∷ ws) ≡ marked + length x + total_rows ws = omega (arith, total) in
      record {
        each = and_both (is_walk x) (list_all is_walk ws) (rows_some x can.proper can.within) later.each;
        few_w = omega (arith, later.few_w);
        few_m = omega (arith, later.few_m, total);
        others = rw (w, m) later.others;
      }

-- the limits of marks as facts, and back
record MarksKeep (marks : Marks) : Type 0 where
  scale : is_scale marks.scale ≡ true
  walks : length marks.walks ≤ 100000
  rows : total_rows marks.walks ≤ 10000000
  each : list_all is_walk marks.walks ≡ true

marks_of : (marks : Marks) → marks_keep_limits marks ≡ true → MarksKeep marks
marks_of marks h =
    let both = and_left (is_scale marks.scale && are_few (length marks.walks) (total_rows marks.walks)) (list_all is_walk marks.walks) h in
    let few = and_right (is_scale marks.scale) (are_few (length marks.walks) (total_rows marks.walks)) both in
    record {
      scale = and_left (is_scale marks.scale) (are_few (length marks.walks) (total_rows marks.walks)) both;
      walks = le_of (length marks.walks) 100000 (and_left (nat_le (length marks.walks) 100000) (nat_le (total_rows marks.walks) 10000000) few);
      rows = le_of (total_rows marks.walks) 10000000 (and_right (nat_le (length marks.walks) 100000) (nat_le (total_rows marks.walks) 10000000) few);
      each = and_right (is_scale marks.scale && are_few (length marks.walks) (total_rows marks.walks)) (list_all is_walk marks.walks) h;
    }

lt_of : (m n : ℕ) → nat_lt m n ≡ true → m < n
lt_of m n h = grind (arith, nat_tests, h)

lt_test : (m n : ℕ) → m < n → nat_lt m n ≡ true
lt_test m n h = grind (arith, nat_tests, h)

le_test : (m n : ℕ) → m ≤ n → nat_le m n ≡ true
le_test m n h = grind (arith, nat_tests, h)

marks_keep : (marks : Marks) → MarksKeep marks → marks_keep_limits marks ≡ true
marks_keep marks k =
    let few = and_both (nat_le (length marks.walks) 100000) (nat_le (total_rows marks.walks) 10000000)
    (le_test (length marks.walks) 100000 k.walks) (le_test (total_rows marks.walks) 10000000 k.rows) in
    and_both (is_scale marks.scale && are_few (length marks.walks) (total_rows marks.walks)) (list_all is_walk marks.walks)
    (and_both (is_scale marks.scale) (are_few (length marks.walks) (total_rows marks.walks)) k.scale few) k.each

-- ---- one lemma

-- the limits of a lemma and of what shows it
record LemmaKeeps (s : LemmaProof) : Type 0 where
  rise : rise_from 0 s.fact.weights ≡ true
  within : all_within s.fact.weights ≡ true
  least : nat_lt (nat_abs s.fact.least) 1000000000000000000 ≡ true
  marks : MarksKeep s.marks
  cycles : are_cycles s.cycles ≡ true
  lines : are_lines s.tree ≡ true

lemma_of : (s : LemmaProof) → is_shown_lemma s ≡ true → LemmaKeeps s
unfolding is_shown_lemma
lemma_of s h =
    let abc = and_left (is_lemma s.fact && marks_keep_limits s.marks && are_cycles s.cycles) (are_lines s.tree) h in
    let ab = and_left (is_lemma s.fact && marks_keep_limits s.marks) (are_cycles s.cycles) abc in
    let a = and_left (is_lemma s.fact) (marks_keep_limits s.marks) ab in
    let pairs = and_left (are_pairs s.fact.weights) (nat_lt (nat_abs s.fact.least) 1000000000000000000) a in
    record {
      rise = and_left (rise_from 0 s.fact.weights) (all_within s.fact.weights) pairs;
      within = and_right (rise_from 0 s.fact.weights) (all_within s.fact.weights) pairs;
      least = and_right (are_pairs s.fact.weights) (nat_lt (nat_abs s.fact.least) 1000000000000000000) a;
      marks = marks_of s.marks (and_right (is_lemma s.fact) (marks_keep_limits s.marks) ab);
      cycles = and_right (is_lemma s.fact && marks_keep_limits s.marks) (are_cycles s.cycles) abc;
      lines = and_right (is_lemma s.fact && marks_keep_limits s.marks && are_cycles s.cycles) (are_lines s.tree) h;
    }

lemma_keeps : (s : LemmaProof) → LemmaKeeps s → is_shown_lemma s ≡ true
unfolding is_shown_lemma
lemma_keeps s k =
    let pairs = and_both (rise_from 0 s.fact.weights) (all_within s.fact.weights) k.rise k.within in
    let a = and_both (are_pairs s.fact.weights) (nat_lt (nat_abs s.fact.least) 1000000000000000000) pairs k.least in
    let ab = and_both (is_lemma s.fact) (marks_keep_limits s.marks) a (marks_keep s.marks k.marks) in
    let abc = and_both (is_lemma s.fact && marks_keep_limits s.marks) (are_cycles s.cycles) ab k.cycles in
    and_both (is_lemma s.fact && marks_keep_limits s.marks && are_cycles s.cycles) (are_lines s.tree) abc k.lines

-- ---- a lemma behind others, or behind the walks of a front

-- behind the rows of a lemma, and behind its least sum
abbrev headed : (versions : Versions) (lemmas : ℕ) → Progress
headed versions lemmas = record (beginning versions) { place = places.Lemma; lemmas = lemmas; shows = true }

abbrev bounded : (versions : Versions) (lemmas : ℕ) → Progress
bounded versions lemmas = record (beginning versions) { place = places.Least; lemmas = lemmas; shows = true }

-- what doesn't change behind the marked walks of a lemma
abbrev shown_base : (versions : Versions) (lemmas : ℕ) (ws : List (List MarkedRow)) → lemmas ≤ 100000 → 0 + length ws ≤ 100000
    → 0 + total_rows ws ≤ 10000000 → Base
shown_base versions lemmas ws few_l few_w few_m =
    record {
      versions = versions;
      version = 0;
      walks = 0 + length ws;
      marked = 0 + total_rows ws;
      lemmas = lemmas;
      shows = true;
      few_walks = few_w;
      few_marked = few_m;
      few_lemmas = few_l;
    }

-- behind the tree of a lemma
abbrev shown_all : Base → Place → LemmaProof → Progress
shown_all v last s = in_tree v last 0 0 (0 + length s.cycles) (0 + cycle_rows s.cycles) (0 + length s.tree) (0 + total_pairs s.tree)

cycle_facts : (cs : List (List SignedRow)) → are_cycles cs ≡ true
    → (length cs ≤ 100000) × (cycle_rows cs ≤ 10000000) × (list_all is_cycle cs ≡ true)
cycle_facts cs h =
    let few = and_left (nat_le (length cs) 100000 && nat_le (cycle_rows cs) 10000000) (list_all is_cycle cs) h in (
      le_of (length cs) 100000 (and_left (nat_le (length cs) 100000) (nat_le (cycle_rows cs) 10000000) few),
      le_of (cycle_rows cs) 10000000 (and_right (nat_le (length cs) 100000) (nat_le (cycle_rows cs) 10000000) few),
      and_right (nat_le (length cs) 100000 && nat_le (cycle_rows cs) 10000000) (list_all is_cycle cs) h,
    )

line_facts : (ls : List TreeLine) → are_lines ls ≡ true → (length ls ≤ 1000000) × (total_pairs ls ≤ 20000000)
    × (list_all line_keeps_limits ls ≡ true) × (are_trees 1 (map line_of ls) ≡ true)
line_facts ls h =
    let l1 = and_left (nat_le (length ls) 1000000 && nat_le (total_pairs ls) 20000000 && list_all line_keeps_limits ls) (are_trees 1 (map line_of ls)) h in
    let l2 = and_left (nat_le (length ls) 1000000 && nat_le (total_pairs ls) 20000000) (list_all line_keeps_limits ls) l1 in (
      le_of (length ls) 1000000 (and_left (nat_le (length ls) 1000000) (nat_le (total_pairs ls) 20000000) l2),
      le_of (total_pairs ls) 20000000 (and_right (nat_le (length ls) 1000000) (nat_le (total_pairs ls) 20000000) l2),
      and_right (nat_le (length ls) 1000000 && nat_le (total_pairs ls) 20000000) (list_all line_keeps_limits ls) l1,
      and_right (nat_le (length ls) 1000000 && nat_le (total_pairs ls) 20000000 && list_all line_keeps_limits ls) (are_trees 1 (map line_of ls)) h,
    )

-- the cycles and the tree of a lemma, behind its marked walks
module _ (versions : Versions) (lemmas : ℕ) (ws : List (List MarkedRow)) (few_l : lemmas ≤ 100000) (few_w : 0 + length ws ≤ 100000)
    (few_m : 0 + total_rows ws ≤ 10000000) where
  abbrev v : Base
  v = shown_base versions lemmas ws few_l few_w few_m

  inside_give : (s : LemmaProof) (more : List Item) → are_cycles s.cycles ≡ true → are_lines s.tree ≡ true
      → ((last : Place) → IsRun (shown_all v last s) more)
      → IsRun (in_cycles v places.Walks 0 0 0) (map Cycle s.cycles ++ (map tree_item s.tree ++ more))
  inside_give s more cycles lines others =
      let c = cycle_facts s.cycles cycles in
      let l = line_facts s.tree lines in
      let fits : Fit 0 (0 + length s.cycles) (0 + cycle_rows s.cycles) (0 + length s.tree) (0 + total_pairs s.tree) =
      record {
        few_times = omega arith;
        few_cycles = omega (arith, c.0);
        few_rows = omega (arith, c.1);
        few_lines = omega (arith, l.0);
        few_pairs = omega (arith, l.1);
      } in
      cycles_give v s.cycles places.Walks 0 0 0 (map tree_item s.tree ++ more) refl c.2 (omega arith) (omega (arith, c.0)) (omega (arith, c.1))
      (λ last f. tree_gives v s.tree last 1 0 (0 + length s.cycles) (0 + cycle_rows s.cycles) 0 0 more
      (tree_where_cycle last true f) l.3 l.2 (shown_known versions 0 s.tree) fits others)

lemma_give : (p : Progress) (s : LemmaProof) (more : List Item) (few : p.lemmas + 1 ≤ 100000) (k : LemmaKeeps s)
    → allows p kinds.Lemma ≡ true → ((last : Place) → IsRun (shown_all (shown_base p.versions (p.lemmas + 1) s.marks.walks few
    (omega (arith, k.marks.walks)) (omega (arith, k.marks.rows))) last s) more)
    → IsRun p (lemma_items s ++ more)
lemma_give p s more few k allowed others =
    let w : List Item = map Walk s.marks.walks in
    let c : List Item = map Cycle s.cycles in
    let t : List Item = map tree_item s.tree in
    let inside = inside_give p.versions (p.lemmas + 1) s.marks.walks few (omega (arith, k.marks.walks)) (omega (arith, k.marks.rows))
    s more k.cycles k.lines others in
    let walks = walks_give p.versions (p.lemmas + 1) true s.marks.walks 0 0 (c ++ (t ++ more)) few k.marks.each
    (omega (arith, k.marks.walks)) (omega (arith, k.marks.rows)) inside in
    let shaped : IsRun (in_walks p.versions (p.lemmas + 1) true 0 0) (((w ++ c) ++ t) ++ more) = rw (items_shape w c t more) walks in
    let fits : (place : Place) → keeps_counts (record (beginning p.versions) {
      place = place;
      lemmas = p.lemmas + 1;
      shows = true;
    }) ≡ true = λ place. grind (arith, nat_tests, few) in
    let scale = run_onto (bounded p.versions (p.lemmas + 1)) (Scale s.marks.scale) (((w ++ c) ++ t) ++ more)
    (record { allowed = refl; proper = tt; within = k.marks.scale; counts = fits places.Walks }) refl shaped in
    let least = run_onto (headed p.versions (p.lemmas + 1)) (Least s.fact.least) (Scale s.marks.scale ∷ ((w ++ c) ++ t) ++ more)
    (record {
      allowed = refl;
      proper = lt_of (nat_abs s.fact.least) 1000000000000000000 k.least;
      within = refl;
      counts = fits places.Least;
    }) refl scale in
    run_onto p (Lemma s.fact.weights) (Least s.fact.least ∷ Scale s.marks.scale ∷ ((w ++ c) ++ t) ++ more)
    (record { allowed = allowed; proper = k.rise; within = k.within; counts = fits places.Lemma }) refl least

-- what a run says of a lemma, and the run behind it
record IsLemmaRun (p : Progress) (s : LemmaProof) (more : List Item) : Type 0 where
  keeps : LemmaKeeps s
  few : p.lemmas + 1 ≤ 100000
  few_w : 0 + length s.marks.walks ≤ 100000
  few_m : 0 + total_rows s.marks.walks ≤ 10000000
  last : Place
  others : IsRun (shown_all (shown_base p.versions (p.lemmas + 1) s.marks.walks few few_w few_m) last s) more

few_lemmas : (versions : Versions) (lemmas : ℕ) → keeps_counts (headed versions lemmas) ≡ true → lemmas ≤ 100000
few_lemmas versions lemmas h = grind (arith, nat_tests, h)

lemma_take : (p : Progress) (s : LemmaProof) (item : Item) (more : List Item) → ends_tree (kind_in item) ≡ true
    → IsRun p (lemma_items s ++ item ∷ more) → IsLemmaRun p s (item ∷ more)
lemma_take p s item more ends run =
    let w : List Item = map Walk s.marks.walks in
    let c : List Item = map Cycle s.cycles in
    let t : List Item = map tree_item s.tree in
    let rest : List Item = ((w ++ c) ++ t) ++ item ∷ more in
    let rows = run_first p (Lemma s.fact.weights) (Least s.fact.least ∷ Scale s.marks.scale ∷ rest) run in
    let behind_rows = run_rest p (Lemma s.fact.weights) (Least s.fact.least ∷ Scale s.marks.scale ∷ rest) refl run in
    let few = few_lemmas p.versions (p.lemmas + 1) rows.counts in
    let least = run_first (headed p.versions (p.lemmas + 1)) (Least s.fact.least) (Scale s.marks.scale ∷ rest) behind_rows in
    let behind_least = run_rest (headed p.versions (p.lemmas + 1)) (Least s.fact.least) (Scale s.marks.scale ∷ rest) refl behind_rows in
    let scale = run_first (bounded p.versions (p.lemmas + 1)) (Scale s.marks.scale) rest behind_least in
    let behind_scale = run_rest (bounded p.versions (p.lemmas + 1)) (Scale s.marks.scale) rest refl behind_least in
    let shaped : IsRun (in_walks p.versions (p.lemmas + 1) true 0 0) (w ++ (c ++ (t ++ item ∷ more))) =
    rw (items_shape w c t (item ∷ more)) at behind_scale in
    let walks = walks_take p.versions (p.lemmas + 1) true s.marks.walks 0 0 (c ++ (t ++ item ∷ more)) (omega arith) (omega arith) shaped in
    let v : Base = shown_base p.versions (p.lemmas + 1) s.marks.walks few walks.few_w walks.few_m in
    let cycles = cycles_take v s.cycles places.Walks 0 0 0 (t ++ item ∷ more) refl (omega arith) (omega arith) walks.others in
    let fits : Fit 0 (0 + length s.cycles) (0 + cycle_rows s.cycles) 0 0 =
    record {
      few_times = omega arith;
      few_cycles = cycles.few_cycles;
      few_rows = cycles.few_rows;
      few_lines = omega arith;
      few_pairs = omega arith;
    } in
    let tree = tree_takes v s.tree cycles.last 1 0 (0 + length s.cycles) (0 + cycle_rows s.cycles) 0 0 item more
    (tree_where_cycle cycles.last true cycles.follows) ends fits cycles.others in
    record {
      keeps = record {
        rise = rows.proper;
        within = rows.within;
        least = lt_test (nat_abs s.fact.least) 1000000000000000000 least.proper;
        marks = record {
          scale = scale.within;
          walks = omega (arith, walks.few_w);
          rows = omega (arith, walks.few_m);
          each = walks.each;
        };
        cycles = cycles_test s.cycles (omega (arith, cycles.few_cycles)) (omega (arith, cycles.few_rows)) cycles.each;
        lines = lines_test s.tree (omega (arith, tree.fit.few_lines)) (omega (arith, tree.fit.few_pairs)) tree.each tree.whole;
      };
      few = few;
      few_w = walks.few_w;
      few_m = walks.few_m;
      last = tree.last;
      others = tree.others;
    }

-- ---- all lemmas, and the content behind them

pub lemmas_shape : (s : LemmaProof) (ss : List LemmaProof) (own : List Item)
    → flat_map lemma_items (s ∷ ss) ++ own ≡ lemma_items s ++ (flat_map lemma_items ss ++ own)
lemmas_shape s ss own = ap (λ (is : List Item). is ++ own) (flat_map-cons lemma_items s ss)
    ∙ append_assoc (lemma_items s) (flat_map lemma_items ss) own

lemmas_give : (ss : List LemmaProof) (p : Progress) (c : Content) → allows p kinds.Version ≡ true → allows p kinds.Lemma ≡ true
    → p.lemmas + length ss ≤ 100000 → list_all is_shown_lemma ss ≡ true → ContentKeepsLimits c → IsRun p (flat_map lemma_items ss ++ own_items c)
lemmas_give [] p c version lemma few each keeps = own_give p c version keeps
lemmas_give (s ∷ ss) p c version lemma few each keeps =
    let k = lemma_of s (and_left (is_shown_lemma s) (list_all is_shown_lemma ss) each) in
    let rest = and_right (is_shown_lemma s) (list_all is_shown_lemma ss) each in
    let P : List Item → Type 0 = λ is. IsRun p is in
    subst P (sym (lemmas_shape s ss (own_items c))) (lemma_give p s (flat_map lemma_items ss ++ own_items c) (omega (arith, few)) k lemma
    (λ last. lemmas_give ss _ c refl refl (omega (arith, few)) rest keeps))

-- the first of the items behind a lemma
record Begins (items : List Item) : Type 0 where
  item : Item
  more : List Item
  ends : ends_tree (kind_in item) ≡ true
  is : items ≡ item ∷ more

behind_lemma : (ss : List LemmaProof) (c : Content) → Begins (flat_map lemma_items ss ++ own_items c)
behind_lemma [] c = record { item = Version c.version; more = _; ends = refl; is = refl }
behind_lemma (s ∷ ss) c = record { item = Lemma s.fact.weights; more = _; ends = refl; is = lemmas_shape s ss (own_items c) }

lemmas_take : (ss : List LemmaProof) (p : Progress) (c : Content) → p.lemmas ≤ 100000 → IsRun p (flat_map lemma_items ss ++ own_items c)
    → (p.lemmas + length ss ≤ 100000) × (list_all is_shown_lemma ss ≡ true) × (keeps_limits c ≡ true)
lemmas_take [] p c few run = (omega (arith, few), refl, own_take p c run)
lemmas_take (s ∷ ss) p c few run =
    let rest : List Item = flat_map lemma_items ss ++ own_items c in
    let begins = behind_lemma ss c in
    let R : List Item → Type 0 = λ is. IsRun p is in
    let shaped : IsRun p (lemma_items s ++ rest) = subst R (lemmas_shape s ss (own_items c)) run in
    let P : List Item → Type 0 = λ is. IsRun p (lemma_items s ++ is) in
    let one = lemma_take p s begins.item begins.more begins.ends (subst P begins.is shaped) in
    let Q : List Item → Type 0 = λ is. IsRun (shown_all (shown_base p.versions (p.lemmas + 1) s.marks.walks one.few one.few_w one.few_m) one.last s) is in
    let later = lemmas_take ss _ c one.few (subst Q (sym begins.is) one.others) in (
      omega (arith, later.0),
      and_both (is_shown_lemma s) (list_all is_shown_lemma ss) (lemma_keeps s one.keeps) later.1,
      later.2,
    )

-- ---- the whole

front_give : (f : FrontOf) (c : Content) → front_keeps_limits f ≡ true → ContentKeepsLimits c → HasText (Some f) c
unfolding front_keeps_limits
front_give f c h k =
    let marks = marks_of f.marks (and_left (marks_keep_limits f.marks) (are_lemmas f.lemmas) h) in
    let lemmas = and_right (marks_keep_limits f.marks) (are_lemmas f.lemmas) h in
    let few = le_of (length f.lemmas) 100000 (and_left (nat_le (length f.lemmas) 100000) (list_all is_shown_lemma f.lemmas) lemmas) in
    let each = and_right (nat_le (length f.lemmas) 100000) (list_all is_shown_lemma f.lemmas) lemmas in
    let w : List Item = map Walk f.marks.walks in
    let ls : List Item = flat_map lemma_items f.lemmas in
    let behind = lemmas_give f.lemmas (in_walks All 0 false (0 + length f.marks.walks) (0 + total_rows f.marks.walks)) c refl refl
    (omega (arith, few)) each k in
    let walks = walks_give All 0 false f.marks.walks 0 0 (ls ++ own_items c) (omega arith) marks.each (omega (arith, marks.walks))
    (omega (arith, marks.rows)) behind in
    let shaped : IsRun (in_walks All 0 false 0 0) ((w ++ ls) ++ own_items c) = rw (append_assoc w ls (own_items c)) walks in
    let marked : Progress = record (beginning All) { place = places.Marked } in
    let scale = run_onto marked (Scale f.marks.scale) ((w ++ ls) ++ own_items c)
    (record { allowed = refl; proper = tt; within = marks.scale; counts = refl }) refl shaped in
    record {
      run = run_onto (beginning All) Front (Scale f.marks.scale ∷ (w ++ ls) ++ own_items c)
          (record { allowed = refl; proper = tt; within = refl; counts = refl }) refl scale;
    }

front_take : (f : FrontOf) (c : Content) → HasText (Some f) c → (front_keeps_limits f ≡ true) × ContentKeepsLimits c
unfolding front_keeps_limits
front_take f c h =
    let w : List Item = map Walk f.marks.walks in
    let ls : List Item = flat_map lemma_items f.lemmas in
    let marked : Progress = record (beginning All) { place = places.Marked } in
    let behind = run_rest (beginning All) Front (Scale f.marks.scale ∷ (w ++ ls) ++ own_items c) refl h.run in
    let scale = run_first marked (Scale f.marks.scale) ((w ++ ls) ++ own_items c) behind in
    let walks = run_rest marked (Scale f.marks.scale) ((w ++ ls) ++ own_items c) refl behind in
    let shaped : IsRun (in_walks All 0 false 0 0) (w ++ (ls ++ own_items c)) = rw (append_assoc w ls (own_items c)) at walks in
    let t = walks_take All 0 false f.marks.walks 0 0 (ls ++ own_items c) (omega arith) (omega arith) shaped in
    let l = lemmas_take f.lemmas (in_walks All 0 false (0 + length f.marks.walks) (0 + total_rows f.marks.walks)) c (omega arith) t.others in
    let marks : MarksKeep f.marks = record {
      scale = scale.within;
      walks = omega (arith, t.few_w);
      rows = omega (arith, t.few_m);
      each = t.each;
    } in (
      and_both (marks_keep_limits f.marks) (are_lemmas f.lemmas) (marks_keep f.marks marks)
          (and_both (nat_le (length f.lemmas) 100000) (list_all is_shown_lemma f.lemmas) (le_test (length f.lemmas) 100000 (omega (arith, l.0))) l.1),
      limits_of c l.2,
    )

pub fronts_iff : (front : Option FrontOf) (c : Content) → (IfSome front (λ f. front_keeps_limits f ≡ true) × ContentKeepsLimits c) ↔ HasText front c
fronts_iff None c = (λ k. limits_give c k.1, λ h. (tt, limits_of c (text_keeps_limits c h)))
fronts_iff (Some f) c = (λ k. front_give f c k.0 k.1, front_take f c)

-- where these versions are taken it is a run from the beginning
pub has_text : (versions : Versions) (front : Option FrontOf) (c : Content) → takes versions front ≡ true
    → IsRun (beginning versions) (items_of front c) → HasText front c
has_text All front c taken run = record { run = run }
has_text Plain None c taken run = limits_give c (limits_of c (own_take (beginning Plain) c run))
has_text Plain (Some f) c taken run = absurd cc

pub text_run : (versions : Versions) (front : Option FrontOf) (c : Content) → takes versions front ≡ true
    → HasText front c → IsRun (beginning versions) (items_of front c)
text_run All front c taken h = h.run
text_run Plain None c taken h = own_give (beginning Plain) c refl (limits_of c (text_keeps_limits c h))
text_run Plain (Some f) c taken h = absurd cc
