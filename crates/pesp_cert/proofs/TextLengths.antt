-- How long a certificate's text can be.
use Rattle.std.proofs.Common.{◌≡◌, ℕ, ◌+◌, ◌*◌, ◌<◌, ◌≤◌, true, List, [], ◌∷◌, ◌++◌, length, Some, None, refl, arith, length-append}
use Rattle.std.specs.Prelude.{◌&&◌, ℤ, codes, decimal, map}
use Rattle.std.specs.List.{flat_map, list_all}
use Rattle.std.specs.Fmt.{signed_decimal}
use Rattle.std.proofs.lemmas.Bool.Decides.{nat_tests}
use Rattle.std.proofs.lemmas.List.Sums.{sum_by-cons}
use Rattle.pesp_problem.specs.declared.row.SignedRow.{SignedRow}
use Rattle.pesp_problem.specs.declared.pair.Pair.{Pair}
use Rattle.pesp_truth.specs.declared.answer.Answer.{Answer}
use Rattle.pesp_truth.specs.declared.answer.Answer.TheVariants as answers
use Rattle.pesp_truth.specs.declared.tree.TreeLine.{TreeLine}
use Rattle.pesp_truth.specs.declared.tree.TreeLine.TheVariants as lines
use Rattle.pesp_truth.specs.Certificates.{Content}
use Rattle.pesp_stream.specs.Words.{spaced}
use Rattle.pesp_cert_lines.specs.Pairs.{pair_words, rise_from, all_within}
use Rattle.pesp_cert_lines.specs.declared.item.Item.{Item}
use Rattle.pesp_cert_lines.specs.declared.item.Item.TheVariants.{Version, Period, Answer as Says, Cycle, End}
use Rattle.pesp_cert_lines.specs.Rows.{rows_are_named, row_words}
use Rattle.pesp_cert_lines.specs.Items.{item_line}
use Rattle.pesp_cert_lines.proofs.Tests.{and_left, and_right}
use Rattle.pesp_cert.specs.Limits.{has_costs, is_time, is_cycle, total_rows, line_keeps_limits, count_pairs, total_pairs, ContentKeepsLimits}
use Rattle.pesp_cert.specs.Texts.{HasText, time_item, tree_item, spelling}
use Rattle.pesp_cert.proofs.LimitFacts.{limits_of}
use Rattle.pesp_cert.proofs.Runs.{text_keeps_limits}
use Rattle.pesp_cert.proofs.ShortLaws.{nat_len, int_len, rows_len, pairs_len}

-- how many bytes the lines of these items have
abbrev bytes_in : List Item → ℕ
bytes_in items = length (flat_map item_line items)

bytes-onto : (item : Item) (rest : List Item) → bytes_in (item ∷ rest) ≡ length (item_line item) + bytes_in rest
bytes-onto item rest = length-append (item_line item) (flat_map item_line rest)

bytes-append : (xs ys : List Item) → bytes_in (xs ++ ys) ≡ bytes_in xs + bytes_in ys
bytes-append [] ys = omega arith
bytes-append (x ∷ xs) ys = omega (arith, bytes-onto x xs, bytes-onto x (xs ++ ys), bytes-append xs ys)

-- ---- one line

one_len : (w a : List ℕ) → length ((w ++ ((32 ∷ a) ++ [])) ++ 10 ∷ []) ≡ length w + length a + 2
one_len w a = omega (arith, length-append (w ++ ((32 ∷ a) ++ [])) (10 ∷ []), length-append w ((32 ∷ a) ++ []), length-append (32 ∷ a) [])

two_len : (w a b : List ℕ) → length ((w ++ ((32 ∷ a) ++ ((32 ∷ b) ++ []))) ++ 10 ∷ []) ≡ length w + length a + length b + 3
two_len w a b =
    omega (
      arith,
      length-append (w ++ ((32 ∷ a) ++ ((32 ∷ b) ++ []))) (10 ∷ []),
      length-append w ((32 ∷ a) ++ ((32 ∷ b) ++ [])),
      length-append (32 ∷ a) ((32 ∷ b) ++ []),
      length-append (32 ∷ b) [],
    )

list_len : (w a : List ℕ) → length ((w ++ a) ++ 10 ∷ []) ≡ length w + length a + 1
list_len w a = omega (arith, length-append (w ++ a) (10 ∷ []), length-append w a)

version_len : (n : ℕ) → n ≤ 2 → length (item_line (Version n)) ≤ 50
version_len n le = omega (arith, one_len (codes "pesp-certificate") (decimal n), nat_len n (omega (arith, le)))

period_len : (n : ℕ) → n ≤ 10000 → length (item_line (Period n)) ≤ 50
period_len n le = omega (arith, one_len (codes "period") (decimal n), nat_len n (omega (arith, le)))

answer_len : (a : Answer) → has_costs a ≡ true → length (item_line (Says a)) ≤ 60
answer_len (answers.Optimal c) h = omega (arith, one_len (codes "answer optimal") (decimal c), nat_len c (grind (arith, nat_tests, h)))
answer_len answers.Infeasible h = omega arith
answer_len (answers.Bounded least None) h = omega (
  arith,
  two_len (codes "answer open") (decimal least) (codes "none"),
  nat_len least (grind (arith, nat_tests, h)),
)
answer_len (answers.Bounded least (Some c)) h =
    omega (
      arith,
      two_len (codes "answer open") (decimal least) (decimal c),
      nat_len least (grind (arith, nat_tests, h)),
      nat_len c (grind (arith, nat_tests, h)),
    )

time_len : (t : ℤ × ℕ) → is_time t ≡ true → length (item_line (time_item t)) ≤ 50
time_len (label, time) h = omega (
  arith,
  two_len (codes "time") (signed_decimal label) (decimal time),
  int_len label (grind (arith, nat_tests, h)),
  nat_len time (grind (arith, nat_tests, h)),
)

cycle_len : (rs : List SignedRow) → is_cycle rs ≡ true → length (item_line (Cycle rs)) ≤ 6 + 8 * length rs
cycle_len rs h = omega (arith, list_len (codes "cycle") (spaced (row_words rs)), rows_len rs (and_right _ (rows_are_named rs) h))

leaf_len : (w : List ℕ) (ps : List Pair) → length w ≤ 1 → rise_from 0 ps && all_within ps ≡ true
    → length ((w ++ spaced (pair_words ps)) ++ 10 ∷ []) ≤ 50 + 39 * length ps
leaf_len w ps one h = omega (arith, one, list_len w (spaced (pair_words ps)), pairs_len ps (and_right (rise_from 0 ps) (all_within ps) h))

line_len : (line : TreeLine) → line_keeps_limits line ≡ true → length (item_line (tree_item line)) ≤ 50 + 39 * count_pairs line
line_len (lines.Slack row k) h = omega (
  arith,
  two_len (codes "s") (decimal row) (decimal k),
  nat_len row (grind (arith, nat_tests, h)),
  nat_len k (grind (arith, nat_tests, h)),
)
line_len (lines.Offset cycle k) h = omega (
  arith,
  two_len (codes "o") (decimal cycle) (signed_decimal k),
  nat_len cycle (grind (arith, nat_tests, h)),
  int_len k (grind (arith, nat_tests, h)),
)
line_len (lines.Bound ps) h = leaf_len (codes "b") ps (omega arith) h
line_len (lines.Nothing ps) h = leaf_len (codes "n") ps (omega arith) h
line_len (lines.Gap cycle) h = omega (arith, one_len (codes "g") (decimal cycle), nat_len cycle (grind (arith, nat_tests, h)))
line_len lines.Propagated h = omega arith

-- ---- all lines of a kind

times_len : (ts : List (ℤ × ℕ)) → list_all is_time ts ≡ true → bytes_in (map time_item ts) ≤ 50 * length ts
times_len [] h = omega arith
times_len (t ∷ ts) h =
    omega (
      arith,
      bytes-onto (time_item t) (map time_item ts),
      time_len t (and_left (is_time t) (list_all is_time ts) h),
      times_len ts (and_right (is_time t) (list_all is_time ts) h),
    )

cycles_len : (cs : List (List SignedRow)) → list_all is_cycle cs ≡ true → bytes_in (map Cycle cs) ≤ 6 * length cs + 8 * total_rows cs
cycles_len [] h = omega arith
cycles_len (w ∷ cs) h =
    let total : total_rows (w ∷ cs) ≡ length w + total_rows cs = sum_by-cons (λ (rs : List SignedRow). length rs) w cs in
    omega (
      arith,
      total,
      bytes-onto (Cycle w) (map Cycle cs),
      cycle_len w (and_left (is_cycle w) (list_all is_cycle cs) h),
      cycles_len cs (and_right (is_cycle w) (list_all is_cycle cs) h),
    )

tree_len : (ls : List TreeLine) → list_all line_keeps_limits ls ≡ true → bytes_in (map tree_item ls) ≤ 50 * length ls + 39 * total_pairs ls
tree_len [] h = omega arith
tree_len (l ∷ ls) h =
    let total : total_pairs (l ∷ ls) ≡ count_pairs l + total_pairs ls = sum_by-cons count_pairs l ls in
    omega (
      arith,
      total,
      bytes-onto (tree_item l) (map tree_item ls),
      line_len l (and_left (line_keeps_limits l) (list_all line_keeps_limits ls) h),
      tree_len ls (and_right (line_keeps_limits l) (list_all line_keeps_limits ls) h),
    )

-- ---- the whole text

others_len : (c : Content) → ContentKeepsLimits c → bytes_in
    (((map time_item c.times ++ map Cycle c.cycles) ++ map tree_item c.tree) ++ End ∷ []) ≤ 1000000000
others_len c k =
    let last : bytes_in (End ∷ []) ≡ 4 = refl in
    omega (
      arith,
      last,
      bytes-append ((map time_item c.times ++ map Cycle c.cycles) ++ map tree_item c.tree) (End ∷ []),
      bytes-append (map time_item c.times ++ map Cycle c.cycles) (map tree_item c.tree),
      bytes-append (map time_item c.times) (map Cycle c.cycles),
      times_len c.times k.each_time,
      cycles_len c.cycles k.each_cycle,
      tree_len c.tree k.each_line,
      k.times,
      k.cycles,
      k.rows,
      k.lines,
      k.pairs,
    )

-- no certificate's text has so many bytes
pub texts_short : (c : Content) → HasText None c → length (spelling None c) < 1073741824
texts_short c text =
    let k = limits_of c (text_keeps_limits c text) in
    let others : List Item = ((map time_item c.times ++ map Cycle c.cycles) ++ map tree_item c.tree) ++ End ∷ [] in
    omega (
      arith,
      bytes-onto (Version c.version) (Period c.period ∷ Says c.answer ∷ others),
      version_len c.version k.version.1,
      bytes-onto (Period c.period) (Says c.answer ∷ others),
      bytes-onto (Says c.answer) others,
      period_len c.period k.period.1,
      answer_len c.answer k.answer,
      others_len c k,
    )
