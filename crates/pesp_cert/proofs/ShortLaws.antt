-- No line of a certificate is too long.
use Rattle.std.proofs.Common.{◌≡◌, ℕ, suc, ◌+◌, ◌*◌, ◌<◌, ◌≤◌, ◌^◌, Bool, true, false, List, [], ◌∷◌, ◌++◌, length, Some, None, arith, length-append}
use Rattle.std.specs.Prelude.{ℤ, pos, negsuc, nat_abs, codes, decimal}
use Rattle.std.specs.List.{AllByRecursion}
use Rattle.std.specs.Fmt.{signed_decimal}
use Rattle.std.proofs.lemmas.Bool.Decides.{nat_tests}
use Rattle.std.proofs.lemmas.Fmt.{length-decimal-le}
use Rattle.pesp_problem.specs.declared.row.SignedRow.{SignedRow}
use Rattle.pesp_problem.specs.declared.pair.Pair.{Pair}
use Rattle.pesp_truth.specs.declared.answer.Answer.TheVariants as answers
use Rattle.pesp_cert_lines.specs.declared.progress.Progress.{Progress}
use Rattle.pesp_stream.specs.Number.{NATURALS}
use Rattle.pesp_stream.specs.Words.{spaced, line_of_words}
use Rattle.pesp_cert_lines.specs.Pairs.{pair_words, is_pair_within, all_within, follows, rise_from}
use Rattle.pesp_cert_lines.specs.declared.item.Item.{Item}
use Rattle.pesp_cert_lines.specs.declared.item.Item.TheVariants.{Front, Scale, Walk, Lemma, Least, Version, Period, Answer as Says, Time, Cycle, Slack, Offset, Bound, Nothing, Gap, Propagated, End}
use Rattle.pesp_cert_lines.specs.Rows.{is_name, rows_are_named, row_word, row_words}
use Rattle.pesp_problem.specs.declared.marked.MarkedRow.{MarkedRow}
use Rattle.pesp_cert_lines.specs.Marked.{star, marked_word, marked_words, are_named}
use Rattle.pesp_cert_lines.specs.Items.{item_words}
use Rattle.pesp_cert_lines.specs.Counts.{progress_after, CanStand}
use Rattle.pesp_cert.specs.Texts.{IsRun}
use Rattle.pesp_cert_lines.specs.Lines.{LONGEST}
use Rattle.pesp_cert_lines.proofs.Tests.{and_left, and_right}
use Rattle.pesp_cert_lines.proofs.WordLaws.{cycle_below, mult_below}

-- a line that is not too long
abbrev pub IsShort : Item → Type 0
IsShort item = length (line_of_words (item_words item)) ≤ LONGEST

pub nat_len : (n : ℕ) → n < NATURALS → length (decimal n) ≤ 18
nat_len n lt = length-decimal-le 18 n (omega arith) (omega (arith, lt)) (omega (arith, lt))

pub int_len : (z : ℤ) → nat_abs z < NATURALS → length (signed_decimal z) ≤ 19
int_len (pos n) lt = omega (arith, nat_len n lt)
int_len (negsuc n) lt = omega (arith, nat_len (suc n) lt)

-- the pairs rise below 100001, so there are few of them
pub pairs_few : (least : ℕ) (ps : List Pair) → least ≤ 100001 → rise_from least ps ≡ true → all_within ps ≡ true
    → least + length ps ≤ 100001
pairs_few least [] le h k = omega (arith, le)
pairs_few least (p ∷ ps) le h k =
    let within = and_left (is_pair_within p) (all_within ps) k in
    let small : p.cycle ≤ 100000 = grind (arith, nat_tests, within) in
    let first = and_left (follows least p) (rise_from (p.cycle + 1) ps) h in
    let low : least ≤ p.cycle = grind (arith, nat_tests, first) in
    let rest = and_right (follows least p) (rise_from (p.cycle + 1) ps) h in
    omega (arith, low, pairs_few (p.cycle + 1) ps (omega (arith, small)) rest (and_right (is_pair_within p) (all_within ps) k))

pub pairs_len : (ps : List Pair) → all_within ps ≡ true → length (spaced (pair_words ps)) ≤ 39 * length ps
pairs_len [] h = omega arith
pairs_len (p ∷ ps) h =
    let one = and_left (is_pair_within p) (all_within ps) h in
    let rest = spaced (pair_words ps) in
    let second : length (signed_decimal p.mult ++ rest)
    ≡ length (signed_decimal p.mult) + length rest = length-append (signed_decimal p.mult) rest in
    let first : length (decimal p.cycle ++ 32 ∷ (signed_decimal p.mult ++ rest))
    ≡ length (decimal p.cycle) + suc (length (signed_decimal p.mult ++ rest)) =
    length-append (decimal p.cycle) (32 ∷ (signed_decimal p.mult ++ rest)) in
    omega (
      arith,
      first,
      second,
      nat_len p.cycle (cycle_below p one),
      int_len p.mult (mult_below p one),
      pairs_len ps (and_right (is_pair_within p) (all_within ps) h),
    )

leaf_short : (ps : List Pair) → rise_from 0 ps ≡ true → all_within ps ≡ true → length (spaced (pair_words ps)) ≤ 3900039
leaf_short ps h k = omega (arith, pairs_len ps k, pairs_few 0 ps (omega arith) h k)

row_len : (r : SignedRow) → is_name r.row ≡ true → length (row_word r) ≤ 7
row_len r h = omega (arith, length-decimal-le 6 r.row (omega arith) (named h) (omega (arith, named h)))
  where
    named : is_name r.row ≡ true → r.row < 10 ^ 6
    named h = grind (arith, nat_tests, h)

pub rows_len : (rs : List SignedRow) → rows_are_named rs ≡ true → length (spaced (row_words rs)) ≤ 8 * length rs
rows_len [] h = omega arith
rows_len (r ∷ rs) h =
    let first : length (row_word r ++ spaced (row_words rs))
    ≡ length (row_word r) + length (spaced (row_words rs)) =
    length-append (row_word r) (spaced (row_words rs)) in
    omega (
      arith,
      first,
      row_len r (and_left (is_name r.row) (rows_are_named rs) h),
      rows_len rs (and_right (is_name r.row) (rows_are_named rs) h),
    )

star_len : (flipped : Bool) → length (star flipped) ≤ 1
star_len true = omega arith
star_len false = omega arith

pub marked_len : (walk : List MarkedRow) → are_named walk ≡ true → length (spaced (marked_words walk)) ≤ 9 * length walk
marked_len [] h = omega arith
marked_len (s ∷ walk) h = omega (
  arith,
  row_len s.signed (and_left (is_name s.signed.row) (are_named walk) h),
  star_len s.flipped,
  length-append (row_word s.signed) (star s.flipped),
  length-append (marked_word s) (spaced (marked_words walk)),
  marked_len walk (and_right (is_name s.signed.row) (are_named walk) h),
)

one_short : (w a : List ℕ) → length w ≤ 100 → length a ≤ 100 → length (w ++ ((32 ∷ a) ++ [])) ≤ 100000000
one_short w a h k = omega (arith, length-append w (32 ∷ (a ++ [])), length-append a [], h, k)

two_short : (w a b : List ℕ) → length w ≤ 100 → length a ≤ 100 → length b ≤ 100 → length (w ++ ((32 ∷ a) ++ ((32 ∷ b) ++ []))) ≤ 100000000
two_short w a b h k l = omega (
  arith,
  length-append w (32 ∷ (a ++ (32 ∷ (b ++ [])))),
  length-append a (32 ∷ (b ++ [])),
  length-append b [],
  h,
  k,
  l,
)

list_short : (w a : List ℕ) → length w ≤ 100 → length a ≤ 99999000 → length (w ++ a) ≤ 100000000
list_short w a h k = omega (arith, length-append w a, h, k)

nat100 : (n : ℕ) → n < NATURALS → length (decimal n) ≤ 100
nat100 n lt = omega (arith, nat_len n lt)

int100 : (z : ℤ) → nat_abs z < NATURALS → length (signed_decimal z) ≤ 100
int100 z lt = omega (arith, int_len z lt)

pub can_short : (p : Progress) (item : Item) → CanStand p item → IsShort item
can_short p Front can = omega arith
can_short p (Scale n) can = one_short (codes "scale") (decimal n) (omega arith) (nat100 n (grind (arith, nat_tests, can.within)))
can_short p (Walk rs) can =
    let few : length rs ≤ 10000000 = grind (arith, nat_tests, can.counts) in
    list_short (codes "walk") (spaced (marked_words rs)) (omega arith) (omega (arith, marked_len rs can.within, few))
can_short p (Lemma ps) can = list_short (codes "lemma") (spaced (pair_words ps)) (omega arith)
    (omega (arith, leaf_short ps can.proper can.within))
can_short p (Least n) can = one_short (codes "least") (signed_decimal n) (omega arith) (int100 n can.proper)
can_short p (Version n) can = one_short (codes "pesp-certificate") (decimal n) (omega arith)
    (nat100 n (grind (arith, nat_tests, can.within)))
can_short p (Period n) can = one_short (codes "period") (decimal n) (omega arith) (nat100 n (grind (arith, nat_tests, can.within)))
can_short p (Says (answers.Optimal c)) can = one_short (codes "answer optimal") (decimal c) (omega arith) (nat100 c can.proper)
can_short p (Says answers.Infeasible) can = omega arith
can_short p (Says (answers.Bounded least None)) can =
    two_short (codes "answer open") (decimal least) (codes "none") (omega arith) (nat100 least can.proper.0)
    (omega arith)
can_short p (Says (answers.Bounded least (Some c))) can =
    two_short (codes "answer open") (decimal least) (decimal c) (omega arith) (nat100 least can.proper.0)
    (nat100 c can.proper.1)
can_short p (Time label time) can = two_short (codes "time") (signed_decimal label) (decimal time) (omega arith)
    (int100 label (grind (arith, nat_tests, can.within))) (nat100 time (grind (arith, nat_tests, can.within)))
can_short p (Cycle rs) can =
    let few : length rs ≤ 10000000 = grind (arith, nat_tests, can.counts) in
    list_short (codes "cycle") (spaced (row_words rs)) (omega arith) (omega (arith, rows_len rs can.within, few))
can_short p (Slack row k) can = two_short (codes "s") (decimal row) (decimal k) (omega arith)
    (nat100 row (grind (arith, nat_tests, can.within))) (nat100 k (grind (arith, nat_tests, can.within)))
can_short p (Offset cycle k) can = two_short (codes "o") (decimal cycle) (signed_decimal k) (omega arith)
    (nat100 cycle (grind (arith, nat_tests, can.within))) (int100 k (grind (arith, nat_tests, can.within)))
can_short p (Bound ps) can = list_short (codes "b") (spaced (pair_words ps)) (omega arith)
    (omega (arith, leaf_short ps can.proper can.within))
can_short p (Nothing ps) can = list_short (codes "n") (spaced (pair_words ps)) (omega arith)
    (omega (arith, leaf_short ps can.proper can.within))
can_short p (Gap cycle) can = one_short (codes "g") (decimal cycle) (omega arith) (nat100 cycle (grind (arith, nat_tests, can.within)))
can_short p Propagated can = omega arith
can_short p End can = omega arith

pub run_short : (p : Progress) (items : List Item) → IsRun p items → AllByRecursion IsShort items
run_short p [] run = absurd run
run_short p (item ∷ []) run = (can_short p item run.0, tt)
run_short p (item ∷ next ∷ more) run = (can_short p item run.0, run_short (progress_after p item) (next ∷ more) run.2)
