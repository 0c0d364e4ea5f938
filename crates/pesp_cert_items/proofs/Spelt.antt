-- What is spelt as works is read so, whatever stands behind it.
use Rattle.std.proofs.Common.{◌≡◌, ℕ, ◌+◌, Bool, true, false, not, List, [], ◌∷◌, ◌++◌, Result, Ok, refl, sym, ap, ◌∙◌, append_assoc, append-nil}
use Rattle.std.specs.Prelude.{ℤ, map}
use Rattle.std.specs.List.{list_all, flat_map, AllByRecursion}
use Rattle.std.proofs.lemmas.List.Concat.{flat_map-cons}
use Rattle.std.proofs.lemmas.List.Splits.{slice_split_at}
use Rattle.pesp_truth.specs.declared.tree.TreeLine.{TreeLine}
use Rattle.pesp_truth.specs.declared.tree.TreeLine.TheVariants as lines
use Rattle.pesp_truth.specs.Certificates.{Content}
use Rattle.pesp_stream.specs.Words.{pieces, words_of, line_of_words, is_byte}
use Rattle.pesp_cert_lines.specs.declared.item.Item.{Item}
use Rattle.pesp_cert_lines.specs.declared.item.Item.TheVariants.{End}
use Rattle.pesp_cert_lines.specs.declared.progress.Progress.{Progress}
use Rattle.pesp_cert_lines.specs.Items.{item_words, item_line}
use Rattle.pesp_cert_lines.specs.Counts.{progress_after, CanStand}
use Rattle.pesp_cert_lines.proofs.Tests.{and_left, and_right, and_both}
use Rattle.pesp_cert_lines.proofs.LineLaws.{line_read, words_of-item}
use Rattle.pesp_cert.specs.declared.refusal.CertRefusal.{CertRefusal}
use Rattle.pesp_cert.specs.Texts.{IsRun, time_item, tree_item}
use Rattle.pesp_cert.specs.Drafts.{blank, added}
use Rattle.pesp_cert_items.proofs.Added.{all_added, end_adds, times_added, tree_added}
use Rattle.pesp_cert.proofs.ShortLaws.{IsShort, run_short}
use Rattle.pesp_cert.proofs.TextSteps.{nonempty}
use Rattle.pesp_cert.proofs.TextLaws.{no_lf, line_cut}
use Rattle.pesp_cert_items.specs.Works.{WorkValue, HEADER, job_line, work_items, work_progress, work_spelling, spellings, HasWorkText}
use Rattle.pesp_cert_items.specs.Lines.{begins_cycle, work_line_at}
use Rattle.pesp_cert_items.specs.Refusals.{Front, Job, Inside, made, onto, works_from}
use Rattle.pesp_cert_items.specs.Steps.{given}
use Rattle.pesp_cert_items.proofs.Steps.{at_empty, at_header, at_job, at_end, at_item}
use Rattle.pesp_cert_items.proofs.Jobs.{job_read, job_short, job_lf}
use Rattle.pesp_cert_items.proofs.Founds.{is_other}

-- ---- a work has no cycle

all_append : {A : Type 0} (t : A → Bool) (xs ys : List A) → list_all t xs ≡ true → list_all t ys ≡ true → list_all t (xs ++ ys) ≡ true
all_append t [] ys h k = k
all_append t (x ∷ xs) ys h k = and_both (t x) (list_all t (xs ++ ys)) (and_left (t x) (list_all t xs) h)
    (all_append t xs ys (and_right (t x) (list_all t xs) h) k)

line_other : (line : TreeLine) → is_other (tree_item line) ≡ true
line_other (lines.Slack row k) = refl
line_other (lines.Offset cycle k) = refl
line_other (lines.Bound ps) = refl
line_other (lines.Nothing ps) = refl
line_other (lines.Gap cycle) = refl
line_other lines.Propagated = refl

times_other : (ts : List (ℤ × ℕ)) → list_all is_other (map time_item ts) ≡ true
times_other [] = refl
times_other (t ∷ ts) = times_other ts

tree_other : (ls : List TreeLine) → list_all is_other (map tree_item ls) ≡ true
tree_other [] = refl
tree_other (line ∷ ls) = and_both (is_other (tree_item line)) (list_all is_other (map tree_item ls)) (line_other line) (tree_other ls)

items_other : (w : WorkValue) → list_all is_other (work_items w) ≡ true
items_other w = all_append is_other (map time_item w.times) (map tree_item w.tree ++ End ∷ [])
    (times_other w.times) (all_append is_other (map tree_item w.tree) (End ∷ []) (tree_other w.tree) refl)

not_true : (b : Bool) → not b ≡ true → b ≡ false
not_true true h = absurd cc
not_true false h = refl

work_line_read : (p : Progress) (item : Item) → CanStand p item → is_other item ≡ true
    → work_line_at p (line_of_words (item_words item)) ≡ Ok item
unfolding work_line_at
work_line_read p item can other =
    let words : begins_cycle (words_of (line_of_words (item_words item)))
    ≡ false = ap begins_cycle (words_of-item item can.proper can.within)
    ∙ not_true (begins_cycle (item_words item)) other in
    rw words (line_read p item can)

-- ---- lines in front of others

-- the lines give a work, and behind it the others give what they give
pub record IsRead (n : ℕ) (first : Result (List WorkValue) CertRefusal) (w : WorkValue) (more : List ℕ) : Type 0 where
  pub number : ℕ
  pub same : first ≡ onto w (given number Front more)

lines_read : (items : List Item) (n job : ℕ) (p : Progress) (c : Content) (more : List ℕ) → IsRun p items
    → list_all is_other items ≡ true → AllByRecursion IsShort items
    → IsRead n (given n (Inside job p c) (flat_map item_line items ++ more)) (made job (all_added c items)) more
lines_read [] n job p c more run other short = absurd run
lines_read (item ∷ []) n job p c more run other short =
    let some = nonempty more in
    let cut : pieces 10 (flat_map item_line (item ∷ []) ++ more)
    ≡ line_of_words (item_words item) ∷ some.0 ∷ some.1 =
    ap (λ (t : List ℕ). pieces 10 (t ++ more)) (flat_map-cons item_line item [] ∙ append-nil (item_line item))
    ∙ line_cut p item more run.0 ∙ ap (λ (ps : List (List ℕ)). line_of_words (item_words item) ∷ ps) some.2 in
    let read = work_line_read p item run.0 (and_left (is_other item) true other) in
    let step = at_end n job p c (line_of_words (item_words item)) some.0 some.1 item short.0 read run.1 in
    record {
      number = n + 1;
      same = rw (cut, end_adds c item run.1) (step
          ∙ ap (λ (ps : List (List ℕ)). onto (made job c) (works_from (n + 1) Front ps)) (sym some.2));
    }
lines_read (item ∷ next ∷ others) n job p c more run other short =
    let rest : List ℕ = flat_map item_line (next ∷ others) ++ more in
    let some = nonempty rest in
    let cut : pieces 10 (flat_map item_line (item ∷ next ∷ others) ++ more)
    ≡ line_of_words (item_words item) ∷ some.0 ∷ some.1 =
    ap (λ (t : List ℕ). pieces 10 (t ++ more)) (flat_map-cons item_line item (next ∷ others))
    ∙ ap (pieces 10) (append_assoc (item_line item) (flat_map item_line (next ∷ others)) more)
    ∙ line_cut p item rest run.0 ∙ ap (λ (ps : List (List ℕ)). line_of_words (item_words item) ∷ ps) some.2 in
    let read = work_line_read p item run.0 (and_left (is_other item) (list_all is_other (next ∷ others)) other) in
    let step = at_item n job p c (line_of_words (item_words item)) some.0 some.1 item short.0 read run.1 in
    let later = lines_read (next ∷ others) (n + 1) job (progress_after p item) (added c item) more run.2
    (and_right (is_other item) (list_all is_other (next ∷ others)) other) short.1 in
    record {
      number = later.number;
      same = rw cut (step ∙ ap (works_from (n + 1) (Inside job (progress_after p item) (added c item))) (sym some.2) ∙ later.same);
    }

-- ---- a work in front of others

added_up : (w : WorkValue) → made w.job (all_added blank (work_items w)) ≡ w
added_up w = ap (made w.job) (times_added blank w.times (map tree_item w.tree ++ End ∷ [])
    ∙ tree_added (record blank { times = w.times }) w.tree (End ∷ []))

job_read_at : (n : ℕ) (w : WorkValue) (more : List ℕ) → HasWorkText w
    → IsRead n (given n Job ((job_line w.job ++ 10 ∷ flat_map item_line (work_items w)) ++ more)) w more
job_read_at n w more h =
    let rest : List ℕ = flat_map item_line (work_items w) ++ more in
    let some = nonempty rest in
    let shape : (job_line w.job ++ 10 ∷ flat_map item_line (work_items w)) ++ more
    ≡ job_line w.job ++ 10 ∷ rest = append_assoc (job_line w.job) (10 ∷ flat_map item_line (work_items w)) more in
    let split : pieces 10 (job_line w.job ++ 10 ∷ rest)
    ≡ job_line w.job ∷ pieces 10 rest = slice_split_at (is_byte 10) (job_line w.job) 10 rest
    (job_lf w.job h.job) refl in
    let cut : pieces 10 ((job_line w.job ++ 10 ∷ flat_map item_line (work_items w)) ++ more)
    ≡ job_line w.job ∷ some.0 ∷ some.1 = ap (pieces 10) shape ∙ split
    ∙ ap (λ (ps : List (List ℕ)). job_line w.job ∷ ps) some.2 in
    let step = at_job n (job_line w.job) some.0 some.1 w.job (job_short w.job h.job) (job_read w.job h.job) in
    let later = lines_read (work_items w) (n + 1) w.job work_progress blank more h.run (items_other w) (run_short work_progress (work_items w) h.run) in
    record {
      number = later.number;
      same = ap (works_from n Job) cut ∙ step ∙ ap (works_from (n + 1) (Inside w.job work_progress blank)) (sym some.2)
          ∙ later.same ∙ ap (λ (v : WorkValue). onto v (given later.number Front more)) (added_up w);
    }

pub work_read : (n : ℕ) (w : WorkValue) (more : List ℕ) → HasWorkText w → IsRead n (given n Front (work_spelling w ++ more)) w more
work_read n w more h =
    let behind : List ℕ = job_line w.job ++ 10 ∷ flat_map item_line (work_items w) in
    let rest : List ℕ = behind ++ more in
    let some = nonempty rest in
    let shape : work_spelling w ++ more ≡ HEADER ++ 10 ∷ rest = append_assoc HEADER (10 ∷ behind) more in
    let split : pieces 10 (HEADER ++ 10 ∷ rest)
    ≡ HEADER ∷ pieces 10 rest = slice_split_at (is_byte 10) HEADER 10 rest (no_lf HEADER refl) refl in
    let cut : pieces 10 (work_spelling w ++ more) ≡ HEADER ∷ some.0 ∷ some.1 = ap (pieces 10) shape ∙ split
    ∙ ap (λ (ps : List (List ℕ)). HEADER ∷ ps) some.2 in
    let step = at_header n HEADER some.0 some.1 refl in
    let later = job_read_at (n + 1) w more h in
    record {
      number = later.number;
      same = ap (works_from n Front) cut ∙ step ∙ ap (works_from (n + 1) Job) (sym some.2) ∙ later.same;
    }

pub works_read : (ws : List WorkValue) (n : ℕ) → AllByRecursion HasWorkText ws → given n Front (spellings ws) ≡ Ok ws
works_read [] n h = at_empty n
works_read (w ∷ ws) n h =
    let one = work_read n w (spellings ws) h.0 in
    ap (given n Front) (flat_map-cons work_spelling w ws) ∙ one.same ∙ ap (onto w) (works_read ws one.number h.1)
