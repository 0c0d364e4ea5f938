-- The pieces in which a certificate is sent are its text.
use Rattle.std.proofs.Common.{◌≡◌, ℕ, Bool, true, false, List, [], ◌∷◌, ◌++◌, Some, None, refl, sym, ap, ◌∙◌, append_assoc}
use Rattle.std.specs.Prelude.{ℤ, map, codes, decimal}
use Rattle.std.specs.Fmt.{signed_decimal}
use Rattle.std.specs.List.{flat_map}
use Rattle.std.proofs.lemmas.List.{append-nil}
use Rattle.std.proofs.lemmas.List.Concat.{flat_map-cons, flat_map-append}
use Rattle.pesp_problem.specs.declared.row.SignedRow.{SignedRow}
use Rattle.pesp_problem.specs.declared.pair.Pair.{Pair}
use Rattle.pesp_truth.specs.declared.answer.Answer.{Answer}
use Rattle.pesp_truth.specs.declared.answer.Answer.TheVariants as answers
use Rattle.pesp_truth.specs.declared.tree.TreeLine.{TreeLine}
use Rattle.pesp_truth.specs.declared.tree.TreeLine.TheVariants as lines
use Rattle.pesp_truth.specs.Certificates.{Content}
use Rattle.pesp_stream.specs.Words.{spaced}
use Rattle.pesp_cert_lines.specs.Pairs.{pair_words}
use Rattle.pesp_cert_lines.specs.Rows.{row_words}
use Rattle.pesp_cert_lines.specs.declared.item.Item.{Item}
use Rattle.pesp_cert_lines.specs.declared.item.Item.TheVariants.{Version, Period, Answer as Says, Cycle, End}
use Rattle.pesp_cert_lines.specs.Items.{item_line}
use Rattle.pesp_cert.specs.Print.{head_lines, time_line, pairs_text, pair_text, row_text, rows_text, cycle_line, tree_line_text, answer_line, certificate_text}
use Rattle.pesp_cert.specs.Texts.{time_item, tree_item, spelling}

one_word : (w a : List ℕ) → (w ++ ((32 ∷ a) ++ [])) ++ 10 ∷ [] ≡ ((w ++ 32 ∷ []) ++ a) ++ 10 ∷ []
one_word w a = simp (append_assoc, append-nil)

two_words_by : (w sp a b lf : List ℕ) → (w ++ ((sp ++ a) ++ ((sp ++ b) ++ []))) ++ lf ≡ ((((w ++ sp) ++ a) ++ sp) ++ b) ++ lf
two_words_by w sp a b lf = simp (append_assoc, append-nil)

two_words : (w a b : List ℕ) → (w ++ ((32 ∷ a) ++ ((32 ∷ b) ++ []))) ++ 10 ∷ [] ≡ ((((w ++ 32 ∷ []) ++ a) ++ 32 ∷ []) ++ b) ++ 10 ∷ []
two_words w a b = two_words_by w (32 ∷ []) a b (10 ∷ [])

pair_shape : (a b r : List ℕ) → (32 ∷ a) ++ ((32 ∷ b) ++ r) ≡ ((((32 ∷ []) ++ a) ++ 32 ∷ []) ++ b) ++ r
pair_shape a b r = simp append_assoc

whole_shape : (h p a t c r e : List ℕ) → h ++ (p ++ (a ++ (((t ++ c) ++ r) ++ e))) ≡ (((((h ++ p) ++ a) ++ t) ++ c) ++ r) ++ e
whole_shape h p a t c r e = simp append_assoc

pub pairs_are : (ps : List Pair) → spaced (pair_words ps) ≡ pairs_text ps
pairs_are [] = refl
pairs_are (p ∷ ps) = pair_shape (decimal p.cycle) (signed_decimal p.mult) (spaced (pair_words ps))
    ∙ ap (λ (t : List ℕ). pair_text p ++ t) (pairs_are ps) ∙ sym (flat_map-cons pair_text p ps)

rows_are : (rs : List SignedRow) → spaced (row_words rs) ≡ rows_text rs
rows_are [] = refl
rows_are (r ∷ rs) = go r.plus ∙ ap (λ (t : List ℕ). row_text r ++ t) (rows_are rs) ∙ sym (flat_map-cons row_text r rs)
  where
    go : (plus : Bool) → spaced (row_words (record { row = r.row; plus = plus } ∷ rs))
        ≡ row_text (record { row = r.row; plus = plus }) ++ spaced (row_words rs)
    go true = refl
    go false = refl

two_lines : (v w sp a b lf : List ℕ) → ((v ++ ((sp ++ a) ++ [])) ++ lf) ++ ((w ++ ((sp ++ b) ++ [])) ++ lf)
    ≡ ((((v ++ sp) ++ a) ++ (lf ++ (w ++ sp))) ++ b) ++ lf
two_lines v w sp a b lf = simp (append_assoc, append-nil)

head_is : (version n : ℕ) → item_line (Version version) ++ item_line (Period n) ≡ head_lines version n
head_is version n = two_lines (codes "pesp-certificate") (codes "period") (32 ∷ []) (decimal version) (decimal n) (10 ∷ [])

answer_is : (a : Answer) → item_line (Says a) ≡ answer_line a
answer_is (answers.Optimal c) = one_word (codes "answer optimal") (decimal c)
answer_is answers.Infeasible = refl
answer_is (answers.Bounded least None) = two_words (codes "answer open") (decimal least) (codes "none")
answer_is (answers.Bounded least (Some c)) = two_words (codes "answer open") (decimal least) (decimal c)

pub time_is : (t : ℤ × ℕ) → item_line (time_item t) ≡ time_line t
time_is t = two_words (codes "time") (signed_decimal t.0) (decimal t.1)

pub cycle_is : (rs : List SignedRow) → item_line (Cycle rs) ≡ cycle_line rs
cycle_is rs = ap (λ (t : List ℕ). (codes "cycle" ++ t) ++ 10 ∷ []) (rows_are rs)

pub tree_is : (line : TreeLine) → item_line (tree_item line) ≡ tree_line_text line
tree_is (lines.Slack row k) = two_words (codes "s") (decimal row) (decimal k)
tree_is (lines.Offset cycle k) = two_words (codes "o") (decimal cycle) (signed_decimal k)
tree_is (lines.Bound ps) = ap (λ (t : List ℕ). (codes "b" ++ t) ++ 10 ∷ []) (pairs_are ps)
tree_is (lines.Nothing ps) = ap (λ (t : List ℕ). (codes "n" ++ t) ++ 10 ∷ []) (pairs_are ps)
tree_is (lines.Gap cycle) = one_word (codes "g") (decimal cycle)
tree_is lines.Propagated = refl

pub mapped : {A : Type 0} (f : A → Item) (g : A → List ℕ) → ((x : A) → item_line (f x) ≡ g x) → (xs : List A)
    → flat_map item_line (map f xs) ≡ flat_map g xs
mapped f g same [] = refl
mapped f g same (x ∷ xs) = flat_map-cons item_line (f x) (map f xs)
    ∙ ap (λ (t : List ℕ). t ++ flat_map item_line (map f xs)) (same x)
    ∙ ap (λ (t : List ℕ). g x ++ t) (mapped f g same xs) ∙ sym (flat_map-cons g x xs)

pub certificate_is : (c : Content) → certificate_text c ≡ spelling None c
certificate_is c =
    let ts = map time_item c.times in
    let cs = map Cycle c.cycles in
    let others : List Item = ((ts ++ cs) ++ map tree_item c.tree) ++ End ∷ [] in
    let rest : flat_map item_line others ≡ ((flat_map time_line c.times ++ flat_map cycle_line c.cycles)
    ++ flat_map tree_line_text c.tree) ++ codes "end\n" =
    rw (
      flat_map-append item_line ((ts ++ cs) ++ map tree_item c.tree) (End ∷ []),
      flat_map-append item_line (ts ++ cs) (map tree_item c.tree),
      flat_map-append item_line ts cs,
      mapped time_item time_line time_is c.times,
      mapped Cycle cycle_line cycle_is c.cycles,
      mapped tree_item tree_line_text tree_is c.tree,
    ) refl in
    let first : List ℕ = item_line (Version c.version) in
    let all : spelling None c ≡ first ++ (item_line (Period c.period)
    ++ (answer_line c.answer ++ (((flat_map time_line c.times ++ flat_map cycle_line c.cycles)
    ++ flat_map tree_line_text c.tree) ++ codes "end\n"))) =
    flat_map-cons item_line (Version c.version) (Period c.period ∷ Says c.answer ∷ others)
    ∙ ap (λ (t : List ℕ). first ++ t) (flat_map-cons item_line (Period c.period) (Says c.answer ∷ others)
    ∙ ap (λ (t : List ℕ). item_line (Period c.period) ++ t)
    (flat_map-cons item_line (Says c.answer) others
    ∙ ap (λ (t : List ℕ). t ++ flat_map item_line others) (answer_is c.answer)
    ∙ ap (λ (t : List ℕ). answer_line c.answer ++ t) rest)) in
    sym (all ∙ whole_shape first (item_line (Period c.period)) (answer_line c.answer) (flat_map time_line c.times)
    (flat_map cycle_line c.cycles) (flat_map tree_line_text c.tree) (codes "end\n")
    ∙ ap (λ (h : List ℕ). ((((h ++ answer_line c.answer) ++ flat_map time_line c.times)
    ++ flat_map cycle_line c.cycles) ++ flat_map tree_line_text c.tree) ++ codes "end\n")
    (head_is c.version c.period))
