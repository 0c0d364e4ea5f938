-- What is read is spelt so, and what is spelt is read: one line at its place.
use Rattle.std.proofs.Common.{◌≡◌, ℕ, zero, suc, ◌<◌, ◌^◌, Bool, true, false, cond, not, ◌&&◌, List, [], ◌∷◌, ◌++◌, length, Option, Some, None, Result, Ok, Err, refl, sym, ap, ◌∙◌, arith, inl, inr}
use Rattle.std.specs.Prelude.{ℤ, pos, negsuc, nat_abs, ◌==◌, ◌⊎◌, codes, decimal, IfSome}
use Rattle.std.specs.List.{list_all, All, onto_first}
use Rattle.std.specs.Str.{bytes_eq, all_ascii_digits}
use Rattle.std.specs.Char.{is_ascii_digit}
use Rattle.std.specs.Fmt.{signed_decimal}
use Rattle.std.proofs.lemmas.Option.{same_Some}
use Rattle.std.proofs.lemmas.Bool.{eqb-true}
use Rattle.std.proofs.lemmas.Bool.Decides.{nat_tests}
use Rattle.std.proofs.lemmas.List.{append-nil}
use Rattle.std.proofs.lemmas.List.Splits.{slice_split_none, slice_split_at}
use Rattle.std.proofs.lemmas.Slice.Eq.{bytes_eq-Decides}
use Rattle.pesp_problem.specs.declared.row.SignedRow.{SignedRow}
use Rattle.pesp_problem.specs.declared.pair.Pair.{Pair}
use Rattle.pesp_truth.specs.declared.answer.Answer.TheVariants as answers
use Rattle.pesp_cert_lines.specs.declared.kind.Kind.{Kind}
use Rattle.pesp_cert_lines.specs.declared.kind.Kind.TheVariants as kinds
use Rattle.pesp_cert_lines.specs.declared.fault.LineFault.{LineFault}
use Rattle.pesp_cert_lines.specs.declared.fault.LineFault.TheVariants as faults
use Rattle.pesp_cert_lines.specs.declared.progress.Progress.{Progress}
use Rattle.pesp_cert_lines.specs.declared.progress.Place.{Place}
use Rattle.pesp_cert_lines.specs.declared.progress.Place.TheVariants as places
use Rattle.pesp_stream.specs.Number.{NATURALS, is_natural, natural_of}
use Rattle.pesp_stream.specs.Words.{is_byte, words_of, spaced, line_of_words, has_empty}
use Rattle.pesp_cert_lines.specs.Rows.{is_name, rows_are_named, row_word, row_words}
use Rattle.pesp_cert_lines.specs.Marked.{are_named, star, marked_word, marked_words}
use Rattle.pesp_cert_lines.specs.Pairs.{pair_words, is_pair_within, all_within}
use Rattle.pesp_problem.specs.declared.marked.MarkedRow.{MarkedRow}
use Rattle.pesp_cert_lines.specs.declared.item.Item.{Item}
use Rattle.pesp_cert_lines.specs.declared.item.Item.TheVariants.{Front, Scale, Walk, Lemma, Least, Version, Period, Answer as Says, Time, Cycle, Slack, Offset, Bound, Nothing, Gap, Propagated, End}
use Rattle.pesp_cert_lines.specs.Items.{is_item_within, checked, item_of, is_form, item_words, cost_word, kind_of, IsProper}
use Rattle.pesp_cert_lines.specs.Counts.{allows, may_follow, may_end, is_behind_front, progress_after, keeps_counts, kind_in, CanStand}
use Rattle.pesp_cert_lines.specs.Lines.{line_at, line_judged, begins_front, is_cut, as_line, words_judged, kind_judged, counted, ReadsLine}
use Rattle.pesp_stream.proofs.Digits.{decimal_digits, decimal_some}
use Rattle.pesp_cert_lines.proofs.Tests.{cases, and_left, and_right, and_both}
use Rattle.pesp_cert_lines.proofs.WordLaws.{kind_word, is_worded, kind_spells, kind_read, named_below, cycle_below, mult_below}
use Rattle.pesp_cert_lines.proofs.ItemLaws.{has_word, item_spells, item_read}

-- ---- words without a space or an LF in them

abbrev pub is_inner : ℕ → Bool
is_inner b = not (b == 32) && not (b == 10)

abbrev pub is_plain : List ℕ → Bool
is_plain w = not (length w == 0) && list_all is_inner w

abbrev pub all_plain : List (List ℕ) → Bool
all_plain ws = list_all is_plain ws

inner_digits : (w : List ℕ) → all_ascii_digits w ≡ true → list_all is_inner w ≡ true
inner_digits [] h = refl
inner_digits (c ∷ cs) h = and_both (is_inner c) (list_all is_inner cs)
    (inner c (and_left (is_ascii_digit c) (all_ascii_digits cs) h))
    (inner_digits cs (and_right (is_ascii_digit c) (all_ascii_digits cs) h))
  where
    inner : (c : ℕ) → is_ascii_digit c ≡ true → is_inner c ≡ true
    inner c h = grind (arith, nat_tests)

plain_digits : (w : List ℕ) → 0 < length w → all_ascii_digits w ≡ true → is_plain w ≡ true
plain_digits w some h = and_both (not (length w == 0)) (list_all is_inner w) (grind (arith, nat_tests)) (inner_digits w h)

plain_nat : (n : ℕ) → n < NATURALS → is_plain (decimal n) ≡ true
plain_nat n lt = let fits : n < 2 ^ 64 = omega (arith, lt) in plain_digits (decimal n) (decimal_some n fits) (decimal_digits n fits)

plain_led : (c : ℕ) (n : ℕ) → is_inner c ≡ true → n < NATURALS → is_plain (c ∷ decimal n) ≡ true
plain_led c n h lt = let fits : n < 2 ^ 64 = omega (arith, lt) in
    and_both (not (suc (length (decimal n)) == 0)) (is_inner c && list_all is_inner (decimal n))
    (grind (arith, nat_tests)) (and_both (is_inner c) (list_all is_inner (decimal n)) h
    (inner_digits (decimal n) (decimal_digits n fits)))

plain_int : (z : ℤ) → nat_abs z < NATURALS → is_plain (signed_decimal z) ≡ true
plain_int (pos n) lt = plain_nat n lt
plain_int (negsuc n) lt = plain_led 45 (suc n) refl lt

plain_pairs : (ps : List Pair) → all_within ps ≡ true → all_plain (pair_words ps) ≡ true
plain_pairs [] h = refl
plain_pairs (p ∷ ps) h =
    let one = and_left (is_pair_within p) (all_within ps) h in
    and_both _ _ (plain_nat p.cycle (cycle_below p one))
    (and_both _ _ (plain_int p.mult (mult_below p one))
    (plain_pairs ps (and_right (is_pair_within p) (all_within ps) h)))

plain_rows : (rs : List SignedRow) → rows_are_named rs ≡ true → all_plain (row_words rs) ≡ true
plain_rows [] h = refl
plain_rows (r ∷ rs) h = and_both _ _ (row r.plus r.row (named_below r.row (and_left (is_name r.row) _ h)))
    (plain_rows rs (and_right (is_name r.row) _ h))
  where
    row : (plus : Bool) (n : ℕ) → n < NATURALS → is_plain (row_word (record { row = n; plus = plus })) ≡ true
    row true n lt = plain_led 43 n refl lt
    row false n lt = plain_led 45 n refl lt

plain_more : (w : List ℕ) (flipped : Bool) → is_plain w ≡ true → is_plain (w ++ star flipped) ≡ true
plain_more w false h = rw (append-nil w) h
plain_more w true h = and_both _ _ (some w) (inner w (and_right (not (length w == 0)) (list_all is_inner w) h))
  where
    some : (v : List ℕ) → not (length (v ++ 42 ∷ []) == 0) ≡ true
    some [] = refl
    some (b ∷ bs) = grind (arith, nat_tests)

    inner : (v : List ℕ) → list_all is_inner v ≡ true → list_all is_inner (v ++ 42 ∷ []) ≡ true
    inner [] h = refl
    inner (b ∷ bs) h = and_both (is_inner b) (list_all is_inner (bs ++ 42 ∷ []))
        (and_left (is_inner b) (list_all is_inner bs) h)
        (inner bs (and_right (is_inner b) (list_all is_inner bs) h))

signed_plain : (s : SignedRow) → is_name s.row ≡ true → is_plain (row_word s) ≡ true
signed_plain s h =
    let one : rows_are_named (s ∷ []) ≡ true = and_both (is_name s.row) true h refl in
    and_left (is_plain (row_word s)) true (plain_rows (s ∷ []) one)

plain_walk : (walk : List MarkedRow) → are_named walk ≡ true → all_plain (marked_words walk) ≡ true
plain_walk [] h = refl
plain_walk (s ∷ walk) h =
    and_both (is_plain (marked_word s)) (all_plain (marked_words walk))
    (plain_more (row_word s.signed) s.flipped (signed_plain s.signed
    (and_left (is_name s.signed.row) (are_named walk) h)))
    (plain_walk walk (and_right (is_name s.signed.row) (are_named walk) h))

plain_cost : (o : Option ℕ) → IfSome o (λ c. c < NATURALS) → is_plain (cost_word o) ≡ true
plain_cost None h = refl
plain_cost (Some c) h = plain_nat c h

pub item_plain : (item : Item) → IsProper item → is_item_within item ≡ true → all_plain (item_words item) ≡ true
item_plain Front proper within = refl
item_plain (Scale n) proper within = and_both _ _ (plain_nat n (grind (arith, nat_tests, within))) refl
item_plain (Walk walk) proper within = plain_walk walk within
item_plain (Lemma ps) proper within = plain_pairs ps within
item_plain (Least n) proper within = and_both _ _ (plain_int n proper) refl
item_plain (Version n) proper within = and_both _ _ (plain_nat n (grind (arith, nat_tests, within))) refl
item_plain (Period n) proper within = and_both _ _ (plain_nat n (grind (arith, nat_tests, within))) refl
item_plain (Says (answers.Optimal c)) proper within = and_both _ _ (plain_nat c proper) refl
item_plain (Says answers.Infeasible) proper within = refl
item_plain (Says (answers.Bounded least cost)) proper within =
    and_both _ _ (plain_nat least proper.0) (and_both _ _ (plain_cost cost proper.1) refl)
item_plain (Time label time) proper within = and_both _ _ (plain_int label (grind (arith, nat_tests, within)))
    (and_both _ _ (plain_nat time (grind (arith, nat_tests, within))) refl)
item_plain (Cycle rs) proper within = plain_rows rs within
item_plain (Slack row k) proper within = and_both _ _ (plain_nat row (grind (arith, nat_tests, within)))
    (and_both _ _ (plain_nat k (grind (arith, nat_tests, within))) refl)
item_plain (Offset cycle k) proper within = and_both _ _ (plain_nat cycle (grind (arith, nat_tests, within)))
    (and_both _ _ (plain_int k (grind (arith, nat_tests, within))) refl)
item_plain (Bound ps) proper within = plain_pairs ps within
item_plain (Nothing ps) proper within = plain_pairs ps within
item_plain (Gap cycle) proper within = and_both _ _ (plain_nat cycle (grind (arith, nat_tests, within))) refl
item_plain Propagated proper within = refl
item_plain End proper within = refl

-- ---- words and lines

no_space : (w : List ℕ) → list_all is_inner w ≡ true → All (λ b. is_byte 32 b ≡ false) w
no_space [] h k d lt = absurd (omega arith)
no_space (b ∷ bs) h zero d lt = grind (arith, nat_tests, and_left (is_inner b) (list_all is_inner bs) h)
no_space (b ∷ bs) h (suc k) d lt = no_space bs (and_right (is_inner b) (list_all is_inner bs) h) k d (omega arith)

inner_of : (w : List ℕ) → is_plain w ≡ true → list_all is_inner w ≡ true
inner_of w h = and_right (not (length w == 0)) (list_all is_inner w) h

pub words_joined : (w : List ℕ) (ws : List (List ℕ)) → is_plain w ≡ true → all_plain ws ≡ true → words_of (w ++ spaced ws) ≡ w ∷ ws
words_joined w [] h k = rw append-nil (slice_split_none (is_byte 32) w (no_space w (inner_of w h)))
words_joined w (v ∷ vs) h k =
    slice_split_at (is_byte 32) w 32 (v ++ spaced vs) (no_space w (inner_of w h)) refl
    ∙ ap (λ (us : List (List ℕ)). w ∷ us) (words_joined v vs (and_left (is_plain v) (all_plain vs) k)
    (and_right (is_plain v) (all_plain vs) k))

nonempty : (ps : List (List ℕ)) (c : ℕ) (line : List ℕ) → line_of_words ps ≡ line → (length ps ≡ 0 → ⊥)
    → line_of_words (cond (is_byte 32 c) ([] ∷ ps) (onto_first c ps)) ≡ c ∷ line
nonempty [] c line h some = absurd (some refl)
nonempty (w ∷ ws) c line h some =
    elim (cases (is_byte 32 c)) [
      | inl is ↦ rw is (rw (eqb-true c 32 is) (ap (λ (t : List ℕ). 32 ∷ t) h))
      | inr isnt ↦ rw isnt (ap (λ (t : List ℕ). c ∷ t) h)
    ]

some_words : (line : List ℕ) → length (words_of line) ≡ 0 → ⊥
some_words [] h = omega (arith, h)
some_words (c ∷ cs) h = go (is_byte 32 c) (words_of cs) h
  where
    go : (b : Bool) (ps : List (List ℕ)) → length (cond b ([] ∷ ps) (onto_first c ps)) ≡ 0 → ⊥
    go true ps h = omega (arith, h)
    go false [] h = omega (arith, h)
    go false (p ∷ ps) h = omega (arith, h)

pub line_of_words-words_of : (line : List ℕ) → line_of_words (words_of line) ≡ line
line_of_words-words_of [] = refl
line_of_words-words_of (c ∷ cs) = nonempty (words_of cs) c cs (line_of_words-words_of cs) (some_words cs)

-- ---- a line at its place

abbrev done : Item → Result Item LineFault
done item = Ok item

checked_ok : (o : Option Item) (item : Item) → checked o ≡ Ok item → (o ≡ Some item) × (is_item_within item ≡ true)
checked_ok None item h = absurd cc
checked_ok (Some i) item h = go (is_item_within i) refl h
  where
    go : (b : Bool) → is_item_within i ≡ b → cond b (done i) (Err faults.Limit) ≡ Ok item
        → (Some i ≡ Some item) × (is_item_within item ≡ true)
    go true e h = let same : i ≡ item = cc in (ap Some same, rw (← same) e)
    go false e h = absurd cc

lined_ok : (b : Bool) (r : Result Item LineFault) (item : Item) → as_line b r ≡ Ok item → r ≡ Ok item
lined_ok true (Ok i) item h = h
lined_ok true (Err f) item h = absurd cc
lined_ok false r item h = h

ok_lined : (b : Bool) (item : Item) → as_line b (Ok item) ≡ Ok item
ok_lined true item = refl
ok_lined false item = refl

kind_ok : (p : Progress) (ws : List (List ℕ)) (o : Option Kind) (item : Item) → kind_judged p ws o ≡ Ok item
    → (k : Kind) × (o ≡ Some k) × (allows p k ≡ true) × (is_form k ws ≡ true) × (checked (item_of k ws) ≡ Ok item)
kind_ok p ws None item h = absurd cc
kind_ok p ws (Some k) item h = go (allows p k && is_form k ws) refl h
  where
    go : (b : Bool) → (allows p k && is_form k ws) ≡ b
        → cond b (as_line (is_behind_front p.place p.shows k) (checked (item_of k ws))) (Err faults.Line) ≡ Ok item
        → (j : Kind) × (Some k ≡ Some j) × (allows p j ≡ true) × (is_form j ws ≡ true)
        × (checked (item_of j ws) ≡ Ok item)
    go true e h = (k, refl, and_left (allows p k) (is_form k ws) e, and_right (allows p k) (is_form k ws) e, lined_ok (is_behind_front p.place p.shows k) (checked (item_of k ws)) item h)
    go false e h = absurd cc

counted_ok : (p : Progress) (r : Result Item LineFault) (item : Item) → counted p r ≡ Ok item
    → (r ≡ Ok item) × (keeps_counts (progress_after p item) ≡ true)
counted_ok p (Err f) item h = absurd cc
counted_ok p (Ok i) item h = go (keeps_counts (progress_after p i)) refl h
  where
    go : (b : Bool) → keeps_counts (progress_after p i) ≡ b → cond b (done i) (Err faults.Limit) ≡ Ok item
        → (done i ≡ Ok item) × (keeps_counts (progress_after p item) ≡ true)
    go true e h = let same : i ≡ item = cc in (h, rw (← same) e)
    go false e h = absurd cc

words_ok : (p : Progress) (ws : List (List ℕ)) (item : Item) → words_judged p ws ≡ Ok item
    → (item_words item ≡ ws) × (allows p (kind_in item) ≡ true) × IsProper item × (is_item_within item ≡ true)
words_ok p [] item h = absurd cc
words_ok p (w ∷ ws) item h = go (has_empty (w ∷ ws)) h
  where
    go : (b : Bool) → cond b (Err faults.Line) (kind_judged p ws (kind_of w)) ≡ Ok item
        → (item_words item ≡ w ∷ ws) × (allows p (kind_in item) ≡ true) × IsProper item
        × (is_item_within item ≡ true)
    go true h = absurd cc
    go false h =
        let k = kind_ok p ws (kind_of w) item h in
        let c = checked_ok (item_of k.0 ws) item k.4 in
        let s = item_spells k.0 ws item k.3 c.0 in
        let first : w ≡ kind_word k.0 = kind_spells w k.0 k.1 in
        (sym s.words ∙ ap (λ (v : List ℕ). v ∷ ws) (sym first), ap (allows p) s.kind ∙ k.2, s.proper, c.1)

not_cut : (b : Bool) (r : Result Item LineFault) (item : Item) → cond b (Err faults.Truncated) r ≡ Ok item → r ≡ Ok item
not_cut true r item h = absurd cc
not_cut false r item h = h

front_found : (p : Progress) (line : List ℕ) (item : Item) → Front ≡ item → begins_front p line ≡ true
    → keeps_counts (progress_after p item) ≡ true → (line ≡ line_of_words (item_words item)) × CanStand p item
front_found p line item e is counts =
    let test : List ℕ → Bool = λ l. bytes_eq l (codes "pesp-certificate 3") in
    rw (← e) (
      (bytes_eq-Decides line (codes "pesp-certificate 3")).0 (and_right (allows p kinds.Front) (test line) is),
      record {
        allowed = and_left (allows p kinds.Front) (test line) is;
        proper = tt;
        within = refl;
        counts = rw (← e) at counts;
      },
    )

-- what is read stands at its place, and is spelt so
pub line_found : (p : Progress) (line : List ℕ) (item : Item) → line_at p line ≡ Ok item
    → (line ≡ line_of_words (item_words item)) × CanStand p item
unfolding line_at
line_found p line item h =
    let r = not_cut (is_cut p line) (counted p (line_judged p line)) item h in
    let c = counted_ok p (line_judged p line) item r in
    elim (cases (begins_front p line)) [
      | inl is ↦
          let same : Front ≡ item = (let e : done Front ≡ Ok item = rw is at c.0 in cc) in
          front_found p line item same is c.1
      | inr isnt ↦
          let w = words_ok p (words_of line) item (rw isnt at c.0) in (
            sym (line_of_words-words_of line) ∙ ap line_of_words (sym w.0),
            record { allowed = w.1; proper = w.2; within = w.3; counts = c.1 },
          )
    ]

plain_words_have_no_empty : (ws : List (List ℕ)) → all_plain ws ≡ true → has_empty ws ≡ false
plain_words_have_no_empty [] h = refl
plain_words_have_no_empty (w ∷ ws) h =
    let some : (length w == 0) ≡ false = is_some w (and_left (is_plain w) (all_plain ws) h) in
    rw (some, plain_words_have_no_empty ws (and_right (is_plain w) (all_plain ws) h)) refl
  where
    is_some : (w : List ℕ) → is_plain w ≡ true → (length w == 0) ≡ false
    is_some [] h = absurd cc
    is_some (b ∷ bs) h = grind (arith, nat_tests)

only_end : (p : Progress) (k : Kind) → kinds.End ≡ k → allows p k ≡ true → (p.needs == 0) ≡ true
only_end p k e h = go (p.needs == 0) p.place p.shows (rw (← e) at h)
  where
    go : (b : Bool) (place : Place) (shows : Bool)
        → cond b (may_end shows kinds.End) (may_follow place shows kinds.End && true) ≡ true → b ≡ true
    go true place shows h = refl
    go false places.Front shows h = absurd cc
    go false places.Marked shows h = absurd cc
    go false places.Walks true h = absurd cc
    go false places.Walks false h = absurd cc
    go false places.Lemma shows h = absurd cc
    go false places.Least shows h = absurd cc
    go false places.Header shows h = absurd cc
    go false places.Period shows h = absurd cc
    go false places.Times shows h = absurd cc
    go false places.Cycles shows h = absurd cc
    go false places.Tree shows h = absurd cc

-- the item's line is known by its first word, or as a whole
worded : (item : Item) → (has_word item ≡ true) ⊎ (Front ≡ item)
worded Front = inr refl
worded (Scale n) = inl refl
worded (Walk walk) = inl refl
worded (Lemma ps) = inl refl
worded (Least n) = inl refl
worded (Version n) = inl refl
worded (Period n) = inl refl
worded (Says a) = inl refl
worded (Time label time) = inl refl
worded (Cycle rs) = inl refl
worded (Slack row k) = inl refl
worded (Offset cycle k) = inl refl
worded (Bound ps) = inl refl
worded (Nothing ps) = inl refl
worded (Gap cycle) = inl refl
worded Propagated = inl refl
worded End = inl refl

pub words_of-item : (item : Item) → IsProper item → is_item_within item ≡ true
    → words_of (line_of_words (item_words item)) ≡ item_words item
words_of-item item proper within =
    elim (worded item) [
      | inr front ↦ rw (← front) refl
      | inl word ↦
          let r = item_read item word proper within in
          let plain = rw r.1.words at (item_plain item proper within) in
          rw r.1.words (words_joined (kind_word (kind_in item)) r.0
          (and_left (is_plain (kind_word (kind_in item))) (all_plain r.0) plain)
          (and_right (is_plain (kind_word (kind_in item))) (all_plain r.0) plain))
    ]

-- the words of a line that is the item's and this one
words_are : (item : Item) (word : has_word item ≡ true) (proper : IsProper item) (within : is_item_within item ≡ true) (name : List ℕ)
    → bytes_eq (line_of_words (item_words item)) name ≡ true
    → words_of name ≡ kind_word (kind_in item) ∷ (item_read item word proper within).0
words_are item word proper within name h =
    let same : line_of_words (item_words item) ≡ name = (bytes_eq-Decides (line_of_words (item_words item)) name).0 h in
    sym (ap words_of same) ∙ words_of-item item proper within ∙ (item_read item word proper within).1.words

kind_is : (k : Kind) (item : Item) → is_worded k ≡ true → has_word item ≡ true → kind_word k ≡ kind_word (kind_in item) → k ≡ kind_in item
kind_is k item known word first = same_Some k (kind_in item) (sym (kind_read k known) ∙ ap kind_of first ∙ kind_read (kind_in item) word)

end_is : (item : Item) → has_word item ≡ true → IsProper item → is_item_within item ≡ true
    → bytes_eq (line_of_words (item_words item)) (codes "end") ≡ true → kinds.End ≡ kind_in item
end_is item word proper within h =
    let words : codes "end" ∷ [] ≡ kind_word (kind_in item) ∷ (item_read item word proper within).0 =
    words_are item word proper within (codes "end") h in
    let first : codes "end" ≡ kind_word (kind_in item) = cc in
    kind_is kinds.End item refl word first

three : natural_of (codes "3") ≡ Some 3
unfolding natural_of is_natural
three = refl

-- a third version is none of a certificate's own
third : (item : Item) → item_of kinds.Version (codes "3" ∷ []) ≡ Some item → is_item_within item ≡ true → ⊥
unfolding item_of
third item says within =
    let same : Version 3 ≡ item = same_Some (Version 3) item (rw three at says) in
    let bad : false ≡ true = rw (← same) at within in
    cc

begins_not : (item : Item) → has_word item ≡ true → IsProper item → is_item_within item ≡ true
    → bytes_eq (line_of_words (item_words item)) (codes "pesp-certificate 3") ≡ true → ⊥
begins_not item word proper within h =
    let r = item_read item word proper within in
    let words : codes "pesp-certificate" ∷ codes "3" ∷ [] ≡ kind_word (kind_in item) ∷ r.0 =
    words_are item word proper within (codes "pesp-certificate 3") h in
    let first : codes "pesp-certificate" ≡ kind_word (kind_in item) = cc in
    let others : codes "3" ∷ [] ≡ r.0 = cc in
    let kind = kind_is kinds.Version item refl word first in
    third item (rw (← kind, ← others) at r.1.says) within

word_read : (p : Progress) (item : Item) → has_word item ≡ true → CanStand p item → line_at p (line_of_words (item_words item)) ≡ Ok item
unfolding line_at
word_read p item word can =
    let line : List ℕ = line_of_words (item_words item) in
    let r = item_read item word can.proper can.within in
    let plain : has_empty (kind_word (kind_in item) ∷ r.0)
    ≡ false = plain_words_have_no_empty (kind_word (kind_in item) ∷ r.0)
    (rw r.1.words at (item_plain item can.proper can.within)) in
    let goes : is_cut p line ≡ false = elim (cases (bytes_eq line (codes "end"))) [
      | inl is ↦ rw (is, only_end p (kind_in item) (end_is item word can.proper can.within is) can.allowed) refl
      | inr isnt ↦ rw isnt refl
    ] in
    let begins : begins_front p line ≡ false = elim (cases (bytes_eq line (codes "pesp-certificate 3"))) [
      | inl is ↦ absurd (begins_not item word can.proper can.within is)
      | inr isnt ↦ rw isnt (and_false (allows p kinds.Front))
    ] in
    let judged : words_judged p (words_of line)
    ≡ Ok item = ap (words_judged p) (words_of-item item can.proper can.within ∙ r.1.words)
    ∙ rw (plain, kind_read (kind_in item) word, can.allowed, r.1.form, r.1.says, can.within)
    (ok_lined (is_behind_front p.place p.shows (kind_in item)) item) in
    rw (goes, begins, judged, can.counts) refl
  where
    and_false : (b : Bool) → (b && false) ≡ false
    and_false true = refl
    and_false false = refl

pub line_read : (p : Progress) (item : Item) → CanStand p item → line_at p (line_of_words (item_words item)) ≡ Ok item
unfolding line_at
line_read p item can =
    elim (worded item) [
      | inl word ↦ word_read p item word can
      | inr front ↦ rw (← front) (front_read p (rw (← front) at can))
    ]
  where
    front_read : (p : Progress) → CanStand p Front → line_at p (line_of_words (item_words Front)) ≡ Ok Front
    front_read p can = rw (can.allowed, can.counts) refl

pub reads_line : (p : Progress) (line : List ℕ) (r : Result Item LineFault) → r ≡ line_at p line → ReadsLine p line r
reads_line p line r h item = (λ e. line_found p line item (sym h ∙ e), λ s. h ∙ ap (line_at p) s.0 ∙ line_read p item s.1)
