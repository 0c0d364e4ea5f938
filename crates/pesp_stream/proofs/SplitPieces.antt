-- Pieces between separators.
use Rattle.std.proofs.Common.{◌≡◌, ℕ, ◌+◌, ◌-◌, ◌<◌, ◌≤◌, Bool, true, false, cond, List, [], ◌∷◌, length, take, drop, Some, None, refl, sym, ap, ◌∙◌, arith}
use Rattle.std.specs.Prelude.{Option, nat_lt, position, unwrap_or, ◌==◌}
use Rattle.std.specs.Borrow.{Bor}
use Rattle.std.specs.Option.{option_copied}
use Rattle.std.specs.List.{position_or_len, onto_first, join_with_byte}
use Rattle.std.proofs.lemmas.Bool.{ltb-false, ne_eqb}
use Rattle.std.proofs.lemmas.Bool.Decides.{nat_tests}
use Rattle.std.proofs.lemmas.Option.{cond_some}
use Rattle.std.proofs.lemmas.List.{take_all, length-drop}
use Rattle.std.proofs.lemmas.List.Splits.{slice_split_none, slice_split_first, length-slice_split, join_with_byte-slice_split}
use Rattle.std.proofs.lemmas.List.Sums.{fails_before_first, count_by-le-length}
use Rattle.pesp_stream.specs.Words.{is_byte, pieces, pieces_left, words_of, has_empty, but_empty_end, lines_of_text}

found_at : (p : ℕ → Bool) (text : List ℕ) (at : ℕ) → position p text ≡ Some at
    → (position_or_len p text ≡ at) × (position_or_len p text < length text)
found_at p text at h =
    let both = cond_some (nat_lt (position_or_len p text) (length text)) (position_or_len p text) at h in
    (both.1, grind (arith, nat_tests, both.0))

cond_none : {A : Type 0} (b : Bool) (x : A) → cond b (Some x) None ≡ None → b ≡ false
cond_none true x h = absurd cc
cond_none false x h = refl

pub split_none : (c : ℕ) (text : List ℕ) → None ≡ position (is_byte c) text → pieces c text ≡ text ∷ []
split_none c text h =
    let none : nat_lt (position_or_len (is_byte c) text) (length text) ≡ false = cond_none _ _ (sym h) in
    let all : length text ≤ position_or_len (is_byte c) text = ltb-false _ _ none in
    slice_split_none (is_byte c) text (λ k d lt. fails_before_first (is_byte c) text k d (omega arith))

pub split_some : (c : ℕ) (text : List ℕ) (at : ℕ) → Some at ≡ position (is_byte c) text
    → pieces c text ≡ take at text ∷ pieces c (take (length text - (at + 1)) (drop (at + 1) text))
split_some c text at h =
    let found = found_at (is_byte c) text at (sym h) in
    let all : take (length text - (at + 1)) (drop (at + 1) text)
    ≡ drop (at + 1) text = take_all (length text - (at + 1)) (drop (at + 1) text)
    (omega (arith, length-drop (at + 1) text)) in
    rw all (rw (← found.0) (slice_split_first (is_byte c) text 0 found.1))

-- ---- counting

-- so many of the words were passed, none of them empty
pub record IsCounted (all rest : List (List ℕ)) (n : ℕ) : Type 0 where
  pub empty : has_empty rest ≡ has_empty all
  pub number : n + length rest ≡ length all

pub most_words : (line : List ℕ) → length (words_of line) ≤ length line + 1
most_words line = omega (arith, length-slice_split (is_byte 32) line, count_by-le-length (is_byte 32) line)

-- ---- lines

pub pieces_some : (c : ℕ) (text : List ℕ) → (w : List ℕ) × (ws : List (List ℕ)) × (pieces c text ≡ w ∷ ws)
pieces_some c [] = ([], [], refl)
pieces_some c (b ∷ bs) = split (is_byte c b) b (pieces c bs)
  where
    split : (t : Bool) (x : ℕ) (ps : List (List ℕ)) → (w : List ℕ) × (ws : List (List ℕ)) × (cond t ([] ∷ ps) (onto_first x ps) ≡ w ∷ ws)
    split true x ps = ([], ps, refl)
    split false x [] = (x ∷ [], [], refl)
    split false x (q ∷ qs) = (x ∷ q, qs, refl)

but_empty_end-cons : (line : List ℕ) (ps : List (List ℕ)) (w : List ℕ) (ws : List (List ℕ)) → ps ≡ w ∷ ws
    → but_empty_end (line ∷ ps) ≡ line ∷ but_empty_end ps
but_empty_end-cons line ps w ws e = rw e refl

some_end : (line : List ℕ) → 0 < length line → but_empty_end (line ∷ []) ≡ line ∷ []
some_end [] h = absurd (omega arith)
some_end (b ∷ bs) h = rw (ne_eqb (length (b ∷ bs)) 0 (omega arith)) refl

-- the first line of a text that isn't empty, and the others
pub lines_step : (text line : List ℕ) (rest : Option (List ℕ)) → 0 < length text
    → pieces 10 text ≡ line ∷ pieces_left 10 rest → lines_of_text text ≡ line ∷ lines_of_text (unwrap_or rest [])
lines_step text line None some cut =
    let same : text ≡ line = sym (join_with_byte-slice_split 10 text) ∙ ap (join_with_byte 10) cut in
    rw cut (some_end line (rw same at some))
lines_step text line (Some rest) some cut =
    let p = pieces_some 10 rest in
    rw cut (but_empty_end-cons line (pieces 10 rest) p.0 p.1 p.2)

pub no_lines : (text : List ℕ) → length text ≡ 0 → lines_of_text text ≡ []
no_lines [] h = refl
no_lines (b ∷ bs) h = absurd (omega arith)

-- what a reference to the rest points to
pub rest_now : (text line : List ℕ) (o : Option (Bor (List ℕ))) (d r : Bor (List ℕ)) → (length text == 0) ≡ false
    → pieces 10 text ≡ line ∷ pieces_left 10 (option_copied o) → d.now ≡ [] → r ≡ unwrap_or o d
    → lines_of_text text ≡ line ∷ lines_of_text r.now
rest_now text line None d r some cut empty is = rw (is, empty) (lines_step text line None (grind (arith, nat_tests, some)) cut)
rest_now text line (Some b) d r some cut empty is = rw is (lines_step text line (Some b.now) (grind (arith, nat_tests, some)) cut)
