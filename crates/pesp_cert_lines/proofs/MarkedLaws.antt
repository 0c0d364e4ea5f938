-- Marked words: what is read is spelt so, and what is spelt is read.
use Rattle.std.proofs.Common.{◌≡◌, ℕ, zero, suc, ◌+◌, ◌-◌, ◌<◌, Bool, true, false, List, [], ◌∷◌, ◌++◌, length, get_or, take, drop, Option, Some, None, refl, sym, ap, ◌∙◌, arith, inl, inr, length-append, append-nil}
use Rattle.std.specs.Prelude.{decimal, if◌then◌else◌}
use Rattle.std.specs.Str.{all_ascii_digits}
use Rattle.std.specs.Char.{is_ascii_digit}
use Rattle.std.proofs.lemmas.Option.{same_Some}
use Rattle.std.proofs.lemmas.Bool.{eqb-true}
use Rattle.std.proofs.lemmas.Bool.Decides.{nat_tests}
use Rattle.std.proofs.lemmas.List.{take-append-drop, take_at, drop_more, drop_all}
use Rattle.pesp_problem.specs.declared.row.SignedRow.{SignedRow}
use Rattle.pesp_stream.specs.Number.{NATURALS}
use Rattle.pesp_stream.proofs.Digits.{decimal_digits, decimal_some, digit_range}
use Rattle.pesp_problem.specs.declared.marked.MarkedRow.{MarkedRow}
use Rattle.pesp_cert_lines.specs.Rows.{is_name, row_word, spelt_row, row_made}
use Rattle.pesp_cert_lines.specs.Marked.{marked_word, marked_words, are_named, is_starred, but_last, with_mark, marked_at, marked_made, marked_of}
use Rattle.pesp_cert_lines.proofs.Tests.{cases, and_left, and_right}
use Rattle.pesp_cert_lines.proofs.WordLaws.{row_spells, row_read, both_some, joined, named_below}

-- ---- the last byte

starred_word : (w : List ℕ) → is_starred w ≡ true → w ≡ but_last w ++ 42 ∷ []
starred_word [] h = absurd (let e : 0 ≡ 42 = eqb-true 0 42 h in omega (arith, e))
starred_word (b ∷ bs) h =
    let w : List ℕ = b ∷ bs in
    let k : ℕ = length w - 1 in
    let within : k < length w = omega arith in
    let last : get_or w k 0 ≡ 42 = eqb-true (get_or w k 0) 42 h in
    let end : drop k w ≡ get_or w k 0 ∷ drop (k + 1) w = drop_more w k 0 within in
    let none : drop (k + 1) w ≡ [] = drop_all (k + 1) w (omega arith) in
    sym (take-append-drop k w) ∙ ap (λ (t : List ℕ). take k w ++ t) (end ∙ (rw (last, none) refl))

len_more : (w : List ℕ) (b : ℕ) → length (w ++ b ∷ []) - 1 ≡ length w
len_more w b = omega (arith, length-append w (b ∷ []))

last_of : (w : List ℕ) (b : ℕ) → get_or (w ++ b ∷ []) (length w) 0 ≡ b
last_of [] b = refl
last_of (c ∷ w) b = last_of w b

star_read : (w : List ℕ) → (is_starred (w ++ 42 ∷ []) ≡ true) × (but_last (w ++ 42 ∷ []) ≡ w)
star_read w = (rw (len_more w 42, last_of w 42) refl, rw (len_more w 42) (take_at w (42 ∷ []) (length w) refl))

digit_at : (w : List ℕ) (k : ℕ) → all_ascii_digits w ≡ true → k < length w → is_ascii_digit (get_or w k 0) ≡ true
digit_at [] k h l = absurd (omega arith)
digit_at (c ∷ cs) zero h l = and_left (is_ascii_digit c) (all_ascii_digits cs) h
digit_at (c ∷ cs) (suc k) h l = digit_at cs k (and_right (is_ascii_digit c) (all_ascii_digits cs) h) (omega arith)

-- a sign and digits have no star
no_star : (c n : ℕ) → n < NATURALS → is_starred (c ∷ decimal n) ≡ false
no_star c n lt = go (decimal n) (decimal_digits n (omega (arith, lt))) (decimal_some n (omega (arith, lt)))
  where
    go : (ds : List ℕ) → all_ascii_digits ds ≡ true → 0 < length ds → is_starred (c ∷ ds) ≡ false
    go [] h some = absurd (omega arith)
    go (d ∷ ds) h some =
        let k : ℕ = length ds in
        let range = digit_range (get_or (d ∷ ds) k 0) (digit_at (d ∷ ds) k h (omega arith)) in
        let at : length (c ∷ d ∷ ds) - 1 ≡ suc k = omega arith in
        rw at (grind (arith, nat_tests, range))

plain_row : (s : SignedRow) → is_name s.row ≡ true → is_starred (row_word s) ≡ false
plain_row s h = go s.plus
  where
    go : (plus : Bool) → is_starred (row_word (record { row = s.row; plus = plus })) ≡ false
    go true = no_star 43 s.row (named_below s.row h)
    go false = no_star 45 s.row (named_below s.row h)

-- ---- one word

mark_some : (flipped : Bool) (o : Option (ℕ × Bool)) (p : ℕ × Bool × Bool) → with_mark flipped o ≡ Some p
    → (q : ℕ × Bool) × (o ≡ Some q) × ((q.0, q.1, flipped) ≡ p)
mark_some flipped None p h = absurd cc
mark_some flipped (Some q) p h = (q, refl, same_Some (q.0, q.1, flipped) p h)

marked_spells : (w : List ℕ) (p : ℕ × Bool × Bool) → marked_at w ≡ Some p → w ≡ marked_word (marked_made p)
marked_spells w p h =
    elim (cases (is_starred w)) [
      | inl is ↦
          let m = mark_some true (spelt_row (but_last w)) p (rw is at h) in
          let row = (row_spells (but_last w) m.0 m.1).0 in
          rw (← m.2) (starred_word w is ∙ ap (λ (t : List ℕ). t ++ 42 ∷ []) row)
      | inr isnt ↦
          let m = mark_some false (spelt_row w) p (rw isnt at h) in
          let row = (row_spells w m.0 m.1).0 in
          rw (← m.2) (row ∙ sym (append-nil (row_word (row_made m.0))))
    ]

marked_read : (s : MarkedRow) → is_name s.signed.row ≡ true → marked_at (marked_word s) ≡ Some (s.signed.row, s.signed.plus, s.flipped)
marked_read s h = go s.flipped
  where
    row : spelt_row (row_word s.signed) ≡ Some (s.signed.row, s.signed.plus)
    row = row_read s.signed (named_below s.signed.row h)

    go : (flipped : Bool) → marked_at (marked_word (record { signed = s.signed; flipped = flipped }))
        ≡ Some (s.signed.row, s.signed.plus, flipped)
    go true = let r = star_read (row_word s.signed) in rw (r.0, r.1, row) refl
    go false = ap marked_at (append-nil (row_word s.signed))
        ∙ ap (λ (t : Bool). if t then with_mark true
        (spelt_row (but_last (row_word s.signed))) else with_mark false (spelt_row (row_word s.signed)))
        (plain_row s.signed h) ∙ ap (with_mark false) row

-- ---- all words

pub marked_spell : (ws : List (List ℕ)) (walk : List MarkedRow) → marked_of ws ≡ Some walk → ws ≡ marked_words walk
unfolding marked_of
marked_spell [] walk h = let e : [] ≡ walk = same_Some [] walk h in rw (← e) refl
marked_spell (w ∷ ws) walk h =
    let b = both_some (λ (p : ℕ × Bool × Bool) (rest : List MarkedRow). marked_made p ∷ rest) (marked_at w) (marked_of ws) walk h in
    rw (← b.4) (joined w (marked_word (marked_made b.0)) ws (marked_words b.1) (marked_spells w b.0 b.2) (marked_spell ws b.1 b.3))

pub marked_words_read : (walk : List MarkedRow) → are_named walk ≡ true → marked_of (marked_words walk) ≡ Some walk
unfolding marked_of
marked_words_read [] h = refl
marked_words_read (s ∷ walk) h =
    let first = marked_read s (and_left (is_name s.signed.row) (are_named walk) h) in
    rw (first, marked_words_read walk (and_right (is_name s.signed.row) (are_named walk) h)) refl
