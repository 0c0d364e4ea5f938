-- The line of a job: what is read is spelt so, and what is spelt so is read.
use Rattle.std.proofs.Common.{◌≡◌, ℕ, ◌<◌, ◌≤◌, Bool, true, false, cond, not, ◌&&◌, List, [], ◌∷◌, ◌++◌, length, Option, Some, None, Ok, Err, refl, sym, ap, ◌∙◌, arith, inl, inr, length-append}
use Rattle.std.specs.Prelude.{◌==◌, nat_le, codes, decimal}
use Rattle.std.specs.List.{All}
use Rattle.std.specs.Str.{bytes_eq}
use Rattle.std.proofs.lemmas.Bool.Decides.{nat_tests}
use Rattle.std.proofs.lemmas.Slice.Eq.{bytes_eq-Decides}
use Rattle.pesp_truth.specs.declared.answer.Answer.TheVariants.{Optimal}
use Rattle.pesp_stream.specs.Number.{NATURALS, natural_of}
use Rattle.pesp_stream.specs.Words.{words_of, line_of_words, is_byte}
use Rattle.pesp_stream.proofs.Digits.{natural_spells, natural_read}
use Rattle.pesp_cert_lines.specs.declared.fault.LineFault.TheVariants as faults
use Rattle.pesp_cert_lines.specs.declared.item.Item.TheVariants.{Answer as Says}
use Rattle.pesp_cert_lines.specs.Lines.{LONGEST}
use Rattle.pesp_cert_lines.proofs.Tests.{cases, and_left, and_right, and_both}
use Rattle.pesp_cert_lines.proofs.LineLaws.{is_plain, all_plain, item_plain, words_joined, line_of_words-words_of}
use Rattle.pesp_cert.proofs.ShortLaws.{nat_len}
use Rattle.pesp_cert.proofs.TextLaws.{no_lf, line_lf}
use Rattle.pesp_cert_items.specs.Works.{job_line}
use Rattle.pesp_cert_items.specs.Lines.{job_of, job_said, job_at}

-- the digits of a natural are a word
pub nat_plain : (n : ℕ) → n < NATURALS → is_plain (decimal n) ≡ true
nat_plain n lt =
    let all : all_plain (codes "answer" ∷ codes "optimal" ∷ decimal n ∷ []) ≡ true = item_plain (Says (Optimal n)) lt refl in
    and_left (is_plain (decimal n)) (all_plain [])
    (and_right (is_plain (codes "optimal")) (all_plain (decimal n ∷ []))
    (and_right (is_plain (codes "answer")) (all_plain (codes "optimal" ∷ decimal n ∷ [])) all))

below : (n : ℕ) → n ≤ 999999 → n < NATURALS
below n le = omega (arith, le)

number_found : (v : List ℕ) (n : ℕ) → job_of (natural_of v) ≡ Ok n → (v ≡ decimal n) × (n ≤ 999999)
number_found v n h = go (natural_of v) refl h
  where
    within : (m : ℕ) (b : Bool) → nat_le m 999999 ≡ b → cond b (Ok m) (Err faults.Limit) ≡ Ok n
        → natural_of v ≡ Some m → (v ≡ decimal n) × (n ≤ 999999)
    within m true le e is =
        let same : m ≡ n = cc in
        let few : m ≤ 999999 = grind (arith, nat_tests, le) in
        let spelt = natural_spells v m is in
        (spelt.1 ∙ ap decimal same, rw same at few)
    within m false le e is = absurd cc

    go : (o : Option ℕ) → natural_of v ≡ o → job_of o ≡ Ok n → (v ≡ decimal n) × (n ≤ 999999)
    go None is e = absurd cc
    go (Some m) is e = within m (nat_le m 999999) refl e is

said_found : (ws : List (List ℕ)) (n : ℕ) → job_said ws ≡ Ok n → (ws ≡ codes "job" ∷ decimal n ∷ []) × (n ≤ 999999)
said_found [] n h = absurd cc
said_found (w ∷ []) n h = absurd cc
said_found (w ∷ v ∷ u ∷ ws) n h = absurd cc
said_found (w ∷ v ∷ []) n h = go (bytes_eq w (codes "job") && not (length v == 0)) refl h
  where
    go : (b : Bool) → (bytes_eq w (codes "job") && not (length v == 0)) ≡ b
        → cond b (job_of (natural_of v)) (Err faults.Line) ≡ Ok n
        → (w ∷ v ∷ [] ≡ codes "job" ∷ decimal n ∷ []) × (n ≤ 999999)
    go false is e = absurd cc
    go true is e =
        let word : w ≡ codes "job" = (bytes_eq-Decides w (codes "job")).0 (and_left (bytes_eq w (codes "job")) (not (length v == 0)) is) in
        let number = number_found v n e in
        (rw (word, number.0) refl, number.1)

pub job_found : (line : List ℕ) (n : ℕ) → job_at line ≡ Ok n → (line ≡ job_line n) × (n ≤ 999999)
unfolding job_at
job_found line n h =
    let s = said_found (words_of line) n (go (bytes_eq line (codes "end")) h) in
    (sym (line_of_words-words_of line) ∙ ap line_of_words s.0, s.1)
  where
    go : (b : Bool) → cond b (Err faults.Truncated) (job_said (words_of line)) ≡ Ok n → job_said (words_of line) ≡ Ok n
    go true e = absurd cc
    go false e = e

job_words : (n : ℕ) → n ≤ 999999 → words_of (job_line n) ≡ codes "job" ∷ decimal n ∷ []
job_words n le = words_joined (codes "job") (decimal n ∷ []) refl (and_both (is_plain (decimal n)) true (nat_plain n (below n le)) refl)

some_digits : (w : List ℕ) → is_plain w ≡ true → not (length w == 0) ≡ true
some_digits w h = and_left (not (length w == 0)) _ h

number_read : (n : ℕ) → n ≤ 999999 → job_of (natural_of (decimal n)) ≡ Ok n
number_read n le =
    let within : nat_le n 999999 ≡ true = grind (arith, nat_tests, le) in
    rw (natural_read (decimal n) n (below n le, refl), within) refl

not_the_end : (n : ℕ) → bytes_eq (job_line n) (codes "end") ≡ false
not_the_end n = elim (cases (bytes_eq (job_line n) (codes "end"))) [
  | inl is ↦ let same : job_line n ≡ codes "end" = (bytes_eq-Decides (job_line n) (codes "end")).0 is in absurd cc
  | inr isnt ↦ isnt
]

pub job_read : (n : ℕ) → n ≤ 999999 → job_at (job_line n) ≡ Ok n
unfolding job_at
job_read n le =
    let some : not (length (decimal n) == 0) ≡ true = some_digits (decimal n) (nat_plain n (below n le)) in
    let said : job_said (words_of (job_line n)) ≡ Ok n = ap job_said (job_words n le) ∙ rw some (number_read n le) in
    rw (not_the_end n) said

pub job_short : (n : ℕ) → n ≤ 999999 → length (job_line n) ≤ LONGEST
job_short n le = omega (
  arith,
  length-append (codes "job") ((32 ∷ decimal n) ++ []),
  length-append (32 ∷ decimal n) [],
  nat_len n (below n le),
)

pub job_lf : (n : ℕ) → n ≤ 999999 → All (λ b. is_byte 10 b ≡ false) (job_line n)
job_lf n le = no_lf (job_line n) (line_lf (codes "job" ∷ decimal n ∷ [])
    (and_both (is_plain (codes "job")) (all_plain (decimal n ∷ [])) refl
    (and_both (is_plain (decimal n)) true (nat_plain n (below n le)) refl)))
