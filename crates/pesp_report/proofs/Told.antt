-- Each line that was read tells its event's time.
use Rattle.std.proofs.Common.{drop, ◌≡◌, refl, sym, ap, Bool, true, false, ℕ, ℤ, List, [], ◌∷◌, true≢false, Option, Some, None, Result, Ok, Err, nat_lt}
use Rattle.std.specs.Prelude.{⊤, filter, codes}
use Rattle.std.proofs.lemmas.Slice.Eq.{starts_is}
use Rattle.std.proofs.lemmas.Bool.Decides.{Decides-eqb}
use Rattle.std.specs.List.{enumerate_from}
use Rattle.std.specs.Fmt.{decimal, signed_decimal}
use Rattle.std.proofs.lemmas.Int.{ints}
use Rattle.std.proofs.Common.{arith}
use Rattle.pesp_stream.specs.Number.{natural_of, whole_of}
use Rattle.pesp_stream.specs.Words.{lines_of_text, words_of}
use Rattle.pesp_stream.proofs.Digits.{natural_iff, whole_spells}
use Rattle.pesp_report.specs.TimesText.{TellTimes, behind, below_period, is_label, names_a_time, time_lines, time_of_words, times_for}
use Rattle.pesp_report.specs.declared.refusal.TimesRefusal.{TimesRefusal}
use Rattle.pesp_report.specs.declared.refusal.TimesRefusal.TheVariants.{BadLine}

-- a line that begins with `time ` has that word first
first-word : (line : List ℕ) → names_a_time line ≡ true → (words : List (List ℕ)) × (words_of line ≡ codes "time" ∷ words)
first-word line e =
    let whole = (starts_is Decides-eqb line (codes "time ") (names_a_time line) refl).0 e in
    (words_of (drop 5 line), ap words_of whole)

label-is : (event : ℤ) (o : Option ℤ) → is_label event o ≡ true → o ≡ Some event
label-is event None e = absurd (true≢false (sym e))
label-is event (Some label) e = let same : label ≡ event = grind (arith, ints) in ap Some same

below-is : (period : ℕ) (o : Option ℕ) (t : ℕ) → below_period period o ≡ Some t → o ≡ Some t
below-is period None t e = cc e
below-is period (Some n) t e = by (nat_lt n period) refl e
  where
    by : (b : Bool) → nat_lt n period ≡ b → below_period period (Some n) ≡ Some t → Some n ≡ Some t
    by true w h = rw w at h
    by false w h = let g : ◌≡◌ {A = Option ℕ} None (Some t) = rw w at h in cc

-- three words that give an event a time spell its label and that time
words-tell : (period : ℕ) (event : ℤ) (words : List (List ℕ)) (first : List ℕ) (rest : List (List ℕ)) (t : ℕ)
    → words ≡ first ∷ rest → time_of_words period event words ≡ Some t
    → words ≡ first ∷ signed_decimal event ∷ decimal t ∷ []
words-tell period event [] first rest t s e = cc e
words-tell period event (w ∷ []) first rest t s e = cc e
words-tell period event (w ∷ label ∷ []) first rest t s e = cc e
words-tell period event (w ∷ label ∷ time ∷ []) first rest t s e = by (is_label event (whole_of label)) refl e
  where
    by : (b : Bool) → is_label event (whole_of label) ≡ b
        → time_of_words period event (w ∷ label ∷ time ∷ []) ≡ Some t
        → (w ∷ label ∷ time ∷ []) ≡ first ∷ signed_decimal event ∷ decimal t ∷ []
    by true v h =
        let g : below_period period (natural_of time) ≡ Some t = rw v at h in
        let l : label ≡ signed_decimal event = (whole_spells label event (label-is event (whole_of label) v)).1 in
        let n : time ≡ decimal t = ((natural_iff time (natural_of time) t refl).0 (below-is period (natural_of time) t g)).1 in
        let f : w ≡ first = cc in
        cc
    by false v h = let g : ◌≡◌ {A = Option ℕ} None (Some t) = rw v at h in cc
words-tell period event (w ∷ label ∷ time ∷ more ∷ words) first rest t s e = cc e

-- all lines that begin with `time `
abbrev pub AllTell : List (ℕ × List ℕ) → Type 0
AllTell [] = ⊤
AllTell (line ∷ lines) = (names_a_time line.1 ≡ true) × AllTell lines

pub filtered-tell : (lines : List (ℕ × List ℕ)) → AllTell (filter (λ line. names_a_time line.1) lines)
filtered-tell [] = tt
filtered-tell (line ∷ lines) = by (names_a_time line.1) refl (filtered-tell lines)
  where
    by : (b : Bool) → names_a_time line.1 ≡ b → AllTell (filter (λ line. names_a_time line.1) lines)
        → AllTell (filter (λ line. names_a_time line.1) (line ∷ lines))
    by true e more = rw e (e, more)
    by false e more = rw e more

-- lines that are read tell the times
pub lines-tell : (period : ℕ) (events : List ℤ) (lines : List (ℕ × List ℕ)) (times : List ℕ) → AllTell lines
    → times_for period events lines ≡ Ok times → TellTimes events times lines
unfolding times_for
lines-tell period [] [] [] a e = tt
lines-tell period [] [] (t ∷ ts) a e = cc e
lines-tell period (event ∷ events) [] times a e = cc e
lines-tell period [] (line ∷ lines) times a e = cc e
lines-tell period (event ∷ events) (line ∷ lines) times a e =
    by (time_of_words period event (words_of line.1)) (times_for period events lines) times refl refl e
    (lines-tell period events lines)
  where
    by : (o : Option ℕ) (r : Result (List ℕ) TimesRefusal) (times : List ℕ)
        → time_of_words period event (words_of line.1) ≡ o → times_for period events lines ≡ r
        → behind o (BadLine line.0) r ≡ Ok times
        → ((ts : List ℕ) → AllTell lines → times_for period events lines ≡ Ok ts → TellTimes events ts lines)
        → TellTimes (event ∷ events) times (line ∷ lines)
    by None r times v w h more = cc h
    by (Some t) (Err f) times v w h more = cc h
    by (Some t) (Ok ts) times v w h more =
        let whole : t ∷ ts ≡ times = cc in
        let f = first-word line.1 a.0 in
        rw (← whole) (words-tell period event (words_of line.1) (codes "time") f.0 t f.1 v, more ts a.1 w)

pub lines-all-tell : (text : List ℕ) → AllTell (time_lines text)
lines-all-tell text = filtered-tell (enumerate_from 1 (lines_of_text text))
