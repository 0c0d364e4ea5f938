-- Lines that were read for the events so far.
use Rattle.std.proofs.Common.{◌≡◌, ◌∙◌, refl, sym, ap, Bool, true, false, ℕ, zero, suc, ◌+◌, ◌<◌, ◌≤◌, ℤ, List, [], ◌∷◌, ◌++◌, length, drop, arith, append_assoc, append-nil, length-append, add-one, drop_of_length-le, length-drop, Option, Some, None, Result, Ok, Err}
use Rattle.std.specs.Prelude.{◌==◌, if◌then◌else◌, filter, slice_get, All}
use Rattle.std.specs.List.{enumerate_from}
use Rattle.std.proofs.lemmas.List.Elements.{All-push, All-nil}
use Rattle.std.proofs.lemmas.List.Splits.{length-slice_split}
use Rattle.std.proofs.lemmas.List.Sums.{count_by-le-length}
use Rattle.pesp_stream.specs.Words.{but_empty_end, is_byte, lines_of_text, pieces}
use Rattle.pesp_report.specs.TimesText.{behind, names_a_time, time_at, time_for, time_lines, times_for}
use Rattle.pesp_report.specs.declared.refusal.TimesRefusal.{TimesRefusal}
use Rattle.pesp_report.specs.declared.refusal.TimesRefusal.TheVariants.{BadLine, WrongCount}

-- times that were found before the others
abbrev pub after : List ℕ → Result (List ℕ) TimesRefusal → Result (List ℕ) TimesRefusal
after before (Ok times) = Ok (before ++ times)
after before (Err e) = Err e

-- the lines that tell times, the first line of all having this number
abbrev pub numbered : ℕ → List (List ℕ) → List (ℕ × List ℕ)
numbered n lines = filter (λ line. names_a_time line.1) (enumerate_from n lines)

-- how the reading stands after n lines, with these lines left
pub record Reads (period : ℕ) (events : List ℤ) (text : List ℕ) (rest : List (List ℕ)) (n : ℕ) (times : List ℕ) : Type 0 where
  pub count : n + length rest ≡ length (lines_of_text text)
  pub goes : times_for period events (time_lines text) ≡ after times (times_for period (drop (length times) events) (numbered (n + 1) rest))
  pub below : All (λ t. t < period) times
  pub few : length times ≤ length events

after-none : (r : Result (List ℕ) TimesRefusal) → after [] r ≡ r
after-none (Ok times) = refl
after-none (Err e) = refl

after-one : (before : List ℕ) (t : ℕ) (e : TimesRefusal) (r : Result (List ℕ) TimesRefusal)
    → after before (behind (Some t) e r) ≡ after (before ++ t ∷ []) r
after-one before t e (Ok times) = ap Ok (sym (append_assoc before (t ∷ []) times))
after-one before t e (Err f) = refl

drop-there : (events : List ℤ) (k : ℕ) (e : ℤ) → slice_get events k ≡ Some e
    → (drop k events ≡ e ∷ drop (k + 1) events) × (k < length events)
drop-there [] k e h = cc h
drop-there (x ∷ xs) zero e h = let s : x ≡ e = cc h in (rw s refl, omega arith)
drop-there (x ∷ xs) (suc k) e h = let more = drop-there xs k e h in (more.0 ∙ rw (add-one k, add-one (suc k)) refl, omega (arith, more.1))

drop-past : (events : List ℤ) (k : ℕ) → slice_get events k ≡ None → drop k events ≡ []
drop-past [] zero h = refl
drop-past [] (suc k) h = refl
drop-past (x ∷ xs) zero h = cc h
drop-past (x ∷ xs) (suc k) h = drop-past xs k h

pub reads-start : (period : ℕ) (events : List ℤ) (text : List ℕ) → Reads period events text (lines_of_text text) 0 []
reads-start period events text = record {
  count = omega arith;
  goes = sym (after-none (times_for period events (time_lines text)));
  below = All-nil (λ t. t < period);
  few = omega arith;
}

module _ (period : ℕ) (events : List ℤ) (text line : List ℕ) (rest : List (List ℕ)) (n : ℕ) (times : List ℕ)
    (r : Reads period events text (line ∷ rest) n times) where
  -- a line that is passed over
  pub reads-past : names_a_time line ≡ false → Reads period events text rest (n + 1) times
  reads-past e = record {
    count = omega (arith, r.count);
    goes = r.goes ∙ rw e refl;
    below = r.below;
    few = r.few;
  }

  -- a line that tells the next event's time
  pub reads-more : (t : ℕ) → names_a_time line ≡ true → time_at period events (length times) line ≡ Some t
      → t < period → Reads period events text rest (n + 1) (times ++ t ∷ [])
  unfolding times_for
  reads-more t e h small = by (slice_get events (length times)) refl h
    where
      by : (o : Option ℤ) → slice_get events (length times) ≡ o → time_for period o line ≡ Some t
          → Reads period events text rest (n + 1) (times ++ t ∷ [])
      by None v g = cc g
      by (Some event) v g =
          let d = drop-there events (length times) event v in
          let longer : length (times ++ t ∷ []) ≡ length times + 1 = length-append times (t ∷ []) in
          record {
            count = omega (arith, r.count);
            goes = r.goes ∙ rw (e, d.0, g, longer)
                (after-one times t (BadLine (n + 1)) (times_for period (drop (length times + 1) events)
                (numbered (n + 1 + 1) rest)));
            below = All-push (λ k. k < period) times t r.below small;
            few = omega (arith, longer, d.1);
          }

  -- a line that does not
  pub reads-fault : names_a_time line ≡ true → time_at period events (length times) line ≡ None
      → times_for period events (time_lines text) ≡ Err (BadLine (n + 1))
  unfolding times_for
  reads-fault e h = by (slice_get events (length times)) refl h
    where
      by : (o : Option ℤ) → slice_get events (length times) ≡ o → time_for period o line ≡ None
          → times_for period events (time_lines text) ≡ Err (BadLine (n + 1))
      by None v g = r.goes ∙ rw (e, drop-past events (length times) v) refl
      by (Some event) v g = r.goes ∙ rw (e, (drop-there events (length times) event v).0, g) refl

module _ (period : ℕ) (events : List ℤ) (text : List ℕ) (n : ℕ) (times : List ℕ) (r : Reads period events text [] n times) where
  -- all events have their times
  pub reads-all : length events ≤ length times → times_for period events (time_lines text) ≡ Ok times
  unfolding times_for
  reads-all h = r.goes ∙ rw (drop_of_length-le events h) (ap Ok (append-nil times))

  -- one has none
  pub reads-short : length times < length events → times_for period events (time_lines text) ≡ Err WrongCount
  unfolding times_for
  reads-short h = by (drop (length times) events) refl
    where
      by : (l : List ℤ) → drop (length times) events ≡ l → times_for period events (time_lines text) ≡ Err WrongCount
      by [] v = absurd (omega (arith, ap length v, length-drop (length times) events))
      by (x ∷ xs) v = r.goes ∙ rw v refl

end-shorter : (ps : List (List ℕ)) → length (but_empty_end ps) ≤ length ps
end-shorter [] = omega arith
end-shorter (p ∷ []) = by (length p == 0)
  where
    by : (b : Bool) → length (if b then [] else p ∷ []) ≤ length (p ∷ [])
    by true = omega arith
    by false = omega arith
end-shorter (p ∷ q ∷ ps) = omega (arith, end-shorter (q ∷ ps))

-- a text has no more lines than bytes, but for one
pub most_lines : (text : List ℕ) → length (lines_of_text text) ≤ length text + 1
most_lines text = omega (arith, end-shorter (pieces 10 text), length-slice_split (is_byte 10) text, count_by-le-length (is_byte 10) text)
