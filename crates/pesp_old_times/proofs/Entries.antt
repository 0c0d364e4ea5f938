-- Entries that were read from the lines so far.
use Rattle.std.proofs.Common.{◌≡◌, ◌∙◌, refl, sym, ap, ℕ, ◌+◌, ◌≤◌, ℤ, List, [], ◌∷◌, ◌++◌, length, arith, append_assoc, append-nil, length-append, Some, None, Result, Ok, Err, true, false}
use Rattle.pesp_stream.specs.Words.{lines_of_text}
use Rattle.pesp_report.specs.TimesText.{names_a_time, time_lines}
use Rattle.pesp_report.specs.declared.refusal.TimesRefusal.{TimesRefusal}
use Rattle.pesp_report.specs.declared.refusal.TimesRefusal.TheVariants.{BadLine}
use Rattle.pesp_report.proofs.TimeLines.{numbered}
use Rattle.pesp_old_times.specs.OldTimes.{behind, entries_for, line_entry}

-- entries that were read before the others
abbrev pub after : List (ℤ × ℕ) → Result (List (ℤ × ℕ)) TimesRefusal → Result (List (ℤ × ℕ)) TimesRefusal
after before (Ok es) = Ok (before ++ es)
after before (Err r) = Err r

-- how the reading stands after n lines, with these lines left
pub record Reads (period : ℕ) (text : List ℕ) (rest : List (List ℕ)) (n : ℕ) (es : List (ℤ × ℕ)) : Type 0 where
  pub count : n + length rest ≡ length (lines_of_text text)
  pub goes : entries_for period (time_lines text) ≡ after es (entries_for period (numbered (n + 1) rest))
  pub few : length es ≤ n

after-none : (r : Result (List (ℤ × ℕ)) TimesRefusal) → r ≡ after [] r
after-none (Ok es) = refl
after-none (Err e) = refl

after-one : (before : List (ℤ × ℕ)) (e : ℤ × ℕ) (f : TimesRefusal) (r : Result (List (ℤ × ℕ)) TimesRefusal)
    → after before (behind (Some e) f r) ≡ after (before ++ e ∷ []) r
after-one before e f (Ok es) = ap Ok (sym (append_assoc before (e ∷ []) es))
after-one before e f (Err r) = refl

pub reads-start : (period : ℕ) (text : List ℕ) → Reads period text (lines_of_text text) 0 []
reads-start period text = record {
  count = omega arith;
  goes = after-none (entries_for period (time_lines text));
  few = omega arith;
}

module _ (period : ℕ) (text line : List ℕ) (rest : List (List ℕ)) (n : ℕ) (es : List (ℤ × ℕ))
    (r : Reads period text (line ∷ rest) n es) where
  -- a line that is passed over
  pub reads-past : names_a_time line ≡ false → Reads period text rest (n + 1) es
  reads-past e = record {
    count = omega (arith, r.count);
    goes = r.goes ∙ rw e refl;
    few = omega (arith, r.few);
  }

  -- a line that tells a time
  pub reads-more : (x : ℤ × ℕ) → names_a_time line ≡ true → line_entry period line ≡ Some x
      → Reads period text rest (n + 1) (es ++ x ∷ [])
  unfolding entries_for
  reads-more x e h = record {
    count = omega (arith, r.count);
    goes = r.goes ∙ rw (e, h) (after-one es x (BadLine (n + 1)) (entries_for period (numbered (n + 1 + 1) rest)));
    few = omega (arith, r.few, length-append es (x ∷ []));
  }

  -- a line that tells none though it begins so
  pub reads-fault : names_a_time line ≡ true → line_entry period line ≡ None
      → entries_for period (time_lines text) ≡ Err (BadLine (n + 1))
  unfolding entries_for
  reads-fault e h = r.goes ∙ rw (e, h) refl

-- all lines were read
pub reads-all : (period : ℕ) (text : List ℕ) (n : ℕ) (es : List (ℤ × ℕ)) → Reads period text [] n es
    → entries_for period (time_lines text) ≡ Ok es
unfolding entries_for
reads-all period text n es r = r.goes ∙ ap Ok (append-nil es)
