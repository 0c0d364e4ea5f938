-- Which works a text has, or which refusal it gives: the first line with a fault decides.
use Rattle.std.specs.Prelude.{◌≡◌, ℕ, ◌+◌, ◌&&◌, ◌==◌, nat_lt, if◌then◌else◌, Result, Ok, Err, List, [], ◌∷◌, ◌⊎◌, IsOkAnd, length, All}
use Rattle.std.specs.Str.{bytes_eq}
use Rattle.std.specs.Global.{Vec}
use Rattle.pesp_truth.specs.Certificates.{Content}
use Rattle.pesp_stream.specs.Words.{pieces}
use Rattle.pesp_cert_lines.specs.declared.progress.Progress.{Progress}
use Rattle.pesp_cert_lines.specs.Counts.{progress_after}
use Rattle.pesp_cert_lines.specs.Lines.{LONGEST}
use Rattle.pesp_cert.specs.declared.refusal.CertRefusal.{CertRefusal}
use Rattle.pesp_cert.specs.declared.refusal.CertRefusal.TheVariants as refusals
use Rattle.pesp_cert.specs.Texts.{is_end}
use Rattle.pesp_cert.specs.Drafts.{blank, added}
use Rattle.pesp_cert.specs.Refusals.{refusal_at}
use Rattle.pesp_cert_items.specs.Works.{WorkValue, HEADER, work_progress, HasWorkText, spellings}
use Rattle.pesp_cert_items.specs.Lines.{job_at, work_line_at}

-- where the next line of a text stands: where a work may begin, behind a header, or behind a job's line, with the number of
-- the job, how far its lines have come, and what they said so far
pub data Stage : Type 0 where
  Front : Stage
  Job : Stage
  Inside : ℕ → Progress → Content → Stage

-- the work that lines add up to
abbrev pub made : ℕ → Content → WorkValue
made job c = record { job = job; times = c.times; tree = c.tree }

-- a work and those behind it, or the refusal of what stands behind it
abbrev pub onto : WorkValue → Result (List WorkValue) CertRefusal → Result (List WorkValue) CertRefusal
onto w (Ok ws) = Ok (w ∷ ws)
onto w (Err r) = Err r

-- line n, some bytes without an LF, stands where a work may begin: the first line may be too long
abbrev pub cut_front : ℕ → List ℕ → CertRefusal
cut_front n line = if n == 1 && nat_lt LONGEST (length line) then refusals.Limit n else refusals.Truncated

-- line n is no header: only the first line is judged
abbrev pub other_front : ℕ → List ℕ → CertRefusal
other_front n line = if n == 1 then (if nat_lt LONGEST (length line) then refusals.Limit n else refusals.Header) else refusals.Trailing n

-- line n has no LF, and stands inside a work
abbrev pub cut_inside : ℕ → List ℕ → CertRefusal
cut_inside n line = if nat_lt LONGEST (length line) then refusals.Limit n else refusals.Truncated

-- The pieces of a text cut at each LF; the first of them is line n. The last piece has no LF.
unfoldable pub works_from : ℕ → Stage → List (List ℕ) → Result (List WorkValue) CertRefusal
works_from n stage [] = Err refusals.Truncated
works_from n Front (line ∷ []) = if length line == 0 then Ok [] else Err (cut_front n line)
works_from n Front (line ∷ next ∷ more) = if bytes_eq line HEADER then works_from (n + 1) Job (next ∷ more) else Err (other_front n line)
works_from n Job (line ∷ []) = Err (cut_inside n line)
works_from n Job (line ∷ next ∷ more) = if nat_lt LONGEST (length line) then Err (refusals.Limit n) else
    elim (job_at line) as (λ r. Result (List WorkValue) CertRefusal) [
      | Err f ↦ Err (refusal_at n f)
      | Ok job ↦ works_from (n + 1) (Inside job work_progress blank) (next ∷ more)
    ]
works_from n (Inside job p c) (line ∷ []) = Err (cut_inside n line)
works_from n (Inside job p c) (line ∷ next ∷ more) = if nat_lt LONGEST (length line) then Err (refusals.Limit n) else
    elim (work_line_at p line) as (λ r. Result (List WorkValue) CertRefusal) [
      | Err f ↦ Err (refusal_at n f)
      | Ok item ↦ if is_end item then onto (made job c) (works_from (n + 1) Front (next ∷ more))
          else works_from (n + 1) (Inside job (progress_after p item) (added c item)) (next ∷ more)
    ]

-- the works of a whole text, or its first fault
abbrev pub works_of_text : List ℕ → Result (List WorkValue) CertRefusal
works_of_text text = works_from 1 Front (pieces 10 text)

-- ---- what a reader of a text answers

-- the text is that of these works, one behind the other
pub record IsTextOfWorks (text : List ℕ) (ws : List WorkValue) : Type 0 where
  pub have_texts : All HasWorkText ws
  pub spelt : text ≡ spellings ws

-- where the text is that of works, those are read, unless a growth was refused
abbrev pub ReadsListsOfWorks : List ℕ → Result (Vec WorkValue) CertRefusal → Type 0
ReadsListsOfWorks text r = (ws : List WorkValue) → IsTextOfWorks text ws → IsOkAnd r (λ v. v.items ≡ ws) ⊎ (r ≡ Err refusals.Memory)

-- the refusal is the text's first fault, unless a growth was refused
abbrev pub RefusesFirstWork : List ℕ → CertRefusal → Type 0
RefusesFirstWork text r = (r ≡ refusals.Memory) ⊎ (works_of_text text ≡ Err r)

-- the works are those of the text, or the refusal is, unless a growth was refused
abbrev pub ReadsWorks : Result (Vec WorkValue) CertRefusal → Result (List WorkValue) CertRefusal → Type 0
ReadsWorks (Ok v) r = r ≡ Ok v.items
ReadsWorks (Err e) r = (e ≡ refusals.Memory) ⊎ (r ≡ Err e)
