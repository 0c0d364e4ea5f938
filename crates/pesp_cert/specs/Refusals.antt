-- What a text says as a whole, or which refusal it gives: the first line with a fault decides.
use Rattle.std.specs.Prelude.{◌≡◌, ℕ, ◌+◌, Bool, true, ◌&&◌, ◌==◌, nat_lt, if◌then◌else◌, Result, Ok, Err, List, [], ◌∷◌, ◌⊎◌, length, Option, None, IsOkAnd}
use Rattle.pesp_truth.specs.Certificates.{Content, Front}
use Rattle.pesp_stream.specs.Words.{pieces}
use Rattle.pesp_cert_lines.specs.declared.fault.LineFault.{LineFault}
use Rattle.pesp_cert_lines.specs.declared.fault.LineFault.TheVariants as faults
use Rattle.pesp_cert_lines.specs.declared.item.Item.{Item}
use Rattle.pesp_cert_lines.specs.declared.progress.Progress.{Progress}
use Rattle.pesp_cert_lines.specs.declared.versions.Versions.{Versions}
use Rattle.pesp_cert_lines.specs.Counts.{progress_after, beginning}
use Rattle.pesp_cert_lines.specs.Lines.{line_at, LONGEST}
use Rattle.pesp_cert.specs.declared.refusal.CertRefusal.{CertRefusal}
use Rattle.pesp_cert.specs.declared.refusal.CertRefusal.TheVariants as refusals
use Rattle.pesp_cert.specs.Texts.{is_end, HasText, spelling, takes}
use Rattle.pesp_cert.specs.Drafts.{FrontValue, front_said}

-- the fault of a line behind the first
abbrev pub later_refusal : ℕ → LineFault → CertRefusal
later_refusal n faults.Truncated = refusals.Truncated
later_refusal n faults.Line = refusals.Line n
later_refusal n faults.Number = refusals.Number n
later_refusal n faults.Limit = refusals.Limit n

-- the fault of line n as one of the text: a first line that has one isn't that of a certificate
abbrev pub refusal_at : ℕ → LineFault → CertRefusal
refusal_at n f = if n == 1 then refusals.Header else later_refusal n f

-- no byte is left: there is no piece, or one that is empty
abbrev pub is_nothing : List (List ℕ) → Bool
is_nothing [] = true
is_nothing (w ∷ ws) = length w == 0 && length ws == 0

-- an item and those behind it, or the refusal of what stands behind it
abbrev pub onto : Item → Result (List Item) CertRefusal → Result (List Item) CertRefusal
onto item (Ok items) = Ok (item ∷ items)
onto item (Err r) = Err r

-- The pieces of a text cut at each LF; the first of them is line n. The last piece has no LF.
unfoldable pub items_from : ℕ → Progress → List (List ℕ) → Result (List Item) CertRefusal
items_from n p [] = Err refusals.Truncated
items_from n p (line ∷ []) = if nat_lt LONGEST (length line) then Err (refusals.Limit n) else Err refusals.Truncated
items_from n p (line ∷ next ∷ more) = if nat_lt LONGEST (length line) then Err (refusals.Limit n) else
    elim (line_at p line) as (λ r. Result (List Item) CertRefusal) [
      | Err f ↦ Err (refusal_at n f)
      | Ok item ↦ if is_end item then (if is_nothing (next ∷ more) then Ok (item ∷ []) else Err (refusals.Trailing (n + 1)))
          else onto item (items_from (n + 1) (progress_after p item) (next ∷ more))
    ]

-- the items of a whole text, or its first fault, where these versions are taken
unfoldable pub items_of_text : Versions → List ℕ → Result (List Item) CertRefusal
items_of_text versions text = items_from 1 (beginning versions) (pieces 10 text)

-- ---- what a reader of a text answers

-- the text is this content's behind this front
pub record IsTextOf (front : Option Front) (text : List ℕ) (c : Content) : Type 0 where
  pub has_text : HasText front c
  pub spelt : text ≡ spelling front c

-- where the text is a content's without a front, that content is read, unless a growth was refused
abbrev pub ReadsTexts : List ℕ → Result Content CertRefusal → Type 0
ReadsTexts text r = (c : Content) → IsTextOf None text c → (r ≡ Ok c) ⊎ (r ≡ Err refusals.Memory)

-- where the text is that of a front, which is taken, and a content, those are read, unless a growth was refused
abbrev pub ReadsWhole : Versions → List ℕ → Result (FrontValue × Content) CertRefusal → Type 0
ReadsWhole versions text r = (front : Option Front) (c : Content) → IsTextOf front text c → takes versions front ≡ true
    → IsOkAnd r (λ p. (front_said p.0 ≡ front) × (p.1 ≡ c)) ⊎ (r ≡ Err refusals.Memory)

-- the refusal is the text's first fault, unless a growth was refused
abbrev pub RefusesFirst : Versions → List ℕ → CertRefusal → Type 0
RefusesFirst versions text r = (r ≡ refusals.Memory) ⊎ (items_of_text versions text ≡ Err r)
