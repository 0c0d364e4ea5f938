-- What is done with some lines that are left of a text, of which the first has a number.
use Rattle.std.specs.Prelude.{◌≡◌, ◌⊎◌, ℕ, ◌+◌, ◌<◌, ◌≤◌, Result, Err, List, ◌∷◌, length}
use Rattle.pesp_stream.specs.Words.{pieces}
use Rattle.pesp_cert_lines.specs.Lines.{LONGEST}
use Rattle.pesp_cert.specs.declared.refusal.CertRefusal.{CertRefusal}
use Rattle.pesp_cert.specs.declared.refusal.CertRefusal.TheVariants as refusals
use Rattle.pesp_cert_items.specs.Works.{WorkValue}
use Rattle.pesp_cert_items.specs.Refusals.{Stage, Front, Job, Inside, onto, works_from}

-- what the lines give at their stage
abbrev pub given : ℕ → Stage → List ℕ → Result (List WorkValue) CertRefusal
given n stage text = works_from n stage (pieces 10 text)

-- some lines were taken: what is left has a later number, and no more bytes than lines went
pub record TextShrinks (n : ℕ) (text : List ℕ) (m : ℕ) (rest : List ℕ) : Type 0 where
  pub later : n < m
  pub shorter : m + length rest ≤ n + length text

-- the first line was taken
pub record TakesFirstLine (n : ℕ) (text line : List ℕ) (m : ℕ) (rest : List ℕ) : Type 0 where
  pub cut : pieces 10 text ≡ line ∷ pieces 10 rest
  pub short : length line ≤ LONGEST
  pub number : m ≡ n + 1
  pub shrinks : TextShrinks n text m rest

-- what is left gives at the next stage what all gave
pub record GoesOn (n : ℕ) (stage : Stage) (text : List ℕ) (m : ℕ) (next : Stage) (rest : List ℕ) : Type 0 where
  pub same : given n stage text ≡ given m next rest
  pub shrinks : TextShrinks n text m rest

-- the lines give a work, and behind it what is left gives
pub record Ends (n : ℕ) (stage : Stage) (text : List ℕ) (w : WorkValue) (m : ℕ) (rest : List ℕ) : Type 0 where
  pub same : given n stage text ≡ onto w (given m Front rest)
  pub shrinks : TextShrinks n text m rest

-- the lines give this refusal, unless a growth was refused
abbrev pub RefusesWork : ℕ → Stage → List ℕ → CertRefusal → Type 0
RefusesWork n stage text r = (r ≡ refusals.Memory) ⊎ (given n stage text ≡ Err r)

-- inside a work, its job's line included
abbrev pub IsInside : Stage → Type 0
IsInside Front = ⊥
IsInside Job = Unit {0}
IsInside (Inside job p c) = Unit {0}

-- the lines give this refusal wherever in a work they stand
abbrev pub RefusesInside : ℕ → List ℕ → CertRefusal → Type 0
RefusesInside n text r = (stage : Stage) → IsInside stage → given n stage text ≡ Err r
