-- Where the next line of a text ends, and what is read for it.
use Rattle.std.specs.Prelude.{◌≡◌, ◌⊎◌, ℕ, ◌+◌, ◌<◌, ◌≤◌, Bool, true, false, List, [], ◌∷◌, ◌++◌, length, All, Option}
use Rattle.std.specs.Io.KnownBytes.{Consumes, IsAtEnd}
use Rattle.pesp_stream.specs.Counts.{Calls, Worked, Failed}
use Rattle.pesp_stream.specs.Words.{is_byte}
use Rattle.pesp_cert_lines.specs.Lines.{LONGEST}
use Rattle.pesp_cert_items.specs.declared.chunk.Front.{Front}
use Rattle.pesp_cert_items.specs.declared.chunk.Front.TheVariants as fronts
use Rattle.pesp_cert_items.specs.declared.lines.Next.{Next}
use Rattle.pesp_cert_items.specs.declared.lines.Next.TheVariants as nexts
use Rattle.pesp_cert_items.specs.declared.lines.LinesFault.{LinesFault}
use Rattle.pesp_cert_items.specs.declared.lines.LinesFault.TheVariants as faults

-- no LF
abbrev pub Clean : List ℕ → Type 0
Clean bytes = All (λ b. is_byte 10 b ≡ false) bytes

-- what a front of the bytes that are held is, where a line so far went before it
abbrev pub MovesChunk : Front → List ℕ → List ℕ → List ℕ → List ℕ → Type 0
MovesChunk fronts.Line held line held' line' = (front : List ℕ) × Clean front × (held ≡ front ++ 10 ∷ held')
    × (line' ≡ line ++ front) × (length line' ≤ LONGEST)
MovesChunk fronts.Long held line held' line' = (front : List ℕ) × (rest : List ℕ) × Clean front × (held ≡ front ++ rest)
    × (LONGEST < length line + length front)
MovesChunk fronts.Part held line held' line' = Clean held × (line' ≡ line ++ held) × (held' ≡ []) × (length line' ≤ LONGEST)

-- what stands at the front of all bytes that are held or were read now: a line, more than a line may have, or the last of the text
abbrev pub ReachesLine : Next → Option (List ℕ) → ℕ → List ℕ → List ℕ → List ℕ → Type 0
ReachesLine nexts.Line told' left' all held' line' = Clean line' × (all ≡ line' ++ 10 ∷ held') × (length line' ≤ LONGEST)
ReachesLine nexts.Long told' left' all held' line' = (front : List ℕ) × (rest : List ℕ) × Clean front
    × (all ≡ front ++ rest) × (LONGEST < length front)
ReachesLine nexts.End told' left' all held' line' = Clean line' × (all ≡ line') × (held' ≡ [])
    × (length line' ≤ LONGEST) × ((left' ≡ 0) ⊎ IsAtEnd told')

-- so many bytes were read, within what was left to be read
pub record Reads (told told' : Option (List ℕ)) (left left' : ℕ) (got : List ℕ) : Type 0 where
  pub consumed : Consumes told told' got
  pub within : left' + length got ≡ left

-- the next line and the bytes that were read for it
pub record Advances (told told' : Option (List ℕ)) (left left' : ℕ) (held held' line' : List ℕ) (next : Next) : Type 0 where
  pub got : List ℕ
  pub reads : Reads told told' left left' got
  pub reaches : ReachesLine next told' left' (held ++ got) held' line'

-- a device is blamed where it failed, and memory where it worked
abbrev pub Blames : LinesFault → Calls → ℕ → Calls → Type 0
Blames faults.Memory old most new = Worked old most new
Blames faults.Device old most new = Failed old most new

-- whether the text ends behind what is held
abbrev pub IsThere : Bool → Option (List ℕ) → ℕ → List ℕ → Type 0
IsThere true told' left' all = (all ≡ []) × ((left' ≡ 0) ⊎ IsAtEnd told')
IsThere false told' left' all = 0 < length all

-- whether no byte stands behind the line that was read last, by the bytes that were read to tell
pub record EndsHere (told told' : Option (List ℕ)) (left left' : ℕ) (held : List ℕ) (over : Bool) : Type 0 where
  pub got : List ℕ
  pub reads : Reads told told' left left' got
  pub there : IsThere over told' left' (held ++ got)
