-- How far a text was read, and what the rest of it says.
use Rattle.std.specs.Prelude.{◌≡◌, ◌⊎◌, ℕ, ◌+◌, ◌<◌, ◌≤◌, Bool, true, false, List, [], ◌∷◌, ◌++◌, length, Option, Some, None, Result, Ok, Err}
use Rattle.std.specs.Io.KnownBytes.{IsAtEnd}
use Rattle.pesp_stream.specs.Counts.{Calls, Worked, Failed}
use Rattle.pesp_stream.specs.Words.{pieces}
use Rattle.pesp_cert_lines.specs.declared.item.Item.{Item}
use Rattle.pesp_cert_lines.specs.declared.item.Item.TheVariants.{End}
use Rattle.pesp_cert_lines.specs.declared.progress.Progress.{Progress}
use Rattle.pesp_cert_lines.specs.Counts.{progress_after, CanStand}
use Rattle.pesp_cert_lines.specs.Lines.{line_at, LONGEST}
use Rattle.pesp_cert_lines.specs.declared.fault.LineFault.{LineFault}
use Rattle.pesp_cert.specs.declared.refusal.CertRefusal.{CertRefusal}
use Rattle.pesp_cert.specs.declared.refusal.CertRefusal.TheVariants as refusals
use Rattle.pesp_cert.specs.Texts.{is_end}
use Rattle.pesp_cert.specs.Refusals.{items_from, onto}
use Rattle.pesp_cert_items.specs.declared.fault.ItemFault.{ItemFault}
use Rattle.pesp_cert_items.specs.declared.fault.ItemFault.TheVariants.{Text, Read}
use Rattle.pesp_cert_items.specs.declared.stage.Stage.{Stage}
use Rattle.pesp_cert_items.specs.declared.stage.Stage.TheVariants as stages
use Rattle.pesp_cert_items.specs.Cuts.{Reads}
use Rattle.pesp_cert_items.specs.declared.text_line.TextLine.{TextLine}
use Rattle.pesp_cert_items.specs.Lent.{line_back, is_own, IsLineSpelt}
use Rattle.pesp_cert_items.specs.Plain.{IsPlain}

-- the reader's bytes where it tells them, how many of them may be read, those that were read and not handed out, the number
-- of the line that was read last, and how far its text has come with it
pub record Reading : Type 0 where
  pub told : Option (List ℕ)
  pub left : ℕ
  pub held : List ℕ
  pub n : ℕ
  pub progress : Progress
  pub stage : Stage

-- nothing was given up, and the end wasn't seen
abbrev pub is_going : Stage → Bool
is_going stages.Going = true
is_going stages.Ended = false
is_going (stages.Failed fault) = false

-- what a text says behind line n, by the stage; nothing more where it ended or was given up
abbrev pub items_in : Stage → ℕ → Progress → List ℕ → Result (List Item) CertRefusal
items_in stages.Going n p text = items_from (n + 1) p (pieces 10 text)
items_in stages.Ended n p text = Ok []
items_in (stages.Failed fault) n p text = Ok []

-- what a text says from there on
abbrev pub items_at : Reading → List ℕ → Result (List Item) CertRefusal
items_at r text = items_in r.stage r.n r.progress text

-- the text has no more bytes than were read, or no more of it is judged
abbrev pub IsReadWhole : Reading → Type 0
IsReadWhole r = (r.left ≡ 0) ⊎ IsAtEnd r.told

-- some bytes were read; whatever stands behind them, what was held and they and that say is made of what is left says
pub record ReadsOn (old new : Reading) (made : Result (List Item) CertRefusal → Result (List Item) CertRefusal) : Type 0 where
  pub got : List ℕ
  pub reads : Reads old.told new.told old.left new.left got
  pub later : old.n < new.n
  pub says : (more : List ℕ) → items_at old (old.held ++ (got ++ more)) ≡ made (items_at new (new.held ++ more))

-- what the next line and what is left say
abbrev pub items_behind : Stage → ℕ → Progress → List ℕ → List (List ℕ) → Result (List Item) CertRefusal
items_behind stages.Going n p line rest = items_from n p (line ∷ rest)
items_behind stages.Ended n p line rest = Ok []
items_behind (stages.Failed fault) n p line rest = Ok []

-- a line was read, and it is the next one
pub record Lines (old new : Reading) (line : List ℕ) : Type 0 where
  pub got : List ℕ
  pub reads : Reads old.told new.told old.left new.left got
  pub later : old.n < new.n
  pub short : length line ≤ LONGEST
  pub says : (more : List ℕ) → items_at old (old.held ++ (got ++ more))
      ≡ items_behind new.stage new.n new.progress line (pieces 10 (new.held ++ more))

-- the line says this item at its place, which isn't the end, and this is kept of it; a text without a front goes on so
pub record IsItem (old new : Progress) (line : List ℕ) (said : TextLine) (item : Item) : Type 0 where
  pub says : line_at old line ≡ Ok item
  pub more : is_end item ≡ false
  pub goes : new ≡ progress_after old item
  pub can : CanStand old item
  pub kept : line_back said line ≡ item
  pub spelt : IsLineSpelt said line
  pub plain : IsPlain old → IsPlain new × (is_own said ≡ true)

-- what a line says at its place: an item, the end, or its first fault
abbrev pub Says : Progress → Progress → List ℕ → TextLine → Result Bool LineFault → Type 0
Says old new line said (Ok true) = (item : Item) × IsItem old new line said item
Says old new line said (Ok false) = (line_at old line ≡ Ok End) × (new ≡ old)
Says old new line said (Err fault) = (line_at old line ≡ Err fault) × (new ≡ old)

-- the text ends behind its last line
pub record TextEnds (old new : Reading) : Type 0 where
  pub got : List ℕ
  pub reads : Reads old.told new.told old.left new.left got
  pub over : IsReadWhole new
  pub says : items_at old (old.held ++ got) ≡ Ok (End ∷ [])

-- whatever stands behind what was read, the text's first fault is this one; nothing stands behind it where the text is over
pub record RefusesReading (old new : Reading) (r : CertRefusal) : Type 0 where
  pub got : List ℕ
  pub reads : Reads old.told new.told old.left new.left got
  pub says : (more : List ℕ) → (IsReadWhole new → more ≡ []) → items_at old (old.held ++ (got ++ more)) ≡ Err r

-- why it was given up, unless a growth was refused or the device failed
abbrev pub IsItemFault : Reading → Reading → ItemFault → Type 0
IsItemFault old new (Text r) = (r ≡ refusals.Memory) ⊎ RefusesReading old new r
IsItemFault old new Read = Unit {0}

-- a device is blamed where it failed, and a text where it worked
abbrev pub Blamed : ItemFault → Calls → ℕ → Calls → Type 0
Blamed (Text r) old most new = Worked old most new
Blamed Read old most new = Failed old most new

-- what is answered where a line was read, and it says this item
abbrev pub stepped : Item → Result Bool ItemFault → Result (Option Item) ItemFault
stepped item (Ok true) = Ok (Some item)
stepped item (Ok false) = Ok None
stepped item (Err fault) = Err fault

-- what the next item is, which may stand somewhere in a text, or that none comes any more, and why
abbrev pub GivesItem : Reading → Reading → Result (Option Item) ItemFault → Type 0
GivesItem old new (Ok (Some item)) = (new.stage ≡ stages.Going) × (is_end item ≡ false) × ReadsOn old new (onto item)
    × ((p : Progress) × CanStand p item)
GivesItem old new (Ok None) = (new.stage ≡ stages.Ended) × TextEnds old new
GivesItem old new (Err fault) = (new.stage ≡ stages.Failed fault) × IsItemFault old new fault

-- the same, also where none came before
abbrev pub AnswersNext : Stage → Reading → Reading → Result (Option Item) ItemFault → Type 0
AnswersNext stages.Going old new result = GivesItem old new result
AnswersNext stages.Ended old new result = (result ≡ Ok None) × (new ≡ old)
AnswersNext (stages.Failed fault) old new result = (result ≡ Err fault) × (new ≡ old)
