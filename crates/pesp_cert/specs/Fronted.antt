-- Certificates with their fronts, and their texts.
use Rattle.std.specs.Prelude.{◌≡◌, ◌⊎◌, ℕ, List, Option, Result, Ok, Err}
use Rattle.pesp_truth.specs.Certificates.{Content, Front}
use Rattle.pesp_cert.specs.declared.refusal.CertRefusal.{CertRefusal}
use Rattle.pesp_cert.specs.declared.refusal.CertRefusal.TheVariants as refusals
use Rattle.pesp_cert.specs.Texts.{text_of, front_items, spelling}
use Rattle.pesp_cert.specs.Refusals.{IsTextOf}

-- version 3, the scale, a line for each marked walk, and the lemmas; nothing where there is no front
abbrev pub front_text : Option Front → List ℕ
front_text front = text_of (front_items front)

-- a certificate with its front, where it has one
pub record Fronted : Type 0 where
  pub front : Option Front
  pub content : Content

-- the one text of both
abbrev pub fronted_text : Fronted → List ℕ
fronted_text c = spelling c.front c.content

-- the text is this certificate's, with its front
abbrev pub IsFrontedText : List ℕ → Fronted → Type 0
IsFrontedText text c = IsTextOf c.front text c.content

-- where the text is a certificate's, that certificate is read, unless a growth was refused
abbrev pub ReadsFrontedTexts : List ℕ → Result Fronted CertRefusal → Type 0
ReadsFrontedTexts text r = (c : Fronted) → IsFrontedText text c → (r ≡ Ok c) ⊎ (r ≡ Err refusals.Memory)
