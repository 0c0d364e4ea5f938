-- What is known of a text that was given up before its end was read.
use Rattle.std.specs.Prelude.{◌≡◌, ◌⊎◌, ℕ, ◌≤◌, List, [], ◌++◌, length, Option, Err}
use Rattle.std.specs.Io.KnownBytes.{Consumes, IsAtEnd}
use Rattle.pesp_cert.specs.declared.refusal.CertRefusal.{CertRefusal}
use Rattle.pesp_cert_lines.specs.declared.versions.Versions.{Versions}
use Rattle.pesp_cert.specs.Refusals.{items_of_text}

-- some bytes were read, at most so many, and whatever stands behind them, where more of them would be read, the text's
-- first fault is this one, where these versions are taken
pub record RefusesText (versions : Versions) (told told' : Option (List ℕ)) (limit : ℕ) (r : CertRefusal) : Type 0 where
  pub read : List ℕ
  pub within : length read ≤ limit
  pub consumed : Consumes told told' read
  pub first : (more : List ℕ) → ((length read ≡ limit) ⊎ IsAtEnd told' → more ≡ []) → items_of_text versions (read ++ more) ≡ Err r
