-- What a writer got of a text or of a line.
use Rattle.std.specs.Prelude.{◌⊎◌, ℕ, List, ◌++◌, codes}
use Rattle.std.specs.Io.KnownBytes.{Appends}
use Rattle.pesp_check.specs.Devices.{Device, HasFailed, GetsFront}

-- the writer got this text
abbrev pub Gets : Device → List ℕ → Type 0
Gets writer text = Appends writer.old writer.new text

-- or a front of it, behind which it failed
abbrev pub GetsText : Device → List ℕ → Type 0
GetsText writer text = Gets writer text ⊎ (HasFailed writer × GetsFront writer text)

-- the same of a line
abbrev pub GetsLine : Device → List ℕ → Type 0
GetsLine writer line = GetsText writer (line ++ codes "\n")
