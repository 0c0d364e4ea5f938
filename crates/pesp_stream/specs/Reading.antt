-- What reading a whole text gives and what it takes from a reader.
use Rattle.std.specs.Prelude.{◌≡◌, ℕ, ◌<◌, ◌≤◌, List, Option, length, take, IfSome}
use Rattle.std.specs.Io.KnownBytes.{Consumes, IsAtEnd}
use Rattle.pesp_stream.specs.Counts.{Calls, HasWorked, DeviceFailed}
use Rattle.pesp_stream.specs.declared.read_loop.ReadFault.{ReadFault}
use Rattle.pesp_stream.specs.declared.read_loop.ReadFault.TheVariants.{Memory, Device}

-- the bytes that were read, of a reader's told bytes before and after
pub record ReadsText (old new : Option (List ℕ)) (limit : ℕ) (bytes : List ℕ) : Type 0 where
  pub within : length bytes ≤ limit
  pub front : IfSome old (λ xs. bytes ≡ take limit xs)
  pub consumed : Consumes old new bytes
  pub ended : length bytes < limit → IsAtEnd new

-- a device is blamed where it failed, and memory where it worked
abbrev pub ReadFaults : ReadFault → Calls → Calls → Type 0
ReadFaults Memory old new = HasWorked old new
ReadFaults Device old new = DeviceFailed old new
