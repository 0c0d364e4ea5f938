-- Readers and writers over a run.
use Rattle.std.specs.Prelude.{ℕ, List, Option}
use Rattle.pesp_stream.specs.Counts.{Calls, DeviceFailed}
use Rattle.pesp_stream.specs.Writing.{AppendsFront}

-- a reader or a writer over a run: the bytes that it tells and the counts of its calls, before and after
pub record Device : Type 0 where
  pub old : Option (List ℕ)
  pub new : Option (List ℕ)
  pub calls_old : Calls
  pub calls_new : Calls

-- the device with these bytes and counts
abbrev pub over : Option (List ℕ) → Option (List ℕ) → Calls → Calls → Device
over old new calls_old calls_new = record { old = old; new = new; calls_old = calls_old; calls_new = calls_new }

-- the device failed
abbrev pub HasFailed : Device → Type 0
HasFailed device = DeviceFailed device.calls_old device.calls_new

-- the writer got a front of the text
abbrev pub GetsFront : Device → List ℕ → Type 0
GetsFront writer text = AppendsFront writer.old writer.new text
