-- A reader or a writer with its counts.
use Rattle.pesp_stream.specs.Counts.{Calls}

-- the reader or writer, and the counts of its calls
pub record Counting (T : Type 0) : Type 0 where
  pub inner : T
  pub calls : Calls
