-- What is known of a text while it is put piece by piece.
use Rattle.std.specs.Prelude.{◌≡◌, ℕ, ◌≤◌, Bool, true, false, List, Option, ◌++◌}
use Rattle.pesp_stream.specs.Counts.{Calls, Failed}
use Rattle.pesp_stream.specs.Writing.{AppendsFront, Moves}

-- the state of an output: what its writer holds where told, the counts of its calls, how many interrupted calls are
-- borne in all, the bytes that are put and not yet written, whether the writer failed, and
-- which writer it is
pub record Sending : Type 0 where
  pub told : Option (List ℕ)
  pub calls : Calls
  pub most : ℕ
  pub kept : List ℕ
  pub stopped : Bool
  pub writer : ℕ

-- the text was written or is kept back, no call failed, and not too many were interrupted
pub record Goes (old new : Sending) (text : List ℕ) : Type 0 where
  pub moves : Moves old.told new.told old.kept text new.kept
  pub failed : new.calls.failed ≡ old.calls.failed
  pub interrupted : old.calls.interrupted ≤ old.most → new.calls.interrupted ≤ old.most

-- a front of the text was written, and the writer failed
pub record Stops (old new : Sending) (text : List ℕ) : Type 0 where
  pub front : AppendsFront old.told new.told (old.kept ++ text)
  pub fault : Failed old.calls old.most new.calls

-- what happens to a text, by whether the writer had failed before it and after it: behind a fault nothing is written
abbrev pub Outcome : Bool → Bool → Sending → Sending → List ℕ → Type 0
Outcome true stopped old new text = (stopped ≡ true) × (new ≡ old)
Outcome false true old new text = Stops old new text
Outcome false false old new text = Goes old new text

-- the text was put: all of it is written or kept back, or the writer failed and a front of it is written
pub record Sends (old new : Sending) (text : List ℕ) : Type 0 where
  pub outcome : Outcome old.stopped new.stopped old new text
  pub most : new.most ≡ old.most
  pub writer : new.writer ≡ old.writer
