-- What a writer got of a text that was printed.
use Rattle.std.proofs.Common.{inl, inr, ℕ, List, Ok, Err}
use Rattle.std.specs.Prelude.{Result, Option, OnErr}
use Rattle.pesp_stream.specs.Counts.{Calls, DeviceFailed}
use Rattle.pesp_stream.specs.Writing.{Writes}
use Rattle.pesp_check.specs.Devices.{over}
use Rattle.pesp_check.specs.Lines.{GetsText}

-- all of it, or a front where the writer failed
pub got_text : {A E : Type 0} (r : Result A E) (old new : Option (List ℕ)) (calls after : Calls) (text : List ℕ)
    → Writes old new text r → OnErr r (DeviceFailed calls after) → GetsText (over old new calls after) text
got_text (Ok a) old new calls after text written fault = inl written
got_text (Err e) old new calls after text written fault = inr (fault, written)
