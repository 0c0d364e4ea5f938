-- One line of a work, or its first fault.
use Rattle.std.specs.Prelude.{ℕ, Bool, false, ◌&&◌, not, ◌==◌, nat_le, if◌then◌else◌, Option, Some, None, Result, Ok, Err, List, [], ◌∷◌, length, codes}
use Rattle.std.specs.Str.{bytes_eq}
use Rattle.pesp_stream.specs.Number.{natural_of}
use Rattle.pesp_stream.specs.Words.{words_of}
use Rattle.pesp_cert_lines.specs.declared.fault.LineFault.{LineFault}
use Rattle.pesp_cert_lines.specs.declared.fault.LineFault.TheVariants as faults
use Rattle.pesp_cert_lines.specs.declared.item.Item.{Item}
use Rattle.pesp_cert_lines.specs.declared.progress.Progress.{Progress}
use Rattle.pesp_cert_lines.specs.Lines.{line_at}
use Rattle.pesp_cert_items.specs.declared.job.TheConstants.{MOST_JOB}

-- the spelling first, then the limit
abbrev pub job_of : Option ℕ → Result ℕ LineFault
job_of None = Err faults.Number
job_of (Some n) = if nat_le n MOST_JOB then Ok n else Err faults.Limit

-- two words, `job` and a natural
abbrev pub job_said : List (List ℕ) → Result ℕ LineFault
job_said [] = Err faults.Line
job_said (w ∷ []) = Err faults.Line
job_said (w ∷ v ∷ []) = if bytes_eq w (codes "job") && not (length v == 0) then job_of (natural_of v) else Err faults.Line
job_said (w ∷ v ∷ u ∷ ws) = Err faults.Line

-- what the second line of a work says
unfoldable pub job_at : List ℕ → Result ℕ LineFault
job_at line = if bytes_eq line (codes "end") then Err faults.Truncated else job_said (words_of line)

-- the first word is `cycle`
abbrev pub begins_cycle : List (List ℕ) → Bool
begins_cycle [] = false
begins_cycle (w ∷ ws) = bytes_eq w (codes "cycle")

-- what a line behind the job's says at its place: a certificate's line, but for cycles, of which a work has none
unfoldable pub work_line_at : Progress → List ℕ → Result Item LineFault
work_line_at p line = if begins_cycle (words_of line) then Err faults.Line else line_at p line
