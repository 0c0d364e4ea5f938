-- The text of jobs.
use Rattle.std.specs.Prelude.{ℕ, List, ◌++◌, codes, decimal}
use Rattle.std.specs.List.{flat_map}
use Rattle.std.specs.Fmt.{signed_decimal}
use Rattle.pesp_problem.specs.declared.cut.Cut.{Cut}
use Rattle.pesp_problem.specs.declared.cut.Cut.TheVariants.{Slack, Offset}
use Rattle.pesp_problem.specs.declared.cut.Side.{Side}
use Rattle.pesp_problem.specs.declared.cut.Side.TheVariants.{Low, High}
use Rattle.pesp_turns.specs.declared.open_job.OpenJob.{OpenJob}

-- a cut in a row's slack range or a cycle's offset range
abbrev pub cut_words : Cut → List ℕ
cut_words (Slack row k) = codes " s " ++ decimal row ++ codes " " ++ decimal k
cut_words (Offset cycle k) = codes " o " ++ decimal cycle ++ codes " " ++ signed_decimal k

-- the word of a side, behind a space
abbrev pub side_word : Side → List ℕ
side_word Low = codes " low"
side_word High = codes " high"

-- a cut and the side that is taken
abbrev pub step_words : Cut × Side → List ℕ
step_words step = cut_words step.0 ++ side_word step.1

-- the number of the job, its value, and the path to its leaf
abbrev pub open_job_line : OpenJob → List ℕ
open_job_line leaf = codes "job " ++ decimal leaf.job.number ++ codes " " ++ decimal leaf.value
    ++ flat_map step_words leaf.job.path.items ++ codes "\n"

-- the header, a line for each job, and the end
abbrev pub jobs_text : List OpenJob → List ℕ
jobs_text opens = codes "pesp-jobs 1\n" ++ flat_map open_job_line opens ++ codes "end\n"
