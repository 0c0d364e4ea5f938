-- The one text of a work.
use Rattle.std.specs.Prelude.{◌≡◌, ℕ, ℤ, ◌≤◌, List, [], ◌∷◌, ◌++◌, codes, decimal, map, All}
use Rattle.std.specs.List.{flat_map}
use Rattle.pesp_truth.specs.declared.answer.Answer.TheVariants.{Infeasible}
use Rattle.pesp_truth.specs.declared.tree.TreeLine.{TreeLine}
use Rattle.pesp_truth.specs.Certificates.{Content}
use Rattle.pesp_stream.specs.Words.{line_of_words}
use Rattle.pesp_cert_lines.specs.declared.item.Item.{Item}
use Rattle.pesp_cert_lines.specs.declared.item.Item.TheVariants.{End}
use Rattle.pesp_cert_lines.specs.declared.progress.Place.TheVariants as places
use Rattle.pesp_cert_lines.specs.declared.progress.Progress.{Progress}
use Rattle.pesp_cert_lines.specs.declared.versions.Versions.TheVariants.{Plain}
use Rattle.pesp_cert_lines.specs.Items.{item_line}
use Rattle.pesp_cert_lines.specs.Counts.{beginning}
use Rattle.pesp_cert.specs.Limits.{ContentKeepsLimits}
use Rattle.pesp_cert.specs.Texts.{IsRun, time_item, tree_item}
use Rattle.pesp_cert_items.specs.declared.job.TheConstants.{MOST_JOB}

-- what a work says: the number of its job, labels with times, and the lines of a tree
pub record WorkValue : Type 0 where
  pub job : ℕ
  pub times : List (ℤ × ℕ)
  pub tree : List TreeLine

-- the first line of a work, without its LF
abbrev pub HEADER : List ℕ
HEADER = codes "pesp-work 1"

-- the line of the job, without its LF
abbrev pub job_line : ℕ → List ℕ
job_line n = line_of_words (codes "job" ∷ decimal n ∷ [])

-- the lines behind the job's: times, the tree and the end
abbrev pub work_items : WorkValue → List Item
work_items w = map time_item w.times ++ (map tree_item w.tree ++ End ∷ [])

-- behind the job's line times may stand, and one tree is still to come, with the lines of version 2
abbrev pub work_progress : Progress
work_progress = record (beginning Plain) { place = places.Times; version = 2 }

-- the one text of a work
abbrev pub work_spelling : WorkValue → List ℕ
work_spelling w = HEADER ++ 10 ∷ (job_line w.job ++ 10 ∷ flat_map item_line (work_items w))

-- works, one behind the other
abbrev pub spellings : List WorkValue → List ℕ
spellings ws = flat_map work_spelling ws

-- what has a text
pub record HasWorkText (w : WorkValue) : Type 0 where
  pub job : w.job ≤ MOST_JOB
  pub run : IsRun work_progress (work_items w)

-- a certificate of version 2 without cycles that shows the work's times and tree
abbrev pub certificate_of : WorkValue → Content
certificate_of w = record { version = 2; period = 1; answer = Infeasible; times = w.times; cycles = []; tree = w.tree }

-- the limits of a work: the job's, and a certificate's on its times and its tree
pub record KeepsWorkLimits (w : WorkValue) : Type 0 where
  pub job : w.job ≤ MOST_JOB
  pub parts : ContentKeepsLimits (certificate_of w)

-- no work's text begins another's, and each has one meaning
abbrev pub NoWorkBeginsAnother : Type 0
NoWorkBeginsAnother = (a b : WorkValue) (more : List ℕ) → HasWorkText a → HasWorkText b → work_spelling a ++ more ≡ work_spelling b → (a ≡ b) × (more ≡ [])

-- two lists of works with one text are the same
abbrev pub ListsDiffer : Type 0
ListsDiffer = (first other : List WorkValue) → All HasWorkText first → All HasWorkText other → spellings first ≡ spellings other → first ≡ other
