-- What might still be saved, and how it is told.
use Rattle.std.specs.Prelude.{ℕ, ◌+◌, ◌-◌, ◌*◌, ◌/◌, ◌%◌, List, length, ◌++◌, codes, decimal, Option, Some, None}
use Rattle.pesp_truth.specs.Certificates.{least_of, cost_of, Front as FrontOf}
use Rattle.pesp_truth.specs.declared.answer.Answer.{Answer}
use Rattle.pesp_truth.specs.declared.answer.Answer.TheVariants.{Optimal, Infeasible, Bounded}
use Rattle.pesp_truth.specs.declared.tree.TreeLine.{TreeLine}
use Rattle.pesp_cert.specs.Fronted.{Fronted}

-- the cost less the bound, in hundredths of a per cent of the cost, rounded up
abbrev pub gap_of : ℕ → ℕ → ℕ
gap_of bound cost = ((cost - bound) * 10000 + (cost - 1)) / cost

-- hundredths as a number with two places, per cent
abbrev pub percent_text : ℕ → List ℕ
percent_text n = decimal (n / 100) ++ codes "." ++ decimal (n / 10 % 10) ++ decimal (n % 10) ++ codes " %"

-- a cost, a bound and their gap
abbrev pub gap_words : ℕ → ℕ → List ℕ
gap_words bound cost = codes "cost " ++ decimal cost ++ codes ", bound " ++ decimal bound ++ codes ", gap "
    ++ percent_text (gap_of bound cost)

-- an answer in words
abbrev pub gap_answer_text : Answer → List ℕ
gap_answer_text (Optimal c) = gap_words c c
gap_answer_text Infeasible = codes "no timetable"
gap_answer_text (Bounded least None) = codes "cost none, bound " ++ decimal least
gap_answer_text (Bounded least (Some c)) = gap_words least c

-- how many branches a tree of these lines has: one more line is a leaf, so they are half of the lines
abbrev pub branches_among : List TreeLine → ℕ
branches_among lines = length lines / 2

-- the version of the text of a certificate: 3 where it has a front
abbrev pub text_version : Option FrontOf → ℕ → ℕ
text_version None version = version
text_version (Some marks) version = 3

-- ---- in a line

-- a period and an answer
abbrev pub first_words : ℕ → Answer → List ℕ
first_words period answer = codes "period " ++ decimal period ++ codes ", " ++ gap_answer_text answer

-- a number of branches and a version
abbrev pub last_words : ℕ → ℕ → List ℕ
last_words branches version = codes ", branches " ++ decimal branches ++ codes ", version " ++ decimal version ++ codes "\n"

-- a certificate
abbrev pub gap_text : ℕ → Answer → ℕ → ℕ → List ℕ
gap_text period answer branches version = first_words period answer ++ last_words branches version

-- the line that `gap` writes of a certificate
abbrev pub gap_line : Fronted → List ℕ
gap_line c = gap_text c.content.period c.content.answer (branches_among c.content.tree) (text_version c.front c.content.version)

-- ---- as JSON

-- what kind of an answer it is
abbrev pub answer_kind : Answer → List ℕ
answer_kind (Optimal c) = codes "optimal"
answer_kind Infeasible = codes "infeasible"
answer_kind (Bounded least cost) = codes "open"

-- what might still be saved, in hundredths of a per cent of the cost, where there is one
abbrev pub points_of : Answer → Option ℕ
points_of (Optimal c) = Some (gap_of c c)
points_of Infeasible = None
points_of (Bounded least None) = None
points_of (Bounded least (Some c)) = Some (gap_of least c)

-- a number, or null
abbrev pub amount_text : Option ℕ → List ℕ
amount_text None = codes "null"
amount_text (Some n) = decimal n

-- an answer, by its kind and its bound
abbrev pub bound_field : Answer → List ℕ
bound_field answer = codes "{\"answer\":\"" ++ answer_kind answer ++ codes "\",\"bound\":" ++ amount_text (least_of answer)

-- a number of branches, and the cost of an answer
abbrev pub cost_field : ℕ → Answer → List ℕ
cost_field branches answer = codes ",\"branches\":" ++ decimal branches ++ codes ",\"cost\":" ++ amount_text (cost_of answer)

-- what might still be saved, and a period
abbrev pub gap_field : Answer → ℕ → List ℕ
gap_field answer period = codes ",\"gap_basis_points\":" ++ amount_text (points_of answer) ++ codes ",\"period\":" ++ decimal period

-- a certificate as an object on a line, its fields by their names
abbrev pub gap_object : ℕ → Answer → ℕ → ℕ → List ℕ
gap_object period answer branches version = bound_field answer ++ cost_field branches answer ++ gap_field answer period
    ++ (codes ",\"version\":" ++ decimal version ++ codes "}\n")

-- the line that `gap --json` writes of a certificate
abbrev pub gap_json : Fronted → List ℕ
gap_json c = gap_object c.content.period c.content.answer (branches_among c.content.tree) (text_version c.front c.content.version)
