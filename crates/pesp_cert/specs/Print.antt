-- The text of a certificate in the pieces in which it is printed.
use Rattle.std.specs.Prelude.{if◌then◌else◌, Option, Some, None, ℕ, ℤ, List, ◌++◌, decimal, codes}
use Rattle.std.specs.List.{flat_map}
use Rattle.std.specs.Fmt.{signed_decimal}
use Rattle.pesp_problem.specs.declared.row.SignedRow.{SignedRow}
use Rattle.pesp_problem.specs.declared.pair.Pair.{Pair}
use Rattle.pesp_truth.specs.declared.answer.Answer.{Answer}
use Rattle.pesp_truth.specs.declared.answer.Answer.TheVariants as answers
use Rattle.pesp_truth.specs.declared.tree.TreeLine.{TreeLine}
use Rattle.pesp_truth.specs.declared.tree.TreeLine.TheVariants as lines
use Rattle.pesp_truth.specs.Certificates.{Content}

-- the lines of the version and of the period
abbrev pub head_lines : ℕ → ℕ → List ℕ
head_lines version n = codes "pesp-certificate " ++ decimal version ++ codes "\nperiod " ++ decimal n ++ codes "\n"

-- a cost, or `none` where there is none
abbrev pub cost_text : Option ℕ → List ℕ
cost_text None = codes "none"
cost_text (Some c) = decimal c

-- the line of the answer
abbrev pub answer_line : Answer → List ℕ
answer_line (answers.Optimal c) = codes "answer optimal " ++ decimal c ++ codes "\n"
answer_line answers.Infeasible = codes "answer infeasible\n"
answer_line (answers.Bounded least cost) = codes "answer open " ++ decimal least ++ codes " " ++ cost_text cost ++ codes "\n"

-- the line that gives an event, by its label, a time
abbrev pub time_line : ℤ × ℕ → List ℕ
time_line t = codes "time " ++ signed_decimal t.0 ++ codes " " ++ decimal t.1 ++ codes "\n"

-- the number and the multiplier of a pair, each behind a space
abbrev pub pair_text : Pair → List ℕ
pair_text p = codes " " ++ decimal p.cycle ++ codes " " ++ signed_decimal p.mult

-- pairs, one behind the other
abbrev pub pairs_text : List Pair → List ℕ
pairs_text ps = flat_map pair_text ps

-- a signed row behind a space: a sign and a number
abbrev pub row_text : SignedRow → List ℕ
row_text r = (if r.plus then codes " +" else codes " -") ++ decimal r.row

-- the signed rows of a cycle, one behind the other
abbrev pub rows_text : List SignedRow → List ℕ
rows_text rs = flat_map row_text rs

-- the line of a cycle
abbrev pub cycle_line : List SignedRow → List ℕ
cycle_line rs = codes "cycle" ++ rows_text rs ++ codes "\n"

-- a line of the tree, of a branch or of a leaf
abbrev pub tree_line_text : TreeLine → List ℕ
tree_line_text (lines.Slack row k) = codes "s " ++ decimal row ++ codes " " ++ decimal k ++ codes "\n"
tree_line_text (lines.Offset cycle k) = codes "o " ++ decimal cycle ++ codes " " ++ signed_decimal k ++ codes "\n"
tree_line_text (lines.Bound ps) = codes "b" ++ pairs_text ps ++ codes "\n"
tree_line_text (lines.Nothing ps) = codes "n" ++ pairs_text ps ++ codes "\n"
tree_line_text (lines.Gap cycle) = codes "g " ++ decimal cycle ++ codes "\n"
tree_line_text lines.Propagated = codes "p\n"

-- the text of a certificate without a front, as it is printed
abbrev pub certificate_text : Content → List ℕ
certificate_text c = head_lines c.version c.period ++ answer_line c.answer ++ flat_map time_line c.times
    ++ flat_map cycle_line c.cycles ++ flat_map tree_line_text c.tree ++ codes "end\n"
