-- The text of a front in the pieces in which it is printed.
use Rattle.std.specs.Prelude.{if◌then◌else◌, ℕ, List, ◌++◌, decimal, codes}
use Rattle.std.specs.List.{flat_map}
use Rattle.std.specs.Fmt.{signed_decimal}
use Rattle.pesp_truth.specs.Marks.{Marks}
use Rattle.pesp_truth.specs.Shown.{LemmaProof}
use Rattle.pesp_problem.specs.declared.marked.MarkedRow.{MarkedRow}
use Rattle.pesp_cert_lines.specs.Marked.{star}
use Rattle.pesp_cert.specs.Print.{pairs_text, cycle_line, tree_line_text}

-- a marked row behind a space: a sign, a number, and `*` where the row is flipped
abbrev pub row_text : MarkedRow → List ℕ
row_text s = ((if s.signed.plus then codes " +" else codes " -") ++ decimal s.signed.row) ++ star s.flipped

-- the marked rows of a walk, one behind the other
abbrev pub rows_text : List MarkedRow → List ℕ
rows_text walk = flat_map row_text walk

-- the line of a marked walk
abbrev pub walk_text : List MarkedRow → List ℕ
walk_text walk = (codes "walk" ++ rows_text walk) ++ codes "\n"

-- the lines of a scale and of marked walks
abbrev pub marks_text : Marks → List ℕ
marks_text marks = (codes "scale " ++ (decimal marks.scale ++ codes "\n")) ++ flat_map walk_text marks.walks

-- the lines of a lemma
abbrev pub lemma_text : LemmaProof → List ℕ
lemma_text s = codes "lemma" ++ pairs_text s.fact.weights ++ (codes "\nleast " ++ (signed_decimal s.fact.least ++ codes "\n"))
    ++ marks_text s.marks ++ flat_map cycle_line s.cycles ++ flat_map tree_line_text s.tree
