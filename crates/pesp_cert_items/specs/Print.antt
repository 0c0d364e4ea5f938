-- The text of a work in the pieces in which it is printed.
use Rattle.std.specs.Prelude.{ℕ, List, ◌++◌, decimal, codes}
use Rattle.std.specs.List.{flat_map}
use Rattle.pesp_cert.specs.Print.{time_line, tree_line_text}
use Rattle.pesp_cert_items.specs.Works.{WorkValue}

-- the header of a work, and the line of its job
abbrev pub head_text : ℕ → List ℕ
head_text job = codes "pesp-work 1\njob " ++ decimal job ++ codes "\n"

-- the text of a work, as it is printed
abbrev pub work_text : WorkValue → List ℕ
work_text w = head_text w.job ++ flat_map time_line w.times ++ flat_map tree_line_text w.tree ++ codes "end\n"
