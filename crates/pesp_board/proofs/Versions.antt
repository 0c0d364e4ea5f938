-- Whether propagation shuts a leaf among some lines, line by line.
use Rattle.std.proofs.Common.{◌≡◌, ℕ, List, map, drop}
use Rattle.std.specs.List.{list_any}
use Rattle.pesp_truth.specs.declared.tree.TreeLine.{TreeLine}
use Rattle.pesp_truth.specs.Trees.{line_of}
use Rattle.pesp_tree.specs.Certificates.{is_propagated}

-- the lines before a place are those of other leaves
abbrev pub RestDecides : List TreeLine → ℕ → Type 0
RestDecides lines k = list_any is_propagated (map line_of lines) ≡ list_any is_propagated (map line_of (drop k lines))
