use Rattle.std.proofs.Common.{List, [], ◌∷◌, map, sym, subst}
use Rattle.pesp_truth.specs.declared.tree.TreeLine.{TreeLine}
use Rattle.pesp_truth.specs.Trees.{line_of}
use Rattle.pesp_tree.specs.States.{root_of}
use Rattle.pesp_board.specs.Adopting.{AreLinesOf}
use Rattle.pesp_board.proofs.Taken.{sound_lines_keep}
use Rattle.pesp_board.proofs.adoption.parts_of_tree.Goals as goal

pub value_lines-requires-clause-limits : goal.value_lines-requires-clause-limits
value_lines-requires-clause-limits c =
    let p = c.args.problem.now in
    let keep = sound_lines_keep p c.args.certificate.now.tree (root_of p ∷ []) c.tree.ensures.limits.each_line c.requires in
    subst (λ (lines : List TreeLine). AreLinesOf p (map line_of lines)) (sym c.tree.ensures.value) keep
