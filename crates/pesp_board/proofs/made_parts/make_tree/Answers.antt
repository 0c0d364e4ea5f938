use Rattle.std.proofs.Common.{List, [], ◌∷◌, map, subst}
use Rattle.std.specs.Prelude.{Ok, Err}
use Rattle.pesp_problem.specs.Nodes.{Node}
use Rattle.pesp_truth.specs.declared.tree.TreeLine.{TreeLine}
use Rattle.pesp_truth.specs.Trees.{line_of}
use Rattle.pesp_board.specs.Grafting.{AreJudgedParts}
use Rattle.pesp_board.proofs.Judged.{tree_made, tree_not_made}
use Rattle.pesp_board.proofs.made_parts.make_tree.Goals as goal

pub returns-in_err-parts : goal.returns-in_err-parts
returns-in_err-parts c =
    let there = subst (λ (nodes : List Node). AreJudgedParts c.args.problem.now c.leaf_value-worth.result nodes
    (map line_of c.deref.result.now) (Err c.in_err-parts.field-0.0)) c.new-walk.ensures
    c.in_err-parts.ensures in
    let judged = subst (λ (lines : List TreeLine).
    AreJudgedParts c.args.problem.now c.leaf_value-worth.result (c.args.node ∷ []) (map line_of lines)
    (Err c.in_err-parts.field-0.0)) c.deref.ensures.value there in
    tree_not_made c.args.problem.now c.leaf_value-worth.result c.args.node c.args.old.now c.args.lines.now
    c.in_err-parts.field-0.0 _ c.leaf_value-worth.ensures.value judged c.from_residual.ensures.1

pub returns : goal.returns
returns c =
    let there = subst (λ (nodes : List Node). AreJudgedParts c.args.problem.now c.leaf_value-worth.result nodes
    (map line_of c.deref.result.now) (Ok c.in_ok-parts.parts)) c.new-walk.ensures c.in_ok-parts.ensures in
    let judged = subst (λ (lines : List TreeLine).
    AreJudgedParts c.args.problem.now c.leaf_value-worth.result (c.args.node ∷ []) (map line_of lines)
    (Ok c.in_ok-parts.parts)) c.deref.ensures.value there in
    tree_made c.args.problem.now c.leaf_value-worth.result c.args.node c.args.old.now c.args.lines.now
    c.in_ok-parts.parts c.leaf_value-worth.ensures.value judged
