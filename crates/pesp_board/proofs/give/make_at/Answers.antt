use Rattle.std.proofs.Common.{sym, ◌∙◌, arith, subst}
use Rattle.pesp_truth.specs.Trees.{Bound}
use Rattle.pesp_tree.specs.States.{node_at}
use Rattle.pesp_board.specs.Parts.{MakesParts}
use Rattle.pesp_board.specs.Giving.{AreCuts}
use Rattle.pesp_board.proofs.Paths.{path_cuts, leaf_pairs}
use Rattle.pesp_board.proofs.Sizing.{pairs_few, part_made, part_large, made_parts}
use Rattle.pesp_board.proofs.give.make_at.Goals as goal

pub make-requires-clause-path : goal.make-requires-clause-path
make-requires-clause-path c = subst (AreCuts c.args.problem.now)
    (sym (c.deref.ensures.value ∙ c.in_ok-path.ensures.path))
    (path_cuts c.args.problem.now c.args.tree.now c.args.node
    (Bound c.requires.pairs) c.nodes-lines.ensures.whole c.requires.limits c.requires.leaf)

pub make-requires-clause-old : goal.make-requires-clause-old
make-requires-clause-old c = leaf_pairs c.args.problem.now c.args.tree.now c.args.node c.in-Some.old.now
    c.nodes-lines.ensures.whole c.requires.limits c.in-Some.ensures

pub overflow_sub-rest : goal.overflow_sub-rest
overflow_sub-rest c =
    let few = pairs_few c.args.tree.now c.args.node c.in-Some.old.now c.nodes-lines.ensures.whole c.in-Some.ensures in
    let count = c.requires.count in
    omega (arith, few, count)

pub returns-in-Some-size_with : goal.returns-in-Some-size_with
returns-in-Some-size_with c =
    let few = pairs_few c.args.tree.now c.args.node c.in-Some.old.now c.nodes-lines.ensures.whole c.in-Some.ensures in
    let count = c.requires.count in
    part_made c.args.problem.now c.args.tree.now c.args.node c.nodes-lines.result _ c.in-Some-size_with.count
    c.deref.result.now c.in-Some.old.now c.args.work.now c.deref-2.result.now c.in_ok-parts.parts.items
    (record {
      whole = c.nodes-lines.ensures.whole;
      leaf = c.in-Some.ensures;
      path = c.deref.ensures.value ∙ c.in_ok-path.ensures.path;
      long = c.nodes-lines.ensures.count;
      count = omega (arith, few, count);
      makes = subst
          (MakesParts c.args.problem.now (node_at c.args.problem.now c.deref.result.now) c.in-Some.old.now
          c.args.work.now) (sym c.in_ok-parts.ensures)
          (made_parts c.args.problem.now (node_at c.args.problem.now c.deref.result.now) c.in-Some.old.now
          c.args.work.now c.in_ok-made.made c.in_ok-made.ensures);
    })
    c.deref-2.ensures.value c.in-Some-size_with.ensures

pub returns : goal.returns
returns c =
    let few = pairs_few c.args.tree.now c.args.node c.in-Some.old.now c.nodes-lines.ensures.whole c.in-Some.ensures in
    let count = c.requires.count in
    part_large c.args.problem.now c.args.tree.now c.args.node c.nodes-lines.result _ c.deref.result.now
    c.in-Some.old.now c.args.work.now c.deref-2.result.now c.in_ok-parts.parts.items
    (record {
      whole = c.nodes-lines.ensures.whole;
      leaf = c.in-Some.ensures;
      path = c.deref.ensures.value ∙ c.in_ok-path.ensures.path;
      long = c.nodes-lines.ensures.count;
      count = omega (arith, few, count);
      makes = subst
          (MakesParts c.args.problem.now (node_at c.args.problem.now c.deref.result.now) c.in-Some.old.now
          c.args.work.now) (sym c.in_ok-parts.ensures)
          (made_parts c.args.problem.now (node_at c.args.problem.now c.deref.result.now) c.in-Some.old.now
          c.args.work.now c.in_ok-made.made c.in_ok-made.ensures);
    })
    c.deref-2.ensures.value c.in-None.ensures
