use Rattle.std.proofs.Common.{arith, refl}
use Rattle.std.proofs.lemmas.Bool.{false≢true}
use Rattle.pesp_propagate.specs.Rooted.{roots_of}
use Rattle.pesp_propagate.proofs.Trees.{joins_here, joins_there, tree_rows-more, tree_rows-skip, tree_rows-from_all}
use Rattle.pesp_propagate.proofs.rooted.tree_rows.Goals as goal
use Rattle.pesp_propagate.proofs.rooted.tree_rows.Goals.{then-is_tree_row+in_ok-push, else-is_tree_row}

pub loop-place-preserved : goal.loop-place-preserved
loop-place-preserved c =
    let arcs = c.args.arcs.now in
    let roots = roots_of c.args.rooted.now in
    elim c.if-is_tree_row.branch [
      | then-is_tree_row+in_ok-push w ↦ rw (w.rows-is, w.in_ok-push.ensures.items)
          (tree_rows-more c.loop-place.place arcs roots c.loop-place.rows.items c.loop-place.invariant
          (joins_here arcs roots c.loop-place.place (w.if-is_tree_row.ensures.0 refl)))
      | else-is_tree_row w ↦ rw w.rows-is (tree_rows-skip c.loop-place.place arcs roots c.loop-place.rows.items
          c.loop-place.invariant (λ j. false≢true (w.if-is_tree_row.ensures.1
          (joins_there arcs roots c.loop-place.place j))))
    ]

pub returns : goal.returns
returns c events trees =
    tree_rows-from_all events c.args.arcs.now
    (roots_of c.args.rooted.now) c.loop-place.rows.items c.loop-place.place trees (omega arith)
    (omega arith) c.loop-place.invariant
