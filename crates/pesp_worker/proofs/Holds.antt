-- What is known of a leaf that was lent to the work.
use Rattle.std.proofs.Common.{◌≡◌, ℕ, List, length, sym, subst, ◌∙◌}
use Rattle.std.specs.Prelude.{Option, Some, IfSome}
use Rattle.pesp_problem.specs.declared.pair.Pair.{Pair}
use Rattle.pesp_problem.specs.declared.cut.Cut.{Cut}
use Rattle.pesp_problem.specs.declared.cut.Side.{Side}
use Rattle.pesp_truth.specs.Trees.{Bound}
use Rattle.pesp_nodes.specs.Problems.{ProblemValue, IsNodeOf, ArePairs}
use Rattle.pesp_tree.specs.declared.job.Job.{Job}
use Rattle.pesp_tree.specs.States.{State, IsJobLeaf, node_at}
use Rattle.pesp_tree.specs.Reached.{IsOrderly}
use Rattle.pesp_tree.specs.Events.{LendsLeaf}
use Rattle.pesp_board.specs.Giving.{AreCuts}
use Rattle.pesp_branching.proofs.Replies.{lent_leaf}
use Rattle.pesp_branching.proofs.Sizes.{path_cuts, leaf_pairs}
use Rattle.pesp_worker.specs.declared.held_leaves.Held.{Held}
use Rattle.pesp_worker.specs.Holding.{IsHeld}

-- the cuts of the path to a leaf that was just lent exist
pub held_cuts : (p q r : ProblemValue) (old mid : State) (job : Job) (next : Option Job) (path : List (Cut × Side))
    → q ≡ p → r ≡ q → IsOrderly q mid → next ≡ Some job → IfSome next (λ j. LendsLeaf p old j mid)
    → path ≡ job.path.items → AreCuts r path
held_cuts p q r old mid job next path e f orderly is lends same =
    let lent : LendsLeaf p old job mid = subst (λ (o : Option Job). IfSome o (λ j. LendsLeaf p old j mid)) is lends in
    let leaf = lent_leaf p old mid job lent in
    subst (λ (x : ProblemValue). AreCuts x path) (sym f)
    (subst (AreCuts q) (sym same) (path_cuts q mid job.path.items (Bound lent.opens.pairs) orderly leaf.1))

-- what is known of it
pub held_is : (p q r : ProblemValue) (mid : State) (held : Held) (value : ℕ) (path : List (Cut × Side))
    (pairs : List Pair) → q ≡ p → r ≡ q → IsOrderly q mid → held.node ≡ node_at r path → IsNodeOf r held.node
    → IsJobLeaf q mid held.job.number value pairs → held.pairs ≡ pairs → IsHeld p held
held_is p q r mid held value path pairs e f orderly at fits told same = record {
  node = record {
    path = path;
    at = subst (λ (x : ProblemValue). held.node ≡ node_at x path) (f ∙ e) at;
    fits = subst (λ (x : ProblemValue). IsNodeOf x held.node) (f ∙ e) fits;
  };
  pairs = subst (λ (xs : List Pair). ArePairs (length p.table) xs) (sym same)
      (subst (λ (x : ProblemValue). ArePairs (length x.table) pairs) e
      (leaf_pairs q mid told.path pairs orderly told.leaf.1));
}
