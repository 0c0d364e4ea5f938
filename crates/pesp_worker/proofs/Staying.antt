-- Leaves that stay lent when work is given for another number.
use Rattle.std.proofs.Common.{◌≡◌, ◌≢◌, ℕ, List, [], ◌∷◌, refl, sym, ap, ◌∙◌, subst}
use Rattle.std.specs.Prelude.{Result, Ok, Err}
use Rattle.std.proofs.lemmas.List.{get_or-set_other}
use Rattle.pesp_problem.specs.declared.cut.Cut.{Cut}
use Rattle.pesp_problem.specs.declared.cut.Side.{Side}
use Rattle.pesp_problem.specs.declared.cut.Side.TheVariants.{Low, High}
use Rattle.pesp_truth.specs.Trees.{Tree, Leaf, Ends, Branch, Bound}
use Rattle.pesp_truth.specs.Leaves.{IsLeafAt, put}
use Rattle.pesp_nodes.specs.Problems.{ProblemValue}
use Rattle.pesp_tree.specs.declared.work.Work.{Work}
use Rattle.pesp_tree.specs.declared.refusal.GiveRefusal.{GiveRefusal}
use Rattle.pesp_tree.specs.States.{State, Lent, Given, Recalled, HasLeaf}
use Rattle.pesp_tree.specs.Reached.{AreLentApart}
use Rattle.pesp_tree.specs.Events.{Takes, Gives}
use Rattle.pesp_worker.specs.Holding.{KeepsOthers}

-- what stands elsewhere still stands when a leaf is replaced
put_elsewhere : (tree : Tree) (path q : List (Cut × Side)) (leaf other : Leaf) (new : Tree)
    → IsLeafAt tree path leaf → IsLeafAt tree q other → q ≢ path → IsLeafAt (put tree path new) q other
put_elsewhere (Ends there) [] [] leaf other new h k n = absurd (n refl)
put_elsewhere (Ends there) [] (step ∷ q) leaf other new h k n = absurd k
put_elsewhere (Ends there) (step ∷ path) q leaf other new h k n = absurd h
put_elsewhere (Branch cut low high) [] q leaf other new h k n = absurd h
put_elsewhere (Branch cut low high) (step ∷ path) [] leaf other new h k n = absurd k
put_elsewhere (Branch cut low high) ((c, Low) ∷ path) ((d, Low) ∷ q) leaf other new h k n =
    (k.0, put_elsewhere low path q leaf other new h.1 k.1 (λ e. n (rw (h.0, k.0, e) refl)))
put_elsewhere (Branch cut low high) ((c, Low) ∷ path) ((d, High) ∷ q) leaf other new h k n = k
put_elsewhere (Branch cut low high) ((c, High) ∷ path) ((d, Low) ∷ q) leaf other new h k n = k
put_elsewhere (Branch cut low high) ((c, High) ∷ path) ((d, High) ∷ q) leaf other new h k n =
    (k.0, put_elsewhere high path q leaf other new h.1 k.1 (λ e. n (rw (h.0, k.0, e) refl)))

takes_keeps : (p : ProblemValue) (old new : State) (number : ℕ) (work : Work) → AreLentApart old
    → Takes p old number work new → KeepsOthers old number new
takes_keeps p old new number work apart t other path pairs differs leaf =
    subst (λ (s : State). HasLeaf s other path pairs) (sym t.state) (
      get_or-set_other old.numbers number other Given Recalled differs ∙ leaf.0,
      put_elsewhere old.tree t.path path (Bound t.pairs) (Bound pairs) t.part t.leaf.1 leaf.1
          (λ same. differs (apart.apart other number t.path (leaf.0 ∙ ap Lent same) t.leaf.0)),
    )

-- whatever the reply
pub given_keeps : (p : ProblemValue) (old new : State) (number : ℕ) (work : Work)
    (reply : Result (Unit {0}) GiveRefusal) → AreLentApart old → Gives p old number work reply new
    → KeepsOthers old number new
given_keeps p old new number work (Ok done) apart g other path pairs differs leaf =
    takes_keeps p old new number work apart g other path pairs differs leaf
given_keeps p old new number work (Err refusal) apart g other path pairs differs leaf =
    subst (λ (s : State). HasLeaf s other path pairs) (sym g.0) leaf

-- nothing changed
pub same_keeps : (old new : State) (number : ℕ) → new ≡ old → KeepsOthers old number new
same_keeps old new number e other path pairs differs leaf = subst (λ (s : State). HasLeaf s other path pairs) (sym e) leaf
