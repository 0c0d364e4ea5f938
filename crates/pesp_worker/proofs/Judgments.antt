-- What is judged is handed in.
use Rattle.std.proofs.Common.{◌≡◌, ◌≤◌, ◌<◌, ℕ, List, [], ◌∷◌, map, refl, ap, sym, ◌∙◌, subst, arith}
use Rattle.std.specs.Prelude.{Option, Some, option_map, Result, Ok, Err, IfOk, IfSome, IsOk}
use Rattle.std.specs.Global.{Vec}
use Rattle.pesp_problem.specs.declared.pair.Pair.{Pair}
use Rattle.pesp_network.specs.Networks.{KeepsNetLimits}
use Rattle.pesp_truth.specs.declared.tree.TreeLine.{TreeLine}
use Rattle.pesp_truth.specs.declared.tree.TreeLine.TheVariants as lines
use Rattle.pesp_truth.specs.Trees.{Bound, EndLine, line_of}
use Rattle.pesp_nodes.specs.Problems.{ProblemValue, IsSmallTable}
use Rattle.pesp_tree.specs.declared.work.Work.TheVariants as works
use Rattle.pesp_tree.specs.declared.refusal.GiveRefusal.{GiveRefusal}
use Rattle.pesp_tree.specs.States.{State, IsJobLeaf, value_at}
use Rattle.pesp_tree.specs.BoardLeaves.{told}
use Rattle.pesp_tree.proofs.OneSize.{same_path, same_pairs}
use Rattle.pesp_problem.specs.declared.cut.Cut.{Cut}
use Rattle.pesp_problem.specs.declared.cut.Side.{Side}
use Rattle.pesp_tree.specs.Reached.{IsOrderly}
use Rattle.pesp_tree.specs.Events.{Takes, Gives}
use Rattle.pesp_worker.specs.HandingIn.{Fits, IsWholeFrom}
use Rattle.pesp_worker.proofs.Fitting.{own_fits, taken_fits}

pub own_tree_fits : {E : Type 0} (p q : ProblemValue) (state : State) (number value : ℕ) (pairs copy : List Pair)
    (r : Result (Vec TreeLine) E) → q ≡ p → KeepsNetLimits p.network → IsSmallTable q.table → IsOrderly p state
    → IsJobLeaf p state number value pairs → copy ≡ pairs → IfOk r (λ tree. tree.items ≡ lines.Bound copy ∷ [])
    → IfOk r (λ tree. Fits p state number tree.items)
own_tree_fits p q state number value pairs copy (Ok tree) e limits table orderly leaf same is =
    own_fits p state number value pairs tree limits
    (subst (λ (x : ProblemValue). IsSmallTable x.table) e table) orderly leaf
    (ap (map line_of) is ∙ ap (λ (ps : List Pair). EndLine (Bound ps) ∷ []) same)
own_tree_fits p q state number value pairs copy (Err x) e limits table orderly leaf same is = tt

takes_then : (p : ProblemValue) (old new : State) (number : ℕ) (tree : Vec TreeLine)
    (reply : Result (Unit {0}) GiveRefusal) → IsOk reply → Gives p old number (works.Tree tree) reply new
    → Takes p old number (works.Tree tree) new
takes_then p old new number tree (Ok done) ok gives = gives
takes_then p old new number tree (Err refusal) ok gives = cc

pub taken_is : (p q : ProblemValue) (old new : State) (number : ℕ) (tree : Vec TreeLine)
    (reply : Result (Unit {0}) GiveRefusal) (found : Option (Vec TreeLine)) → q ≡ p → KeepsNetLimits p.network
    → IsSmallTable q.table → IsOk reply → Gives p old number (works.Tree tree) reply new → found ≡ Some tree
    → IfSome found (λ lines. (lines ≡ tree) × Fits p old number lines.items)
taken_is p q old new number tree reply found e limits table ok gives is =
    let fits = taken_fits p old new number tree limits (subst (λ (x : ProblemValue). IsSmallTable x.table) e table)
    (takes_then p old new number tree reply ok gives) in
    subst (λ (o : Option (Vec TreeLine)). IfSome o (λ lines. (lines ≡ tree) × Fits p old number lines.items)) (sym is) (refl, fits)

-- ---- room for branches

some_same : {A : Type 0} (a b : A) → Some a ≡ Some b → a ≡ b
some_same a b e = cc

-- a number is lent with a leaf of one value
one_value : (p : ProblemValue) (state : State) (number value other : ℕ) (pairs others : List Pair)
    → IsJobLeaf p state number value pairs → IsJobLeaf p state number other others → value ≡ other
one_value p state number value other pairs others a b =
    let path = same_path state number a.path b.path pairs others a.leaf b.leaf in
    let same = same_pairs state number a.path b.path pairs others a.leaf b.leaf in
    some_same value other (sym a.worth ∙ ap (λ (x : List (Cut × Side)). option_map told (value_at p x pairs)) path
    ∙ ap (λ (x : List Pair). option_map told (value_at p b.path x)) same ∙ b.worth)

-- where the leaf is worth less than the bound nothing is said
pub whole_below : (p : ProblemValue) (state : State) (number branches least found : ℕ) (until : Option ℕ)
    (others : List Pair) → until ≡ Some least → IsJobLeaf p state number found others → found < least
    → IsWholeFrom p state until number branches
whole_below p state number branches least found until others named there below bound value pairs named_so leaf above =
    let one = some_same least bound (sym named ∙ named_so) in
    let worth = one_value p state number value found pairs others leaf there in
    absurd (omega (arith, one, worth, below, above))

-- where nothing is split with so many branches, nothing is with fewer
pub whole_fewer : (p : ProblemValue) (state : State) (until : Option ℕ) (number most branches : ℕ)
    → branches ≤ most → IsWholeFrom p state until number most → IsWholeFrom p state until number branches
whole_fewer p state until number most branches few whole bound value pairs named leaf above =
    let none = whole bound value pairs named leaf above in
    omega (arith, few, none)
