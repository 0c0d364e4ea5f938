-- What is known of a leaf that was just lent, and work for it.
use Rattle.std.proofs.Common.{◌≡◌, ℕ, ◌<◌, List, length, refl, ap, arith, sym, ◌∙◌, subst}
use Rattle.std.specs.Global.{Vec}
use Rattle.std.specs.Prelude.{Bool, true, false, All, None, Result, Ok, Err, IfOk}
use Rattle.pesp_problem.specs.declared.pair.Pair.{Pair}
use Rattle.pesp_problem.specs.declared.cut.Cut.{Cut}
use Rattle.pesp_problem.specs.declared.cut.Side.{Side}
use Rattle.pesp_problem.specs.Nodes.{Node}
use Rattle.pesp_network.specs.Networks.{KeepsNetLimits}
use Rattle.pesp_truth.specs.declared.tree.TreeLine.{TreeLine}
use Rattle.pesp_truth.specs.Trees.{Plain, Bound, Gap, IsSoundLeaf}
use Rattle.pesp_truth.specs.Paths.{along}
use Rattle.pesp_nodes.specs.Problems.{ProblemValue, problem_net, IsNodeOf, IsCutOf, ArePairs}
use Rattle.pesp_tree.specs.declared.job.Job.{Job}
use Rattle.pesp_tree.specs.declared.work.Work.{Work}
use Rattle.pesp_tree.specs.declared.work.Work.TheVariants as works
use Rattle.pesp_tree.specs.States.{State, IsJobLeaf, root_of, node_at}
use Rattle.pesp_tree.specs.Events.{IsValidAt, Takes, MakesTooMuch}
use Rattle.pesp_tree.proofs.Ranges.{cut_keeps_limits}
use Rattle.pesp_tree.proofs.OneSize.{same_pairs}
use Rattle.pesp_board.specs.Giving.{AreCuts}
use Rattle.pesp_board.proofs.Paths.{cut_of_node}
use Rattle.pesp_branching.proofs.Replies.{lent_leaf}
use Rattle.pesp_branching.proofs.Sizes.{path_cuts, leaf_pairs}
use Rattle.pesp_branching.proofs.Found.{found_is_valid}
use Rattle.pesp_branching.specs.Expanding.{IsExpanded, IsStepOf}
use Rattle.pesp_turns.specs.Handing.{IsJustLent, IsHandedIn, IsSplitAt, IsGiven, IsStepGiven}

some_period : (p : ProblemValue) → KeepsNetLimits p.network → 0 < p.network.period
some_period p limits = let some = limits.some_period in omega (arith, some)

-- ---- the leaf

-- the pairs that are told of the leaf are those with which it was lent
told_pairs : (p : ProblemValue) (state : State) (job : Job) (value : ℕ) (start : List Pair)
    (l : IsJustLent p state job) → IsJobLeaf p state job.number value start → l.lends.opens.pairs ≡ start
told_pairs p state job value start l t = same_pairs state job.number job.path.items t.path l.lends.opens.pairs
    start (lent_leaf p l.before state job l.lends) t.leaf

lent_cuts : (p : ProblemValue) (state : State) (job : Job) → IsJustLent p state job → AreCuts p job.path.items
lent_cuts p state job l = path_cuts p l.before job.path.items (Bound l.lends.opens.pairs) l.orderly l.lends.opens.leaf

pub cuts_there : (p : ProblemValue) (root : Node) (state : State) (job : Job) (path : List (Cut × Side))
    → root ≡ root_of p → path ≡ job.path.items → IsJustLent p state job
    → All (λ (step : Cut × Side). IsCutOf root step.0) path
cuts_there p root state job path e f l =
    subst (λ (n : Node). All (λ (step : Cut × Side). IsCutOf n step.0) path) (sym e) (subst (AreCuts p) (sym f) (lent_cuts p state job l))

-- the node at the end of its path
pub node_is : (p : ProblemValue) (root : Node) (path items : List (Cut × Side)) (node : Node) → root ≡ root_of p
    → path ≡ items → node ≡ along root path → node ≡ node_at p items
node_is p root path items node e f g = g ∙ ap (λ (n : Node). along n path) e ∙ ap (node_at p) f

pub lent_pairs : (p q : ProblemValue) (state : State) (job : Job) (value : ℕ) (start : List Pair) → q ≡ p
    → IsJustLent p state job → IsJobLeaf p state job.number value start → ArePairs (length q.table) start
lent_pairs p q state job value start e l t = subst (λ (x : ProblemValue). ArePairs (length x.table) start) (sym e)
    (subst (ArePairs (length p.table)) (told_pairs p state job value start l t)
    (leaf_pairs p l.before job.path.items l.lends.opens.pairs l.orderly l.lends.opens.leaf))

pub split_cut : (p : ProblemValue) (state : State) (job : Job) (cut : Cut) (node : Node) → IsNodeOf p node
    → IsSplitAt p state job cut → IsCutOf node cut
split_cut p state job cut node is s = cut_of_node p node cut is
    (cut_keeps_limits p job.path.items cut s.lent.limits s.lent.small s.exists s.both)

-- ---- work

handed : (p : ProblemValue) (state : State) (job : Job) (work : Work) (l : IsJustLent p state job)
    → IsValidAt p (node_at p job.path.items) l.lends.opens.pairs work → IsHandedIn p state job work
handed p state job work l valid = record {
  pairs = l.lends.opens.pairs;
  leaf = lent_leaf p l.before state job l.lends;
  valid = valid;
}

pub handed_gap : (p : ProblemValue) (state : State) (job : Job) (cycle : ℕ) → IsJustLent p state job
    → IsSoundLeaf (Plain None) (problem_net p) p.table (Gap cycle) (node_at p job.path.items)
    → IsHandedIn p state job (works.Gap cycle)
handed_gap p state job cycle l gap = handed p state job (works.Gap cycle) l (gap.0, gap)

pub handed_step : (p q : ProblemValue) (state : State) (job : Job) (cut : Cut) (node : Node) (value : ℕ)
    (start : List Pair) (lines : Vec TreeLine) → q ≡ p → node ≡ node_at p job.path.items
    → IsSplitAt p state job cut → IsJobLeaf p state job.number value start
    → IsExpanded q start node cut lines.items → IsHandedIn p state job (works.Tree lines)
handed_step p q state job cut node value start lines e at s t x =
    let here : IsExpanded p start (node_at p job.path.items) cut lines.items =
    subst (λ (n : Node). IsExpanded p start n cut lines.items) at
    (subst (λ (y : ProblemValue). IsExpanded y start node cut lines.items) e x) in
    let are : ArePairs (length p.table) start = lent_pairs p p state job value start refl s.lent t in
    let valid = found_is_valid p (node_at p job.path.items) start lines cut here.low here.high
    (some_period p s.lent.limits) are here.step s.exists s.both here.found_low here.found_high in
    handed p state job (works.Tree lines) s.lent
    (subst (λ (xs : List Pair). IsValidAt p (node_at p job.path.items) xs (works.Tree lines))
    (sym (told_pairs p state job value start s.lent t)) valid)

pub step_given : {E : Type 0} (p q : ProblemValue) (old new : State) (job : Job) (start : List Pair) (node : Node)
    (cut : Cut) (lines : Vec TreeLine) (r : Result Bool E) → IsSplitAt p old job cut
    → IsExpanded q start node cut lines.items → IfOk r
    (λ taken. IsGiven p old job.number (works.Tree lines) taken new)
    → IfOk r (λ taken. IsStepGiven p old job.number taken new)
step_given p q old new job start node cut lines (Ok taken) s x h =
    record { cut = cut; counted = s.counted; lines = lines; low = x.low; high = x.high; step = x.step; given = h }
step_given p q old new job start node cut lines (Err e) s x h = tt

-- ---- what is proposed

pub step_taken : (p : ProblemValue) (old new : State) (job : Job) (cut : Cut) (lines : Vec TreeLine)
    → IsSplitAt p old job cut → IsStepOf cut lines.items → Takes p old job.number (works.Tree lines) new
    → IsStepGiven p old job.number true new
step_taken p old new job cut lines s x h =
    record { cut = cut; counted = s.counted; lines = lines; low = x.low; high = x.high; step = x.step; given = h }

pub step_too_large : (p : ProblemValue) (old new : State) (job : Job) (cut : Cut) (lines : Vec TreeLine)
    → IsSplitAt p old job cut → IsStepOf cut lines.items → new ≡ old
    → MakesTooMuch p old job.number (works.Tree lines) → IsStepGiven p old job.number false new
step_too_large p old new job cut lines s x e h =
    record { cut = cut; counted = s.counted; lines = lines; low = x.low; high = x.high; step = x.step; given = (e, h) }

pub split_still : (p q : ProblemValue) (s t : State) (job : Job) (cut : Cut) → q ≡ p → t ≡ s
    → IsSplitAt p s job cut → IsSplitAt q t job cut
split_still p q s t job cut e f h = rw (e, f) h

pub given_still : {E : Type 0} (p q : ProblemValue) (s t new : State) (number : ℕ) (r : Result Bool E) → q ≡ p → t ≡ s
    → IfOk r (λ taken. IsStepGiven q t number taken new) → IfOk r (λ taken. IsStepGiven p s number taken new)
given_still p q s t new number r e f h = rw (sym e, sym f) h
