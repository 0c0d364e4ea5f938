-- What is handed in for a base is taken where it is grafted onto that base first.
use Rattle.std.proofs.Common.{◌≡◌, ℕ, List, length, refl, sym, ◌∙◌, subst, true, Option}
use Rattle.std.specs.Prelude.{ℤ, ◌≤ℤ◌, IsSomeAnd, IfSome, Result, Ok, Err, None}
use Rattle.std.specs.Global.{Vec}
use Rattle.pesp_problem.specs.declared.cut.Cut.{Cut}
use Rattle.pesp_problem.specs.declared.cut.Side.{Side}
use Rattle.pesp_problem.specs.declared.row.SignedRow.{SignedRow}
use Rattle.pesp_problem.specs.declared.pair.Pair.{Pair}
use Rattle.pesp_problem.specs.Timetables.{Pesp}
use Rattle.pesp_problem.specs.Arcs.{Net}
use Rattle.pesp_problem.specs.Walks.{Names}
use Rattle.pesp_problem.specs.Nodes.{Node, leaf_value, root, low_part, high_part}
use Rattle.pesp_truth.specs.Paths.{along}
use Rattle.pesp_truth.specs.Trees.{Plain, Tree, Ends, Branch, Bound, Shut, ByPairs, ByGap, ByPropagation, CutExists, IsShut}
use Rattle.pesp_truth.specs.Certificates.{Content}
use Rattle.pesp_truth.specs.declared.tree.TreeLine.{TreeLine}
use Rattle.pesp_nodes.specs.Problems.{ProblemValue, problem_net, ArePairs}
use Rattle.pesp_tree.specs.declared.job.Job.{Job}
use Rattle.pesp_tree.specs.declared.work.Work.TheVariants as works
use Rattle.pesp_tree.specs.declared.refusal.GiveRefusal.{GiveRefusal}
use Rattle.pesp_tree.specs.declared.refusal.GiveRefusal.TheVariants.{UnknownJob, AlreadyGiven, NotValid, Memory, TooLarge}
use Rattle.pesp_tree.specs.States.{State, Lent, Given, Recalled, HasLeaf, node_at}
use Rattle.pesp_tree.specs.Events.{IsGraft, IsGraftedTree, Gives, Makes}
use Rattle.pesp_tree.proofs.OneSize.{same_path, same_pairs}
use Rattle.pesp_tree.proofs.Certified.{same_net}
use Rattle.pesp_cert_items.specs.Works.{WorkValue}
use Rattle.pesp_worker.specs.Lent.{IsLentFrom}
use Rattle.pesp_worker.specs.Grafts.{TakesWork}
use Rattle.pesp_worker.specs.declared.grafted.Reply.{Reply}
use Rattle.pesp_worker.specs.HandingIn.{IsWorkOn}
use Rattle.pesp_worker.specs.Taken.{IsTakenOrLarge}
use Rattle.pesp_worker.proofs.OneLending.{one_lending}

-- both parts of a problem that a rule sees, one after the other
swap : (P : Net → List (List SignedRow) → Type 0) (p q : ProblemValue) → problem_net p ≡ problem_net q → p.table ≡ q.table
    → P (problem_net p) p.table → P (problem_net q) q.table
swap P p q n t h = subst (λ (x : Net). P x q.table) n (subst (λ (x : List (List SignedRow)). P (problem_net p) x) t h)

graft_same : (p q : ProblemValue) → problem_net p ≡ problem_net q → p.table ≡ q.table
    → (worth : Option ℤ) (node : Node) (tree : Tree) → IsGraft p worth node tree → IsGraft q worth node tree
graft_same p q n t worth node (Ends (Bound pairs)) g =
    swap (λ x table. ArePairs (length table) pairs
    × IsSomeAnd (leaf_value x table node pairs true) (λ v. IfSome worth (λ w. w ≤ℤ v))) p q n t g
graft_same p q n t worth node (Ends (Shut (ByPairs pairs))) g =
    swap (λ x table. ArePairs (length table) pairs × IsShut (Plain None) x table (ByPairs pairs) node) p q n t g
graft_same p q n t worth node (Ends (Shut (ByGap cycle))) g =
    swap (λ x table. Names (length table) cycle × IsShut (Plain None) x table (ByGap cycle) node) p q n t g
graft_same p q n t worth node (Ends (Shut ByPropagation)) g = (g.0, swap (λ x table. IsShut (Plain None) x table ByPropagation node) p q n t g.1)
graft_same p q n t worth node (Branch cut low high) g = (
  swap (λ x table. CutExists x table cut) p q n t g.0,
  g.1,
  graft_same p q n t worth (low_part node cut) low g.2,
  graft_same p q n t worth (high_part node cut) high g.3,
)

grafts_same : (p q : ProblemValue) → problem_net p ≡ problem_net q → p.table ≡ q.table
    → (path : List (Cut × Side)) (pairs : List Pair) (lines : List TreeLine) (tree : Tree)
    → IsGraftedTree p (node_at p path) pairs lines tree → IsGraftedTree q (node_at q path) pairs lines tree
grafts_same p q n t path pairs lines tree g =
    let worth : Net → List (List SignedRow) → Option ℤ = λ x table. leaf_value x table (along (root x table) path) pairs true in
    let nodes : node_at p path ≡ node_at q path = swap (λ x table. node_at p path ≡ along (root x table) path) p q n t refl in
    let worths : worth (problem_net p) p.table ≡ worth (problem_net q) q.table =
    swap (λ x table. worth (problem_net p) p.table ≡ worth x table) p q n t refl in (
      g.0,
      subst (λ (w : Option ℤ). IsGraft q w (node_at q path) tree) worths
          (subst (λ (nd : Node). IsGraft q (worth (problem_net p) p.table) nd tree) nodes
          (graft_same p q n t _ _ tree g.1)),
    )

not_refused : (p : ProblemValue) (old new : State) (number : ℕ) (lines : Vec TreeLine) (path : List (Cut × Side))
    (pairs : List Pair) (tree : Tree) (reply : Result (Unit {0}) GiveRefusal) → HasLeaf old number path pairs
    → IsGraftedTree p (node_at p path) pairs lines.items tree → Gives p old number (works.Tree lines) reply new
    → (reply ≡ Err Memory → ⊥) → IsTakenOrLarge reply
not_refused p old new number lines path pairs tree (Ok x) h g r m = tt
not_refused p old new number lines path pairs tree (Err UnknownJob) h g r m = let e : Lent path ≡ Recalled = sym h.0 ∙ r.1 in cc e
not_refused p old new number lines path pairs tree (Err AlreadyGiven) h g r m = let e : Lent path ≡ Given = sym h.0 ∙ r.1 in cc e
not_refused p old new number lines path pairs tree (Err NotValid) h g r m =
    let k = r.1.leaf in
    let made : Makes p (node_at p path) pairs (works.Tree lines) tree = g in
    absurd (r.1.none tree (subst (λ x. Makes p (node_at p r.1.path) x (works.Tree lines) tree)
    (same_pairs old number path r.1.path pairs r.1.pairs h k)
    (subst (λ q. Makes p (node_at p q) pairs (works.Tree lines) tree)
    (same_path old number path r.1.path pairs r.1.pairs h k) made)))
not_refused p old new number lines path pairs tree (Err Memory) h g r m = absurd (m refl)
not_refused p old new number lines path pairs tree (Err TooLarge) h g r m = tt

pub worked_is_taken : (i : Pesp) (base : Content) (job steps : ℕ) (work : WorkValue) (p : ProblemValue)
    (jobs : List Job) (lent new : State) (events : List ℤ) (reply : Reply) → IsWorkOn i base job steps work
    → IsLentFrom i base p jobs lent → TakesWork p events lent work reply new → IsTakenOrLarge reply.given
worked_is_taken i base job steps work p jobs lent new events reply w b t =
    let q = w.tree.problem in
    let s = w.tree.stands in
    let same : w.tree.lent ≡ lent = (one_lending i base q p w.tree.jobs jobs w.tree.lent lent w.tree.begins b).1 in
    let leaf : HasLeaf lent work.job s.path s.pairs =
    subst (λ (k : ℕ). HasLeaf lent k s.path s.pairs) (sym w.number)
    (subst (λ (x : State). HasLeaf x job s.path s.pairs) same s.leaf) in
    let nets = same_net i q w.tree.begins.of ∙ sym (same_net i p b.of) in
    let tables = w.tree.begins.cycles ∙ sym b.cycles in
    let tree = s.valid.0 in
    let grafts : IsGraftedTree p (node_at p s.path) s.pairs t.lines.items tree =
    subst (λ (ls : List TreeLine). IsGraftedTree p (node_at p s.path) s.pairs ls tree) (s.are_lines ∙ sym t.are_lines)
    (grafts_same q p nets tables s.path s.pairs s.lines.items tree s.valid.1) in
    not_refused p lent t.given work.job t.lines s.path s.pairs tree reply.given leaf grafts t.gives t.answered
