-- The root of a new board: it is open, what is found there is valid work, and its value bounds every later answer.
use Rattle.std.proofs.Common.{◌≡◌, ℕ, ◌+◌, ◌*◌, ◌<◌, ◌≤◌, List, [], ◌∷◌, length, Bool, true, false, refl, ap, arith, sym, ◌∙◌, subst, inl, inr, zero, suc}
use Rattle.std.specs.Prelude.{ℤ, pos, negsuc, ◌+ℤ◌, ◌-ℤ◌, ◌*ℤ◌, ◌≤ℤ◌, Option, Some, None, IsNone, IsSome, IfSome, IsSomeAnd, Ok, Err, option_map, slice_index_or, ◌↔◌}
use Rattle.std.specs.Int.{int_min}
use Rattle.std.proofs.lemmas.Int.{ints, clamps}
use Rattle.std.proofs.lemmas.List.{get_or-map}
use Rattle.pesp_problem.specs.declared.arc.Arc.{Arc}
use Rattle.pesp_problem.specs.Sums.{sum_below}
use Rattle.pesp_problem.specs.Arcs.{Net, no_arc, arc_at, over_arcs}
use Rattle.pesp_problem.proofs.Integers.{zero-mul, sum_below-le, sum_below-zero}
use Rattle.pesp_problem.specs.declared.pair.Pair.{Pair}
use Rattle.pesp_problem.specs.declared.cut.Cut.{Cut}
use Rattle.pesp_problem.specs.declared.cut.Side.{Side}
use Rattle.pesp_problem.specs.Nodes.{Node, slack_range, root_slacks, weight_of, slack_part, leaf_value}
use Rattle.pesp_network.specs.Networks.{KeepsNetLimits}
use Rattle.pesp_truth.specs.Trees.{Tree, Leaf, Ends, Shut, ByPropagation, Bound as BoundLeaf, Gap as GapLeaf, Nothing as NothingLeaf}
use Rattle.pesp_truth.specs.Leaves.{IsLeafAt}
use Rattle.pesp_nodes.specs.Problems.{ProblemValue, problem_net, IsSmallTable}
use Rattle.pesp_bound.specs.declared.leaf.Leaf.{Leaf as Found}
use Rattle.pesp_bound.specs.declared.leaf.Leaf.TheVariants.{Gap, Nothing, Bound}
use Rattle.pesp_bound.specs.Leaves.{IsLeafOf, IsNoLess}
use Rattle.pesp_tree.specs.declared.job.Job.{Job}
use Rattle.pesp_tree.specs.declared.work.Work.{Work}
use Rattle.pesp_tree.specs.declared.work.Work.TheVariants as works
use Rattle.pesp_tree.specs.declared.refusal.LendRefusal.TheVariants as lending
use Rattle.pesp_tree.specs.BoardLeaves.{told, least_value}
use Rattle.pesp_tree.specs.States.{State, Ticket, Lent, Given, Recalled, best_cost, opening, IsLent, IsOpen, IsAtMost, root_of, node_at, least}
use Rattle.pesp_tree.specs.Events.{Lend, Give, Lends, LendsLeaf, Takes, IsValidAt, MayShut}
use Rattle.pesp_tree.proofs.Works.{pairs_exist}
use Rattle.pesp_tree.proofs.Runs.{opening_is_orderly, step_is_orderly}
use Rattle.pesp_branching.specs.Rooms.{branches, BranchesLeaveBoth}
use Rattle.pesp_branching.specs.LeafSums.{leaf_sum}
use Rattle.pesp_branching.specs.Turns.{IsWorked, splits_of, counts_open, open_leaves}
use Rattle.pesp_branching.proofs.Turns.{opening_is_worked, looks, closes_by_nothing, closes_by_gap}
use Rattle.pesp_branching.proofs.Ends.{root_sets_least}
use Rattle.pesp_branching.proofs.Replies.{lent_leaf}
use Rattle.pesp_branching.proofs.Singles.{single_small}
use Rattle.pesp_branching.proofs.Sizes.{large_has_many}
use Rattle.pesp_turns.specs.Handing.{IsHandedIn, IsGiven}
use Rattle.pesp_search.specs.declared.refusal.SolveRefusal.TheVariants.{PairsTooMany}
use Rattle.pesp_search.specs.Singles.{IsSingle, IsBestSingle}
use Rattle.pesp_search.specs.Rooting.{work_of, IsRootBound}
use Rattle.pesp_search.specs.Searching.{AreTurnsRefused}
use Rattle.pesp_search.proofs.SinglePairs.{le_chain}
use Rattle.pesp_search.proofs.Orders.{at_most_trans}

opens : (p : ProblemValue) → IsOpen p opening []
opens p = record { pairs = []; leaf = refl; unlent = never; cheaper = tt }
  where
    never : IsLent opening [] → ⊥
    never (number, e) = cc

-- and so a leaf is lent
pub not_over : (p : ProblemValue) (old new : State) → old ≡ opening → Lends p old (Ok None) new → ⊥
not_over p old new e l = l.1 [] (subst (λ (s : State). IsOpen p s []) (sym e) (opens p))

-- and no number is spent
pub not_spent : (p : ProblemValue) (old new : State) → old ≡ opening → Lends p old (Err lending.NumbersSpent) new → ⊥
not_spent p old new e l =
    let none : length old.numbers ≡ 0 = ap (λ (s : State). length s.numbers) e in
    let spent = l.2 in
    absurd (omega (arith, none, spent))

-- the root of a new board was lent
pub record IsRootLent (p : ProblemValue) (mid : State) (job : Job) : Type 0 where
  pub limits : KeepsNetLimits p.network
  pub small : IsSmallTable p.table
  pub lends : LendsLeaf p opening job mid

pub root_lent : (p q : ProblemValue) (old mid : State) (job : Job) → q ≡ p → KeepsNetLimits q.network
    → IsSmallTable q.table → old ≡ opening → LendsLeaf p old job mid → IsRootLent p mid job
root_lent p q old mid job e limits small opening_is lends = record {
  limits = subst (λ (x : ProblemValue). KeepsNetLimits x.network) e limits;
  small = subst (λ (x : ProblemValue). IsSmallTable x.table) e small;
  lends = subst (λ (s : State). LendsLeaf p s job mid) opening_is lends;
}

root_path : (path : List (Cut × Side)) (pairs : List Pair) → IsLeafAt (Ends (BoundLeaf [])) path (BoundLeaf pairs) → path ≡ []
root_path [] pairs h = refl
root_path (step ∷ path) pairs h = absurd h

-- the node of the leaf that was lent is the root
at_root : (p : ProblemValue) (mid : State) (job : Job) → IsRootLent p mid job → node_at p job.path.items ≡ root_of p
at_root p mid job l = ap (node_at p) (root_path job.path.items l.lends.opens.pairs l.lends.opens.leaf)

is_none : {A : Type 0} (o : Option A) → o ≡ None → IsNone o
is_none None e = refl
is_none (Some x) e = cc

is_some : (o : Option ℤ) (v : ℤ) → o ≡ Some v → IsSome o
is_some None v e = cc
is_some (Some w) v e = refl

valid_work : (p : ProblemValue) (node : Node) (old : List Pair) (shut : Bool) (leaf : Found) → IsLeafOf p node leaf
    → (shut ≡ true → MayShut p node ByPropagation) → IsValidAt p node old (work_of shut leaf)
valid_work p node old shut (Gap cycle) l may = (l.0, (l.0, is_none _ l.1))
valid_work p node old shut (Nothing pairs) l may = (l.1, (pairs_exist p.table pairs l.1, l.2))
valid_work p node old true (Bound pairs value) l may = may refl
valid_work p node old false (Bound pairs value) l may = (l.1, is_some _ value l.2)

no_split : (shut : Bool) (leaf : Found) → splits_of (work_of shut leaf) ≡ 0
no_split shut (Gap cycle) = refl
no_split shut (Nothing pairs) = refl
no_split true (Bound pairs value) = refl
no_split false (Bound pairs value) = refl

-- propagation shuts the root exactly where it was found to
pub shuts_root : (p q r : ProblemValue) (root : Node) (shut : Bool) → q ≡ p → r ≡ q → root ≡ root_of p
    → (shut ≡ true) ↔ MayShut r root ByPropagation → (shut ≡ true) ↔ MayShut p (root_of p) ByPropagation
shuts_root p q r root shut e f root_is found =
    subst (λ (n : Node). (shut ≡ true) ↔ MayShut p n ByPropagation) root_is
    (subst (λ (x : ProblemValue). (shut ≡ true) ↔ MayShut x root ByPropagation) (f ∙ e) found)

pub handed_root : (p q r : ProblemValue) (mid : State) (job : Job) (root : Node) (shut : Bool) (leaf : Found)
    (work : Work) → q ≡ p → r ≡ q → root ≡ root_of p → IsRootLent p mid job → IsLeafOf r root leaf
    → (shut ≡ true) ↔ MayShut p (root_of p) ByPropagation → work ≡ work_of shut leaf → IsHandedIn q mid job work
handed_root p q r mid job root shut leaf work e f root_is l found may work_is =
    let at = sym (at_root p mid job l) in
    let here : IsLeafOf p (node_at p job.path.items) leaf =
    subst (λ (n : Node). IsLeafOf p n leaf) (root_is ∙ at)
    (subst (λ (x : ProblemValue). IsLeafOf x root leaf) (f ∙ e) found) in
    let there : IsHandedIn p mid job (work_of shut leaf) = record {
      pairs = l.lends.opens.pairs;
      leaf = lent_leaf p opening mid job l.lends;
      valid = valid_work p (node_at p job.path.items) l.lends.opens.pairs shut leaf here
          (λ is. subst (λ (n : Node). MayShut p n ByPropagation) at (may.0 is));
    } in
    subst (λ (x : ProblemValue). IsHandedIn x mid job work) (sym e) (subst (IsHandedIn p mid job) (sym work_is) there)

-- ---- what is taken, or isn't

pub root_given : (p q : ProblemValue) (mid new : State) (number : ℕ) (work : Work) (shut : Bool) (leaf : Found)
    (taken : Bool) → q ≡ p → work ≡ work_of shut leaf → IsGiven q mid number work taken new
    → IsGiven p mid number (work_of shut leaf) taken new
root_given p q mid new number work shut leaf taken e f g =
    subst (λ (x : ProblemValue). IsGiven x mid number (work_of shut leaf) taken new) e
    (subst (λ (w : Work). IsGiven q mid number w taken new) f g)

-- a closed root leaves no value
gone : (p : ProblemValue) (mid new : State) (job : Job) (work : Work) (end : Leaf) → LendsLeaf p opening job mid
    → (t : Takes p mid job.number work new) → t.part ≡ Ends end → new.tree ≡ Ends end
gone p mid new job work end l t part =
    let tree : mid.tree ≡ Ends (BoundLeaf []) = ap (λ (s : State). s.tree) l.state in
    let here : t.path ≡ [] = root_path t.path t.pairs (subst (λ (x : Tree). IsLeafAt x t.path (BoundLeaf t.pairs)) tree t.leaf.1) in
    ap (λ (s : State). s.tree) t.state ∙ rw (tree, here, part) refl

-- and its number is given
spent : (p : ProblemValue) (mid new : State) (job : Job) (work : Work) → LendsLeaf p opening job mid
    → Takes p mid job.number work new → new.numbers ≡ Given ∷ []
spent p mid new job work l t =
    let numbers : mid.numbers ≡ Lent job.path.items ∷ [] = ap (λ (s : State). s.numbers) l.state in
    let first : job.number ≡ 0 = l.number in
    ap (λ (s : State). s.numbers) t.state ∙ rw (numbers, first) refl

none_lent : (number : ℕ) (path : List (Cut × Side)) → slice_index_or (Given ∷ []) number Recalled ≡ Lent path → ⊥
none_lent zero path e = cc
none_lent (suc n) path e = cc

-- a root that propagation shuts
pub shut_root : (p : ProblemValue) (mid new : State) (job : Job) → IsRootLent p mid job
    → Takes p mid job.number works.Propagated new → IsWorked p 0 new
shut_root p mid new job l t =
    let tree = gone p mid new job works.Propagated (Shut ByPropagation) l.lends t t.makes.1 in
    let numbers = spent p mid new job works.Propagated l.lends t in
    let lent = step_is_orderly p opening (Lend (Ok (Some job))) mid l.limits l.small (opening_is_orderly p) l.lends in
    record {
      orderly = step_is_orderly p mid (Give job.number works.Propagated (Ok tt)) new l.limits l.small lent t;
      unlent = λ number lent. none_lent number lent.0
          (subst (λ (xs : List Ticket). slice_index_or xs number Recalled ≡ Lent lent.0) numbers lent.1);
      both = subst (λ (x : Tree). BranchesLeaveBoth (problem_net p) p.table x (root_of p)) (sym tree) tt;
      count = ap branches tree;
      numbers = few (length new.numbers) (open_leaves p new) (ap length numbers)
          (ap (λ (x : Tree). leaf_sum (counts_open (problem_net p) p.table (best_cost p new)) x (root_of p)) tree);
    }
  where
    few : (a b : ℕ) → a ≡ 1 → b ≡ 0 → a + b ≤ 2 * 0 + 2
    few a b e f = omega (arith, e, f)

pub root_worked : (p : ProblemValue) (mid new : State) (job : Job) (shut : Bool) (leaf : Found)
    → IsRootLent p mid job → IsGiven p mid job.number (work_of shut leaf) true new → IsWorked p 0 new
root_worked p mid new job shut (Gap cycle) l t =
    closes_by_gap p 0 opening mid new job cycle l.limits l.small (opening_is_worked p) l.lends t
root_worked p mid new job shut (Nothing pairs) l t =
    closes_by_nothing p 0 opening mid new job pairs l.limits l.small (opening_is_worked p) l.lends t
root_worked p mid new job true (Bound pairs value) l t = shut_root p mid new job l t
root_worked p mid new job false (Bound pairs value) l t =
    let none : length opening.numbers ≡ 0 = refl in
    looks p 0 opening mid new job pairs l.limits l.small (opening_is_worked p) (omega (arith, none)) l.lends t

pub root_refused : (p : ProblemValue) (mid new : State) (job : Job) (shut : Bool) (leaf : Found)
    → IsRootLent p mid job → IsGiven p mid job.number (work_of shut leaf) false new
    → AreTurnsRefused p 0 PairsTooMany
root_refused p mid new job shut leaf l g =
    let none = no_split shut leaf in
    let orderly = step_is_orderly p opening (Lend (Ok (Some job))) mid l.limits l.small (opening_is_orderly p) l.lends in
    let count : branches mid.tree ≡ 0 = ap (λ (s : State). branches s.tree) l.lends.state in
    let many = large_has_many p mid job.number 0 (work_of shut leaf) l.limits l.small orderly count (omega (arith, none)) g.1 in
    record {
      many = subst (λ (n : ℕ). 20000000 < (0 + n + 1) * length p.table) none many;
      first = opening;
      worked = opening_is_worked p;
      used = 0;
      few = omega arith;
      last = mid;
      grows = record { events = Lend (Ok (Some job)) ∷ []; run = (mid, l.lends, refl); branches = count };
      full = record { number = job.number; work = work_of shut leaf; few = omega (arith, none); large = g.1 };
    }

-- a closed root has no bound
closed_bound : (p : ProblemValue) (new : State) (end : Leaf) → new.tree ≡ Ends end
    → least_value (problem_net p) p.table (Ends end) (root_of p) ≡ None → IsRootBound p new
closed_bound p new end e none l h = absurd (subst (λ (o : Option ℤ). IsAtMost (option_map told o) (Some l)) none
    (subst (λ (x : Tree). IsAtMost (option_map told (least_value (problem_net p) p.table x (root_of p))) (Some l)) e h))

-- ---- what single pairs are worth at the root

low_is : (n : Net) (i : ℕ) → i < length n.arcs → (slack_range (root_slacks n) i).0 ≡ 0
low_is n i l = let full = λ (arc : Arc). let range : ℕ × ℕ = (0, arc.span) in range in
    ap (λ (r : ℕ × ℕ). r.0) (get_or-map full n.arcs i no_arc (0, 0) l)

at_zero : (c : ℤ) (r : ℕ × ℕ) → r.0 ≡ 0 → int_min (c *ℤ pos r.0) (c *ℤ pos r.1) ≤ℤ pos 0
at_zero c r e = let none : c *ℤ pos 0 ≡ pos 0 = omega (arith, ints) in rw e (omega (arith, ints, clamps, none))

-- no pairs are worth nothing there
none_small : (p : ProblemValue) (v : ℤ) → leaf_value (problem_net p) p.table (root_of p) [] true ≡ Some v → v ≤ℤ pos 0
none_small p v e =
    let n = problem_net p in
    let slack = slack_part n p.table (root_of p) [] true in
    let below = sum_below-le (length n.arcs) slack (λ i. pos 0)
    (λ i l. at_zero (weight_of true (arc_at n.arcs i) -ℤ pos 0) (slack_range (root_slacks n) i)
    (low_is n i l)) in
    let zeros = sum_below-zero (length n.arcs) (λ i. pos 0) (λ i l. refl) in
    let lowers = sum_below-zero (length n.arcs) (λ i. pos 0 *ℤ (arc_at n.arcs i).lower) (λ i l. zero-mul (arc_at n.arcs i).lower) in
    let offsets : pos n.period *ℤ pos 0 ≡ pos 0 = omega (arith, ints) in
    total (pos n.period *ℤ pos 0) (over_arcs n.arcs (λ i. pos 0 *ℤ (arc_at n.arcs i).lower))
    (over_arcs n.arcs slack) v (some_same e) offsets lowers
    (up_to (over_arcs n.arcs slack) (sum_below (length n.arcs) (λ i. pos 0)) below zeros)
  where
    some_same : {a b : ℤ} → Some a ≡ Some b → a ≡ b
    some_same e = cc

    up_to : (a b : ℤ) → a ≤ℤ b → b ≡ pos 0 → a ≤ℤ pos 0
    up_to a b h k = omega (arith, ints, h, k)

    total : (a b c w : ℤ) → a -ℤ b +ℤ c ≡ w → a ≡ pos 0 → b ≡ pos 0 → c ≤ℤ pos 0 → w ≤ℤ pos 0
    total a b c w e f g h = omega (arith, ints, e, f, g, h)

one_small : (p : ProblemValue) (pairs : List Pair) (v : ℤ) → KeepsNetLimits p.network → IsSmallTable p.table
    → IsSingle (length p.table) pairs → leaf_value (problem_net p) p.table (root_of p) pairs true ≡ Some v
    → v ≤ℤ pos 999999999999999999
one_small p pairs v limits small (inl none) e =
    let least = none_small p v (subst (λ (x : List Pair). leaf_value (problem_net p) p.table (root_of p) x true ≡ Some v) none e) in
    omega (arith, ints, least)
one_small p pairs v limits small (inr (cycle, names, inl plus)) e =
    single_small p cycle (pos 1) v limits small (omega arith) names
    (subst (λ (x : List Pair). leaf_value (problem_net p) p.table (root_of p) x true ≡ Some v) plus e)
one_small p pairs v limits small (inr (cycle, names, inr minus)) e =
    single_small p cycle (negsuc 0) v limits small (omega arith) names
    (subst (λ (x : List Pair). leaf_value (problem_net p) p.table (root_of p) x true ≡ Some v) minus e)

reached : (s value : ℤ) (l : ℕ) → s ≤ℤ value → s ≤ℤ pos 999999999999999999 → told value ≤ l → s ≤ℤ pos l
reached s (pos n) l h k t = omega (arith, ints, h, k, t)
reached s (negsuc n) l h k t = omega (arith, ints, h)

above : (value : Option ℤ) (start : Option ℤ) (found : ℤ) (l : ℕ)
    → IfSome value (λ v. IsSomeAnd start (λ w. v ≤ℤ w)) → IfSome start (λ w. w ≤ℤ found)
    → ((v : ℤ) → value ≡ Some v → v ≤ℤ pos 999999999999999999) → told found ≤ l → IfSome value (λ v. v ≤ℤ pos l)
above None start found l h k small t = tt
above (Some v) None found l h k small t = absurd h
above (Some v) (Some w) found l h k small t = reached v found l (le_chain v w found h k) (small v refl) t

-- what is found at the root, from the best single pair there
pub record IsFoundAtRoot (p : ProblemValue) (leaf : Found) : Type 0 where
  pub start : List Pair
  pub best : IsBestSingle p (root_of p) start
  pub found : IsLeafOf p (root_of p) leaf
  pub no_less : IsNoLess p (root_of p) start leaf

pub found_at_root : (p q r s : ProblemValue) (root : Node) (start view : List Pair) (leaf : Found) → q ≡ p → r ≡ q
    → s ≡ q → root ≡ root_of p → view ≡ start → IsBestSingle r root start → IsLeafOf s root leaf
    → IsNoLess s root view leaf → IsFoundAtRoot p leaf
found_at_root p q r s root start view leaf e f g at v best found no_less = record {
  start = start;
  best = subst (λ (n : Node). IsBestSingle p n start) at (subst (λ (x : ProblemValue). IsBestSingle x root start) (f ∙ e) best);
  found = subst (λ (n : Node). IsLeafOf p n leaf) at (subst (λ (x : ProblemValue). IsLeafOf x root leaf) (g ∙ e) found);
  no_less = subst (λ (xs : List Pair). IsNoLess p (root_of p) xs leaf) v
      (subst (λ (n : Node). IsNoLess p n view leaf) at
      (subst (λ (x : ProblemValue). IsNoLess x root view leaf) (g ∙ e) no_less));
}

pub root_bound : (p : ProblemValue) (mid new : State) (job : Job) (shut : Bool) (leaf : Found)
    → IsRootLent p mid job → IsFoundAtRoot p leaf → (shut ≡ true) ↔ MayShut p (root_of p) ByPropagation
    → IsGiven p mid job.number (work_of shut leaf) true new → IsRootBound p new
root_bound p mid new job shut (Gap cycle) l f may t =
    closed_bound p new (GapLeaf cycle) (gone p mid new job (works.Gap cycle) (GapLeaf cycle) l.lends t t.makes.1)
    refl
root_bound p mid new job shut (Nothing pairs) l f may t =
    closed_bound p new (NothingLeaf pairs) (gone p mid new job (works.Nothing pairs)
    (NothingLeaf pairs) l.lends t t.makes.1) refl
root_bound p mid new job true (Bound pairs value) l f may t =
    closed_bound p new (Shut ByPropagation) (gone p mid new job works.Propagated
    (Shut ByPropagation) l.lends t t.makes.1) refl
root_bound p mid new job false (Bound pairs value) l f may t = λ bound h. (
  λ shut. open_root (may.1 (tt, shut)),
  λ others single.
      (let set = root_sets_least p opening mid new job [] pairs value
      (let some = l.limits.some_period in omega (arith, some))
      (opening_is_orderly p) refl l.lends t f.found.2 in
      let at_least : told value ≤ bound = at_most_trans (Some (told value)) (least p new) (Some bound) set h in
      above (leaf_value (problem_net p) p.table (root_of p) others true)
      (leaf_value (problem_net p) p.table (root_of p) f.start true) value bound
      (f.best.others others single) f.no_less (λ v w. one_small p others v l.limits l.small single w) at_least),
)
  where
    open_root : false ≡ true → ⊥
    open_root e = cc
