-- What is certified of a board that was worked on.
use Rattle.std.proofs.Common.{◌≡◌, ℕ, ◌<◌, ◌≤◌, Bool, true, false, List, [], ◌∷◌, refl, ap, arith, subst, sym, ◌∙◌, zero-le}
use Rattle.std.specs.Prelude.{ℤ, pos, negsuc, ◌≤ℤ◌, int_lt, nat_le, Option, Some, None, option_map, if◌then◌else◌}
use Rattle.std.proofs.lemmas.Int.{ints}
use Rattle.std.proofs.lemmas.Bool.Decides.{nat_tests}
use Rattle.pesp_problem.specs.declared.row.SignedRow.{SignedRow}
use Rattle.pesp_problem.specs.declared.arc.Arc.{Arc}
use Rattle.pesp_problem.specs.declared.pair.Pair.{Pair}
use Rattle.pesp_problem.specs.declared.cut.Cut.{Cut}
use Rattle.pesp_problem.specs.declared.cut.Side.{Side}
use Rattle.pesp_problem.specs.Timetables.{Pesp}
use Rattle.pesp_problem.specs.Arcs.{Net, net_of as instance_net}
use Rattle.pesp_problem.specs.Nodes.{Node, root, leaf_value}
use Rattle.pesp_network.specs.Networks.{KeepsNetLimits}
use Rattle.pesp_truth.specs.declared.answer.Answer.TheVariants.{Optimal, Bounded}
use Rattle.pesp_truth.specs.Trees.{Tree, Ends, Bound}
use Rattle.pesp_truth.specs.Leaves.{IsLeafAt}
use Rattle.pesp_truth.specs.Certificates.{Content}
use Rattle.pesp_nodes.specs.Problems.{ProblemValue, problem_net}
use Rattle.pesp_tree.specs.declared.job.Job.{Job}
use Rattle.pesp_tree.specs.declared.work.Work.TheVariants as works
use Rattle.pesp_tree.specs.BoardLeaves.{least_value, told}
use Rattle.pesp_tree.specs.States.{State, IsOpen, IsAtMost, root_of, node_at, least, best_cost}
use Rattle.pesp_tree.specs.Reached.{IsOrderly}
use Rattle.pesp_tree.specs.Certificates.{IsProblemOf, IsCertificateOf, answer_of}
use Rattle.pesp_tree.specs.Events.{Event, Step, LendsLeaf, Takes, is_better, better_pairs}
use Rattle.pesp_tree.proofs.EventChanges.{change_of}
use Rattle.pesp_tree.proofs.EventSteps.{change_goes_on}
use Rattle.pesp_tree.proofs.Decided.{none_open_decides}
use Rattle.pesp_branching.specs.Rooms.{BranchesLeaveBoth, branch_lines, room}
use Rattle.pesp_branching.proofs.Branches.{as_lines}
use Rattle.pesp_branching.proofs.Rooms.{fewer_branches}
use Rattle.pesp_branching.specs.Turns.{IsWorked, IsOpenAnswer, HasBranches}

-- ---- the least value

pub step_tightens : (p : ProblemValue) (old new : State) (event : Event) → 0 < p.network.period → IsOrderly p old
    → Step p old event new → IsAtMost (least p old) (least p new)
step_tightens p old new event h o s = (change_goes_on p old new h o.kept (change_of p old event new s)).tightens.least

told_rises : (a b : ℤ) → a ≤ℤ b → told a ≤ told b
told_rises (pos a) (pos b) h = omega (arith, ints)
told_rises (pos a) (negsuc b) h = absurd (omega (arith, ints))
told_rises (negsuc a) b h = zero-le

-- the better pairs have at least the value of the given ones
better_at_least : (p : ProblemValue) (node : Node) (old pairs : List Pair) (v : ℤ)
    → leaf_value (problem_net p) p.table node pairs true ≡ Some v
    → IsAtMost (Some (told v)) (option_map told (leaf_value (problem_net p) p.table node
    (better_pairs p node old pairs) true))
better_at_least p node old pairs v e = go (leaf_value (problem_net p) p.table node old true) refl
  where
    at : List Pair → Option ℤ
    at xs = leaf_value (problem_net p) p.table node xs true

    same : IsAtMost (Some (told v)) (option_map told (Some v))
    same = omega arith

    chosen : (b : Bool) → is_better (at old) (at pairs) ≡ b
        → IsAtMost (Some (told v)) (option_map told (at (if b then pairs else old)))
        → IsAtMost (Some (told v)) (option_map told (at (better_pairs p node old pairs)))
    chosen b t h = subst (λ (c : Bool). IsAtMost (Some (told v)) (option_map told (at (if c then pairs else old)))) (sym t) h

    go : (value : Option ℤ) → at old ≡ value → IsAtMost (Some (told v)) (option_map told (at (better_pairs p node old pairs)))
    go None f = chosen true (rw f refl) (rw e same)
    go (Some w) f = by_test (int_lt w v) refl
      where
        by_test : (b : Bool) → int_lt w v ≡ b → IsAtMost (Some (told v)) (option_map told (at (better_pairs p node old pairs)))
        by_test true t = chosen true (rw (f, e) t) (rw e same)
        by_test false t = chosen false (rw (f, e) t) (rw f (let above : v ≤ℤ w = omega (arith, ints) in told_rises v w above))

root_path : (before : List Pair) (path : List (Cut × Side)) (pairs : List Pair)
    → IsLeafAt (Ends (Bound before)) path (Bound pairs) → path ≡ []
root_path before [] pairs h = refl
root_path before (step ∷ path) pairs h = absurd h

pub root_sets_least : (p : ProblemValue) (old mid new : State) (job : Job) (before pairs : List Pair) (v : ℤ)
    → 0 < p.network.period → IsOrderly p old → old.tree ≡ Ends (Bound before) → LendsLeaf p old job mid
    → Takes p mid job.number (works.Leaf pairs) new → leaf_value (problem_net p) p.table (root_of p) pairs true ≡ Some v
    → IsAtMost (Some (told v)) (least p new)
root_sets_least p old mid new job before pairs v h o e l t value =
    let tree : mid.tree ≡ Ends (Bound before) = ap (λ (s : State). s.tree) l.state ∙ e in
    let here : t.path ≡ [] = root_path before t.path t.pairs (subst (λ (x : Tree). IsLeafAt x t.path (Bound t.pairs)) tree t.leaf.1) in
    let node : node_at p t.path ≡ root_of p = ap (node_at p) here in
    let part : t.part ≡ Ends (Bound (better_pairs p (root_of p) t.pairs pairs)) = t.makes.2
    ∙ ap (λ (x : Node). Ends (Bound (better_pairs p x t.pairs pairs))) node in
    let now : new.tree ≡ Ends (Bound (better_pairs p (root_of p) t.pairs pairs)) =
    ap (λ (s : State). s.tree) t.state ∙ rw (tree, here, part) refl in
    let better = better_at_least p (root_of p) t.pairs pairs v value in
    subst (λ (x : Tree). IsAtMost (Some (told v)) (option_map told (least_value (problem_net p) p.table x (root_of p)))) (sym now) better

-- ---- certificates

abbrev net_with : ℕ → List Arc → Net
net_with t arcs = record { period = t; arcs = arcs }

pub same_net : (instance : Pesp) (p : ProblemValue) → IsProblemOf instance p → problem_net p ≡ instance_net instance
same_net instance p h = ap (λ (t : ℕ). net_with t (problem_net p).arcs) h.period ∙ ap (net_with instance.period) h.rows

both_in : (instance : Pesp) (p : ProblemValue) (used : ℕ) (state : State) (cycles : List (List SignedRow))
    → IsProblemOf instance p → IsWorked p used state → cycles ≡ p.table
    → BranchesLeaveBoth (instance_net instance) cycles state.tree (root (instance_net instance) cycles)
both_in instance p used state cycles h w e = subst
    (λ (n : Net). BranchesLeaveBoth n cycles state.tree (root n cycles)) (same_net instance p h)
    (subst (λ (table : List (List SignedRow)). BranchesLeaveBoth (problem_net p) table state.tree
    (root (problem_net p) table)) (sym e) w.both)

pub has_branches : (instance : Pesp) (p : ProblemValue) (used : ℕ) (state : State) (content : Content)
    → IsProblemOf instance p → IsWorked p used state → IsCertificateOf p instance.events state content
    → HasBranches (instance_net instance) content used
has_branches instance p used state content h w c = record {
  lines = ap branch_lines c.tree ∙ as_lines state.tree ∙ w.count;
  tree = state.tree;
  preorder_is = sym c.tree;
  both = both_in instance p used state content.cycles h w c.cycles;
}

pub fewer_than_room : (instance : Pesp) (p : ProblemValue) (used : ℕ) (state : State) (content : Content)
    → IsProblemOf instance p → IsWorked p used state → IsCertificateOf p instance.events state content
    → used < room (instance_net instance) content.cycles (root (instance_net instance) content.cycles)
fewer_than_room instance p used state content h w c =
    let n = instance_net instance in
    subst (λ (k : ℕ). k < room n content.cycles (root n content.cycles)) w.count
    (fewer_branches n content.cycles state.tree (root n content.cycles)
    (both_in instance p used state content.cycles h w c.cycles))

decided_answer : (least best : Option ℕ) → IsAtMost best least → IsOpenAnswer (answer_of least best) → ⊥
decided_answer None best h o = o
decided_answer (Some l) None h o = absurd h
decided_answer (Some l) (Some c) h o = by_test (nat_le c l) (let most : c ≤ l = h in grind (arith, nat_tests)) o
  where
    by_test : (b : Bool) → b ≡ true → IsOpenAnswer (if b then Optimal c else Bounded l (Some c)) → ⊥
    by_test true e k = k
    by_test false e k = cc

pub not_open : (p : ProblemValue) (used : ℕ) (state : State) (events : List ℤ) (content : Content)
    → KeepsNetLimits p.network → IsWorked p used state → ((path : List (Cut × Side)) → IsOpen p state path → ⊥)
    → IsCertificateOf p events state content → IsOpenAnswer content.answer → ⊥
not_open p used state events content limits w closed c o =
    decided_answer (least p state) (best_cost p state)
    (none_open_decides p state limits w.orderly.kept w.unlent closed) (subst IsOpenAnswer c.answer o)
