-- What a work makes of a sound leaf is sound, and its least value isn't below the leaf's.
use Rattle.std.proofs.Common.{◌≡◌, ℕ, ◌<◌, List, length, refl, sym, ap, ◌∙◌, arith, subst, Bool, true, false}
use Rattle.std.specs.Prelude.{ℤ, pos, ◌≤ℤ◌, ◌<ℤ◌, Option, Some, None, IsSome, int_lt, if◌then◌else◌}
use Rattle.std.proofs.lemmas.Int.{ints}
use Rattle.std.proofs.lemmas.List.Elements.{All-contains}
use Rattle.pesp_problem.specs.declared.row.SignedRow.{SignedRow}
use Rattle.pesp_problem.specs.declared.pair.Pair.{Pair}
use Rattle.pesp_problem.specs.declared.cut.Cut.{Cut}
use Rattle.pesp_problem.specs.declared.cut.Side.{Side}
use Rattle.pesp_problem.specs.declared.cut.Side.TheVariants.{Low, High}
use Rattle.pesp_problem.specs.Walks.{Names}
use Rattle.pesp_problem.specs.Nodes.{Node, leaf_value, part, low_part, high_part, LeavesBoth}
use Rattle.pesp_truth.specs.Trees.{Plain, Tree, Leaf, Reason, Ends, Branch, Bound, Shut, ByPairs, ByGap, ByPropagation, IsShut, IsSoundLeaf, IsSound, PairsExist}
use Rattle.pesp_nodes.specs.Problems.{ProblemValue, problem_net, ArePairs}
use Rattle.pesp_tree.specs.declared.work.Work.{Work}
use Rattle.pesp_tree.specs.declared.work.Work.TheVariants as works
use Rattle.pesp_tree.specs.BoardLeaves.{least_value}
use Rattle.pesp_tree.specs.Events.{Makes, Shuts, Splits, Uses, Keeps, IsGraft, is_better}
use Rattle.pesp_tree.proofs.LeafParts.{parts_shrink, leaf_value_shrinks}
use Rattle.pesp_tree.proofs.Trees.{IsUnder, under_lesser, value_of, and_is}

-- the tree is sound at the node, and its least value isn't below this one
pub record Follows (p : ProblemValue) (node : Node) (value : Option ℤ) (new : Tree) : Type 0 where
  pub sound : IsSound (Plain (Some 0)) (problem_net p) p.table new node
  pub under : IsUnder value (least_value (problem_net p) p.table new node)

pub some_is : (o : Option ℤ) → IsSome o → (v : ℤ) × (o ≡ Some v)
some_is None h = cc
some_is (Some v) h = (v, refl)

-- pairs whose value is at least one that isn't negative
bound_follows : (p : ProblemValue) (node : Node) (pairs : List Pair) (v w : ℤ) → PairsExist (Plain None) p.table pairs
    → leaf_value (problem_net p) p.table node pairs true ≡ Some v → pos 0 ≤ℤ w → w ≤ℤ v
    → Follows p node (Some w) (Ends (Bound pairs))
bound_follows p node pairs v w e is h k = record {
  sound = (e, rw is (let above : pos 0 ≤ℤ v = omega (arith, ints) in above));
  under = rw is k;
}

pub pairs_exist : (table : List (List SignedRow)) (pairs : List Pair) → ArePairs (length table) pairs → PairsExist (Plain None) table pairs
pairs_exist table pairs h i d l = (h.each i d l).names

cycle_exists : (table : List (List SignedRow)) (pairs : List Pair) (cycle : ℕ) → PairsExist (Plain None) table pairs
    → Uses pairs cycle → Names (length table) cycle
cycle_exists table pairs cycle e used = subst (λ c. Names (length table) c) (used.2)
    (All-contains (λ (x : Pair). Names (length table) x.cycle) pairs used.0 e used.1)

keeps_follows : (p : ProblemValue) (node : Node) (old : List Pair) (leaf : Leaf) (w : ℤ) → 0 < (problem_net p).period
    → PairsExist (Plain None) p.table old → leaf_value (problem_net p) p.table node old true ≡ Some w → pos 0 ≤ℤ w
    → (cut : Cut) (side : Side) → LeavesBoth node cut → Keeps p old (part node cut side) leaf
    → Follows p (part node cut side) (Some w) (Ends leaf)
keeps_follows p node old (Bound kept) w h e is k cut side both keeps =
    let value = some_is (leaf_value (problem_net p) p.table (part node cut side) old true) (keeps.1) in
    let was = leaf_value_shrinks (problem_net p) p.table node (part node cut side) old true value.0 h
    (parts_shrink node cut side both) (value.1) in
    let same : w ≡ was.0 = cc in
    subst (λ x. Follows p (part node cut side) (Some w) (Ends (Bound x))) (sym (keeps.0))
    (bound_follows p (part node cut side) old value.0 w e value.1 k (rw same (was.2)))
keeps_follows p node old (Shut reason) w h e is k cut side both keeps =
    record {
      sound = subst (λ (r : Reason). IsShut (Plain None) (problem_net p) p.table r (part node cut side)) (sym keeps.1)
          (cycle_exists p.table old keeps.0 e keeps.2, keeps.3);
      under = tt;
    }

better_is : (a b : Option ℤ) (w v : ℤ) → a ≡ Some w → b ≡ Some v → is_better a b ≡ int_lt w v
better_is a b w v e f = rw (e, f) refl

better_follows : (p : ProblemValue) (node : Node) (old pairs : List Pair) (w v : ℤ) → PairsExist (Plain None) p.table old
    → PairsExist (Plain None) p.table pairs → leaf_value (problem_net p) p.table node old true ≡ Some w → pos 0 ≤ℤ w
    → leaf_value (problem_net p) p.table node pairs true ≡ Some v → (b : Bool) → int_lt w v ≡ b
    → Follows p node (Some w) (Ends (Bound (if b then pairs else old)))
better_follows p node old pairs w v e f is k is_new true h =
    bound_follows p node pairs v w f is_new k (let lt : w <ℤ v = grind (arith, ints) in omega (arith, ints))
better_follows p node old pairs w v e f is k is_new false h = bound_follows p node old w w e is k (omega (arith, ints))

as_made : (p : ProblemValue) (node : Node) (value : Option ℤ) (made new : Tree) → new ≡ made
    → Follows p node value made → Follows p node value new
as_made p node value made new e f = subst (λ t. Follows p node value t) (sym e) f

splits_follow : (p : ProblemValue) (node : Node) (old : List Pair) (cut : Cut) (new : Tree) (w : ℤ)
    → 0 < (problem_net p).period → Splits p node old cut new → PairsExist (Plain None) p.table old
    → leaf_value (problem_net p) p.table node old true ≡ Some w → pos 0 ≤ℤ w → Follows p node (Some w) new
splits_follow p node old cut new w h s e is k =
    let first = keeps_follows p node old s.low w h e is k cut Low s.both s.keeps_low in
    let second = keeps_follows p node old s.high w h e is k cut High s.both s.keeps_high in
    as_made p node (Some w) (Branch cut (Ends s.low) (Ends s.high)) new s.tree (record {
      sound = (s.exists, first.sound, second.sound);
      under = under_lesser (Some w) _ _ first.under second.under;
    })

-- a tree in the place of a leaf whose worth isn't negative
graft_follows : (p : ProblemValue) (w : ℤ) (tree : Tree) (node : Node) → pos 0 ≤ℤ w → IsGraft p (Some w) node tree
    → Follows p node (Some w) tree
graft_follows p w (Ends (Bound pairs)) node k g =
    let value = and_is (leaf_value (problem_net p) p.table node pairs true) (λ v. w ≤ℤ v) g.1 in
    bound_follows p node pairs value.0 w (pairs_exist p.table pairs g.0) value.1 k value.2
graft_follows p w (Ends (Shut reason)) node k g = record { sound = g.1; under = tt }
graft_follows p w (Branch cut low high) node k g =
    let first = graft_follows p w low (low_part node cut) k g.2 in
    let second = graft_follows p w high (high_part node cut) k g.3 in
    record {
      sound = (g.0, first.sound, second.sound);
      under = under_lesser (Some w) _ _ first.under second.under;
    }

shut_follows : (p : ProblemValue) (node : Node) (w : ℤ) (reason : Reason) (new : Tree) → Shuts p node reason new
    → Follows p node (Some w) new
shut_follows p node w reason new m = as_made p node (Some w) (Ends (Shut reason)) new m.1 (record { sound = m.0.1; under = tt })

made_follows : (p : ProblemValue) (node : Node) (old : List Pair) (work : Work) (new : Tree) (w : ℤ)
    → 0 < (problem_net p).period → Makes p node old work new → PairsExist (Plain None) p.table old
    → leaf_value (problem_net p) p.table node old true ≡ Some w → pos 0 ≤ℤ w → Follows p node (Some w) new
made_follows p node old (works.Leaf pairs) new w h m e is k =
    let value = some_is (leaf_value (problem_net p) p.table node pairs true) (m.1) in
    let better = better_follows p node old pairs w value.0 e (pairs_exist p.table pairs m.0) is k value.1 (int_lt w value.0) refl in
    as_made p node (Some w) (Ends (Bound (if int_lt w value.0 then pairs else old))) new
    (m.2 ∙ ap (λ (b : Bool). Ends (Bound (if b then pairs else old)))
    (better_is (leaf_value (problem_net p) p.table node old true)
    (leaf_value (problem_net p) p.table node pairs true) w value.0 is value.1)) better
made_follows p node old (works.Nothing pairs) new w h m e is k = shut_follows p node w (ByPairs pairs) new m
made_follows p node old (works.Gap cycle) new w h m e is k = shut_follows p node w (ByGap cycle) new m
made_follows p node old works.Propagated new w h m e is k = shut_follows p node w ByPropagation new m
made_follows p node old (works.Split cut) new w h m e is k = splits_follow p node old cut new w h m e is k
made_follows p node old (works.Tree lines) new w h m e is k =
    graft_follows p w new node k (subst (λ worth. IsGraft p worth node new) is m.1)

pub makes_follows : (p : ProblemValue) (node : Node) (old : List Pair) (work : Work) (new : Tree)
    → 0 < (problem_net p).period → Makes p node old work new → IsSoundLeaf (Plain (Some 0)) (problem_net p) p.table (Bound old) node
    → Follows p node (leaf_value (problem_net p) p.table node old true) new
makes_follows p node old work new h m s =
    let was = value_of (problem_net p) p.table node old s in
    subst (λ value. Follows p node value new) (sym (was.1)) (made_follows p node old work new was.0 h m s.0 was.1 was.2)
