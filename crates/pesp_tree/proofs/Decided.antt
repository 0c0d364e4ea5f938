-- Where nothing is lent, no leaf is open exactly where the least value reaches the best cost or isn't there.
use Rattle.std.proofs.Common.{◌≡◌, ℕ, ◌≤◌, List, refl, sym, ◌∙◌, arith, subst}
use Rattle.std.specs.Prelude.{ℤ, pos, ◌≤ℤ◌, Option, Some, None, IsSomeAnd, option_map}
use Rattle.std.proofs.lemmas.Int.{ints, by_lt_z}
use Rattle.pesp_problem.specs.declared.pair.Pair.{Pair}
use Rattle.pesp_problem.specs.declared.cut.Cut.{Cut}
use Rattle.pesp_problem.specs.declared.cut.Side.{Side}
use Rattle.pesp_problem.specs.NetTimetables.{net_cost}
use Rattle.pesp_truth.specs.Trees.{Bound}
use Rattle.pesp_network.specs.Networks.{KeepsNetLimits}
use Rattle.pesp_nodes.specs.Problems.{ProblemValue, problem_net}
use Rattle.pesp_truth.specs.Leaves.{IsLeafAt}
use Rattle.pesp_tree.specs.BoardLeaves.{HasValue, least_value, told}
use Rattle.pesp_tree.specs.States.{State, IsAtMost, IsBelow, IsLentNumber, IsOpen, root_of, node_at, value_at, least, best_cost}
use Rattle.pesp_tree.specs.Reached.{IsKept}
use Rattle.pesp_tree.proofs.Trees.{sound_leaf, value_of}
use Rattle.pesp_tree.proofs.Least.{least_is_had, least_is_under}
use Rattle.pesp_tree.proofs.Costs.{told-le, told_alike, costs_are_small}

-- ---- values of leaves

-- a bound leaf of a kept tree has a value that isn't negative
leaf_has_value : (p : ProblemValue) (state : State) (path : List (Cut × Side)) (pairs : List Pair) → IsKept p state
    → IsLeafAt state.tree path (Bound pairs) → (v : ℤ) × (value_at p path pairs ≡ Some v) × (pos 0 ≤ℤ v)
leaf_has_value p state path pairs k h = value_of (problem_net p) p.table (node_at p path) pairs
    (sound_leaf (problem_net p) p.table (Some 0) state.tree path (Bound pairs) (root_of p) h k.tree)

not_negative_had : (p : ProblemValue) (state : State) (v : ℤ) → IsKept p state
    → HasValue (problem_net p) p.table state.tree (root_of p) v → pos 0 ≤ℤ v
not_negative_had p state v k h =
    let value = leaf_has_value p state h.path h.pairs k h.leaf in
    let same : Some value.0 ≡ Some v = sym value.1 ∙ h.worth in
    subst (λ x. pos 0 ≤ℤ x) (some_same same) value.2
  where
    some_same : {a b : ℤ} → Some a ≡ Some b → a ≡ b
    some_same e = cc

-- ---- no open leaf

abbrev HasNoOpen : ProblemValue → State → Type 0
HasNoOpen p state = (path : List (Cut × Side)) → IsOpen p state path → ⊥

-- a leaf that isn't open though it isn't lent is worth at least the best cost
reaches : (value : Option ℤ) (v : ℤ) (best : Option ℕ) → value ≡ Some v → (IsBelow value best → ⊥)
    → (c : ℕ) × (best ≡ Some c) × (pos c ≤ℤ v)
reaches value v None e h = absurd (h tt)
reaches value v (Some c) e h = by_lt_z v (pos c) (λ l. absurd (h (rw e l))) (λ g. (c, refl, g))

best_is_small : (p : ProblemValue) (best : Option (List ℕ)) (c : ℕ) → KeepsNetLimits p.network
    → option_map (net_cost (problem_net p)) best ≡ Some c → c ≤ 999900000000000000
best_is_small p None c limits e = cc
best_is_small p (Some times) c limits e = let same : net_cost (problem_net p) times ≡ c = cc in
    subst (λ n. n ≤ 999900000000000000) same (costs_are_small p.network times limits)

-- where each least value is reached, the best cost is at most what is told of it
at_most_told : (best : Option ℕ) (value : Option ℤ)
    → ((v : ℤ) → value ≡ Some v → (c : ℕ) × (best ≡ Some c) × (c ≤ told v)) → IsAtMost best (option_map told value)
at_most_told best None h = tt
at_most_told best (Some v) h = let reached = h v refl in subst (λ b. IsAtMost b (Some (told v))) (sym reached.1) reached.2

pub none_open_decides : (p : ProblemValue) (state : State) → KeepsNetLimits p.network → IsKept p state
    → ((number : ℕ) → IsLentNumber state number → ⊥) → HasNoOpen p state
    → IsAtMost (best_cost p state) (least p state)
none_open_decides p state limits k unlent closed =
    at_most_told (best_cost p state) (least_value (problem_net p) p.table state.tree (root_of p))
    (λ v e.
    let had = least_is_had (problem_net p) p.table state.tree (root_of p) v e in
    let not_open : IsBelow (value_at p had.path had.pairs) (best_cost p state)
    → ⊥ = λ below. closed had.path (record {
      pairs = had.pairs;
      leaf = had.leaf;
      unlent = λ l. unlent l.0 (had.path, l.1);
      cheaper = below;
    }) in
    let reached = reaches (value_at p had.path had.pairs) v (best_cost p state) had.worth not_open in
    let small = best_is_small p state.best reached.0 limits reached.1 in
    (reached.0, reached.1, (told_alike v reached.0 (not_negative_had p state v k had) (omega (arith, small))).0 reached.2))

-- ---- a decided board

-- a best cost that is at most what is told of the least value is at most each value
not_below : (best : Option ℕ) (value : Option ℤ) (w : ℤ) → pos 0 ≤ℤ w → IsAtMost best (option_map told value)
    → IsSomeAnd value (λ u. (pos 0 ≤ℤ u) × (u ≤ℤ w)) → IsBelow (Some w) best → ⊥
not_below best None w n a u b = absurd u
not_below None (Some v) w n a u b = absurd a
not_below (Some c) (Some v) w n a u b = let under = told-le v u.0 in omega (arith, ints)

-- the least value is there, isn't negative, and is at most this one
least_within : (p : ProblemValue) (state : State) (w : ℤ) → IsKept p state
    → HasValue (problem_net p) p.table state.tree (root_of p) w
    → IsSomeAnd (least_value (problem_net p) p.table state.tree (root_of p)) (λ u. (pos 0 ≤ℤ u) × (u ≤ℤ w))
least_within p state w k h = go (least_value (problem_net p) p.table state.tree (root_of p)) refl
    (least_is_under (problem_net p) p.table state.tree (root_of p) w h)
  where
    go : (value : Option ℤ) → least_value (problem_net p) p.table state.tree (root_of p) ≡ value
        → IsSomeAnd value (λ u. u ≤ℤ w) → IsSomeAnd value (λ u. (pos 0 ≤ℤ u) × (u ≤ℤ w))
    go None e u = u
    go (Some v) e u = (not_negative_had p state v k (least_is_had (problem_net p) p.table state.tree (root_of p) v e), u)

pub decided_has_none_open : (p : ProblemValue) (state : State) → IsKept p state
    → IsAtMost (best_cost p state) (least p state) → HasNoOpen p state
decided_has_none_open p state k a path o =
    let value = leaf_has_value p state path o.pairs k o.leaf in
    let had : HasValue (problem_net p) p.table state.tree (root_of p) value.0 =
    record { path = path; pairs = o.pairs; leaf = o.leaf; worth = value.1 } in
    let below : IsBelow (Some value.0) (best_cost p state) = subst (λ x. IsBelow x (best_cost p state)) value.1 o.cheaper in
    not_below (best_cost p state) (least_value (problem_net p) p.table state.tree (root_of p)) value.0 value.2 a
    (least_within p state value.0 k had) below
