-- The least value of a tree is that of one of its bound leaves, and at most that of each.
use Rattle.std.proofs.Common.{◌≡◌, List, [], ◌∷◌, refl, sym, ap, ◌∙◌, arith, subst, ◌⊎◌, inl, inr}
use Rattle.std.specs.Prelude.{ℤ, ◌≤ℤ◌, Option, Some, None, IsSomeAnd, true}
use Rattle.std.specs.Int.{int_min}
use Rattle.std.proofs.lemmas.Int.{ints, clamps, by_lt_z}
use Rattle.pesp_problem.specs.declared.row.SignedRow.{SignedRow}
use Rattle.pesp_problem.specs.declared.pair.Pair.{Pair}
use Rattle.pesp_problem.specs.declared.cut.Cut.{Cut}
use Rattle.pesp_problem.specs.declared.cut.Side.{Side}
use Rattle.pesp_problem.specs.declared.cut.Side.TheVariants.{Low, High}
use Rattle.pesp_problem.specs.Arcs.{Net}
use Rattle.pesp_problem.specs.Nodes.{Node, leaf_value, low_part, high_part}
use Rattle.pesp_truth.specs.Trees.{Tree, Ends, Branch, Bound, Shut}
use Rattle.pesp_truth.specs.Paths.{along}
use Rattle.pesp_truth.specs.Leaves.{IsLeafAt}
use Rattle.pesp_tree.specs.BoardLeaves.{HasValue, lesser_value, least_value}
use Rattle.pesp_tree.proofs.Trees.{IsUnder, under_same}

-- the lesser of two is one of them
lesser_is : (a b : Option ℤ) (v : ℤ) → lesser_value a b ≡ Some v → (a ≡ Some v) ⊎ (b ≡ Some v)
lesser_is None b v e = inr e
lesser_is (Some a) None v e = inl e
lesser_is (Some a) (Some b) v e = by_lt_z a b (λ l.
    inl (ap Some (let same : a ≡ int_min a b = omega (arith, ints, clamps) in same) ∙ e))
    (λ g. inr (ap Some (let same : b ≡ int_min a b = omega (arith, ints, clamps) in same) ∙ e))

-- and is under both
lesser_under_first : (a b : Option ℤ) → IsUnder (lesser_value a b) a
lesser_under_first None b = tt
lesser_under_first (Some a) None = omega (arith, ints)
lesser_under_first (Some a) (Some b) = omega (arith, ints, clamps)

lesser_under_second : (a b : Option ℤ) → IsUnder (lesser_value a b) b
lesser_under_second None b = under_same b
lesser_under_second (Some a) None = tt
lesser_under_second (Some a) (Some b) = omega (arith, ints, clamps)

under_trans : (a b c : Option ℤ) → IsUnder a b → IsUnder b c → IsUnder a c
under_trans a b None h k = tt
under_trans a None (Some c) h k = absurd k
under_trans None (Some b) (Some c) h k = absurd h
under_trans (Some a) (Some b) (Some c) h k = omega (arith, ints)

-- ---- the tree

low_value : (n : Net) (table : List (List SignedRow)) (cut : Cut) (low high : Tree) (node : Node) (v : ℤ)
    → HasValue n table low (low_part node cut) v → HasValue n table (Branch cut low high) node v
low_value n table cut low high node v h = record { path = (cut, Low) ∷ h.path; pairs = h.pairs; leaf = (refl, h.leaf); worth = h.worth }

high_value : (n : Net) (table : List (List SignedRow)) (cut : Cut) (low high : Tree) (node : Node) (v : ℤ)
    → HasValue n table high (high_part node cut) v → HasValue n table (Branch cut low high) node v
high_value n table cut low high node v h = record { path = (cut, High) ∷ h.path; pairs = h.pairs; leaf = (refl, h.leaf); worth = h.worth }

pub least_is_had : (n : Net) (table : List (List SignedRow)) (tree : Tree) (node : Node) (v : ℤ)
    → least_value n table tree node ≡ Some v → HasValue n table tree node v
least_is_had n table (Ends (Bound pairs)) node v e = record { path = []; pairs = pairs; leaf = refl; worth = e }
least_is_had n table (Ends (Shut reason)) node v e = cc
least_is_had n table (Branch cut low high) node v e =
    elim (lesser_is (least_value n table low (low_part node cut)) (least_value n table high (high_part node cut)) v e) [
      | inl first ↦ low_value n table cut low high node v (least_is_had n table low (low_part node cut) v first)
      | inr second ↦ high_value n table cut low high node v (least_is_had n table high (high_part node cut) v second)
    ]

under_leaf : (n : Net) (table : List (List SignedRow)) (tree : Tree) (path : List (Cut × Side)) (pairs : List Pair)
    (node : Node) → IsLeafAt tree path (Bound pairs)
    → IsUnder (least_value n table tree node) (leaf_value n table (along node path) pairs true)
under_leaf n table (Ends leaf) [] pairs node h =
    subst (λ x. IsUnder (least_value n table (Ends x) node) (leaf_value n table node pairs true)) (sym h)
    (under_same (leaf_value n table node pairs true))
under_leaf n table (Ends leaf) (step ∷ path) pairs node h = absurd h
under_leaf n table (Branch cut low high) [] pairs node h = absurd h
under_leaf n table (Branch cut low high) ((c, Low) ∷ path) pairs node h =
    let rest = under_leaf n table low path pairs (low_part node cut) h.1 in
    subst (λ x. IsUnder (least_value n table (Branch cut low high) node)
    (leaf_value n table (along (low_part node x) path) pairs true)) (sym h.0)
    (under_trans _ _ _ (lesser_under_first (least_value n table low (low_part node cut))
    (least_value n table high (high_part node cut))) rest)
under_leaf n table (Branch cut low high) ((c, High) ∷ path) pairs node h =
    let rest = under_leaf n table high path pairs (high_part node cut) h.1 in
    subst (λ x. IsUnder (least_value n table (Branch cut low high) node)
    (leaf_value n table (along (high_part node x) path) pairs true)) (sym h.0)
    (under_trans _ _ _ (lesser_under_second (least_value n table low (low_part node cut))
    (least_value n table high (high_part node cut))) rest)

under_value : (a : Option ℤ) (v : ℤ) → IsUnder a (Some v) → IsSomeAnd a (λ u. u ≤ℤ v)
under_value None v h = h
under_value (Some u) v h = h

pub least_is_under : (n : Net) (table : List (List SignedRow)) (tree : Tree) (node : Node) (v : ℤ)
    → HasValue n table tree node v → IsSomeAnd (least_value n table tree node) (λ u. u ≤ℤ v)
least_is_under n table tree node v h = under_value (least_value n table tree node) v
    (subst (λ x. IsUnder (least_value n table tree node) x) h.worth
    (under_leaf n table tree h.path h.pairs node h.leaf))

same_value : (o : Option ℤ) (v : ℤ) → IsSomeAnd o (λ u. u ≤ℤ v) → ((u : ℤ) → o ≡ Some u → v ≤ℤ u) → o ≡ Some v
same_value None v h k = absurd h
same_value (Some u) v h k = let above = k u refl in let same : u ≡ v = omega (arith, ints) in ap Some same

-- a value that a bound leaf has, and that is at most each that one has, is the least
pub least_is_only : (n : Net) (table : List (List SignedRow)) (tree : Tree) (node : Node) (v : ℤ)
    → HasValue n table tree node v → ((u : ℤ) → HasValue n table tree node u → v ≤ℤ u)
    → least_value n table tree node ≡ Some v
least_is_only n table tree node v h k = same_value (least_value n table tree node) v
    (least_is_under n table tree node v h) (λ u e. k u (least_is_had n table tree node u e))

none_had : (o : Option ℤ) → ((u : ℤ) → o ≡ Some u → ⊥) → o ≡ None
none_had None k = refl
none_had (Some u) k = absurd (k u refl)

pub least_is_none : (n : Net) (table : List (List SignedRow)) (tree : Tree) (node : Node)
    → ((u : ℤ) → HasValue n table tree node u → ⊥) → least_value n table tree node ≡ None
least_is_none n table tree node k = none_had (least_value n table tree node) (λ u e. k u (least_is_had n table tree node u e))
