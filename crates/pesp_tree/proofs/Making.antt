-- A work makes something of a bound leaf exactly where it is valid there.
use Rattle.std.proofs.Common.{◌≡◌, ℕ, ◌-◌, List, [], ◌∷◌, refl, ◌⊎◌, inl, inr, true}
use Rattle.std.specs.Prelude.{ℤ, ◌+ℤ◌, ◌↔◌, Option, Some, None, IsNone, IsSome, option_map, option_and_then, Contains}
use Rattle.std.proofs.lemmas.List.Elements.{Contains-push, Contains-append_left, Contains-append_right}
use Rattle.pesp_problem.specs.declared.row.SignedRow.{SignedRow}
use Rattle.pesp_problem.specs.declared.pair.Pair.{Pair}
use Rattle.pesp_problem.specs.declared.cut.Cut.{Cut}
use Rattle.pesp_problem.specs.declared.cut.Side.{Side}
use Rattle.pesp_problem.specs.Sums.{scaled}
use Rattle.pesp_problem.specs.Arcs.{Net}
use Rattle.pesp_problem.specs.Nodes.{Node, leaf_value, offset_part, offsets_left, low_part, high_part}
use Rattle.pesp_truth.specs.Trees.{Tree, Leaf, Ends, Branch, Bound, Shut, Nothing, Gap, ByPropagation}
use Rattle.pesp_nodes.specs.Problems.{ProblemValue, problem_net}
use Rattle.pesp_tree.specs.declared.work.Work.{Work}
use Rattle.pesp_tree.specs.declared.work.Work.TheVariants as works
use Rattle.pesp_tree.specs.States.{State, HasLeaf, node_at}
use Rattle.pesp_tree.specs.Events.{Makes, Keeps, IsValidAt, MakesNothing, better_pairs}

-- a pair's cycle with no offset left
abbrev pub HasGap : Net → List (List SignedRow) → Node → List Pair → Type 0
HasGap n table node pairs = (pair : Pair) × Contains pairs pair × (offsets_left n table node (pair.cycle - 1) ≡ None)

one_is_none : {A : Type 0} (f : A → ℤ → ℤ) (o : Option A) (r : Option ℤ)
    → option_and_then (λ x. option_map (λ rest. f x rest) r) o ≡ None → (o ≡ None) ⊎ (r ≡ None)
one_is_none f None r e = inl refl
one_is_none f (Some x) None e = inr refl
one_is_none f (Some x) (Some rest) e = cc

pub gap_of : (n : Net) (table : List (List SignedRow)) (node : Node) (pairs : List Pair)
    → offset_part n table node pairs ≡ None → HasGap n table node pairs
gap_of n table node [] e = cc
gap_of n table node (pair ∷ pairs) e =
    elim (one_is_none (λ (left : ℤ × ℤ) (rest : ℤ). scaled pair.mult left.0 left.1 +ℤ rest)
    (offsets_left n table node (pair.cycle - 1)) (offset_part n table node pairs) e) [
      | inl here ↦ (pair, Contains-append_left (pair ∷ []) pairs pair (Contains-push [] pair), here)
      | inr there ↦ (let gap = gap_of n table node pairs there in (gap.0, Contains-append_right (pair ∷ []) pairs gap.0 gap.1, gap.2))
    ]

pub no_part : (f : ℤ → ℤ) (o : Option ℤ) → option_map f o ≡ None → o ≡ None
no_part f None e = refl
no_part f (Some x) e = cc

is_none : (o : Option (ℤ × ℤ)) → o ≡ None → IsNone o
is_none None e = refl
is_none (Some x) e = cc

value_is_some : (o : Option ℤ) (v : ℤ) → o ≡ Some v → IsSome o
value_is_some None v e = cc
value_is_some (Some u) v e = refl

-- what a side of a split keeps
kept_leaf : (p : ProblemValue) (pairs : List Pair) (node : Node) (value : Option ℤ)
    → leaf_value (problem_net p) p.table node pairs true ≡ value → (leaf : Leaf) × Keeps p pairs node leaf
kept_leaf p pairs node None e =
    let gap = gap_of (problem_net p) p.table node pairs (no_part _ (offset_part (problem_net p) p.table node pairs) e) in
    (Gap gap.0.cycle, (gap.0.cycle, refl, (gap.0, gap.1, refl), is_none _ gap.2))
kept_leaf p pairs node (Some v) e = (Bound pairs, (refl, value_is_some _ v e))

made : (p : ProblemValue) (node : Node) (old : List Pair) (work : Work) → IsValidAt p node old work
    → (new : Tree) × Makes p node old work new
made p node old (works.Leaf pairs) h = (Ends (Bound (better_pairs p node old pairs)), (h.0, h.1, refl))
made p node old (works.Nothing pairs) h = (Ends (Nothing pairs), (h, refl))
made p node old (works.Gap cycle) h = (Ends (Gap cycle), (h, refl))
made p node old works.Propagated h = (Ends (Shut ByPropagation), (h, refl))
made p node old (works.Split cut) h =
    let first = kept_leaf p old (low_part node cut) _ refl in
    let second = kept_leaf p old (high_part node cut) _ refl in (
      Branch cut (Ends first.0) (Ends second.0),
      record {
        exists = h.0;
        both = h.1;
        low = first.0;
        high = second.0;
        keeps_low = first.1;
        keeps_high = second.1;
        tree = refl;
      },
    )
made p node old (works.Tree lines) h = h

valid : (p : ProblemValue) (node : Node) (old : List Pair) (work : Work) (new : Tree) → Makes p node old work new
    → IsValidAt p node old work
valid p node old (works.Leaf pairs) new m = (m.0, m.1)
valid p node old (works.Nothing pairs) new m = m.0
valid p node old (works.Gap cycle) new m = m.0
valid p node old works.Propagated new m = m.0
valid p node old (works.Split cut) new m = (m.exists, m.both)
valid p node old (works.Tree lines) new m = (new, m)

pub valid_works_make : (p : ProblemValue) (node : Node) (old : List Pair) (work : Work)
    → ((new : Tree) × Makes p node old work new) ↔ IsValidAt p node old work
valid_works_make p node old work = (λ m. valid p node old work m.0 m.1, made p node old work)

-- and so a work isn't valid exactly where the number is lent with a leaf at which it isn't
pub not_valid_is : (p : ProblemValue) (old : State) (number : ℕ) (work : Work) (path : List (Cut × Side))
    (pairs : List Pair) → HasLeaf old number path pairs → (IsValidAt p (node_at p path) pairs work → ⊥)
    → MakesNothing p old number work
not_valid_is p old number work path pairs h k =
    record { path = path; pairs = pairs; leaf = h; none = λ new m. k (valid p (node_at p path) pairs work new m) }
