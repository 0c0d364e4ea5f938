-- Another leaf at a node, or a branch: what changes in the tree under work, and the entries of the new bound leaves.
use Rattle.std.proofs.Common.{◌≡◌, ℕ, ◌+◌, ◌<◌, List, [], ◌∷◌, ◌++◌, length, set, refl, sym, ap, ◌∙◌, arith, subst, inl, inr}
use Rattle.std.specs.Prelude.{Option, Some, None, IsSome, option_map, Contains}
use Rattle.std.proofs.lemmas.Bool.{cases_eq, cases_lt}
use Rattle.std.proofs.lemmas.List.{length-append, length-set}
use Rattle.std.proofs.lemmas.List.Elements.{Contains-append_cases, Contains-append_left, Contains-append_right}
use Rattle.pesp_problem.specs.declared.pair.Pair.{Pair}
use Rattle.pesp_problem.specs.declared.cut.Cut.{Cut}
use Rattle.pesp_problem.specs.declared.cut.Side.{Side}
use Rattle.pesp_problem.specs.declared.cut.Side.TheVariants.{Low, High}
use Rattle.pesp_problem.specs.Nodes.{Node, part, low_part, high_part}
use Rattle.pesp_truth.specs.Trees.{Leaf, Bound, Shut}
use Rattle.pesp_truth.specs.Paths.{along}
use Rattle.pesp_nodes.specs.Problems.{ProblemValue}
use Rattle.pesp_tree.specs.WorkTrees.{WorkTreeValue, path_to, leaf_at, with_leaf, with_branch}
use Rattle.pesp_tree.proofs.Effects.{put_here, put_others, split_here, split_low, split_high, split_others, path_low, path_high, path_others}
use Rattle.pesp_tree.specs.declared.entry.Entry.{Entry}
use Rattle.pesp_tree.specs.Entries.{entry, HasItem}
use Rattle.pesp_tree.specs.BoardLeaves.{told}
use Rattle.pesp_tree.specs.States.{root_of, node_at, value_at}
use Rattle.pesp_board.specs.Insides.{IsWorth}
use Rattle.pesp_board.specs.Parts.{IsWorthAt}
use Rattle.pesp_board.specs.Growing.{waits}
use Rattle.pesp_board.proofs.Changing.{IsChanged}
use Rattle.pesp_board.proofs.Lent.{leaf_within}
use Rattle.pesp_board.proofs.Queues.{none_held, one_held, held_first}

-- the entry of a node with a leaf of this value is worth it
new_worth : (p : ProblemValue) (u : WorkTreeValue) (n : ℕ) (path : List (Cut × Side)) (leaf : Leaf)
    (value : Option ℕ) → path_to u n ≡ path → leaf_at u n ≡ Some leaf → IsWorthAt p (node_at p path) leaf value
    → (e : Entry) → Contains (waits n value) e → IsWorth p u e
new_worth p u n path leaf None at is w e h = absurd (none_held e h)
new_worth p u n path (Bound pairs) (Some value) at is w e h =
    subst (IsWorth p u) (one_held e (entry n value) h) (record {
      pairs = pairs;
      leaf = is;
      worth = subst (λ (q : List (Cut × Side)). option_map told (value_at p q pairs) ≡ Some value) (sym at)
          (ap (option_map told) w.1 ∙ sym w.2);
    })
new_worth p u n path (Shut reason) (Some value) at is w e h = cc

-- and where the leaf is a bound leaf there is one
new_has : (p : ProblemValue) (u : WorkTreeValue) (n : ℕ) (node : Node) (leaf : Leaf) (value : Option ℕ)
    (pairs : List Pair) → leaf_at u n ≡ Some leaf → IsWorthAt p node leaf value → leaf_at u n ≡ Some (Bound pairs)
    → HasItem (waits n value) n
new_has p u n node (Bound own) None pairs is w e = let no = w.2 in cc
new_has p u n node (Bound own) (Some value) pairs is w e = (value, held_first (entry n value) [])
new_has p u n node (Shut reason) value pairs is w e = cc

pub leaf_changed : (p : ProblemValue) (t : WorkTreeValue) (node : ℕ) (leaf : Leaf) (value : Option ℕ)
    → IsSome (leaf_at t node) → IsWorthAt p (node_at p (path_to t node)) leaf value
    → IsChanged p t (with_leaf t node leaf) node (waits node value)
leaf_changed p t node leaf value some w =
    let u = with_leaf t node leaf in
    let here = put_here t node leaf some in
    record {
      leaves = λ other l n. put_others t node leaf other n;
      paths = λ other l. refl;
      each = new_worth p u node (path_to t node) leaf value refl here w;
      has = λ n pairs e. elim (cases_eq n node) [
        | inl same ↦ inl (subst (HasItem (waits node value)) (sym same)
            (new_has p u node (node_at p (path_to t node)) leaf value pairs here w (ap (leaf_at u) (sym same) ∙ e)))
        | inr other ↦ inr (leaf_within t.leaves n (Bound pairs) (sym (put_others t node leaf n other) ∙ e), other)
      ];
    }

-- a step further
along_step : (node : Node) (path : List (Cut × Side)) (cut : Cut) (side : Side)
    → along node (path ++ (cut, side) ∷ []) ≡ part (along node path) cut side
along_step node [] cut side = refl
along_step node (step ∷ path) cut side = along_step (part node step.0 step.1) path cut side

long_branch : (t : WorkTreeValue) (node : ℕ) (cut : Cut) (low high : Leaf)
    → length (with_branch t node cut low high).leaves ≡ length t.leaves + 2
long_branch t node cut low high = omega (
  arith,
  length-append (set t.leaves node None) (Some low ∷ Some high ∷ []),
  length-set t.leaves node None,
)

some_not_none : (o : Option Leaf) (leaf : Leaf) → o ≡ None → o ≡ Some leaf → ⊥
some_not_none o leaf a b = cc

-- the parts of a branch, each with its path, its leaf and the value of that
record IsPart (p : ProblemValue) (u : WorkTreeValue) (n : ℕ) (leaf : Leaf) (value : Option ℕ) : Type 0 where
  path : List (Cut × Side)
  at : path_to u n ≡ path
  is : leaf_at u n ≡ Some leaf
  worth : IsWorthAt p (node_at p path) leaf value

low_is : (p : ProblemValue) (t : WorkTreeValue) (node : ℕ) (cut : Cut) (low high : Leaf) (value : Option ℕ)
    → length t.paths ≡ length t.leaves → IsWorthAt p (low_part (node_at p (path_to t node)) cut) low value
    → IsPart p (with_branch t node cut low high) (length t.leaves) low value
low_is p t node cut low high value w worth =
    let u = with_branch t node cut low high in
    let path = path_to t node ++ (cut, Low) ∷ [] in
    record {
      path = path;
      at = subst (λ (n : ℕ). path_to u n ≡ path) w (path_low t node cut low high);
      is = split_low t node cut low high;
      worth = subst (λ (x : Node). IsWorthAt p x low value) (sym (along_step (root_of p) (path_to t node) cut Low)) worth;
    }

high_is : (p : ProblemValue) (t : WorkTreeValue) (node : ℕ) (cut : Cut) (low high : Leaf) (value : Option ℕ)
    → length t.paths ≡ length t.leaves → IsWorthAt p (high_part (node_at p (path_to t node)) cut) high value
    → IsPart p (with_branch t node cut low high) (length t.leaves + 1) high value
high_is p t node cut low high value w worth =
    let u = with_branch t node cut low high in
    let path = path_to t node ++ (cut, High) ∷ [] in
    record {
      path = path;
      at = subst (λ (n : ℕ). path_to u (n + 1) ≡ path) w (path_high t node cut low high);
      is = split_high t node cut low high;
      worth = subst (λ (x : Node). IsWorthAt p x high value) (sym (along_step (root_of p) (path_to t node) cut High)) worth;
    }

part_worth : (p : ProblemValue) (u : WorkTreeValue) (n : ℕ) (leaf : Leaf) (value : Option ℕ)
    → IsPart p u n leaf value → (e : Entry) → Contains (waits n value) e → IsWorth p u e
part_worth p u n leaf value is = new_worth p u n is.path leaf value is.at is.is is.worth

part_has : (p : ProblemValue) (u : WorkTreeValue) (m n : ℕ) (leaf : Leaf) (value : Option ℕ) (pairs : List Pair)
    → IsPart p u n leaf value → m ≡ n → leaf_at u m ≡ Some (Bound pairs) → HasItem (waits n value) m
part_has p u m n leaf value pairs is same e = subst (HasItem (waits n value)) (sym same)
    (new_has p u n (node_at p is.path) leaf value pairs is.is is.worth (ap (leaf_at u) (sym same) ∙ e))

pub branch_changed : (p : ProblemValue) (t : WorkTreeValue) (node : ℕ) (cut : Cut) (low high : Leaf)
    (v w : Option ℕ) → length t.paths ≡ length t.leaves → node < length t.leaves
    → IsWorthAt p (low_part (node_at p (path_to t node)) cut) low v → IsWorthAt p (high_part (node_at p (path_to t node)) cut) high w
    → IsChanged p t (with_branch t node cut low high) node (waits (length t.leaves + 1) w ++ waits (length t.leaves) v)
branch_changed p t node cut low high v w counted within worth_low worth_high =
    let u = with_branch t node cut low high in
    let k = length t.leaves in
    let first = low_is p t node cut low high v counted worth_low in
    let second = high_is p t node cut low high w counted worth_high in
    record {
      leaves = λ other l n. split_others t node cut low high other l n;
      paths = λ other l. path_others t node cut low high other (omega (arith, l, counted));
      each = λ e h. elim (Contains-append_cases (waits (k + 1) w) (waits k v) e h) [
        | inl high_one ↦ part_worth p u (k + 1) high w second e high_one
        | inr low_one ↦ part_worth p u k low v first e low_one
      ];
      has = λ n pairs e. elim (cases_lt n k) [
        | inl inside ↦ elim (cases_eq n node) [
          | inl same ↦ absurd (some_not_none (leaf_at u n) (Bound pairs) (ap (leaf_at u) same ∙ split_here t node cut low high within) e)
          | inr other ↦ inr (inside, other)
        ]
        | inr past ↦ elim (cases_eq n k) [
          | inl same ↦ (let held = part_has p u n k low v pairs first same e in
              inl (held.0, Contains-append_right (waits (k + 1) w) (waits k v) (entry n held.0) held.1))
          | inr other ↦
              let l = leaf_within u.leaves n (Bound pairs) e in
              let long = long_branch t node cut low high in
              let next : n ≡ k + 1 = omega (arith, l, long, past, other) in
              let held = part_has p u n (k + 1) high w pairs second next e in
              inl (held.0, Contains-append_left (waits (k + 1) w) (waits k v) (entry n held.0) held.1)
        ]
      ];
    }
