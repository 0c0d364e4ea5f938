-- The walk over a tree that notes the nodes with leaves: those that are noted, and those of the trees at the nodes that wait,
-- are all of them in order.
use Rattle.std.proofs.Common.{◌≡◌, ◌≢◌, ℕ, ◌+◌, ◌-◌, ◌*◌, ◌<◌, ◌≤◌, List, [], ◌∷◌, ◌++◌, length, get_or, map, reverse, refl, sym, ap, ◌∙◌, arith, rules, subst, append_assoc, append-nil}
use Rattle.std.specs.Prelude.{All, Option, Some, None, IsSome}
use Rattle.std.proofs.lemmas.List.{length-append, reverse-append}
use Rattle.std.proofs.lemmas.List.Elements.{All-append}
use Rattle.pesp_problem.specs.declared.cut.Cut.{Cut}
use Rattle.pesp_problem.specs.declared.cut.Side.{Side}
use Rattle.pesp_problem.specs.declared.cut.Side.TheVariants.{Low, High}
use Rattle.pesp_truth.specs.Trees.{Leaf, preorder}
use Rattle.pesp_truth.specs.Leaves.{leaf_paths}
use Rattle.pesp_tree.specs.declared.node.Branching.{Branching}
use Rattle.pesp_tree.specs.declared.node.Kept.{Kept}
use Rattle.pesp_tree.specs.declared.node.Kept.TheVariants.{Branched}
use Rattle.pesp_tree.specs.Numbered.{Numbered, Number, Cuts, fill, IsAt, path_in, grown, kept_leaf, leaf_in, tree_of, no_node, NodesAreNumbered, Stands}
use Rattle.pesp_tree.specs.Preorder.{own_in, own_at, parts_in, parts_at}
use Rattle.pesp_tree.proofs.Walking.{HasLeaves, AreTrees, leaf_in_kept, first_known, trees_append, turned}
use Rattle.pesp_tree.proofs.Holding.{count_is}

-- the numbers of a tree's leaves, in order
abbrev numbers : Numbered → List ℕ
numbers (Number n) = n ∷ []
numbers (Cuts cut low high) = numbers low ++ numbers high

abbrev numbers_in : List Numbered → List ℕ
numbers_in [] = []
numbers_in (tree ∷ trees) = numbers tree ++ numbers_in trees

-- how many nodes a tree has
abbrev size : Numbered → ℕ
size (Number n) = 1
size (Cuts cut low high) = 1 + (size low + size high)

abbrev size_in : List Numbered → ℕ
size_in [] = 0
size_in (tree ∷ trees) = size tree + size_in trees

-- the nodes that are noted, and those of the trees at the nodes that wait, are all; and so many nodes are left
pub record Noted (bs : List Branching) (kept : List Kept) (noted : List ℕ) (left : ℕ) (waiting : List ℕ) : Type 0 where
  pub trees : List Numbered
  pub stand : AreTrees bs kept waiting trees
  pub all : numbers (grown bs).tree ≡ noted ++ numbers_in trees
  pub count : left ≡ size_in trees

-- ---- at the root

size_is : (tree : Numbered) (leaf : ℕ → Leaf) → length (preorder (fill tree leaf)) ≡ size tree
size_is (Number n) leaf = refl
size_is (Cuts cut low high) leaf = omega (
  arith,
  length-append (preorder (fill low leaf)) (preorder (fill high leaf)),
  size_is low leaf,
  size_is high leaf,
)

pub noted_none : (bs : List Branching) (kept : List Kept) (left : ℕ) → NodesAreNumbered bs kept
    → left ≡ 2 * length bs + 1 → Noted bs kept [] left (0 ∷ [])
noted_none bs kept left a e = record {
  trees = (grown bs).tree ∷ [];
  stand = (a.stands, λ path m h. (a.nodes.only path m h).2, tt);
  all = sym (append-nil (numbers (grown bs).tree));
  count = omega (arith, e, size_is (grown bs).tree (leaf_in (map kept_leaf kept)), a.lines, count_is bs kept a);
}

-- ---- a node

-- a node is noted where it has a leaf, and its parts' trees have the other leaves
abbrev Opened : List Branching → List Kept → Kept → ℕ → Numbered → Type 0
Opened bs kept one n tree = (trees : List Numbered) × AreTrees bs kept (reverse (parts_in one)) trees
    × (numbers tree ≡ own_in one n ++ numbers_in trees) × (size tree ≡ 1 + size_in trees)

open_node : (bs : List Branching) (kept : List Kept) (n : ℕ) (tree : Numbered) → Stands bs kept tree n
    → HasLeaves (map kept_leaf kept) tree → Opened bs kept (get_or kept n no_node) n tree
open_node bs kept n (Number m) s h =
    let leaf = leaf_in_kept kept n (h [] n s) in
    subst (λ one. Opened bs kept one n (Number m)) (sym (leaf.1)) ([], tt, ap (λ (k : ℕ). k ∷ []) s, refl)
open_node bs kept n (Cuts cut low high) s h =
    subst (λ one. Opened bs kept one n (Cuts cut low high)) (sym (s.1)) (
      low ∷ high ∷ [],
      (s.4, λ path m a. h ((cut, Low) ∷ path) m (refl, a), (s.5, λ path m a. h ((cut, High) ∷ path) m (refl, a), tt)),
      ap (λ l. numbers low ++ l) (sym (append-nil (numbers high))),
      omega arith,
    )

numbers_append : (ts us : List Numbered) → numbers_in (ts ++ us) ≡ numbers_in ts ++ numbers_in us
numbers_append [] us = refl
numbers_append (t ∷ ts) us = ap (λ l. numbers t ++ l) (numbers_append ts us)
    ∙ sym (append_assoc (numbers t) (numbers_in ts) (numbers_in us))

size_append : (ts us : List Numbered) → size_in (ts ++ us) ≡ size_in ts + size_in us
size_append [] us = omega arith
size_append (t ∷ ts) us = omega (arith, size_append ts us)

step : (bs : List Branching) (kept : List Kept) (noted : List ℕ) (left n : ℕ) (ns : List ℕ) (trees : List Numbered)
    → AreTrees bs kept (n ∷ ns) trees → numbers (grown bs).tree ≡ noted ++ numbers_in trees → left ≡ size_in trees
    → Noted bs kept (noted ++ own_at kept n) (left - 1) (reverse (parts_at kept n) ++ ns)
step bs kept noted left n ns [] stand all count = absurd stand
step bs kept noted left n ns (tree ∷ trees) stand all count =
    let opened = open_node bs kept n tree stand.0 stand.1 in
    record {
      trees = opened.0 ++ trees;
      stand = trees_append bs kept (reverse (parts_at kept n)) ns opened.0 trees opened.1 stand.2;
      all =
          all
          ∙ ap (λ l. noted ++ (l ++ numbers_in trees)) (opened.2)
          ∙ ap (λ l. noted ++ l) (append_assoc (own_at kept n) (numbers_in opened.0) (numbers_in trees))
          ∙ sym (append_assoc noted (own_at kept n) (numbers_in opened.0 ++ numbers_in trees))
          ∙ ap (λ l. (noted ++ own_at kept n) ++ l) (sym (numbers_append opened.0 trees));
      count = omega (arith, count, opened.3, size_append opened.0 trees);
    }

-- ---- the loop, whose stack has the next node last

module _ (bs : List Branching) (kept : List Kept) (noted waiting popped : List ℕ) (left n : ℕ)
    (w : Noted bs kept noted left (reverse waiting)) (e : waiting ≡ popped ++ n ∷ []) where
  next : Noted bs kept noted left (n ∷ reverse popped)
  next = subst (λ ns. Noted bs kept noted left ns) (turned waiting popped n e) w

  pub next_within : n < length kept
  next_within = (first_known bs kept n (reverse popped) next.trees next.stand).0

  pub next_place : length bs < 1000000 → (place : ℕ) → get_or kept n no_node ≡ Branched place → place < 1000000
  next_place few place is = omega (arith, (first_known bs kept n (reverse popped) next.trees next.stand).1 place is, few)

  pub some_left : 1 ≤ left
  some_left = by_trees next.trees next.stand next.count
    where
      some_node : (tree : Numbered) → 1 ≤ size tree
      some_node (Number m) = omega arith
      some_node (Cuts cut low high) = omega arith

      by_trees : (trees : List Numbered) → AreTrees bs kept (n ∷ reverse popped) trees → left ≡ size_in trees → 1 ≤ left
      by_trees [] s c = absurd s
      by_trees (tree ∷ trees) s c = omega (arith, c, some_node tree)

  pub noted_more : (noted' waiting' : List ℕ) (left' : ℕ) → left' ≡ left - 1 → noted' ≡ noted ++ own_at kept n
      → waiting' ≡ popped ++ parts_at kept n → Noted bs kept noted' left' (reverse waiting')
  noted_more noted' waiting' left' is_left is_noted is_waiting =
      let after : reverse waiting' ≡ reverse (parts_at kept n) ++ reverse popped = ap reverse is_waiting
      ∙ reverse-append popped (parts_at kept n) in
      rw is_noted (rw is_left (rw after (step bs kept noted left n (reverse popped) next.trees next.stand next.all next.count)))

-- ---- the paths to the leaves

map_twice : {A B C : Type 0} (f : B → C) (g : A → B) (xs : List A) → map f (map g xs) ≡ map (λ x. f (g x)) xs
map_twice f g [] = refl
map_twice f g (x ∷ xs) = ap (λ l. f (g x) ∷ l) (map_twice f g xs)

map_append : {A B : Type 0} (f : A → B) (xs ys : List A) → map f (xs ++ ys) ≡ map f xs ++ map f ys
map_append f [] ys = refl
map_append f (x ∷ xs) ys = ap (λ l. f x ∷ l) (map_append f xs ys)

abbrev Path : Type 0
Path = List (Cut × Side)

paths_are : (tree : Numbered) (leaf : ℕ → Leaf) (path : ℕ → Path) (under : Path → Path)
    → ((q : Path) (m : ℕ) → IsAt tree q m → path m ≡ under q)
    → map path (numbers tree) ≡ map under (leaf_paths (fill tree leaf))
paths_are (Number m) leaf path under h = ap (λ (p : Path). p ∷ []) (h [] m refl)
paths_are (Cuts cut low high) leaf path under h =
    let lows = leaf_paths (fill low leaf) in
    let highs = leaf_paths (fill high leaf) in
    let go_low : Path → Path = λ q. (cut, Low) ∷ q in
    let go_high : Path → Path = λ q. (cut, High) ∷ q in
    let first = paths_are low leaf path (λ q. under (go_low q)) (λ q m a. h (go_low q) m (refl, a)) in
    let second = paths_are high leaf path (λ q. under (go_high q)) (λ q m a. h (go_high q) m (refl, a)) in
    map_append path (numbers low) (numbers high)
    ∙ (λ i. first i ++ second i)
    ∙ sym (map_append under (map go_low lows) (map go_high highs) ∙ (λ i. map_twice under go_low lows i ++ map_twice under go_high highs i))

numbers_have : (tree : Numbered) (P : ℕ → Type 0) → ((q : Path) (m : ℕ) → IsAt tree q m → P m) → All P (numbers tree)
numbers_have (Number m) P h = All-one P m (h [] m refl)
  where
    All-one : (P : ℕ → Type 0) (m : ℕ) → P m → All P (m ∷ [])
    All-one P m p = search rules
numbers_have (Cuts cut low high) P h = All-append P (numbers low) (numbers high)
    (numbers_have low P (λ q m a. h ((cut, Low) ∷ q) m (refl, a)))
    (numbers_have high P (λ q m a. h ((cut, High) ∷ q) m (refl, a)))

module _ (bs : List Branching) (kept : List Kept) (noted waiting : List ℕ) (left : ℕ) (a : NodesAreNumbered bs kept)
    (w : Noted bs kept noted left (reverse waiting)) (e : waiting ≡ []) where
  all_noted : numbers (grown bs).tree ≡ noted
  all_noted = by_trees last.trees last.stand last.all
    where
      last : Noted bs kept noted left []
      last = subst (λ ns. Noted bs kept noted left (reverse ns)) e w

      by_trees : (trees : List Numbered) → AreTrees bs kept [] trees
          → numbers (grown bs).tree ≡ noted ++ numbers_in trees → numbers (grown bs).tree ≡ noted
      by_trees [] s all = all ∙ append-nil noted
      by_trees (tree ∷ trees) s all = absurd s

  pub noted_paths : map (path_in (grown bs)) noted ≡ leaf_paths (tree_of bs (map kept_leaf kept))
  noted_paths =
      let leaves = map kept_leaf kept in
      let same : Path → Path = λ q. q in
      ap (map (path_in (grown bs))) (sym all_noted)
      ∙ paths_are (grown bs).tree (leaf_in leaves) (path_in (grown bs)) same (λ q m h. (a.nodes.only q m h).1)
      ∙ map_same (leaf_paths (tree_of bs leaves))
    where
      map_same : (xs : List Path) → map (λ (q : Path). q) xs ≡ xs
      map_same [] = refl
      map_same (x ∷ xs) = ap (λ l. x ∷ l) (map_same xs)

  pub noted_leaves : All (λ n. IsSome (get_or (map kept_leaf kept) n None)) noted
  noted_leaves = subst (All (λ n. IsSome (get_or (map kept_leaf kept) n None))) all_noted
      (numbers_have (grown bs).tree (λ n. IsSome (get_or (map kept_leaf kept) n None))
      (λ q m h. some_is (get_or (map kept_leaf kept) m None) (a.nodes.only q m h).2))
    where
      some_is : (o : Option Leaf) → o ≢ None → IsSome o
      some_is None h = absurd (h refl)
      some_is (Some leaf) h = refl
