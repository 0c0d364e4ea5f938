-- Another leaf at a node, and a split, in the lists.
use Rattle.std.proofs.Common.{◌≡◌, ◌≢◌, ℕ, zero, suc, ◌+◌, ◌<◌, ◌⊎◌, inl, inr, List, [], ◌∷◌, ◌++◌, length, get_or, set, refl, sym, ap, ◌∙◌, arith, subst}
use Rattle.std.specs.Prelude.{Option, None}
use Rattle.std.proofs.lemmas.List.{get_or-set_other, get_or-set_same, length-set, length-append}
use Rattle.pesp_problem.specs.declared.cut.Cut.{Cut}
use Rattle.pesp_problem.specs.declared.cut.Side.{Side}
use Rattle.pesp_problem.specs.declared.cut.Side.TheVariants.{Low, High}
use Rattle.pesp_truth.specs.Trees.{Leaf, Ends, Branch}
use Rattle.pesp_tree.specs.declared.node.Branching.{Branching}
use Rattle.pesp_truth.specs.Leaves.{put}
use Rattle.pesp_tree.specs.Numbered.{fill, IsAt, Growth, path_in, branch_off, grow, grown, AreNodes, leaf_in, leaf_or_gap, tree_of}
use Rattle.pesp_tree.proofs.Numbered.{child, split_at, others_stay, children_stand, fill_put, fill_split}

-- the node n becomes a branch, and its two leaves take the next places
abbrev pub split_leaves : List (Option Leaf) → ℕ → Option Leaf → Option Leaf → List (Option Leaf)
split_leaves leaves n low high = set leaves n None ++ low ∷ high ∷ []

pub grow-push : (growth : Growth) (bs : List Branching) (b : Branching) → grow growth (bs ++ b ∷ []) ≡ branch_off (grow growth bs) b
grow-push growth [] b = refl
grow-push growth (x ∷ bs) b = grow-push (branch_off growth x) bs b

pub same-or-other : (m n : ℕ) → (m ≡ n) ⊎ (m ≢ n)
same-or-other m n = grind arith

pub get-left : {A : Type 0} (xs ys : List A) (m : ℕ) (d : A) → m < length xs → get_or (xs ++ ys) m d ≡ get_or xs m d
get-left [] ys m d h = absurd (omega arith)
get-left (x ∷ xs) ys zero d h = refl
get-left (x ∷ xs) ys (suc m) d h = get-left xs ys m d (omega arith)

pub get-first : {A : Type 0} (xs : List A) (a b d : A) → get_or (xs ++ a ∷ b ∷ []) (length xs) d ≡ a
get-first [] a b d = refl
get-first (x ∷ xs) a b d = get-first xs a b d

pub get-second : {A : Type 0} (xs : List A) (a b d : A) → get_or (xs ++ a ∷ b ∷ []) (suc (length xs)) d ≡ b
get-second [] a b d = refl
get-second (x ∷ xs) a b d = get-second xs a b d

pub get-next : {A : Type 0} (xs : List A) (a b d : A) → get_or (xs ++ a ∷ b ∷ []) (length xs + 1) d ≡ b
get-next xs a b d =
    let place : length xs + 1 ≡ suc (length xs) = omega arith in
    ap (λ i. get_or (xs ++ a ∷ b ∷ []) i d) place ∙ get-second xs a b d

-- another leaf is put at a node
pub set_nodes : (bs : List Branching) (leaves : List (Option Leaf)) (n : ℕ) (new : Option Leaf)
    → AreNodes bs leaves → n < length leaves → get_or leaves n None ≢ None → new ≢ None
    → AreNodes bs (set leaves n new)
set_nodes bs leaves n new nodes h was is = record {
  count = nodes.count ∙ sym (length-set leaves n new);
  stands = λ m l ne.
      elim (same-or-other m n) [
        | inl e ↦ subst (λ x. IsAt (grown bs).tree (path_in (grown bs) x) x) (sym e) (nodes.stands n h was)
        | inr o ↦ nodes.stands m (omega (arith, l, length-set leaves n new)) (λ e. ne (get_or-set_other leaves n m new None o ∙ e))
      ];
  only = λ path m a.
      let there = nodes.only path m a in (
        omega (arith, there.0, length-set leaves n new),
        there.1,
        λ e.
            elim (same-or-other m n) [
              | inl s ↦ is (sym (get_or-set_same leaves n new None h) ∙ ap (λ x. get_or (set leaves n new) x None) (sym s) ∙ e)
              | inr o ↦ there.2 (sym (get_or-set_other leaves n m new None o) ∙ e)
            ],
      );
}

pub set_tree : (bs : List Branching) (leaves : List (Option Leaf)) (n : ℕ) (new : Option Leaf) → AreNodes bs leaves
    → n < length leaves → get_or leaves n None ≢ None
    → tree_of bs (set leaves n new) ≡ put (tree_of bs leaves) (path_in (grown bs) n) (Ends (leaf_or_gap new))
set_tree bs leaves n new nodes h was =
    fill_put (grown bs).tree (leaf_in leaves) (leaf_in (set leaves n new)) (path_in (grown bs) n) n
    (λ m ne. ap leaf_or_gap (get_or-set_other leaves n m new None ne)) (nodes.stands n h was)
    (λ q a. sym ((nodes.only q n a).1))
    ∙ ap (λ x. put (tree_of bs leaves) (path_in (grown bs) n) (Ends (leaf_or_gap x))) (get_or-set_same leaves n new None h)

-- ---- a leaf is split

pub kept_other : (leaves : List (Option Leaf)) (n : ℕ) (low high : Option Leaf) (m : ℕ) → m < length leaves → m ≢ n
    → get_or (split_leaves leaves n low high) m None ≡ get_or leaves m None
kept_other leaves n low high m h ne = get-left (set leaves n None) (low ∷ high ∷ []) m None
    (omega (arith, h, length-set leaves n None)) ∙ get_or-set_other leaves n m None None ne

pub kept_low : (leaves : List (Option Leaf)) (n : ℕ) (low high : Option Leaf)
    → get_or (split_leaves leaves n low high) (length leaves) None ≡ low
kept_low leaves n low high = ap (λ i. get_or (split_leaves leaves n low high) i None)
    (sym (length-set leaves n None)) ∙ get-first (set leaves n None) low high None

pub kept_high : (leaves : List (Option Leaf)) (n : ℕ) (low high : Option Leaf)
    → get_or (split_leaves leaves n low high) (length leaves + 1) None ≡ high
kept_high leaves n low high =
    let place : length leaves + 1 ≡ suc (length (set leaves n None)) = omega (arith, length-set leaves n None) in
    ap (λ i. get_or (split_leaves leaves n low high) i None) place ∙ get-second (set leaves n None) low high None

pub kept_split : (leaves : List (Option Leaf)) (n : ℕ) (low high : Option Leaf) → n < length leaves
    → get_or (split_leaves leaves n low high) n None ≡ None
kept_split leaves n low high h = get-left (set leaves n None) (low ∷ high ∷ []) n None
    (omega (arith, h, length-set leaves n None)) ∙ get_or-set_same leaves n None None h

pub path_other : (g : Growth) (b : Branching) (m : ℕ) → m < length g.paths → path_in (branch_off g b) m ≡ path_in g m
path_other g b m h = get-left g.paths _ m [] h

pub path_low : (g : Growth) (b : Branching) → path_in (branch_off g b) (length g.paths) ≡ path_in g b.node ++ (b.cut, Low) ∷ []
path_low g b = get-first g.paths _ _ []

pub path_high : (g : Growth) (b : Branching) → path_in (branch_off g b) (length g.paths + 1) ≡ path_in g b.node ++ (b.cut, High) ∷ []
path_high g b = get-next g.paths _ _ []

-- a place among those before, or one of the two new ones
by_place : (m k : ℕ) → m < k + 2 → (m < k) ⊎ ((m ≡ k) ⊎ (m ≡ k + 1))
by_place m k h = grind arith

count_split : (g : Growth) (b : Branching) (leaves : List (Option Leaf)) (low high : Option Leaf)
    → length g.paths ≡ length leaves → length (branch_off g b).paths ≡ length (split_leaves leaves b.node low high)
count_split g b leaves low high count = omega (
  arith,
  count,
  length-append g.paths ((path_in g b.node ++ (b.cut, Low) ∷ []) ∷ (path_in g b.node ++ (b.cut, High) ∷ [])
      ∷ []),
  length-append (set leaves b.node None) (low ∷ high ∷ []),
  length-set leaves b.node None,
)

split_stands : (g : Growth) (b : Branching) (leaves : List (Option Leaf)) (low high : Option Leaf)
    → length g.paths ≡ length leaves → b.node < length leaves
    → ((n : ℕ) → n < length leaves → get_or leaves n None ≢ None → IsAt g.tree (path_in g n) n)
    → get_or leaves b.node None ≢ None → (m : ℕ) → m < length (split_leaves leaves b.node low high)
    → get_or (split_leaves leaves b.node low high) m None ≢ None
    → IsAt (branch_off g b).tree (path_in (branch_off g b) m) m
split_stands g b leaves low high count h stands was m l ne =
    let old = stands b.node h was in
    elim (by_place m (length g.paths) (omega (
      arith,
      l,
      count_split g b leaves low high count,
      length-append g.paths ((path_in g b.node ++ (b.cut, Low) ∷ []) ∷ (path_in g b.node ++ (b.cut, High) ∷ [])
          ∷ []),
    ))) [
      | inl before ↦
          let other : m ≢ b.node = λ e. ne (ap (λ x. get_or (split_leaves leaves b.node low high) x None) e
          ∙ kept_split leaves b.node low high h) in
          let in_kept : m < length leaves = omega (arith, before, count) in
          subst (λ path. IsAt (branch_off g b).tree path m) (sym (path_other g b m before))
          (others_stay b.node b.cut (length g.paths) g.tree (path_in g m) m
          (stands m in_kept (λ e. ne (kept_other leaves b.node low high m in_kept other ∙ e))) other)
      | inr new ↦
          elim new [
            | inl first ↦ subst (λ x. IsAt (branch_off g b).tree (path_in (branch_off g b) x) x) (sym first)
                (subst (λ path. IsAt (branch_off g b).tree path (length g.paths)) (sym (path_low g b))
                (children_stand b.node b.cut (length g.paths) g.tree (path_in g b.node) Low old))
            | inr second ↦ subst (λ x. IsAt (branch_off g b).tree (path_in (branch_off g b) x) x) (sym second)
                (subst (λ path. IsAt (branch_off g b).tree path (length g.paths + 1)) (sym (path_high g b))
                (children_stand b.node b.cut (length g.paths) g.tree (path_in g b.node) High old))
          ]
    ]

abbrev Only : Growth → List (Option Leaf) → List (Cut × Side) → ℕ → Type 0
Only g leaves path n = (n < length leaves) × (path_in g n ≡ path) × (get_or leaves n None ≢ None)

only_child : (g : Growth) (b : Branching) (leaves : List (Option Leaf)) (low high : Option Leaf)
    → length g.paths ≡ length leaves → low ≢ None → high ≢ None
    → (path q : List (Cut × Side)) (m : ℕ) (side : Side) → path_in g b.node ≡ q → path ≡ q ++ (b.cut, side) ∷ []
    → m ≡ child (length g.paths) side → Only (branch_off g b) (split_leaves leaves b.node low high) path m
only_child g b leaves low high count is_low is_high path q m Low w e place = (
  omega (arith, count, place, length-append (set leaves b.node None) (low ∷ high ∷ []), length-set leaves b.node None),
  ap (λ x. path_in (branch_off g b) x) place ∙ path_low g b ∙ ap (λ x. x ++ (b.cut, Low) ∷ []) w ∙ sym e,
  λ n. is_low (sym (kept_low leaves b.node low high)
      ∙ ap (λ x. get_or (split_leaves leaves b.node low high) x None) (sym (place ∙ count)) ∙ n),
)
only_child g b leaves low high count is_low is_high path q m High w e place = (
  omega (arith, count, place, length-append (set leaves b.node None) (low ∷ high ∷ []), length-set leaves b.node None),
  ap (λ x. path_in (branch_off g b) x) place ∙ path_high g b ∙ ap (λ x. x ++ (b.cut, High) ∷ []) w ∙ sym e,
  λ n. is_high (sym (kept_high leaves b.node low high)
      ∙ ap (λ x. get_or (split_leaves leaves b.node low high) x None) (sym (place ∙ ap (λ x. x + 1) count)) ∙ n),
)

split_only : (g : Growth) (b : Branching) (leaves : List (Option Leaf)) (low high : Option Leaf)
    → length g.paths ≡ length leaves → low ≢ None → high ≢ None
    → ((path : List (Cut × Side)) (n : ℕ) → IsAt g.tree path n → Only g leaves path n)
    → (path : List (Cut × Side)) (m : ℕ) → IsAt (branch_off g b).tree path m
    → Only (branch_off g b) (split_leaves leaves b.node low high) path m
split_only g b leaves low high count is_low is_high only path m a =
    elim (split_at b.node b.cut (length g.paths) g.tree path m a) [
      | inl was ↦
          let there = only path m was.0 in (
            omega (arith, there.0, length-append (set leaves b.node None) (low ∷ high ∷ []), length-set leaves b.node None),
            path_other g b m (omega (arith, there.0, count)) ∙ there.1,
            λ n. there.2 (sym (kept_other leaves b.node low high m there.0 was.1) ∙ n),
          )
      | inr new ↦ only_child g b leaves low high count is_low is_high path new.0 m new.1 ((only new.0 b.node new.2).1) new.3 new.4
    ]

pub split_nodes : (bs : List Branching) (leaves : List (Option Leaf)) (b : Branching) (low high : Option Leaf)
    → AreNodes bs leaves → b.node < length leaves → get_or leaves b.node None ≢ None → low ≢ None → high ≢ None
    → AreNodes (bs ++ b ∷ []) (split_leaves leaves b.node low high)
split_nodes bs leaves b low high nodes h was is_low is_high =
    let grows : grown (bs ++ b ∷ []) ≡ branch_off (grown bs) b = grow-push _ bs b in
    record {
      count = subst (λ g. length g.paths ≡ length (split_leaves leaves b.node low high)) (sym grows)
          (count_split (grown bs) b leaves low high nodes.count);
      stands = subst (λ g. (m : ℕ) → m < length (split_leaves leaves b.node low high)
          → get_or (split_leaves leaves b.node low high) m None ≢ None → IsAt g.tree (path_in g m) m) (sym grows)
          (split_stands (grown bs) b leaves low high nodes.count h nodes.stands was);
      only = subst (λ g. (path : List (Cut × Side)) (m : ℕ) → IsAt g.tree path m
          → Only g (split_leaves leaves b.node low high) path m) (sym grows)
          (split_only (grown bs) b leaves low high nodes.count is_low is_high nodes.only);
    }

pub split_tree : (bs : List Branching) (leaves : List (Option Leaf)) (b : Branching) (low high : Option Leaf)
    → AreNodes bs leaves → b.node < length leaves → get_or leaves b.node None ≢ None
    → tree_of (bs ++ b ∷ []) (split_leaves leaves b.node low high)
    ≡ put (tree_of bs leaves) (path_in (grown bs) b.node)
    (Branch b.cut (Ends (leaf_or_gap low)) (Ends (leaf_or_gap high)))
split_tree bs leaves b low high nodes h was =
    let new = split_leaves leaves b.node low high in
    let grows : grown (bs ++ b ∷ []) ≡ branch_off (grown bs) b = grow-push _ bs b in
    let at_low : leaf_in new (length (grown bs).paths) ≡ leaf_or_gap low = ap (λ i. leaf_in new i) nodes.count
    ∙ ap leaf_or_gap (kept_low leaves b.node low high) in
    let at_high : leaf_in new (length (grown bs).paths + 1)
    ≡ leaf_or_gap high = ap (λ i. leaf_in new (i + 1)) nodes.count
    ∙ ap leaf_or_gap (kept_high leaves b.node low high) in
    let whole : fill (branch_off (grown bs) b).tree (leaf_in new)
    ≡ put (tree_of bs leaves) (path_in (grown bs) b.node)
    (Branch b.cut (Ends (leaf_in new (length (grown bs).paths)))
    (Ends (leaf_in new (length (grown bs).paths + 1)))) =
    fill_split (grown bs).tree (leaf_in leaves) (leaf_in new) (path_in (grown bs) b.node) b.node b.cut
    (length (grown bs).paths) (λ q m a ne. ap leaf_or_gap
    (kept_other leaves b.node low high m ((nodes.only q m a).0) ne)) (nodes.stands b.node h was)
    (λ q a. sym ((nodes.only q b.node a).1)) in
    ap (λ g. fill g.tree (leaf_in new)) grows ∙ whole
    ∙ ap (λ x. put (tree_of bs leaves) (path_in (grown bs) b.node)
    (Branch b.cut (Ends x) (Ends (leaf_in new (length (grown bs).paths + 1))))) at_low
    ∙ ap (λ x. put (tree_of bs leaves) (path_in (grown bs) b.node)
    (Branch b.cut (Ends (leaf_or_gap low)) (Ends x))) at_high
