-- What is kept of a node after a change of another one, and how a tree stands on what is kept.
use Rattle.std.proofs.Common.{◌≡◌, ◌≢◌, ℕ, zero, suc, ◌+◌, ◌*◌, ◌<◌, List, [], ◌∷◌, ◌++◌, length, get_or, set, map, refl, sym, ap, ◌∙◌, arith, Bool, true, false}
use Rattle.std.specs.Prelude.{◌==◌, if◌then◌else◌, Option, Some, None, IsSome}
use Rattle.std.proofs.lemmas.List.{get_or-set_other, get_or-set_same, length-set, length-append}
use Rattle.pesp_truth.specs.Trees.{Leaf}
use Rattle.pesp_tree.specs.declared.leaf.Leaf.{Leaf as OwnLeaf}
use Rattle.pesp_tree.specs.declared.node.Branching.{Branching}
use Rattle.pesp_tree.specs.declared.node.Kept.{Kept}
use Rattle.pesp_tree.specs.declared.node.Kept.TheVariants.{Leaf as KeptLeaf, Branched}
use Rattle.pesp_tree.specs.Leaves.{leaf_of}
use Rattle.pesp_tree.specs.Numbered.{Numbered, Number, Cuts, split, kept_leaf, leaf_or_gap, no_branching, no_node, Stands, after_split}
use Rattle.pesp_tree.proofs.Numbered.{same_number}
use Rattle.pesp_tree.proofs.Changes.{get-left, split_leaves}

-- ---- leaves that are there

some_is_not_none : (leaf : Leaf) → Some leaf ≡ None → ⊥
some_is_not_none leaf e = cc

pub not_none : (o : Option Leaf) → IsSome o → o ≢ None
not_none None h = cc
not_none (Some leaf) h = λ e. some_is_not_none leaf e

pub is_some : (o : Option Leaf) (leaf : Leaf) → o ≡ Some leaf → o ≢ None
is_some o leaf e = λ n. some_is_not_none leaf (sym e ∙ n)

pub some_of : (o : Option Leaf) → o ≢ None → o ≡ Some (leaf_or_gap o)
some_of None h = absurd (h refl)
some_of (Some leaf) h = refl

pub in_range : (leaves : List (Option Leaf)) (n : ℕ) → get_or leaves n None ≢ None → n < length leaves
in_range [] n h = absurd (h refl)
in_range (leaf ∷ leaves) zero h = omega arith
in_range (leaf ∷ leaves) (suc n) h = omega (arith, in_range leaves n h)

-- ---- lists of what is kept, and of the leaves in it

pub map_set : (kept : List Kept) (n : ℕ) (new : Kept) → map kept_leaf (set kept n new) ≡ set (map kept_leaf kept) n (kept_leaf new)
map_set [] n new = refl
map_set (one ∷ kept) zero new = refl
map_set (one ∷ kept) (suc n) new = ap (λ l. kept_leaf one ∷ l) (map_set kept n new)

map_append : (kept more : List Kept) → map kept_leaf (kept ++ more) ≡ map kept_leaf kept ++ map kept_leaf more
map_append [] more = refl
map_append (one ∷ kept) more = ap (λ l. kept_leaf one ∷ l) (map_append kept more)

pub length_leaves : (kept : List Kept) → length (map kept_leaf kept) ≡ length kept
length_leaves [] = refl
length_leaves (one ∷ kept) = omega (arith, length_leaves kept)

pub map_split : (kept : List Kept) (n place : ℕ) (low high : OwnLeaf)
    → map kept_leaf (after_split kept n place (KeptLeaf low) (KeptLeaf high))
    ≡ split_leaves (map kept_leaf kept) n (Some (leaf_of low)) (Some (leaf_of high))
map_split kept n place low high = map_append (set kept n (Branched place)) (KeptLeaf low ∷ KeptLeaf high ∷ [])
    ∙ ap (λ l. l ++ Some (leaf_of low) ∷ Some (leaf_of high) ∷ []) (map_set kept n (Branched place))

leaf_is_no_branch : (leaf : OwnLeaf) (place : ℕ) → KeptLeaf leaf ≡ Branched place → ⊥
leaf_is_no_branch leaf place e = cc

pub branch_in_range : (kept : List Kept) (m place : ℕ) → get_or kept m no_node ≡ Branched place → m < length kept
branch_in_range [] m place e = absurd (leaf_is_no_branch _ place e)
branch_in_range (one ∷ kept) zero place e = omega arith
branch_in_range (one ∷ kept) (suc m) place e = omega (arith, branch_in_range kept m place e)

pub branch_has_none : (kept : List Kept) (m place : ℕ) → get_or kept m no_node ≡ Branched place → get_or (map kept_leaf kept) m None ≡ None
branch_has_none [] m place e = refl
branch_has_none (one ∷ kept) zero place e = ap kept_leaf e
branch_has_none (one ∷ kept) (suc m) place e = branch_has_none kept m place e

-- a branch is another node than one with a leaf
apart : (kept : List Kept) (n m place : ℕ) → get_or (map kept_leaf kept) n None ≢ None → get_or kept m no_node ≡ Branched place → m ≢ n
apart kept n m place h e = λ same. h (ap (λ x. get_or (map kept_leaf kept) x None) (sym same) ∙ branch_has_none kept m place e)

-- ---- how a tree stands

pub stands_set : (bs : List Branching) (kept : List Kept) (n : ℕ) (new : Kept) (tree : Numbered) (m : ℕ)
    → get_or (map kept_leaf kept) n None ≢ None → Stands bs kept tree m → Stands bs (set kept n new) tree m
stands_set bs kept n new (Number l) m h s = s
stands_set bs kept n new (Cuts cut low high) m h s = (
  s.0,
  get_or-set_other kept n m new no_node (apart kept n m s.0 h s.1) ∙ s.1,
  s.2,
  s.3,
  stands_set bs kept n new low (2 * s.0 + 1) h s.4,
  stands_set bs kept n new high (2 * s.0 + 2) h s.5,
)

get-last : {A : Type 0} (xs : List A) (a d : A) → get_or (xs ++ a ∷ []) (length xs) d ≡ a
get-last [] a d = refl
get-last (x ∷ xs) a d = get-last xs a d

one_more : (bs : List Branching) (b : Branching) → length (bs ++ b ∷ []) ≡ length bs + 1
one_more bs b = length-append bs (b ∷ [])

stays : (kept : List Kept) (n place : ℕ) (low high : Kept) (m at : ℕ) → get_or (map kept_leaf kept) n None ≢ None
    → get_or kept m no_node ≡ Branched at → get_or (after_split kept n place low high) m no_node ≡ Branched at
stays kept n place low high m at h e =
    let within : m < length (set kept n (Branched place)) =
    omega (arith, branch_in_range kept m at e, length-set kept n (Branched place)) in
    get-left (set kept n (Branched place)) (low ∷ high ∷ []) m no_node within
    ∙ get_or-set_other kept n m (Branched place) no_node (apart kept n m at h e) ∙ e

becomes : (kept : List Kept) (n place : ℕ) (low high : Kept) → n < length kept
    → get_or (after_split kept n place low high) n no_node ≡ Branched place
becomes kept n place low high h =
    let within : n < length (set kept n (Branched place)) = omega (arith, h, length-set kept n (Branched place)) in
    get-left (set kept n (Branched place)) (low ∷ high ∷ []) n no_node within ∙ get_or-set_same kept n (Branched place) no_node h

leaf_branches : (test : Bool) (bs : List Branching) (kept : List Kept) (b : Branching) (k : ℕ) (low high : Kept)
    (l m : ℕ) → (l == b.node) ≡ test → b.node < length kept → k ≡ 2 * length bs + 1 → l ≡ m
    → Stands (bs ++ b ∷ []) (after_split kept b.node (length bs) low high)
    (if test then Cuts b.cut (Number k) (Number (k + 1)) else Number l) m
leaf_branches false bs kept b k low high l m t h place s = s
leaf_branches true bs kept b k low high l m t h place s =
    let here : m ≡ b.node = sym s ∙ same_number l b.node t in (
      length bs,
      ap (λ x. get_or (after_split kept b.node (length bs) low high) x no_node) here ∙ becomes kept b.node (length bs) low high h,
      omega (arith, one_more bs b),
      ap (λ (x : Branching). x.cut) (get-last bs b no_branching),
      place,
      omega (arith, place),
    )

pub stands_split : (bs : List Branching) (kept : List Kept) (b : Branching) (k : ℕ) (low high : Kept)
    (tree : Numbered) (m : ℕ) → b.node < length kept → get_or (map kept_leaf kept) b.node None ≢ None
    → k ≡ 2 * length bs + 1 → Stands bs kept tree m
    → Stands (bs ++ b ∷ []) (after_split kept b.node (length bs) low high) (split b.node b.cut k tree) m
stands_split bs kept b k low high (Number l) m h was place s = leaf_branches (l == b.node) bs kept b k low high l m refl h place s
stands_split bs kept b k low high (Cuts cut first second) m h was place s = (
  s.0,
  stays kept b.node (length bs) low high m s.0 was s.1,
  omega (arith, one_more bs b, s.2),
  ap (λ (x : Branching). x.cut) (get-left bs (b ∷ []) s.0 no_branching s.2) ∙ s.3,
  stands_split bs kept b k low high first (2 * s.0 + 1) h was place s.4,
  stands_split bs kept b k low high second (2 * s.0 + 2) h was place s.5,
)
