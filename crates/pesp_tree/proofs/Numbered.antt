-- What a split does to a numbered tree, and what a filled tree has at a path.
use Rattle.std.proofs.Common.{◌≡◌, ◌≢◌, ℕ, ◌+◌, ◌⊎◌, inl, inr, List, [], ◌∷◌, ◌++◌, refl, sym, ap, ◌∙◌, arith, subst, Bool, true, false}
use Rattle.std.specs.Prelude.{◌==◌, if◌then◌else◌}
use Rattle.std.proofs.lemmas.Bool.Decides.{nat_tests}
use Rattle.pesp_problem.specs.declared.cut.Cut.{Cut}
use Rattle.pesp_problem.specs.declared.cut.Side.{Side}
use Rattle.pesp_problem.specs.declared.cut.Side.TheVariants.{Low, High}
use Rattle.pesp_truth.specs.Trees.{Leaf, Ends, Branch}
use Rattle.pesp_truth.specs.Leaves.{IsLeafAt, put}
use Rattle.pesp_tree.specs.Numbered.{Numbered, Number, Cuts, split, fill, IsAt}

-- ---- split

pub same_number : (m n : ℕ) → (m == n) ≡ true → m ≡ n
same_number m n h = grind (arith, nat_tests)

pub other_number : (m n : ℕ) → (m == n) ≡ false → m ≢ n
other_number m n h = grind (arith, nat_tests)

test_same : (n : ℕ) → (n == n) ≡ true
test_same n = grind (arith, nat_tests)

test_other : (m n : ℕ) → m ≢ n → (m == n) ≡ false
test_other m n h = grind (arith, nat_tests)

-- where a leaf is after a split: where it was, or below the leaf that was split
abbrev pub child : ℕ → Side → ℕ
child k Low = k
child k High = k + 1

abbrev pub After : ℕ → Cut → ℕ → Numbered → List (Cut × Side) → ℕ → Type 0
After n cut k tree path m =
    (IsAt tree path m × (m ≢ n)) ⊎ ((q : List (Cut × Side)) × (side : Side) × IsAt tree q n
    × (path ≡ q ++ (cut, side) ∷ []) × (m ≡ child k side))

at_leaf_after : (b : Bool) (n : ℕ) (cut : Cut) (k l : ℕ) (path : List (Cut × Side)) (m : ℕ) → (l == n) ≡ b
    → IsAt (if b then Cuts cut (Number k) (Number (k + 1)) else Number l) path m → After n cut k (Number l) path m
at_leaf_after false n cut k l [] m h a = inl (a, λ e. other_number l n h (a ∙ e))
at_leaf_after false n cut k l (step ∷ path) m h a = absurd a
at_leaf_after true n cut k l [] m h a = absurd a
at_leaf_after true n cut k l ((c, Low) ∷ []) m h a = inr ([], Low, same_number l n h, ap (λ x. (x, Low) ∷ []) a.0, sym (a.1))
at_leaf_after true n cut k l ((c, Low) ∷ step ∷ path) m h a = absurd a.1
at_leaf_after true n cut k l ((c, High) ∷ []) m h a = inr ([], High, same_number l n h, ap (λ x. (x, High) ∷ []) a.0, sym (a.1))
at_leaf_after true n cut k l ((c, High) ∷ step ∷ path) m h a = absurd a.1

pub split_at : (n : ℕ) (cut : Cut) (k : ℕ) (tree : Numbered) (path : List (Cut × Side)) (m : ℕ)
    → IsAt (split n cut k tree) path m → After n cut k tree path m
split_at n cut k (Number l) path m a = at_leaf_after (l == n) n cut k l path m refl a
split_at n cut k (Cuts c low high) [] m a = absurd a
split_at n cut k (Cuts c low high) ((d, Low) ∷ path) m a =
    elim (split_at n cut k low path m a.1) [
      | inl was ↦ inl ((a.0, was.0), was.1)
      | inr new ↦ inr ((d, Low) ∷ new.0, new.1, (a.0, new.2), ap (λ x. (d, Low) ∷ x) (new.3), new.4)
    ]
split_at n cut k (Cuts c low high) ((d, High) ∷ path) m a =
    elim (split_at n cut k high path m a.1) [
      | inl was ↦ inl ((a.0, was.0), was.1)
      | inr new ↦ inr ((d, High) ∷ new.0, new.1, (a.0, new.2), ap (λ x. (d, High) ∷ x) (new.3), new.4)
    ]

leaf_stays : (b : Bool) (n : ℕ) (cut : Cut) (k l : ℕ) (path : List (Cut × Side)) (m : ℕ) → (l == n) ≡ b
    → IsAt (Number l) path m → m ≢ n → IsAt (if b then Cuts cut (Number k) (Number (k + 1)) else Number l) path m
leaf_stays false n cut k l path m h a ne = a
leaf_stays true n cut k l [] m h a ne = absurd (ne (sym a ∙ same_number l n h))
leaf_stays true n cut k l (step ∷ path) m h a ne = absurd a

pub others_stay : (n : ℕ) (cut : Cut) (k : ℕ) (tree : Numbered) (path : List (Cut × Side)) (m : ℕ)
    → IsAt tree path m → m ≢ n → IsAt (split n cut k tree) path m
others_stay n cut k (Number l) path m a ne = leaf_stays (l == n) n cut k l path m refl a ne
others_stay n cut k (Cuts c low high) [] m a ne = absurd a
others_stay n cut k (Cuts c low high) ((d, Low) ∷ path) m a ne = (a.0, others_stay n cut k low path m a.1 ne)
others_stay n cut k (Cuts c low high) ((d, High) ∷ path) m a ne = (a.0, others_stay n cut k high path m a.1 ne)

leaf_splits : (b : Bool) (n : ℕ) (cut : Cut) (k l : ℕ) (side : Side) → (l == n) ≡ b → l ≡ n
    → IsAt (if b then Cuts cut (Number k) (Number (k + 1)) else Number l) ((cut, side) ∷ []) (child k side)
leaf_splits true n cut k l Low h e = (refl, refl)
leaf_splits true n cut k l High h e = (refl, refl)
leaf_splits false n cut k l side h e = absurd (other_number l n h e)

pub children_stand : (n : ℕ) (cut : Cut) (k : ℕ) (tree : Numbered) (q : List (Cut × Side)) (side : Side)
    → IsAt tree q n → IsAt (split n cut k tree) (q ++ (cut, side) ∷ []) (child k side)
children_stand n cut k (Number l) [] side a = leaf_splits (l == n) n cut k l side refl a
children_stand n cut k (Number l) (step ∷ q) side a = absurd a
children_stand n cut k (Cuts c low high) [] side a = absurd a
children_stand n cut k (Cuts c low high) ((d, Low) ∷ q) side a = (a.0, children_stand n cut k low q side a.1)
children_stand n cut k (Cuts c low high) ((d, High) ∷ q) side a = (a.0, children_stand n cut k high q side a.1)

-- ---- fill

pub filled_at : (tree : Numbered) (leaf : ℕ → Leaf) (path : List (Cut × Side)) (n : ℕ) → IsAt tree path n
    → IsLeafAt (fill tree leaf) path (leaf n)
filled_at (Number m) leaf [] n a = ap leaf a
filled_at (Number m) leaf (step ∷ path) n a = absurd a
filled_at (Cuts c low high) leaf [] n a = absurd a
filled_at (Cuts c low high) leaf ((d, Low) ∷ path) n a = (a.0, filled_at low leaf path n a.1)
filled_at (Cuts c low high) leaf ((d, High) ∷ path) n a = (a.0, filled_at high leaf path n a.1)

pub filled_from : (tree : Numbered) (leaf : ℕ → Leaf) (path : List (Cut × Side)) (end : Leaf)
    → IsLeafAt (fill tree leaf) path end → (n : ℕ) × IsAt tree path n × (leaf n ≡ end)
filled_from (Number m) leaf [] end a = (m, refl, a)
filled_from (Number m) leaf (step ∷ path) end a = absurd a
filled_from (Cuts c low high) leaf [] end a = absurd a
filled_from (Cuts c low high) leaf ((d, Low) ∷ path) end a = let rest = filled_from low leaf path end a.1 in (rest.0, (a.0, rest.1), rest.2)
filled_from (Cuts c low high) leaf ((d, High) ∷ path) end a = let rest = filled_from high leaf path end a.1 in
    (rest.0, (a.0, rest.1), rest.2)

-- one function of the leaves that differs at no leaf of the tree
pub fill_same : (tree : Numbered) (f g : ℕ → Leaf) → ((q : List (Cut × Side)) (m : ℕ) → IsAt tree q m → f m ≡ g m)
    → fill tree f ≡ fill tree g
fill_same (Number m) f g h = ap Ends (h [] m refl)
fill_same (Cuts c low high) f g h =
    let first : fill low f ≡ fill low g = fill_same low f g (λ q m a. h ((c, Low) ∷ q) m (refl, a)) in
    let second : fill high f ≡ fill high g = fill_same high f g (λ q m a. h ((c, High) ∷ q) m (refl, a)) in
    cc

low_tail : (c d : Cut) (p q : List (Cut × Side)) → (c, Low) ∷ p ≡ (d, Low) ∷ q → p ≡ q
low_tail c d p q e = cc

high_tail : (c d : Cut) (p q : List (Cut × Side)) → (c, High) ∷ p ≡ (d, High) ∷ q → p ≡ q
high_tail c d p q e = cc

high_low : (c d : Cut) (p q : List (Cut × Side)) → (c, High) ∷ p ≡ (d, Low) ∷ q → ⊥
high_low c d p q e =
    let steps : (c, High) ≡ (d, Low) = cc in
    let sides : High ≡ Low = ap (λ (x : Cut × Side). x.1) steps in
    cc

low_high : (c d : Cut) (p q : List (Cut × Side)) → (c, Low) ∷ p ≡ (d, High) ∷ q → ⊥
low_high c d p q e =
    let steps : (c, Low) ≡ (d, High) = cc in
    let sides : Low ≡ High = ap (λ (x : Cut × Side). x.1) steps in
    cc

-- only this path_in leads to the leaf n
abbrev pub IsOnlyAt : Numbered → List (Cut × Side) → ℕ → Type 0
IsOnlyAt tree path n = (q : List (Cut × Side)) → IsAt tree q n → q ≡ path

-- the leaf n alone changes
pub fill_put : (tree : Numbered) (f g : ℕ → Leaf) (path : List (Cut × Side)) (n : ℕ)
    → ((m : ℕ) → m ≢ n → g m ≡ f m) → IsAt tree path n → IsOnlyAt tree path n
    → fill tree g ≡ put (fill tree f) path (Ends (g n))
fill_put (Number m) f g [] n h a only = ap (λ x. Ends (g x)) a
fill_put (Number m) f g (step ∷ path) n h a only = absurd a
fill_put (Cuts c low high) f g [] n h a only = absurd a
fill_put (Cuts c low high) f g ((d, Low) ∷ path) n h a only =
    let first : fill low g ≡ put (fill low f) path (Ends (g n)) =
    fill_put low f g path n h a.1 (λ q b. low_tail c d q path (only ((c, Low) ∷ q) (refl, b))) in
    let second : fill high g ≡ fill high f = fill_same high g f
    (λ q m b. h m (λ e. high_low c d q path (only ((c, High) ∷ q) (refl, subst (λ x. IsAt high q x) e b)))) in
    cc
fill_put (Cuts c low high) f g ((d, High) ∷ path) n h a only =
    let first : fill low g ≡ fill low f = fill_same low g f
    (λ q m b. h m (λ e. low_high c d q path (only ((c, Low) ∷ q) (refl, subst (λ x. IsAt low q x) e b)))) in
    let second : fill high g ≡ put (fill high f) path (Ends (g n)) =
    fill_put high f g path n h a.1 (λ q b. high_tail c d q path (only ((c, High) ∷ q) (refl, b))) in
    cc

split_same : (n : ℕ) (cut : Cut) (k : ℕ) (tree : Numbered) → ((q : List (Cut × Side)) → IsAt tree q n → ⊥) → split n cut k tree ≡ tree
split_same n cut k (Number m) h = ap (λ b. if b then Cuts cut (Number k) (Number (k + 1)) else Number m) (test_other m n (λ e. h [] e))
split_same n cut k (Cuts c low high) h =
    let first : split n cut k low ≡ low = split_same n cut k low (λ q a. h ((c, Low) ∷ q) (refl, a)) in
    let second : split n cut k high ≡ high = split_same n cut k high (λ q a. h ((c, High) ∷ q) (refl, a)) in
    cc

-- the leaf n becomes a branch
pub fill_split : (tree : Numbered) (f g : ℕ → Leaf) (path : List (Cut × Side)) (n : ℕ) (cut : Cut) (k : ℕ)
    → ((q : List (Cut × Side)) (m : ℕ) → IsAt tree q m → m ≢ n → g m ≡ f m) → IsAt tree path n
    → IsOnlyAt tree path n → fill (split n cut k tree) g
    ≡ put (fill tree f) path (Branch cut (Ends (g k)) (Ends (g (k + 1))))
fill_split (Number m) f g [] n cut k h a only =
    ap (λ b. fill (if b then Cuts cut (Number k) (Number (k + 1)) else Number m) g)
    (ap (λ x. x == n) a ∙ test_same n)
fill_split (Number m) f g (step ∷ path) n cut k h a only = absurd a
fill_split (Cuts c low high) f g [] n cut k h a only = absurd a
fill_split (Cuts c low high) f g ((d, Low) ∷ path) n cut k h a only =
    let none : (q : List (Cut × Side)) → IsAt high q n → ⊥ = λ q b. high_low c d q path (only ((c, High) ∷ q) (refl, b)) in
    let first : fill (split n cut k low) g ≡ put (fill low f) path (Branch cut (Ends (g k)) (Ends (g (k + 1)))) =
    fill_split low f g path n cut k (λ q m b ne. h ((c, Low) ∷ q) m (refl, b) ne) a.1
    (λ q b. low_tail c d q path (only ((c, Low) ∷ q) (refl, b))) in
    let second : fill (split n cut k high) g ≡ fill high f = ap (λ t. fill t g) (split_same n cut k high none)
    ∙ fill_same high g f (λ q m b. h ((c, High) ∷ q) m (refl, b)
    (λ e. none q (subst (λ x. IsAt high q x) e b))) in
    cc
fill_split (Cuts c low high) f g ((d, High) ∷ path) n cut k h a only =
    let none : (q : List (Cut × Side)) → IsAt low q n → ⊥ = λ q b. low_high c d q path (only ((c, Low) ∷ q) (refl, b)) in
    let first : fill (split n cut k low) g ≡ fill low f = ap (λ t. fill t g) (split_same n cut k low none)
    ∙ fill_same low g f (λ q m b. h ((c, Low) ∷ q) m (refl, b) (λ e. none q (subst (λ x. IsAt low q x) e b))) in
    let second : fill (split n cut k high) g ≡ put (fill high f) path
    (Branch cut (Ends (g k)) (Ends (g (k + 1)))) =
    fill_split high f g path n cut k (λ q m b ne. h ((c, High) ∷ q) m (refl, b) ne) a.1
    (λ q b. high_tail c d q path (only ((c, High) ∷ q) (refl, b))) in
    cc

-- a path leads to one leaf at most
pub one_at : (tree : Numbered) (path : List (Cut × Side)) (m n : ℕ) → IsAt tree path m → IsAt tree path n → m ≡ n
one_at (Number l) [] m n a b = sym a ∙ b
one_at (Number l) (step ∷ path) m n a b = absurd a
one_at (Cuts c low high) [] m n a b = absurd a
one_at (Cuts c low high) ((d, Low) ∷ path) m n a b = one_at low path m n a.1 b.1
one_at (Cuts c low high) ((d, High) ∷ path) m n a b = one_at high path m n a.1 b.1
