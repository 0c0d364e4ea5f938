-- A leaf of a sound tree is replaced: the tree stays sound, and its least value doesn't fall.
use Rattle.std.proofs.Common.{◌≡◌, ℕ, List, [], ◌∷◌, refl, arith, subst, sym}
use Rattle.std.specs.Prelude.{ℤ, pos, ◌≤ℤ◌, Option, Some, None, IsSomeAnd, true}
use Rattle.std.proofs.lemmas.Int.{ints, clamps}
use Rattle.pesp_problem.specs.declared.row.SignedRow.{SignedRow}
use Rattle.pesp_problem.specs.declared.pair.Pair.{Pair}
use Rattle.pesp_problem.specs.declared.cut.Cut.{Cut}
use Rattle.pesp_problem.specs.declared.cut.Side.{Side}
use Rattle.pesp_problem.specs.declared.cut.Side.TheVariants.{Low, High}
use Rattle.pesp_problem.specs.Arcs.{Net}
use Rattle.pesp_problem.specs.Nodes.{Node, leaf_value, low_part, high_part}
use Rattle.pesp_truth.specs.Trees.{Plain, Tree, Leaf, Ends, Branch, Bound, Shut, IsSoundLeaf, IsSound}
use Rattle.pesp_truth.specs.Paths.{along}
use Rattle.pesp_truth.specs.Leaves.{IsLeafAt, put}
use Rattle.pesp_tree.specs.BoardLeaves.{lesser_value, least_value}

-- ---- sound trees

pub sound_leaf : (n : Net) (table : List (List SignedRow)) (least : Option ℕ) (tree : Tree)
    (path : List (Cut × Side)) (leaf : Leaf) (node : Node) → IsLeafAt tree path leaf
    → IsSound (Plain least) n table tree node → IsSoundLeaf (Plain least) n table leaf (along node path)
sound_leaf n table least (Ends other) [] leaf node h s = subst (λ x. IsSoundLeaf (Plain least) n table x node) h s
sound_leaf n table least (Ends other) (step ∷ path) leaf node h s = absurd h
sound_leaf n table least (Branch cut low high) [] leaf node h s = absurd h
sound_leaf n table least (Branch cut low high) ((c, Low) ∷ path) leaf node h s =
    rw (h.0) (sound_leaf n table least low path leaf (low_part node cut) h.1 s.1)
sound_leaf n table least (Branch cut low high) ((c, High) ∷ path) leaf node h s =
    rw (h.0) (sound_leaf n table least high path leaf (high_part node cut) h.1 s.2)

pub put_sound : (n : Net) (table : List (List SignedRow)) (least : Option ℕ) (tree : Tree)
    (path : List (Cut × Side)) (leaf : Leaf) (new : Tree) (node : Node) → IsLeafAt tree path leaf
    → IsSound (Plain least) n table tree node → IsSound (Plain least) n table new (along node path)
    → IsSound (Plain least) n table (put tree path new) node
put_sound n table least (Ends other) [] leaf new node h s sound = sound
put_sound n table least (Ends other) (step ∷ path) leaf new node h s sound = absurd h
put_sound n table least (Branch cut low high) [] leaf new node h s sound = absurd h
put_sound n table least (Branch cut low high) ((c, Low) ∷ path) leaf new node h s sound = (
  s.0,
  put_sound n table least low path leaf new (low_part node cut) h.1 s.1
      (subst (λ x. IsSound (Plain least) n table new (along (low_part node x) path)) h.0 sound),
  s.2,
)
put_sound n table least (Branch cut low high) ((c, High) ∷ path) leaf new node h s sound = (
  s.0,
  s.1,
  put_sound n table least high path leaf new (high_part node cut) h.1 s.2
      (subst (λ x. IsSound (Plain least) n table new (along (high_part node x) path)) h.0 sound),
)

-- ---- least values; None stands above every value

abbrev pub IsUnder : Option ℤ → Option ℤ → Type 0
IsUnder a None = Unit {0}
IsUnder None (Some b) = ⊥
IsUnder (Some a) (Some b) = a ≤ℤ b

pub under_same : (a : Option ℤ) → IsUnder a a
under_same None = tt
under_same (Some a) = omega (arith, ints)

lesser_first : (a a' b : Option ℤ) → IsUnder a a' → IsUnder (lesser_value a b) (lesser_value a' b)
lesser_first None None b h = under_same b
lesser_first None (Some a') b h = absurd h
lesser_first (Some a) None None h = tt
lesser_first (Some a) None (Some b) h = omega (arith, ints, clamps)
lesser_first (Some a) (Some a') None h = h
lesser_first (Some a) (Some a') (Some b) h = omega (arith, ints, clamps)

lesser_second : (a b b' : Option ℤ) → IsUnder b b' → IsUnder (lesser_value a b) (lesser_value a b')
lesser_second None b b' h = h
lesser_second (Some a) None None h = omega (arith, ints)
lesser_second (Some a) None (Some b') h = absurd h
lesser_second (Some a) (Some b) None h = omega (arith, ints, clamps)
lesser_second (Some a) (Some b) (Some b') h = omega (arith, ints, clamps)

pub under_lesser : (a b c : Option ℤ) → IsUnder a b → IsUnder a c → IsUnder a (lesser_value b c)
under_lesser a None c h k = k
under_lesser a (Some b) None h k = h
under_lesser None (Some b) (Some c) h k = absurd h
under_lesser (Some a) (Some b) (Some c) h k = omega (arith, ints, clamps)

pub lesser_under : (a b c : Option ℤ) → IsUnder a (lesser_value b c) → IsUnder a b × IsUnder a c
lesser_under a None c h = (tt, h)
lesser_under a (Some b) None h = (h, tt)
lesser_under None (Some b) (Some c) h = absurd h
lesser_under (Some a) (Some b) (Some c) h = (omega (arith, ints, clamps), omega (arith, ints, clamps))

pub put_least : (n : Net) (table : List (List SignedRow)) (tree : Tree) (path : List (Cut × Side)) (leaf : Leaf)
    (new : Tree) (node : Node) → IsLeafAt tree path leaf
    → IsUnder (least_value n table (Ends leaf) (along node path)) (least_value n table new (along node path))
    → IsUnder (least_value n table tree node) (least_value n table (put tree path new) node)
put_least n table (Ends other) [] leaf new node h u =
    subst (λ x. IsUnder (least_value n table (Ends x) node) (least_value n table new node)) (sym h) u
put_least n table (Ends other) (step ∷ path) leaf new node h u = absurd h
put_least n table (Branch cut low high) [] leaf new node h u = absurd h
put_least n table (Branch cut low high) ((c, Low) ∷ path) leaf new node h u =
    let rest = put_least n table low path leaf new (low_part node cut) h.1
    (subst (λ x. IsUnder (least_value n table (Ends leaf) (along (low_part node x) path))
    (least_value n table new (along (low_part node x) path))) h.0 u) in
    lesser_first _ _ (least_value n table high (high_part node cut)) rest
put_least n table (Branch cut low high) ((c, High) ∷ path) leaf new node h u =
    let rest = put_least n table high path leaf new (high_part node cut) h.1
    (subst (λ x. IsUnder (least_value n table (Ends leaf) (along (high_part node x) path))
    (least_value n table new (along (high_part node x) path))) h.0 u) in
    lesser_second (least_value n table low (low_part node cut)) _ _ rest

-- ---- what the least value says of a sound tree

pub and_is : (o : Option ℤ) (P : ℤ → Type 0) → IsSomeAnd o P → (v : ℤ) × (o ≡ Some v) × P v
and_is None P h = absurd h
and_is (Some v) P h = (v, refl, h)

pub value_of : (n : Net) (table : List (List SignedRow)) (node : Node) (pairs : List Pair)
    → IsSoundLeaf (Plain (Some 0)) n table (Bound pairs) node
    → (v : ℤ) × (leaf_value n table node pairs true ≡ Some v) × (pos 0 ≤ℤ v)
value_of n table node pairs s = and_is (leaf_value n table node pairs true) (λ v. pos 0 ≤ℤ v) (s.1)

pub not_negative : (n : Net) (table : List (List SignedRow)) (tree : Tree) (node : Node)
    → IsSound (Plain (Some 0)) n table tree node → IsUnder (Some (pos 0)) (least_value n table tree node)
not_negative n table (Ends (Bound pairs)) node s = let value = value_of n table node pairs s in rw (value.1) (value.2)
not_negative n table (Ends (Shut reason)) node s = tt
not_negative n table (Branch cut low high) node s =
    under_lesser (Some (pos 0)) _ _ (not_negative n table low (low_part node cut) s.1)
    (not_negative n table high (high_part node cut) s.2)

pub sound_for : (n : Net) (table : List (List SignedRow)) (least : ℕ) (tree : Tree) (node : Node)
    → IsSound (Plain (Some 0)) n table tree node → IsUnder (Some (pos least)) (least_value n table tree node)
    → IsSound (Plain (Some least)) n table tree node
sound_for n table least (Ends (Bound pairs)) node s u =
    let value = value_of n table node pairs s in
    (s.0, rw (value.1) (let under : pos least ≤ℤ value.0 = rw (value.1) at u in under))
sound_for n table least (Ends (Shut reason)) node s u = s
sound_for n table least (Branch cut low high) node s u =
    let each = lesser_under (Some (pos least)) _ _ u in
    (s.0, sound_for n table least low (low_part node cut) s.1 each.0, sound_for n table least high (high_part node cut) s.2 each.1)

no_lesser : (a b : Option ℤ) → lesser_value a b ≡ None → (a ≡ None) × (b ≡ None)
no_lesser None b h = (refl, h)
no_lesser (Some a) None h = cc
no_lesser (Some a) (Some b) h = cc

pub sound_without : (n : Net) (table : List (List SignedRow)) (tree : Tree) (node : Node)
    → IsSound (Plain (Some 0)) n table tree node → least_value n table tree node ≡ None → IsSound (Plain None) n table tree node
sound_without n table (Ends (Bound pairs)) node s e = let value = value_of n table node pairs s in cc
sound_without n table (Ends (Shut reason)) node s e = s
sound_without n table (Branch cut low high) node s e =
    let each = no_lesser (least_value n table low (low_part node cut)) (least_value n table high (high_part node cut)) e in
    (s.0, sound_without n table low (low_part node cut) s.1 each.0, sound_without n table high (high_part node cut) s.2 each.1)
