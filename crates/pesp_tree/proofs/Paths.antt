-- The path to a node is its parent's path and one step.
use Rattle.std.proofs.Common.{◌≡◌, ℕ, zero, suc, ◌+◌, ◌-◌, ◌*◌, ◌/◌, ◌<◌, List, [], ◌∷◌, ◌++◌, length, get_or, refl, sym, ap, ◌∙◌, arith, append_assoc, reverse}
use Rattle.std.proofs.lemmas.List.{length-append, reverse-append}
use Rattle.pesp_problem.specs.declared.cut.Cut.{Cut}
use Rattle.pesp_problem.specs.declared.cut.Side.{Side}
use Rattle.pesp_problem.specs.declared.cut.Side.TheVariants.{Low, High}
use Rattle.pesp_tree.specs.declared.node.Branching.{Branching}
use Rattle.pesp_tree.specs.Numbered.{Growth, Number, path_in, branch_off, grow, grown, AreBelow, IsSide}
use Rattle.pesp_tree.proofs.Numbered.{child}
use Rattle.pesp_tree.proofs.Changes.{path_other, path_low, path_high}

pub below_push : (k : ℕ) (bs : List Branching) (b : Branching) → AreBelow k bs → b.node < k + 2 * length bs → AreBelow k (bs ++ b ∷ [])
below_push k [] b h l = (omega (arith, l), tt)
below_push k (x ∷ bs) b h l = (h.0, below_push (k + 2) bs b h.1 (omega (arith, l)))

two_more : (g : Growth) (b : Branching) → length (branch_off g b).paths ≡ length g.paths + 2
two_more g b = length-append g.paths ((path_in g b.node ++ (b.cut, Low) ∷ []) ∷ (path_in g b.node ++ (b.cut, High) ∷ []) ∷ [])

grow_count : (g : Growth) (bs : List Branching) → length (grow g bs).paths ≡ length g.paths + 2 * length bs
grow_count g [] = omega arith
grow_count g (b ∷ bs) = omega (arith, grow_count (branch_off g b) bs, two_more g b)

pub grown_count : (bs : List Branching) → length (grown bs).paths ≡ 1 + 2 * length bs
grown_count bs = grow_count _ bs

grow_keeps : (g : Growth) (bs : List Branching) (m : ℕ) → m < length g.paths → path_in (grow g bs) m ≡ path_in g m
grow_keeps g [] m h = refl
grow_keeps g (b ∷ bs) m h = grow_keeps (branch_off g b) bs m (omega (arith, h, two_more g b)) ∙ path_other g b m h

child_path : (g : Growth) (b : Branching) (side : Side)
    → path_in (branch_off g b) (child (length g.paths) side) ≡ path_in g b.node ++ (b.cut, side) ∷ []
child_path g b Low = path_low g b
child_path g b High = path_high g b

child_lt : (k : ℕ) (side : Side) → child k side < k + 2
child_lt k Low = omega arith
child_lt k High = omega arith

child_plus : (k j : ℕ) (side : Side) → child (k + 2 * suc j) side ≡ child (k + 2 + 2 * j) side
child_plus k j side = ap (λ x. child x side) (let e : k + 2 * suc j ≡ k + 2 + 2 * j = omega arith in e)

step_at : (g : Growth) (bs : List Branching) (j k : ℕ) (d : Branching) (side : Side) → j < length bs
    → length g.paths ≡ k → AreBelow k bs → path_in (grow g bs) (child (k + 2 * j) side)
    ≡ path_in (grow g bs) (get_or bs j d).node ++ ((get_or bs j d).cut, side) ∷ []
step_at g [] j k d side h e below = absurd (omega (arith, h))
step_at g (b ∷ bs) zero k d side h e below =
    let place : child (k + 2 * zero) side ≡ child (length g.paths) side =
    ap (λ x. child x side) (let z : k + 2 * 0 ≡ length g.paths = omega (arith, e) in z) in
    ap (λ x. path_in (grow (branch_off g b) bs) x) place
    ∙ grow_keeps (branch_off g b) bs (child (length g.paths) side) (omega (arith, child_lt (length g.paths) side, two_more g b))
    ∙ child_path g b side
    ∙ ap (λ x. x ++ (b.cut, side) ∷ []) (sym (grow_keeps g (b ∷ bs) b.node (omega (arith, below.0, e))))
step_at g (b ∷ bs) (suc j) k d side h e below =
    ap (λ x. path_in (grow (branch_off g b) bs) x) (child_plus k j side)
    ∙ step_at (branch_off g b) bs j (k + 2) d side (omega (arith, h)) (omega (arith, e, two_more g b)) below.1

pub below_at : (k : ℕ) (bs : List Branching) (j : ℕ) (d : Branching) → j < length bs → AreBelow k bs → (get_or bs j d).node < k + 2 * j
below_at k [] j d h below = absurd (omega (arith, h))
below_at k (b ∷ bs) zero d h below = omega (arith, below.0)
below_at k (b ∷ bs) (suc j) d h below = omega (arith, below_at (k + 2) bs j d (omega (arith, h)) below.1)

side_child : (n : ℕ) (side : Side) → 0 < n → IsSide n side → n ≡ child (1 + 2 * ((n - 1) / 2)) side
side_child n Low h s = omega (arith, h, s)
side_child n High h s = omega (arith, h, s)

pub path_step : (bs : List Branching) (n : ℕ) (d : Branching) (side : Side) → 0 < n → (n - 1) / 2 < length bs
    → AreBelow 1 bs → IsSide n side → path_in (grown bs) n
    ≡ path_in (grown bs) (get_or bs ((n - 1) / 2) d).node ++ ((get_or bs ((n - 1) / 2) d).cut, side) ∷ []
path_step bs n d side h l below s = ap (λ x. path_in (grown bs) x) (side_child n side h s)
    ∙ step_at _ bs ((n - 1) / 2) 1 d side l refl below

-- ---- the loop from a node to the root

pub node_below : (bs : List Branching) (n : ℕ) (d : Branching) → AreBelow 1 bs → 0 < n → n < 1 + 2 * length bs
    → (get_or bs ((n - 1) / 2) d).node < n
node_below bs n d below h l =
    let place : (n - 1) / 2 < length bs = omega arith in
    let less = below_at 1 bs ((n - 1) / 2) d place below in
    omega (arith, less, h)

pub loop_step : (bs : List Branching) (node n : ℕ) (d : Branching) (side : Side) (path new : List (Cut × Side))
    → AreBelow 1 bs → 0 < n → n < 1 + 2 * length bs → IsSide n side
    → path_in (grown bs) node ≡ path_in (grown bs) n ++ reverse path
    → new ≡ path ++ ((get_or bs ((n - 1) / 2) d).cut, side) ∷ []
    → path_in (grown bs) node ≡ path_in (grown bs) (get_or bs ((n - 1) / 2) d).node ++ reverse new
loop_step bs node n d side path new below h l s w e =
    let place : (n - 1) / 2 < length bs = omega arith in
    let last = (get_or bs ((n - 1) / 2) d).cut in
    let parent = path_in (grown bs) (get_or bs ((n - 1) / 2) d).node in
    let turned : reverse new ≡ (last, side) ∷ reverse path = ap reverse e ∙ reverse-append path ((last, side) ∷ []) in
    w ∙ ap (λ x. x ++ reverse path) (path_step bs n d side h place below s)
    ∙ append_assoc parent ((last, side) ∷ []) (reverse path) ∙ ap (λ x. parent ++ x) (sym turned)

pub at_root : (bs : List Branching) (node n : ℕ) (path : List (Cut × Side))
    → path_in (grown bs) node ≡ path_in (grown bs) n ++ reverse path → n ≡ 0
    → reverse path ≡ path_in (grown bs) node
at_root bs node n path w e =
    let none : path_in (grown bs) n ≡ [] = ap (λ x. path_in (grown bs) x) e
    ∙ grow_keeps (record { tree = Number 0; paths = [] ∷ [] }) bs 0 (omega arith) in
    sym (w ∙ ap (λ x. x ++ reverse path) none)

pub loop_within : (bs : List Branching) (n : ℕ) (d : Branching) → AreBelow 1 bs → 0 < n → n < 1 + 2 * length bs
    → (get_or bs ((n - 1) / 2) d).node < 1 + 2 * length bs
loop_within bs n d below h l =
    let less = node_below bs n d below h l in
    omega (arith, less, l)
