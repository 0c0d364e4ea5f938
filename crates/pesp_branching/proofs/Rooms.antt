-- The two parts of a cut share the room of their node.
use Rattle.std.proofs.Common.{◌≡◌, ℕ, zero, suc, ◌+◌, ◌-◌, ◌*◌, ◌<◌, ◌≤◌, ◌≢◌, Bool, true, false, List, length, get_or, set, refl, ap, arith, sym, ◌∙◌, inl, inr}
use Rattle.std.specs.Prelude.{ℤ, pos, ◌+ℤ◌, ◌≤ℤ◌, max, min, if◌then◌else◌}
use Rattle.std.specs.Int.{int_min, int_max}
use Rattle.std.proofs.lemmas.Int.{ints, clamps}
use Rattle.std.proofs.lemmas.Bool.{cases_lt}
use Rattle.std.proofs.lemmas.List.{get_or-set_same, get_or-set_other, get_or_past}
use Rattle.std.proofs.Math.Nat.{mul-add, add-mul, mul-le-mul_left}
use Rattle.pesp_problem.specs.declared.row.SignedRow.{SignedRow}
use Rattle.pesp_problem.specs.declared.cut.Cut.{Cut}
use Rattle.pesp_problem.specs.declared.cut.Cut.TheVariants.{Slack, Offset}
use Rattle.pesp_problem.specs.Arcs.{Net}
use Rattle.pesp_problem.specs.Nodes.{Node, slack_range, offset_range, low_part, high_part, LeavesBoth}
use Rattle.pesp_problem.proofs.Integers.{lt-or-same}
use Rattle.pesp_truth.specs.Trees.{Tree, Ends, Branch}
use Rattle.pesp_branching.specs.Rooms.{product_below, slack_values, offset_values, is_passed, slack_room, offset_room, room, IsCounted, BranchesLeaveBoth, branches}

-- ---- products

product-same : (n : ℕ) (f g : ℕ → ℕ) → ((i : ℕ) → i < n → f i ≡ g i) → product_below n f ≡ product_below n g
product-same zero f g h = refl
product-same (suc n) f g h = times_same (product-same n f g (λ i l. h i (omega arith))) (h n (omega arith))
  where
    times_same : {a b c d : ℕ} → a ≡ b → c ≡ d → a * c ≡ b * d
    times_same p q = cc

-- a product is the sum of two others that differ from it in one factor, which is the sum of theirs
product-apart : (n k : ℕ) (f g h : ℕ → ℕ) → k < n → ((i : ℕ) → i ≢ k → g i ≡ f i) → ((i : ℕ) → i ≢ k → h i ≡ f i)
    → g k + h k ≡ f k → product_below n g + product_below n h ≡ product_below n f
product-apart zero k f g h l p q e = absurd (omega arith)
product-apart (suc n) k f g h l p q e =
    elim (lt-or-same k n (omega arith)) [
      | inl below ↦
          let rest : product_below n g + product_below n h ≡ product_below n f = product-apart n k f g h below p q e in
          let same_g : g n ≡ f n = p n (λ s. omega arith) in
          let same_h : h n ≡ f n = q n (λ s. omega arith) in
          rw (same_g, same_h) (sym (add-mul (product_below n g) (product_below n h) (f n)) ∙ ap (λ x. x * f n) rest)
      | inr here ↦
          let same_g : product_below n g ≡ product_below n f = product-same n g f (λ i b. p i (λ s. omega arith)) in
          let same_h : product_below n h ≡ product_below n f = product-same n h f (λ i b. q i (λ s. omega arith)) in
          let last : g n + h n ≡ f n = rw here at e in
          rw (same_g, same_h) (sym (mul-add (product_below n f) (g n) (h n)) ∙ ap (λ x. product_below n f * x) last)
    ]

product-some : (n : ℕ) (f : ℕ → ℕ) → ((i : ℕ) → 1 ≤ f i) → 1 ≤ product_below n f
product-some zero f h = omega arith
product-some (suc n) f h = some_times (product_below n f) (f n) (product-some n f h) (h n)
  where
    some_times : (a b : ℕ) → 1 ≤ a → 1 ≤ b → 1 ≤ a * b
    some_times a b p q = omega (arith, mul-le-mul_left a q)

-- ---- ranges

-- a range that isn't the default has a place
has_place : {A : Type 0} (P : A → Type 0) (xs : List A) (j : ℕ) (d : A) → P (get_or xs j d) → (P d → ⊥) → j < length xs
has_place P xs j d h none = elim (cases_lt j (length xs))
    [ inl inside ↦ inside | inr past ↦ absurd (none (rw (get_or_past xs j d past) at h)) ]

slack_sides : (low high k : ℕ) → low ≤ k → k + 1 ≤ high
    → slack_values (low, min high k) + slack_values (max low (k + 1), high) ≡ slack_values (low, high)
slack_sides low high k h l = omega arith

offset_sides : (low high k : ℤ) → low ≤ℤ k → (k +ℤ pos 1) ≤ℤ high
    → offset_values (low, int_min high k) + offset_values (int_max low (k +ℤ pos 1), high)
    ≡ offset_values (low, high)
offset_sides low high k h l = omega (arith, ints, clamps)

slack_place : (slacks : List (ℕ × ℕ)) (j k : ℕ) → (slack_range slacks j).0 ≤ k → k + 1 ≤ (slack_range slacks j).1 → j < length slacks
slack_place slacks j k h l = has_place (λ (r : ℕ × ℕ). (r.0 ≤ k) × (k + 1 ≤ r.1)) slacks j (0, 0) (h, l)
    (λ both. omega (arith, both.0, both.1))

offset_place : (offsets : List (ℤ × ℤ)) (j : ℕ) (k : ℤ) → (offset_range offsets j).0 ≤ℤ k
    → (k +ℤ pos 1) ≤ℤ (offset_range offsets j).1 → j < length offsets
offset_place offsets j k h l = has_place (λ (r : ℤ × ℤ). (r.0 ≤ℤ k) × ((k +ℤ pos 1) ≤ℤ r.1)) offsets j
    (pos 0, pos 0) (h, l) (λ both. omega (arith, ints, both.0, both.1))

-- ---- rooms

pub some_room : (n : Net) (table : List (List SignedRow)) (node : Node) → 1 ≤ room n table node
some_room n table node =
    let offsets = product-some (length table) (offset_room node.offsets) (λ c. omega arith) in
    let slacks = product-some (length n.arcs) (slack_room table node.slacks) (λ i. slack_some table node.slacks i) in
    both_some (product_below (length table) (offset_room node.offsets))
    (product_below (length n.arcs) (slack_room table node.slacks)) offsets slacks
  where
    chosen : (b : Bool) (a : ℕ) → 1 ≤ a → 1 ≤ (if b then a else 1)
    chosen true a h = h
    chosen false a h = omega arith

    slack_some : (table : List (List SignedRow)) (slacks : List (ℕ × ℕ)) (i : ℕ) → 1 ≤ slack_room table slacks i
    slack_some table slacks i = chosen (is_passed table i) (slack_values (slack_range slacks i)) (omega arith)

    both_some : (a b : ℕ) → 1 ≤ a → 1 ≤ b → 1 ≤ a * b
    both_some a b p q = omega (arith, mul-le-mul_left a q)

pub rooms_add_up : (n : Net) (table : List (List SignedRow)) (node : Node) (cut : Cut) → IsCounted n table cut
    → LeavesBoth node cut → room n table (low_part node cut) + room n table (high_part node cut) ≡ room n table node
rooms_add_up n table node (Slack row k) counted both =
    let j = row - 1 in
    let range = slack_range node.slacks j in
    let place = slack_place node.slacks j k both.0 both.1 in
    let offsets = product_below (length table) (offset_room node.offsets) in
    let passed : (slacks : List (ℕ × ℕ)) → slack_room table slacks j
    ≡ slack_values (slack_range slacks j) = λ slacks.
    ap (λ b. if b then slack_values (slack_range slacks j) else 1) counted.1 in
    let low : List (ℕ × ℕ) = set node.slacks j (range.0, min range.1 k) in
    let high : List (ℕ × ℕ) = set node.slacks j (max range.0 (k + 1), range.1) in
    let in_low = get_or-set_same node.slacks j (range.0, min range.1 k) (0, 0) place in
    let in_high = get_or-set_same node.slacks j (max range.0 (k + 1), range.1) (0, 0) place in
    let factor : slack_room table low j + slack_room table high j ≡ slack_room table node.slacks j =
    rw (passed low, passed high, passed node.slacks, in_low, in_high) (slack_sides range.0 range.1 k both.0 both.1) in
    let others : (x : ℕ × ℕ) (i : ℕ) → i ≢ j → slack_room table (set node.slacks j x) i ≡ slack_room table node.slacks i =
    λ x i ne. ap (λ (r : ℕ × ℕ). if is_passed table i then slack_values r else 1) (get_or-set_other node.slacks j i x (0, 0) ne) in
    let slacks = product-apart (length n.arcs) j (slack_room table node.slacks) (slack_room table low)
    (slack_room table high) (omega (arith, counted.0)) (others _) (others _) factor in
    sym (mul-add offsets _ _) ∙ ap (λ x. offsets * x) slacks
rooms_add_up n table node (Offset cycle k) counted both =
    let j = cycle - 1 in
    let range = offset_range node.offsets j in
    let place = offset_place node.offsets j k both.0 both.1 in
    let slacks = product_below (length n.arcs) (slack_room table node.slacks) in
    let low : List (ℤ × ℤ) = set node.offsets j (range.0, int_min range.1 k) in
    let high : List (ℤ × ℤ) = set node.offsets j (int_max range.0 (k +ℤ pos 1), range.1) in
    let in_low = get_or-set_same node.offsets j (range.0, int_min range.1 k) (pos 0, pos 0) place in
    let in_high = get_or-set_same node.offsets j (int_max range.0 (k +ℤ pos 1), range.1) (pos 0, pos 0) place in
    let factor : offset_room low j + offset_room high j
    ≡ offset_room node.offsets j = rw (in_low, in_high) (offset_sides range.0 range.1 k both.0 both.1) in
    let others : (x : ℤ × ℤ) (i : ℕ) → i ≢ j → offset_room (set node.offsets j x) i ≡ offset_room node.offsets i =
    λ x i ne. ap offset_values (get_or-set_other node.offsets j i x (pos 0, pos 0) ne) in
    let offsets = product-apart (length table) j (offset_room node.offsets) (offset_room low) (offset_room high)
    (omega (arith, counted)) (others _) (others _) factor in
    sym (add-mul _ _ slacks) ∙ ap (λ x. x * slacks) offsets

-- ---- trees

pub fewer_branches : (n : Net) (table : List (List SignedRow)) (tree : Tree) (node : Node)
    → BranchesLeaveBoth n table tree node → branches tree < room n table node
fewer_branches n table (Ends leaf) node h = omega (arith, some_room n table node)
fewer_branches n table (Branch cut low high) node h =
    fewer (branches low) (branches high) (room n table (low_part node cut)) (room n table (high_part node cut)) (room n table node)
    (fewer_branches n table low (low_part node cut) h.2) (fewer_branches n table high (high_part node cut) h.3)
    (rooms_add_up n table node cut h.0 h.1)
  where
    fewer : (a b r s t : ℕ) → a < r → b < s → r + s ≡ t → suc (a + b) < t
    fewer a b r s t h k e = omega arith
