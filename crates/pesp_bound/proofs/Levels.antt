-- Levels that keep every bound give slacks with the chosen offsets.
use Rattle.std.proofs.Common.{subst, ◌≡◌, ℕ, ◌+◌, ◌-◌, ◌<◌, ◌≤◌, ◌≢◌, inl, inr, true, false, List, [], ◌∷◌, length, refl, ap, arith, sym, ◌∙◌}
use Rattle.std.specs.Prelude.{ℤ, pos, ◌+ℤ◌, ◌-ℤ◌, ◌*ℤ◌, ◌≤ℤ◌, unsigned_abs, ◌==◌, if◌then◌else◌, Some}
use Rattle.std.proofs.lemmas.Int.{ints}
use Rattle.std.proofs.lemmas.List.Elements.{All-head, All-tail}
use Rattle.pesp_problem.specs.declared.arc.Arc.{Arc}
use Rattle.pesp_problem.specs.declared.row.SignedRow.{SignedRow}
use Rattle.pesp_problem.specs.Arcs.{Net, arc_at, over_arcs}
use Rattle.pesp_problem.specs.Walks.{RowExists, start, finish, sign, net_count, HasOffset}
use Rattle.pesp_problem.specs.Nodes.{Node, cycle_at, slack_range, offset_range, offsets_left, SlacksIn, LieIn}
use Rattle.pesp_problem.proofs.Integers.{mul-add, zero-mul, sum_below-same, sum_below-add}
use Rattle.pesp_problem.proofs.Walks.{sum_along, rise, telescope, net_count_sum}
use Rattle.pesp_problem.proofs.Counts.{eq-true, eq-false}
use Rattle.pesp_bound.specs.Differences.{rise_bound}
use Rattle.pesp_bound.proofs.Owners.{none_or_some, InForest, GoesBack, AreOwned, plus_row}

-- the chosen offset of the cycle that owns the row, 0 for a row of the forest
abbrev pub shift : Node → (ℕ → ℕ) → ℕ → ℤ
shift node owner i = if owner i == 0 then pos 0 else (offset_range node.offsets (owner i - 1)).0

-- the most by which levels may rise along a signed row
abbrev pub bound : Net → Node → (ℕ → ℕ) → SignedRow → ℤ
bound n node owner s = rise_bound n.period (arc_at n.arcs (s.row - 1)) (slack_range node.slacks (s.row - 1))
    (shift node owner (s.row - 1), shift node owner (s.row - 1)) s.plus

-- levels that keep the bounds of all rows that so many cycles pass
abbrev pub AreLevels : Net → Node → (ℕ → ℕ) → (ℕ → ℕ) → (ℕ → ℤ) → Type 0
AreLevels n node owner count level = (s : SignedRow) → RowExists n.arcs s → 0 < count (s.row - 1)
    → level (finish n.arcs s) ≤ℤ (level (start n.arcs s) +ℤ bound n node owner s)

-- no cycle passes a row without passages
abbrev pub AreIdle : List Arc → List (List SignedRow) → (ℕ → ℕ) → Type 0
AreIdle arcs table count = (i : ℕ) → i < length arcs → count i ≡ 0 → (c : ℕ) → c < length table → net_count (cycle_at table c) i ≡ pos 0

-- each slack range has a value, each offset range has one value, and it is left
pub record IsFixed (n : Net) (table : List (List SignedRow)) (node : Node) : Type 0 where
  pub slacks : (i : ℕ) → i < length n.arcs → (slack_range node.slacks i).0 ≤ (slack_range node.slacks i).1
  pub offsets : (c : ℕ) → c < length table → (offset_range node.offsets c).0 ≡ (offset_range node.offsets c).1
  pub left : (c : ℕ) → c < length table → offsets_left n table node c
      ≡ Some ((offset_range node.offsets c).0, (offset_range node.offsets c).0)

-- a row's duration less its lower bound, once the offset of its cycle is taken in
abbrev raw : Net → Node → (ℕ → ℕ) → (ℕ → ℤ) → ℕ → ℤ
raw n node owner level i = rise n.arcs level i -ℤ (arc_at n.arcs i).lower +ℤ pos n.period *ℤ shift node owner i

-- the slack that the levels give; that of a row without passages is free
abbrev slack_at : Net → Node → (ℕ → ℕ) → (ℕ → ℕ) → (ℕ → ℤ) → ℕ → ℕ
slack_at n node owner count level i = if count i == 0 then (slack_range node.slacks i).0 else unsigned_abs (raw n node owner level i)

between : (x t h lower : ℤ) (lo hi : ℕ) → h ≤ℤ (t +ℤ (lower +ℤ pos hi -ℤ x)) → t ≤ℤ (h +ℤ (x -ℤ (lower +ℤ pos lo)))
    → (lo ≤ unsigned_abs (h -ℤ t -ℤ lower +ℤ x)) × (unsigned_abs (h -ℤ t -ℤ lower +ℤ x) ≤ hi)
    × (pos (unsigned_abs (h -ℤ t -ℤ lower +ℤ x)) ≡ h -ℤ t -ℤ lower +ℤ x)
between x t h lower lo hi up down = (omega (arith, ints), omega (arith, ints), omega (arith, ints))

record Fits (n : Net) (node : Node) (owner : ℕ → ℕ) (level : ℕ → ℤ) (i : ℕ) : Type 0 where
  least : (slack_range node.slacks i).0 ≤ unsigned_abs (raw n node owner level i)
  most : unsigned_abs (raw n node owner level i) ≤ (slack_range node.slacks i).1
  is : pos (unsigned_abs (raw n node owner level i)) ≡ raw n node owner level i

row_fits : (n : Net) (node : Node) (owner count : ℕ → ℕ) (level : ℕ → ℤ) (k : ℕ)
    → AreLevels n node owner count level → 1 ≤ k → k ≤ length n.arcs → 0 < count (k - 1)
    → Fits n node owner level (k - 1)
row_fits n node owner count level k levels one most some =
    let up = levels (record { row = k; plus = true }) (one, most) some in
    let down = levels (record { row = k; plus = false }) (one, most) some in
    let all = between (pos n.period *ℤ shift node owner (k - 1)) (level (arc_at n.arcs (k - 1)).tail)
    (level (arc_at n.arcs (k - 1)).head) (arc_at n.arcs (k - 1)).lower (slack_range node.slacks (k - 1)).0
    (slack_range node.slacks (k - 1)).1 up down in
    record { least = all.0; most = all.1; is = all.2 }

place_fits : (n : Net) (node : Node) (owner count : ℕ → ℕ) (level : ℕ → ℤ) (i : ℕ)
    → AreLevels n node owner count level → i < length n.arcs → 0 < count i → Fits n node owner level i
place_fits n node owner count level i levels l some =
    let back : i + 1 - 1 ≡ i = omega arith in
    subst (λ (j : ℕ). Fits n node owner level j) back
    (row_fits n node owner count level (i + 1) levels (omega arith) (omega arith)
    (subst (λ (j : ℕ). 0 < count j) (sym back) some))

slack_idle : (n : Net) (node : Node) (owner count : ℕ → ℕ) (level : ℕ → ℤ) (i : ℕ) → count i ≡ 0
    → slack_at n node owner count level i ≡ (slack_range node.slacks i).0
slack_idle n node owner count level i e = ap (λ b. if b then (slack_range node.slacks i).0 else unsigned_abs
    (raw n node owner level i)) (eq-true (count i) 0 e)

slack_passed : (n : Net) (node : Node) (owner count : ℕ → ℕ) (level : ℕ → ℤ) (i : ℕ) → 0 < count i
    → slack_at n node owner count level i ≡ unsigned_abs (raw n node owner level i)
slack_passed n node owner count level i some =
    ap (λ b. if b then (slack_range node.slacks i).0 else unsigned_abs (raw n node owner level i))
    (eq-false (count i) 0 (λ e. omega arith))

slacks_in : (n : Net) (table : List (List SignedRow)) (node : Node) (owner count : ℕ → ℕ) (level : ℕ → ℤ)
    → IsFixed n table node → AreLevels n node owner count level
    → SlacksIn n (slack_at n node owner count level) node.slacks
slacks_in n table node owner count level fixed levels i l =
    elim (none_or_some (count i)) [
      | inl e ↦ let s = slack_idle n node owner count level i e in let r = fixed.slacks i l in (omega (arith, s), omega (arith, s, r))
      | inr some ↦
          let s = slack_passed n node owner count level i some in
          let f = place_fits n node owner count level i levels l some in
          let least = f.least in
          let most = f.most in
          (omega (arith, s, least), omega (arith, s, most))
    ]

-- ---- shifts

pub shift_free : (node : Node) (owner : ℕ → ℕ) (i : ℕ) → owner i ≡ 0 → shift node owner i ≡ pos 0
shift_free node owner i e = ap (λ b. if b then pos 0 else (offset_range node.offsets (owner i - 1)).0) (eq-true (owner i) 0 e)

pub shift_own : (node : Node) (owner : ℕ → ℕ) (i c : ℕ) → owner i ≡ c + 1 → shift node owner i ≡ (offset_range node.offsets c).0
shift_own node owner i c e =
    let less : owner i - 1 ≡ c = omega arith in
    let some : owner i ≢ 0 = λ z. omega arith in
    ap (λ b. if b then pos 0 else (offset_range node.offsets (owner i - 1)).0) (eq-false (owner i) 0 some)
    ∙ ap (λ (k : ℕ). (offset_range node.offsets k).0) less

mul-zero : (a : ℤ) → a *ℤ pos 0 ≡ pos 0
mul-zero a = omega (arith, ints)

one-mul : (a : ℤ) → pos 1 *ℤ a ≡ a
one-mul a = omega (arith, ints)

-- along the forest nothing is shifted
along_forest : (n : Net) (node : Node) (owner : ℕ → ℕ) (way : List SignedRow) → InForest owner way
    → sum_along way (λ i. pos n.period *ℤ shift node owner i) ≡ pos 0
along_forest n node owner [] h = refl
along_forest n node owner (s ∷ way) h =
    let none = shift_free node owner (s.row - 1) (All-head (λ (x : SignedRow). owner (x.row - 1) ≡ 0) s way h) in
    let first : sign s *ℤ (pos n.period *ℤ shift node owner (s.row - 1))
    ≡ pos 0 = ap (λ z. sign s *ℤ (pos n.period *ℤ z)) none ∙ ap (λ z. sign s *ℤ z) (mul-zero (pos n.period))
    ∙ mul-zero (sign s) in
    let rest = along_forest n node owner way (All-tail (λ (x : SignedRow). owner (x.row - 1) ≡ 0) s way h) in
    omega (arith, ints, first, rest)

-- along a fundamental walk its own row is shifted alone
along_cycle : (n : Net) (node : Node) (owner : ℕ → ℕ) (row : ℕ) (rest : List SignedRow) (c : ℕ)
    → owner (row - 1) ≡ c + 1 → InForest owner rest
    → sum_along (plus_row row ∷ rest) (λ i. pos n.period *ℤ shift node owner i)
    ≡ pos n.period *ℤ (offset_range node.offsets c).0
along_cycle n node owner row rest c o h =
    let first : pos 1 *ℤ (pos n.period *ℤ shift node owner (row - 1))
    ≡ pos n.period *ℤ (offset_range node.offsets c).0 = one-mul (pos n.period *ℤ shift node owner (row - 1))
    ∙ ap (λ z. pos n.period *ℤ z) (shift_own node owner (row - 1) c o) in
    omega (arith, ints, first, along_forest n node owner rest h)

-- ---- the offset of a cycle

term_is : (n : Net) (table : List (List SignedRow)) (node : Node) (owner count : ℕ → ℕ) (level : ℕ → ℤ) (c i : ℕ)
    → AreIdle n.arcs table count → AreLevels n node owner count level → c < length table → i < length n.arcs
    → net_count (cycle_at table c) i *ℤ ((arc_at n.arcs i).lower +ℤ pos (slack_at n node owner count level i))
    ≡ net_count (cycle_at table c) i *ℤ rise n.arcs level i
    +ℤ net_count (cycle_at table c) i *ℤ (pos n.period *ℤ shift node owner i)
term_is n table node owner count level c i idle levels h l =
    elim (none_or_some (count i)) [
      | inl e ↦
          let none = idle i l e c h in
          let zero : (z : ℤ) → net_count (cycle_at table c) i *ℤ z ≡ pos 0 = λ z. ap (λ x. x *ℤ z) none ∙ zero-mul z in
          let first = zero ((arc_at n.arcs i).lower +ℤ pos (slack_at n node owner count level i)) in
          let second = zero (rise n.arcs level i) in
          let third = zero (pos n.period *ℤ shift node owner i) in
          omega (arith, ints, first, second, third)
      | inr some ↦
          let s = slack_passed n node owner count level i some in
          let f = (place_fits n node owner count level i levels l some).is in
          let term : (arc_at n.arcs i).lower +ℤ pos (slack_at n node owner count level i)
          ≡ rise n.arcs level i +ℤ pos n.period *ℤ shift node owner i = omega (arith, ints, ap pos s, f) in
          ap (λ z. net_count (cycle_at table c) i *ℤ z) term
          ∙ mul-add (net_count (cycle_at table c) i) (rise n.arcs level i) (pos n.period *ℤ shift node owner i)
    ]

rises_along : (n : Net) (level : ℕ → ℤ) (owner : ℕ → ℕ) (walk : List SignedRow) (c : ℕ)
    → GoesBack n.arcs owner walk c → over_arcs n.arcs (λ i. net_count walk i *ℤ rise n.arcs level i) ≡ pos 0
rises_along n level owner walk c g =
    let t = (arc_at n.arcs (g.row - 1)).tail in
    let closed = telescope n.arcs level (plus_row g.row ∷ g.rest) t t (refl, g.leads) in
    let all = net_count_sum n.arcs (plus_row g.row ∷ g.rest) (rise n.arcs level) g.rows in
    ap (λ (w : List SignedRow). over_arcs n.arcs (λ i. net_count w i *ℤ rise n.arcs level i)) g.begins ∙ omega (arith, ints, closed, all)

shifts_along : (n : Net) (node : Node) (owner : ℕ → ℕ) (walk : List SignedRow) (c : ℕ)
    → GoesBack n.arcs owner walk c → over_arcs n.arcs
    (λ i. net_count walk i *ℤ (pos n.period *ℤ shift node owner i))
    ≡ pos n.period *ℤ (offset_range node.offsets c).0
shifts_along n node owner walk c g =
    ap (λ (w : List SignedRow). over_arcs n.arcs (λ i. net_count w i *ℤ (pos n.period *ℤ shift node owner i))) g.begins
    ∙ net_count_sum n.arcs (plus_row g.row ∷ g.rest) (λ i. pos n.period *ℤ shift node owner i) g.rows
    ∙ along_cycle n node owner g.row g.rest c g.owns g.back

offset_is : (n : Net) (table : List (List SignedRow)) (node : Node) (owner count : ℕ → ℕ) (level : ℕ → ℤ) (c : ℕ)
    → AreOwned n.arcs table owner → AreIdle n.arcs table count → AreLevels n node owner count level
    → c < length table → HasOffset n (slack_at n node owner count level) (cycle_at table c)
    (offset_range node.offsets c).0
offset_is n table node owner count level c f idle levels h =
    let walk = cycle_at table c in
    let terms = sum_below-same (length n.arcs)
    (λ i. net_count walk i *ℤ ((arc_at n.arcs i).lower +ℤ pos (slack_at n node owner count level i)))
    (λ i. net_count walk i *ℤ rise n.arcs level i +ℤ net_count walk i *ℤ (pos n.period *ℤ shift node owner i))
    (λ i l. term_is n table node owner count level c i idle levels h l) in
    let apart = sum_below-add (length n.arcs) (λ i. net_count walk i *ℤ rise n.arcs level i)
    (λ i. net_count walk i *ℤ (pos n.period *ℤ shift node owner i)) in
    let none = rises_along n level owner walk c (f.walks c h) in
    let some = shifts_along n node owner walk c (f.walks c h) in
    omega (arith, ints, terms, apart, none, some)

-- levels that keep every bound give slacks that lie in the node
pub levels_give_slacks : (n : Net) (table : List (List SignedRow)) (node : Node) (owner count : ℕ → ℕ)
    (level : ℕ → ℤ) → AreOwned n.arcs table owner → IsFixed n table node → AreIdle n.arcs table count
    → AreLevels n node owner count level → (slacks : ℕ → ℕ) × LieIn n table slacks node
levels_give_slacks n table node owner count level f fixed idle levels = (
  slack_at n node owner count level,
  (
    slacks_in n table node owner count level fixed levels,
    λ c l. (
      (offset_range node.offsets c).0,
      offset_is n table node owner count level c f idle levels l,
      omega (arith, ints),
      omega (arith, ints, fixed.offsets c l),
    ),
  ),
)
