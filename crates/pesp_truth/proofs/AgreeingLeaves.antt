-- A leaf that is shut at a node is shut at each node that agrees with it in the rows of the leaf's cycles.
use Rattle.std.proofs.Common.{◌≡◌, ℕ, ◌+◌, ◌-◌, ◌<◌, inl, inr, List, [], ◌∷◌, length, refl, ap, sym, subst, ◌∙◌, arith, false}
use Rattle.std.specs.Prelude.{ℤ, pos, ◌+ℤ◌, ◌-ℤ◌, ◌*ℤ◌, ◌<ℤ◌, All, Option, option_map, IsNone, IsSomeAnd}
use Rattle.std.specs.Int.{int_min, int_max}
use Rattle.std.proofs.lemmas.Int.{ints, clamps}
use Rattle.std.proofs.lemmas.List.Elements.{All-head, All-tail}
use Rattle.pesp_problem.specs.declared.row.SignedRow.{SignedRow}
use Rattle.pesp_problem.specs.declared.pair.Pair.{Pair}
use Rattle.pesp_problem.specs.Sums.{scaled, floor_div, ceil_div}
use Rattle.pesp_problem.specs.Arcs.{Net, arc_at, over_arcs}
use Rattle.pesp_problem.specs.Walks.{Names, net_count}
use Rattle.pesp_problem.specs.Nodes.{Node, slack_range, offset_range, cycle_at, least_sum, greatest_sum, odijk_range, offsets_left, range_or_none, flow, offset_part, slack_part, leaf_value}
use Rattle.pesp_problem.specs.Families.{IsSupportedBy, NoFamilyIsSupported}
use Rattle.pesp_problem.proofs.Integers.{sum_below-same, zero-mul}
use Rattle.pesp_truth.proofs.Passing.{Rows, PairRows, net_none_or, flow_none_or}
use Rattle.pesp_truth.proofs.Agreeing.{Agree}

-- slack ranges that are the same for each row that has P
abbrev pub SameSlacks : (ℕ → Type 0) → ℕ → List (ℕ × ℕ) → List (ℕ × ℕ) → Type 0
SameSlacks P rows a b = (i : ℕ) → i < rows → P (i + 1) → slack_range a i ≡ slack_range b i

none_scaled : (low high : ℤ) → scaled (pos 0) low high ≡ pos 0
none_scaled low high = zero-mul low

-- a term that is scaled by the net count doesn't see other rows
same_scaled : (P : ℕ → Type 0) (way : List SignedRow) (i : ℕ) (f g : ℕ × ℕ → ℤ) (a b : ℕ × ℕ) → Rows P way
    → (P (i + 1) → a ≡ b) → scaled (net_count way i) (f a) (g a) ≡ scaled (net_count way i) (f b) (g b)
same_scaled P way i f g a b h same =
    elim (net_none_or P way i h) [
      | inl none ↦ rw (none) (none_scaled (f a) (g a) ∙ sym (none_scaled (f b) (g b)))
      | inr p ↦ ap (λ (r : ℕ × ℕ). scaled (net_count way i) (f r) (g r)) (same p)
    ]

same_least : (P : ℕ → Type 0) (n : Net) (a b : List (ℕ × ℕ)) (way : List SignedRow) → Rows P way
    → SameSlacks P (length n.arcs) a b → least_sum n.arcs a way ≡ least_sum n.arcs b way
same_least P n a b way h s = sum_below-same (length n.arcs) _ _
    (λ i l. same_scaled P way i (λ r. (arc_at n.arcs i).lower +ℤ pos r.0) (λ r. (arc_at n.arcs i).lower +ℤ pos r.1)
    (slack_range a i) (slack_range b i) h (s i l))

same_greatest : (P : ℕ → Type 0) (n : Net) (a b : List (ℕ × ℕ)) (way : List SignedRow) → Rows P way
    → SameSlacks P (length n.arcs) a b → greatest_sum n.arcs a way ≡ greatest_sum n.arcs b way
same_greatest P n a b way h s = sum_below-same (length n.arcs) _ _
    (λ i l. same_scaled P way i (λ r. (arc_at n.arcs i).lower +ℤ pos r.1) (λ r. (arc_at n.arcs i).lower +ℤ pos r.0)
    (slack_range a i) (slack_range b i) h (s i l))

-- and so a cycle's offsets don't see them
pub same_odijk : (P : ℕ → Type 0) (n : Net) (a b : List (ℕ × ℕ)) (way : List SignedRow) → Rows P way
    → SameSlacks P (length n.arcs) a b → odijk_range n a way ≡ odijk_range n b way
same_odijk P n a b way h s =
    let low = ap (λ (z : ℤ). ceil_div z n.period) (same_least P n a b way h s) in
    let high = ap (λ (z : ℤ). floor_div z n.period) (same_greatest P n a b way h s) in
    cc (low, high)

same_left : (P : ℕ → Type 0) (n : Net) (table : List (List SignedRow)) (a b : Node) (c : ℕ) → c < length table
    → Rows P (cycle_at table c) → Agree P (length n.arcs) table a b
    → offsets_left n table a c ≡ offsets_left n table b c
same_left P n table a b c l h k =
    let bounds = same_odijk P n a.slacks b.slacks (cycle_at table c) h k.slacks in
    let range = k.offsets c l h in
    ap (λ (r : ℤ × ℤ). range_or_none (int_max r.0 (odijk_range n a.slacks (cycle_at table c)).0)
    (int_min r.1 (odijk_range n a.slacks (cycle_at table c)).1)) range
    ∙ ap (λ (r : ℤ × ℤ). range_or_none (int_max (offset_range b.offsets c).0 r.0) (int_min (offset_range b.offsets c).1 r.1)) bounds

same_offset_part : (P : ℕ → Type 0) (n : Net) (table : List (List SignedRow)) (a b : Node) (pairs : List Pair)
    → All (λ (x : Pair). Names (length table) x.cycle) pairs → PairRows P table pairs
    → Agree P (length n.arcs) table a b → offset_part n table a pairs ≡ offset_part n table b pairs
same_offset_part P n table a b [] e h k = refl
same_offset_part P n table a b (pair ∷ pairs) e h k =
    let names = All-head (λ (x : Pair). Names (length table) x.cycle) pair pairs e in
    let left = same_left P n table a b (pair.cycle - 1) (omega (arith, names))
    (All-head (λ (x : Pair). Rows P (cycle_at table (x.cycle - 1))) pair pairs h) k in
    let rest = same_offset_part P n table a b pairs
    (All-tail (λ (x : Pair). Names (length table) x.cycle) pair pairs e)
    (All-tail (λ (x : Pair). Rows P (cycle_at table (x.cycle - 1))) pair pairs h) k in
    rw (left, rest) refl

-- 0 less 0 times either end is 0
no_part : (z : ℤ) (low high : ℕ) → z ≡ pos 0 → int_min ((pos 0 -ℤ z) *ℤ pos low) ((pos 0 -ℤ z) *ℤ pos high) ≡ pos 0
no_part z low high e =
    let none : pos 0 -ℤ z ≡ pos 0 = rw (e) refl in
    rw (none) (omega (arith, ints, clamps, zero-mul (pos low), zero-mul (pos high)))

same_slack_part : (P : ℕ → Type 0) (n : Net) (table : List (List SignedRow)) (a b : Node) (pairs : List Pair)
    (i : ℕ) → i < length n.arcs → PairRows P table pairs → Agree P (length n.arcs) table a b
    → slack_part n table a pairs false i ≡ slack_part n table b pairs false i
same_slack_part P n table a b pairs i l h k =
    elim (flow_none_or P table pairs i h) [
      | inl none ↦ no_part (flow table pairs i) (slack_range a.slacks i).0 (slack_range a.slacks i).1 none
          ∙ sym (no_part (flow table pairs i) (slack_range b.slacks i).0 (slack_range b.slacks i).1 none)
      | inr p ↦ ap (λ (r : ℕ × ℕ). int_min ((pos 0 -ℤ flow table pairs i) *ℤ pos r.0)
          ((pos 0 -ℤ flow table pairs i) *ℤ pos r.1)) (k.slacks i l p)
    ]

-- without weights a leaf is worth the same at both nodes
pub same_value : (P : ℕ → Type 0) (n : Net) (table : List (List SignedRow)) (a b : Node) (pairs : List Pair)
    → All (λ (x : Pair). Names (length table) x.cycle) pairs → PairRows P table pairs
    → Agree P (length n.arcs) table a b → leaf_value n table a pairs false ≡ leaf_value n table b pairs false
same_value P n table a b pairs e h k =
    let offsets = same_offset_part P n table a b pairs e h k in
    let slacks : over_arcs n.arcs (slack_part n table a pairs false)
    ≡ over_arcs n.arcs (slack_part n table b pairs false) =
    sum_below-same (length n.arcs) _ _ (λ i l. same_slack_part P n table a b pairs i l h k) in
    let lowers = over_arcs n.arcs (λ i. flow table pairs i *ℤ (arc_at n.arcs i).lower) in
    ap (λ (z : ℤ). option_map (λ (o : ℤ). pos n.period *ℤ o -ℤ lowers +ℤ z) (offset_part n table a pairs)) slacks
    ∙ ap (option_map (λ (o : ℤ). pos n.period *ℤ o -ℤ lowers +ℤ over_arcs n.arcs (slack_part n table b pairs false))) offsets

pub nothing_agrees : (P : ℕ → Type 0) (n : Net) (table : List (List SignedRow)) (a b : Node) (pairs : List Pair)
    → All (λ (x : Pair). Names (length table) x.cycle) pairs → PairRows P table pairs
    → Agree P (length n.arcs) table a b → IsSomeAnd (leaf_value n table a pairs false) (λ v. pos 0 <ℤ v)
    → IsSomeAnd (leaf_value n table b pairs false) (λ v. pos 0 <ℤ v)
nothing_agrees P n table a b pairs e h k s = subst (λ (o : Option ℤ). IsSomeAnd o (λ v. pos 0 <ℤ v))
    (same_value P n table a b pairs e h k) s

pub gap_agrees : (P : ℕ → Type 0) (n : Net) (table : List (List SignedRow)) (a b : Node) (cycle : ℕ)
    → Names (length table) cycle → Rows P (cycle_at table (cycle - 1)) → Agree P (length n.arcs) table a b
    → IsNone (offsets_left n table a (cycle - 1)) → IsNone (offsets_left n table b (cycle - 1))
gap_agrees P n table a b cycle e h k s = subst (λ (o : Option (ℤ × ℤ)). IsNone o)
    (same_left P n table a b (cycle - 1) (omega (arith, e)) h k) s

-- where all rows have P the ranges are the same, and so is what propagation finds
pub propagated_agrees : (P : ℕ → Type 0) (n : Net) (table : List (List SignedRow)) (a b : Node) (events : ℕ)
    → ((row : ℕ) → Names (length n.arcs) row → P row) → Agree P (length n.arcs) table a b
    → NoFamilyIsSupported n a.slacks events → NoFamilyIsSupported n b.slacks events
propagated_agrees P n table a b events all k none s family supported some =
    none s family (λ i l. subst (λ (r : ℕ × ℕ). IsSupportedBy n.period (arc_at n.arcs i) r s)
    (sym (k.slacks i l (all (i + 1) (omega arith, omega (arith, l))))) (supported i l)) some
