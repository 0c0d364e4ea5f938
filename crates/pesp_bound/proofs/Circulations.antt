-- A closed walk of negative bound gives multipliers of value above 0.
use Rattle.std.proofs.Common.{subst, ◌≡◌, ℕ, ◌+◌, ◌-◌, ◌<◌, ◌≤◌, ◌≢◌, inl, inr, Bool, true, false, List, [], ◌∷◌, ◌++◌, length, refl, ap, arith, sym, ◌∙◌}
use Rattle.std.specs.Prelude.{ℤ, pos, negsuc, ◌+ℤ◌, ◌-ℤ◌, ◌*ℤ◌, ◌≤ℤ◌, ◌<ℤ◌, neg_ℤ, All, ◌==◌, if◌then◌else◌, Option, Some, option_map, option_and_then, IsSomeAnd}
use Rattle.std.specs.Int.{int_min}
use Rattle.std.proofs.lemmas.Int.{ints, clamps}
use Rattle.std.proofs.lemmas.List.Elements.{All-head, All-tail, All-cons, All-nil, All-append}
use Rattle.pesp_problem.specs.declared.arc.Arc.{Arc}
use Rattle.pesp_problem.specs.declared.row.SignedRow.{SignedRow}
use Rattle.pesp_problem.specs.declared.pair.Pair.{Pair}
use Rattle.pesp_problem.specs.Sums.{sum_below, scaled}
use Rattle.pesp_problem.specs.Arcs.{Net, arc_at, over_arcs}
use Rattle.pesp_problem.specs.Walks.{Names, RowExists, AreRows, start, finish, Leads, sign, net_count}
use Rattle.pesp_problem.specs.Forests.{own_row}
use Rattle.pesp_problem.specs.Nodes.{Node, cycle_at, slack_range, offset_range, offset_part, flow, slack_part, leaf_value}
use Rattle.pesp_problem.proofs.Integers.{mul-add, mul-neg, add-mul, zero-mul, sum_below-same, sum_below-le, sum_below-add, sum_below-zero, sum_below-single}
use Rattle.pesp_problem.proofs.Walks.{step, step_same, step_other, net_count-cons, sum_along, net_count_sum}
use Rattle.pesp_problem.proofs.Counts.{eq-true, eq-false}
use Rattle.pesp_bound.specs.Differences.{over_pairs, AreCycleMultipliers, own_flow}
use Rattle.pesp_problem.proofs.Ways.{back, net_count-append, net_count-one, net_count-back, leads_append, leads_back, all_back}
use Rattle.pesp_bound.proofs.Owners.{none_or_some, InForest, plus_row, GoesBack, AreOwned}
use Rattle.pesp_bound.proofs.Levels.{shift, bound, IsFixed}

-- the term of a cycle by its number, 0 where the number is 0
abbrev of_owner : ℕ → (ℕ → ℤ) → ℤ
of_owner o term = if o == 0 then pos 0 else term (o - 1)

of_owner_free : (o : ℕ) (term : ℕ → ℤ) → o ≡ 0 → of_owner o term ≡ pos 0
of_owner_free o term e = ap (λ b. if b then pos 0 else term (o - 1)) (eq-true o 0 e)

of_owner_own : (o c : ℕ) (term : ℕ → ℤ) → o ≡ c + 1 → of_owner o term ≡ term c
of_owner_own o c term e =
    let less : o - 1 ≡ c = omega arith in
    let some : o ≢ 0 = λ z. omega arith in
    ap (λ b. if b then pos 0 else term (o - 1)) (eq-false o 0 some) ∙ ap term less

mul-zero : (a : ℤ) → a *ℤ pos 0 ≡ pos 0
mul-zero a = omega (arith, ints)

-- ---- detours through the forest

-- a way through the forest from a to b, with these net counts
record Detour (arcs : List Arc) (owner : ℕ → ℕ) (a b : ℕ) (count : ℕ → ℤ) : Type 0 where
  way : List SignedRow
  rows : AreRows arcs way
  forest : InForest owner way
  leads : Leads arcs a way b
  counts : (i : ℕ) → net_count way i ≡ count i

-- how often the cycle that owns the row at place j passes the row at place i
abbrev own_counts : List (List SignedRow) → (ℕ → ℕ) → ℕ → ℕ → ℤ
own_counts table owner i j = of_owner (owner j) (λ c. net_count (cycle_at table c) i)

-- the row of the forest itself
stays : (arcs : List Arc) (table : List (List SignedRow)) (owner : ℕ → ℕ) (s : SignedRow) → RowExists arcs s
    → owner (s.row - 1) ≡ 0 → Detour arcs owner (start arcs s) (finish arcs s)
    (λ i. step s i -ℤ sign s *ℤ own_counts table owner i (s.row - 1))
stays arcs table owner s h e =
    record {
      way = s ∷ [];
      rows = All-cons (RowExists arcs) s [] h (All-nil (RowExists arcs));
      forest = All-cons (λ (x : SignedRow). owner (x.row - 1) ≡ 0) s [] e (All-nil (λ (x : SignedRow). owner (x.row - 1) ≡ 0));
      leads = (refl, refl);
      counts = λ i. let none : sign s *ℤ own_counts table owner i (s.row - 1)
          ≡ pos 0 = ap (λ z. sign s *ℤ z) (of_owner_free (owner (s.row - 1))
          (λ c. net_count (cycle_at table c) i) e) ∙ mul-zero (sign s) in
          omega (arith, ints, net_count-one s i, none);
    }

-- the fundamental walk of a row, cut behind the row
record Cycle (arcs : List Arc) (table : List (List SignedRow)) (owner : ℕ → ℕ) (k : ℕ) : Type 0 where
  rest : List SignedRow
  rows : AreRows arcs rest
  forest : InForest owner rest
  leads : Leads arcs (arc_at arcs (k - 1)).head rest (arc_at arcs (k - 1)).tail
  counts : (i : ℕ) → own_counts table owner i (k - 1) ≡ step (plus_row k) i +ℤ net_count rest i

cycle_of : (arcs : List Arc) (table : List (List SignedRow)) (owner : ℕ → ℕ) (k c : ℕ) → owner (k - 1) ≡ c + 1
    → own_row (cycle_at table c) ≡ k → GoesBack arcs owner (cycle_at table c) c → Cycle arcs table owner k
cycle_of arcs table owner k c o own g =
    let same : g.row ≡ k = sym (ap own_row g.begins) ∙ own in
    let leads = subst (λ (r : ℕ). Leads arcs (arc_at arcs (r - 1)).head g.rest (arc_at arcs (r - 1)).tail) same g.leads in
    record {
      rest = g.rest;
      rows = All-tail (RowExists arcs) (plus_row g.row) g.rest g.rows;
      forest = g.back;
      leads = leads;
      counts = λ i. of_owner_own (owner (k - 1)) c (λ x. net_count (cycle_at table x) i) o
          ∙ ap (λ (w : List SignedRow). net_count w i) g.begins ∙ net_count-cons (plus_row g.row) g.rest i
          ∙ ap (λ (r : ℕ). step (plus_row r) i +ℤ net_count g.rest i) same;
    }

goes_through : (arcs : List Arc) (table : List (List SignedRow)) (owner : ℕ → ℕ) (k : ℕ)
    → AreOwned arcs table owner → 1 ≤ k → 0 < owner (k - 1) → Cycle arcs table owner k
goes_through arcs table owner k f one some =
    let o = f.owned (k - 1) some in
    let again : k - 1 + 1 ≡ k = omega arith in
    cycle_of arcs table owner k o.0 o.2 (o.3 ∙ again) (f.walks o.0 o.1)

steps_as : (b : Bool) (k i : ℕ) → step (record { row = k; plus = b }) i ≡ (if b then pos 1 else negsuc 0) *ℤ step (plus_row k) i
steps_as true k i = omega (arith, ints)
steps_as false k i = steps_turned (k == i + 1)
  where
    steps_turned : (here : Bool) → (if here then negsuc 0 else pos 0) ≡ negsuc 0 *ℤ (if here then pos 1 else pos 0)
    steps_turned true = refl
    steps_turned false = refl

around : (arcs : List Arc) (table : List (List SignedRow)) (owner : ℕ → ℕ) (k : ℕ) (plus : Bool)
    → Cycle arcs table owner k → Detour arcs owner (start arcs (record { row = k; plus = plus }))
    (finish arcs (record { row = k; plus = plus }))
    (λ i. step (record { row = k; plus = plus }) i -ℤ sign (record { row = k; plus = plus })
    *ℤ own_counts table owner i (k - 1))
around arcs table owner k true c =
    record {
      way = back c.rest;
      rows = all_back (Names (length arcs)) c.rest c.rows;
      forest = all_back (λ (x : ℕ). owner (x - 1) ≡ 0) c.rest c.forest;
      leads = leads_back arcs c.rest (arc_at arcs (k - 1)).head (arc_at arcs (k - 1)).tail c.leads;
      counts = λ i. omega (arith, ints, net_count-back c.rest i, c.counts i);
    }
around arcs table owner k false c =
    record {
      way = c.rest;
      rows = c.rows;
      forest = c.forest;
      leads = c.leads;
      counts = λ i. omega (arith, ints, c.counts i, steps_as false k i);
    }

row_detour : (arcs : List Arc) (table : List (List SignedRow)) (owner : ℕ → ℕ) (s : SignedRow)
    → AreOwned arcs table owner → RowExists arcs s
    → Detour arcs owner (start arcs s) (finish arcs s)
    (λ i. step s i -ℤ sign s *ℤ own_counts table owner i (s.row - 1))
row_detour arcs table owner s f h =
    elim (none_or_some (owner (s.row - 1))) [
      | inl e ↦ stays arcs table owner s h e
      | inr some ↦ around arcs table owner s.row s.plus (goes_through arcs table owner s.row f h.0 some)
    ]

walk_detour : (arcs : List Arc) (table : List (List SignedRow)) (owner : ℕ → ℕ) (walk : List SignedRow) (a b : ℕ)
    → AreOwned arcs table owner → AreRows arcs walk → Leads arcs a walk b
    → Detour arcs owner a b (λ i. net_count walk i -ℤ sum_along walk (own_counts table owner i))
walk_detour arcs table owner [] a b f h l =
    record { way = []; rows = h; forest = All-nil (λ (x : SignedRow). owner (x.row - 1) ≡ 0); leads = l; counts = λ i. omega (arith, ints) }
walk_detour arcs table owner (s ∷ walk) a b f h l =
    let first = row_detour arcs table owner s f (All-head (RowExists arcs) s walk h) in
    let rest = walk_detour arcs table owner walk (finish arcs s) b f (All-tail (RowExists arcs) s walk h) l.1 in
    record {
      way = first.way ++ rest.way;
      rows = All-append (RowExists arcs) first.way rest.way first.rows rest.rows;
      forest = All-append (λ (x : SignedRow). owner (x.row - 1) ≡ 0) first.way rest.way first.forest rest.forest;
      leads = leads_append arcs first.way rest.way a (finish arcs s) b
          (subst (λ (x : ℕ). Leads arcs x first.way (finish arcs s)) l.0 first.leads) rest.leads;
      counts = λ i. omega (arith, ints, net_count-append first.way rest.way i, first.counts i, rest.counts i, net_count-cons s walk i);
    }

closed_is_zero : (arcs : List Arc) (table : List (List SignedRow)) (owner : ℕ → ℕ) (way : List SignedRow) (a i : ℕ)
    → AreOwned arcs table owner → AreRows arcs way → InForest owner way → Leads arcs a way a
    → net_count way i ≡ pos 0
closed_is_zero arcs table owner [] a i f h k l = refl
closed_is_zero arcs table owner (s ∷ way) a i f h k l =
    f.no_cycle (s ∷ way) i (h, (refl, subst (λ (x : ℕ). Leads arcs (finish arcs s) way x) (sym l.0) l.1)) k

-- the net counts of a closed walk are those of the fundamental walks that it turns
counts_are : (arcs : List Arc) (table : List (List SignedRow)) (owner : ℕ → ℕ) (walk : List SignedRow) (a i : ℕ)
    → AreOwned arcs table owner → AreRows arcs walk → Leads arcs a walk a
    → net_count walk i ≡ sum_along walk (own_counts table owner i)
counts_are arcs table owner walk a i f h l =
    let d = walk_detour arcs table owner walk a a f h l in
    omega (arith, ints, d.counts i, closed_is_zero arcs table owner d.way a i f d.rows d.forest d.leads)

-- ---- sums over the cycles

abbrev own_place : List (List SignedRow) → ℕ → ℕ
own_place table c = own_row (cycle_at table c) - 1

-- a row that the cycle c doesn't own doesn't count for it
others_turn : (arcs : List Arc) (table : List (List SignedRow)) (owner : ℕ → ℕ) (s : SignedRow) (c : ℕ) (t : ℤ)
    → AreOwned arcs table owner → RowExists arcs s → c < length table → owner (s.row - 1) ≢ c + 1
    → step s (own_place table c) *ℤ t ≡ pos 0
others_turn arcs table owner s c t f h l ne =
    let g = f.walks c l in
    let own : own_row (cycle_at table c) ≡ g.row = ap own_row g.begins in
    let one = h.0 in
    let differ : s.row ≢ own_place table c + 1 = λ e.
    let place : s.row - 1 ≡ g.row - 1 = omega (arith, e, own) in
    ne (ap owner place ∙ g.owns) in
    ap (λ z. z *ℤ t) (step_other s (own_place table c) differ) ∙ zero-mul t

one_turn : (arcs : List Arc) (table : List (List SignedRow)) (owner : ℕ → ℕ) (s : SignedRow) (term : ℕ → ℤ)
    → AreOwned arcs table owner → RowExists arcs s
    → sum_below (length table) (λ c. step s (own_place table c) *ℤ term c)
    ≡ sign s *ℤ of_owner (owner (s.row - 1)) term
one_turn arcs table owner s term f h =
    elim (none_or_some (owner (s.row - 1))) [
      | inl e ↦ sum_below-zero (length table) (λ c. step s (own_place table c) *ℤ term c)
          (λ c l. others_turn arcs table owner s c (term c) f h l (λ k. omega arith))
          ∙ sym (ap (λ x. sign s *ℤ x) (of_owner_free (owner (s.row - 1)) term e) ∙ mul-zero (sign s))
      | inr some ↦
          let o = f.owned (s.row - 1) some in
          let one = h.0 in
          let own = o.3 in
          let is = o.2 in
          let here : s.row ≡ own_place table o.0 + 1 = omega (arith, own, one) in
          sum_below-single (length table) o.0 (λ c. step s (own_place table c) *ℤ term c) o.1
          (λ c l ne. others_turn arcs table owner s c (term c) f h l (λ k. ne (omega (arith, k, is))))
          ∙ ap (λ z. z *ℤ term o.0) (step_same s (own_place table o.0) here)
          ∙ ap (λ x. sign s *ℤ x) (sym (of_owner_own (owner (s.row - 1)) o.0 term o.2))
    ]

-- the terms of the cycles, as often as a walk turns them
sum_turns : (arcs : List Arc) (table : List (List SignedRow)) (owner : ℕ → ℕ) (walk : List SignedRow)
    (term : ℕ → ℤ) → AreOwned arcs table owner → AreRows arcs walk
    → sum_below (length table) (λ c. own_flow table (net_count walk) c *ℤ term c)
    ≡ sum_along walk (λ j. of_owner (owner j) term)
sum_turns arcs table owner [] term f h = sum_below-zero (length table)
    (λ c. own_flow table (net_count []) c *ℤ term c) (λ c l. zero-mul (term c))
sum_turns arcs table owner (s ∷ walk) term f h =
    let n = length table in
    let split = sum_below-same n (λ c. own_flow table (net_count (s ∷ walk)) c *ℤ term c)
    (λ c. step s (own_place table c) *ℤ term c +ℤ own_flow table (net_count walk) c *ℤ term c)
    (λ c l. ap (λ z. z *ℤ term c) (net_count-cons s walk (own_place table c))
    ∙ add-mul (step s (own_place table c)) (own_flow table (net_count walk) c) (term c)) in
    let apart = sum_below-add n (λ c. step s (own_place table c) *ℤ term c) (λ c. own_flow table (net_count walk) c *ℤ term c) in
    let first = one_turn arcs table owner s term f (All-head (RowExists arcs) s walk h) in
    let rest = sum_turns arcs table owner walk term f (All-tail (RowExists arcs) s walk h) in
    omega (arith, ints, split, apart, first, rest)

-- ---- sums over the pairs

flow_is : (table : List (List SignedRow)) (pairs : List Pair) (i : ℕ)
    → flow table pairs i ≡ over_pairs pairs (λ c. net_count (cycle_at table c) i)
flow_is table [] i = refl
flow_is table (pair ∷ pairs) i = ap (λ z. pair.mult *ℤ net_count (cycle_at table (pair.cycle - 1)) i +ℤ z) (flow_is table pairs i)

scaled-same : (c z : ℤ) → scaled c z z ≡ c *ℤ z
scaled-same (pos m) z = refl
scaled-same (negsuc m) z = refl

offset_part_is : (n : Net) (table : List (List SignedRow)) (node : Node) (pairs : List Pair) → IsFixed n table node
    → All (λ (x : Pair). Names (length table) x.cycle) pairs
    → offset_part n table node pairs ≡ Some (over_pairs pairs (λ c. (offset_range node.offsets c).0))
offset_part_is n table node [] fixed h = refl
offset_part_is n table node (pair ∷ pairs) fixed h =
    let names = All-head (λ (x : Pair). Names (length table) x.cycle) pair pairs h in
    let z = (offset_range node.offsets (pair.cycle - 1)).0 in
    let left = fixed.left (pair.cycle - 1) (omega (arith, names)) in
    let rest = offset_part_is n table node pairs fixed (All-tail (λ (x : Pair). Names (length table) x.cycle) pair pairs h) in
    ap (λ (x : Option (ℤ × ℤ)). option_and_then
    (λ l. option_map (λ r. scaled pair.mult l.0 l.1 +ℤ r) (offset_part n table node pairs)) x) left
    ∙ ap (λ (x : Option ℤ). option_map (λ r. scaled pair.mult z z +ℤ r) x) rest
    ∙ ap (λ (x : ℤ). Some (x +ℤ over_pairs pairs (λ c. (offset_range node.offsets c).0))) (scaled-same pair.mult z)

-- ---- what the slacks give at least

abbrev gain : Node → ℕ → ℤ → ℤ
gain node i f = int_min ((pos 0 -ℤ f) *ℤ pos (slack_range node.slacks i).0) ((pos 0 -ℤ f) *ℤ pos (slack_range node.slacks i).1)

less-mul : (a b x : ℤ) → (pos 0 -ℤ (a +ℤ b)) *ℤ x ≡ (pos 0 -ℤ a) *ℤ x +ℤ (pos 0 -ℤ b) *ℤ x
less-mul a b x =
    let inner : pos 0 -ℤ (a +ℤ b) ≡ (pos 0 -ℤ a) +ℤ (pos 0 -ℤ b) = omega (arith, ints) in
    ap (λ z. z *ℤ x) inner ∙ add-mul (pos 0 -ℤ a) (pos 0 -ℤ b) x

min-add : (a b c d : ℤ) → (int_min a b +ℤ int_min c d) ≤ℤ int_min (a +ℤ c) (b +ℤ d)
min-add a b c d = omega (arith, ints, clamps)

gain-add : (node : Node) (i : ℕ) (a b : ℤ) → (gain node i a +ℤ gain node i b) ≤ℤ gain node i (a +ℤ b)
gain-add node i a b =
    let lo = pos (slack_range node.slacks i).0 in
    let hi = pos (slack_range node.slacks i).1 in
    let same : int_min ((pos 0 -ℤ a) *ℤ lo +ℤ (pos 0 -ℤ b) *ℤ lo) ((pos 0 -ℤ a) *ℤ hi +ℤ (pos 0 -ℤ b) *ℤ hi)
    ≡ gain node i (a +ℤ b) = ap (λ z. int_min z ((pos 0 -ℤ a) *ℤ hi +ℤ (pos 0 -ℤ b) *ℤ hi))
    (sym (less-mul a b lo)) ∙ ap (λ z. int_min ((pos 0 -ℤ (a +ℤ b)) *ℤ lo) z) (sym (less-mul a b hi)) in
    subst (λ z. (gain node i a +ℤ gain node i b) ≤ℤ z) same
    (min-add ((pos 0 -ℤ a) *ℤ lo) ((pos 0 -ℤ a) *ℤ hi) ((pos 0 -ℤ b) *ℤ lo) ((pos 0 -ℤ b) *ℤ hi))

-- what one signed row gives
abbrev piece : Node → SignedRow → ℤ
piece node s = if s.plus then neg_ℤ (pos (slack_range node.slacks (s.row - 1)).1) else pos (slack_range node.slacks (s.row - 1)).0

abbrev pieces : Node → List SignedRow → ℤ
pieces node [] = pos 0
pieces node (s ∷ walk) = piece node s +ℤ pieces node walk

ends : (lo hi : ℕ) (b : Bool) → lo ≤ hi → int_min ((pos 0 -ℤ (if b then pos 1 else negsuc 0)) *ℤ pos lo)
    ((pos 0 -ℤ (if b then pos 1 else negsuc 0)) *ℤ pos hi) ≡ (if b then neg_ℤ (pos hi) else pos lo)
ends lo hi true h = let a : (pos 0 -ℤ pos 1) *ℤ pos lo ≡ neg_ℤ (pos lo) = omega (arith, ints) in
    let b : (pos 0 -ℤ pos 1) *ℤ pos hi ≡ neg_ℤ (pos hi) = omega (arith, ints) in omega (arith, ints, clamps)
ends lo hi false h = let a : (pos 0 -ℤ negsuc 0) *ℤ pos lo ≡ pos lo = omega (arith, ints) in
    let b : (pos 0 -ℤ negsuc 0) *ℤ pos hi ≡ pos hi = omega (arith, ints) in omega (arith, ints, clamps)

gain-zero : (node : Node) (i : ℕ) → gain node i (pos 0) ≡ pos 0
gain-zero node i = let a : (pos 0 -ℤ pos 0) *ℤ pos (slack_range node.slacks i).0 ≡ pos 0 = omega (arith, ints) in
    let b : (pos 0 -ℤ pos 0) *ℤ pos (slack_range node.slacks i).1 ≡ pos 0 = omega (arith, ints) in
    omega (arith, ints, clamps)

step_gain : (n : Net) (table : List (List SignedRow)) (node : Node) (s : SignedRow) → IsFixed n table node
    → RowExists n.arcs s → over_arcs n.arcs (λ i. gain node i (step s i)) ≡ piece node s
step_gain n table node s fixed h =
    let i = s.row - 1 in
    sum_below-single (length n.arcs) i (λ j. gain node j (step s j)) (omega (arith, h))
    (λ j l ne. ap (λ z. gain node j z) (step_other s j (λ e. ne (omega arith))) ∙ gain-zero node j)
    ∙ ap (λ z. gain node i z) (step_same s i (omega (arith, h)))
    ∙ ends (slack_range node.slacks i).0 (slack_range node.slacks i).1 s.plus (fixed.slacks i (omega (arith, h)))

walk_gain : (n : Net) (table : List (List SignedRow)) (node : Node) (walk : List SignedRow) → IsFixed n table node
    → AreRows n.arcs walk → pieces node walk ≤ℤ over_arcs n.arcs (λ i. gain node i (net_count walk i))
walk_gain n table node [] fixed h = let none =
    sum_below-zero (length n.arcs) (λ i. gain node i (net_count [] i)) (λ i l. gain-zero node i) in
    omega (arith, ints, none)
walk_gain n table node (s ∷ walk) fixed h =
    let count = length n.arcs in
    let more = sum_below-le count (λ i. gain node i (step s i) +ℤ gain node i (net_count walk i))
    (λ i. gain node i (net_count (s ∷ walk) i))
    (λ i l. subst (λ z. (gain node i (step s i) +ℤ gain node i (net_count walk i)) ≤ℤ gain node i z)
    (sym (net_count-cons s walk i)) (gain-add node i (step s i) (net_count walk i))) in
    let apart = sum_below-add count (λ i. gain node i (step s i)) (λ i. gain node i (net_count walk i)) in
    let first = step_gain n table node s fixed (All-head (RowExists n.arcs) s walk h) in
    let rest = walk_gain n table node walk fixed (All-tail (RowExists n.arcs) s walk h) in
    omega (arith, ints, more, apart, first, rest)

-- ---- the value

-- the sum of the bounds along a walk
abbrev pub total : Net → Node → (ℕ → ℕ) → List SignedRow → ℤ
total n node owner [] = pos 0
total n node owner (s ∷ walk) = bound n node owner s +ℤ total n node owner walk

-- a closed walk of negative bound
pub record Falls (n : Net) (node : Node) (owner : ℕ → ℕ) (walk : List SignedRow) : Type 0 where
  pub rows : AreRows n.arcs walk
  pub event : ℕ
  pub closes : Leads n.arcs event walk event
  pub falls : total n node owner walk <ℤ pos 0

signed_bound : (b : Bool) (t sh lower lo hi : ℤ)
    → t *ℤ ((if b then pos 1 else negsuc 0) *ℤ sh) -ℤ (if b then pos 1 else negsuc 0) *ℤ lower
    +ℤ (if b then neg_ℤ hi else lo) ≡ neg_ℤ (if b then lower +ℤ hi -ℤ t *ℤ sh else t *ℤ sh -ℤ (lower +ℤ lo))
signed_bound true t sh lower lo hi = let e : pos 1 *ℤ sh ≡ sh = omega (arith, ints) in
    let f : pos 1 *ℤ lower ≡ lower = omega (arith, ints) in
    let g : t *ℤ (pos 1 *ℤ sh) ≡ t *ℤ sh = ap (λ z. t *ℤ z) e in omega (arith, ints, f, g)
signed_bound false t sh lower lo hi = let e : negsuc 0 *ℤ sh ≡ neg_ℤ sh = omega (arith, ints) in
    let f : negsuc 0 *ℤ lower ≡ neg_ℤ lower = omega (arith, ints) in
    let g : t *ℤ (negsuc 0 *ℤ sh) ≡ neg_ℤ (t *ℤ sh) = ap (λ z. t *ℤ z) e ∙ mul-neg t sh in omega (arith, ints, f, g)

total_is : (n : Net) (node : Node) (owner : ℕ → ℕ) (walk : List SignedRow)
    → pos n.period *ℤ sum_along walk (λ i. shift node owner i) -ℤ sum_along walk (λ i. (arc_at n.arcs i).lower)
    +ℤ pieces node walk ≡ neg_ℤ (total n node owner walk)
total_is n node owner [] = omega (arith, ints)
total_is n node owner (s ∷ walk) =
    let i = s.row - 1 in
    let here = signed_bound s.plus (pos n.period) (shift node owner i) (arc_at n.arcs i).lower
    (pos (slack_range node.slacks i).0) (pos (slack_range node.slacks i).1) in
    let rest = total_is n node owner walk in
    let apart = mul-add (pos n.period) (sign s *ℤ shift node owner i) (sum_along walk (λ j. shift node owner j)) in
    omega (arith, ints, here, rest, apart)

pub falls_is_nothing : (n : Net) (table : List (List SignedRow)) (node : Node) (owner : ℕ → ℕ)
    (walk : List SignedRow) (pairs : List Pair) → AreOwned n.arcs table owner → IsFixed n table node
    → Falls n node owner walk → All (λ (x : Pair). Names (length table) x.cycle) pairs
    → AreCycleMultipliers (length table) (own_flow table (net_count walk)) pairs
    → IsSomeAnd (leaf_value n table node pairs false) (λ v. pos 0 <ℤ v)
falls_is_nothing n table node owner walk pairs f fixed falls exist m =
    let count = length n.arcs in
    let flows : (i : ℕ) → flow table pairs i ≡ net_count walk i = λ i. flow_is table pairs i
    ∙ m (λ c. net_count (cycle_at table c) i) ∙ sum_turns n.arcs table owner walk
    (λ c. net_count (cycle_at table c) i) f falls.rows
    ∙ sym (counts_are n.arcs table owner walk falls.event i f falls.rows falls.closes) in
    let offsets = m (λ c. (offset_range node.offsets c).0)
    ∙ sum_turns n.arcs table owner walk (λ c. (offset_range node.offsets c).0) f falls.rows in
    let lowers = sum_below-same count (λ i. flow table pairs i *ℤ (arc_at n.arcs i).lower)
    (λ i. net_count walk i *ℤ (arc_at n.arcs i).lower)
    (λ i l. ap (λ z. z *ℤ (arc_at n.arcs i).lower) (flows i))
    ∙ net_count_sum n.arcs walk (λ i. (arc_at n.arcs i).lower) falls.rows in
    let gains = sum_below-same count (slack_part n table node pairs false) (λ i. gain node i (net_count walk i))
    (λ i l. ap (λ z. gain node i z) (flows i)) in
    let most = walk_gain n table node walk fixed falls.rows in
    let all = total_is n node owner walk in
    let turned = ap (λ z. pos n.period *ℤ z) offsets in
    let value : pos 0 <ℤ (pos n.period *ℤ over_pairs pairs
    (λ c. (offset_range node.offsets c).0) -ℤ over_arcs n.arcs
    (λ i. flow table pairs i *ℤ (arc_at n.arcs i).lower)
    +ℤ over_arcs n.arcs (slack_part n table node pairs false)) =
    omega (arith, ints, turned, lowers, gains, most, all, falls.falls) in
    subst (λ (x : Option ℤ). IsSomeAnd (option_map
    (λ part. pos n.period *ℤ part -ℤ over_arcs n.arcs (λ i. flow table pairs i *ℤ (arc_at n.arcs i).lower)
    +ℤ over_arcs n.arcs (slack_part n table node pairs false)) x) (λ v. pos 0 <ℤ v))
    (sym (offset_part_is n table node pairs fixed exist)) value
