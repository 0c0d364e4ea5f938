-- What the outcome of the edges means at a decided node.
use Rattle.std.proofs.Common.{subst, ◌≡◌, ℕ, suc, ◌+◌, ◌-◌, ◌<◌, ◌≤◌, inl, inr, Bool, true, false, List, [], ◌∷◌, length, refl, ap, arith, sym, ◌∙◌}
use Rattle.std.specs.Prelude.{ℤ, pos, ◌+ℤ◌, ◌*ℤ◌, ◌≤ℤ◌, ◌<ℤ◌, int_le, All, unsigned_abs, IsSomeAnd, Option, Some, None, if◌then◌else◌, ◌==◌, slice_index_or}
use Rattle.std.specs.Int.{int_min, int_max}
use Rattle.std.proofs.lemmas.Int.{ints, clamps}
use Rattle.std.proofs.lemmas.List.{length-map, get_or-map}
use Rattle.std.proofs.lemmas.List.Elements.{All-cons, All-nil, All-head}
use Rattle.pesp_problem.specs.declared.arc.Arc.{Arc}
use Rattle.pesp_problem.specs.declared.row.SignedRow.{SignedRow}
use Rattle.pesp_problem.specs.declared.pair.Pair.{Pair}
use Rattle.pesp_problem.specs.Arcs.{Net, arc_at, no_arc}
use Rattle.pesp_problem.specs.Walks.{Names, RowExists, AreRows, IsWalk, Leads, net_count}
use Rattle.pesp_problem.specs.Forests.{HaveNoCycle, own_row}
use Rattle.pesp_problem.specs.Nodes.{Node, cycle_at, slack_range, offset_range, offsets_left, odijk_range, range_or_none, leaf_value}
use Rattle.pesp_problem.proofs.Integers.{sum_below-same, sum_below-single}
use Rattle.pesp_network.specs.Networks.{arc_of_net, net_row_at, no_net_row, KeepsNetLimits}
use Rattle.pesp_nodes.specs.declared.passages.Passage.{Passage}
use Rattle.pesp_nodes.specs.Passages.{ArePassages, ArePassagesOf, passages_at, sum_over}
use Rattle.pesp_nodes.specs.Problems.{ProblemValue, problem_net, ArePairs}
use Rattle.pesp_problem.proofs.Counts.{eq-true, eq-false}
use Rattle.pesp_bound.specs.declared.edge.Edge.{Edge}
use Rattle.pesp_bound.specs.Settling.{edge_at, EdgesAreWithin, AreSettled, IsEdgeWay, GainsForEver, gains, losses}
use Rattle.pesp_bound.specs.Decided.{IsDecided}
use Rattle.pesp_bound.specs.Differences.{IsShift, shift_at, rise_bound, bound_of, IsDemand, AreDemands, IsSystem, signed_at, no_signed, ArePassed, walk_along, own_flow, AreCycleMultipliers}
use Rattle.pesp_bound.proofs.Gathering.{own_row_names, small_counts}
use Rattle.pesp_bound.proofs.Owners.{AreOwned, are_owned, owner_of}
use Rattle.pesp_bound.proofs.Levels.{shift, bound, AreLevels, AreIdle, IsFixed, shift_free, shift_own, levels_give_slacks}
use Rattle.pesp_bound.proofs.Circulations.{total, Falls, falls_is_nothing}

abbrev both : ℤ → ℤ × ℤ
both z = (z, z)

-- ---- an offset range of one value that is no gap

from_test : (a b : ℤ) → int_le a b ≡ true → a ≤ℤ b
from_test a b h = grind (arith, ints)

one_left_by : (z a b : ℤ) (test : Bool) → int_le (int_max z a) (int_min z b) ≡ test
    → (range_or_none (int_max z a) (int_min z b) ≡ None → ⊥)
    → range_or_none (int_max z a) (int_min z b) ≡ Some (both z)
one_left_by z a b true e h =
    let order = from_test (int_max z a) (int_min z b) e in
    let low : int_max z a ≡ z = omega (arith, ints, clamps, order) in
    let high : int_min z b ≡ z = omega (arith, ints, clamps, order) in
    let none : Option (ℤ × ℤ) = None in
    let test = ap (λ t. if t then Some (int_max z a, int_min z b) else none) e in
    test ∙ ap (λ x. Some (x, int_min z b)) low ∙ ap (λ x. Some (z, x)) high
one_left_by z a b false e h =
    let none : Option (ℤ × ℤ) = None in
    absurd (h (ap (λ t. if t then Some (int_max z a, int_min z b) else none) e))

one_left : (z w a b : ℤ) → z ≡ w → (range_or_none (int_max z a) (int_min w b) ≡ None → ⊥)
    → range_or_none (int_max z a) (int_min w b) ≡ Some (both z)
one_left z w a b e h = subst (λ x. (range_or_none (int_max z a) (int_min x b) ≡ None → ⊥)
    → range_or_none (int_max z a) (int_min x b) ≡ Some (both z)) e
    (λ k. one_left_by z a b (int_le (int_max z a) (int_min z b)) refl k) h

pub length_arcs : (p : ProblemValue) → length (problem_net p).arcs ≡ length p.network.rows
length_arcs p = length-map p.network.rows arc_of_net

fixed_of : (p : ProblemValue) (node : Node) → IsDecided p node → IsFixed (problem_net p) p.table node
fixed_of p node d = record {
  slacks = λ i l. d.slacks i (omega (arith, l, length_arcs p));
  offsets = d.offsets;
  left = λ c l.
      let bounds = odijk_range (problem_net p) node.slacks (cycle_at p.table c) in
      one_left (offset_range node.offsets c).0 (offset_range node.offsets c).1 bounds.0 bounds.1 (d.offsets c l) (d.left c l);
}

-- ---- the system of a node

some_same : {X : Type 0} (x y : X) → Some x ≡ Some y → x ≡ y
some_same x y e = cc

shift_is : (n : Net) (table : List (List SignedRow)) (node : Node) (owner : ℕ → ℕ) (i : ℕ) (s : ℤ × ℤ)
    → IsFixed n table node → AreOwned n.arcs table owner → IsShift n table node (owner i) s
    → s ≡ both (shift node owner i)
shift_is n table node owner i s fixed f h =
    elim h [
      | inl e ↦ e.1 ∙ ap both (sym (shift_free node owner i e.0))
      | inr e ↦
          let o = f.owned i e.0 in
          let is = o.2 in
          let l = o.1 in
          let back : owner i - 1 ≡ o.0 = omega (arith, is) in
          let left = ap (λ k. offsets_left n table node k) (sym back) ∙ e.1 in
          some_same s (both (offset_range node.offsets o.0).0) (sym left ∙ fixed.left o.0 l)
          ∙ ap both (sym (shift_own node owner i o.0 o.2))
    ]

bound_is : (n : Net) (table : List (List SignedRow)) (node : Node) (rows : List SignedRow) (edges : List Edge)
    (s : SignedRow) → IsFixed n table node → AreOwned n.arcs table (owner_of table)
    → (y : IsSystem n table node rows edges) → RowExists n.arcs s
    → bound_of n node.slacks y.shifts s ≡ bound n node (owner_of table) s
bound_is n table node rows edges s fixed f y names =
    let i = s.row - 1 in
    let long = y.long in
    let same = shift_is n table node (owner_of table) i (shift_at y.shifts i) fixed f (y.are_shifts i (omega (arith, names, long))) in
    ap (λ (x : ℤ × ℤ). rise_bound n.period (arc_at n.arcs i) (slack_range node.slacks i) x s.plus) same

abbrev count_of : List (List Passage) → ℕ → ℕ
count_of by_row i = length (passages_at by_row i)

-- ---- rows that no cycle passes

no_items : {X : Type 0} (xs : List X) → length xs ≡ 0 → xs ≡ []
no_items [] e = refl
no_items (x ∷ xs) e = absurd (omega (arith, e))

abbrev only_at : ℕ → ℕ → ℤ → ℤ
only_at c d z = if d == c + 1 then z else pos 0

only_zero : (b : Bool) → (if b then pos 0 else pos 0) ≡ pos 0
only_zero true = refl
only_zero false = refl

idle_is : (m : ℕ) (walks : List (List SignedRow)) (i c : ℕ) (passages : List Passage)
    → ArePassagesOf m walks i passages → passages ≡ [] → c < m → net_count (cycle_at walks c) i ≡ pos 0
idle_is m walks i c passages h e l =
    let all = h (only_at c) (λ d. only_zero (d == c + 1)) in
    let none = ap (λ (x : List Passage). sum_over (only_at c) x) e in
    let one = sum_below-single m c (λ d. only_at c (d + 1) (net_count (cycle_at walks d) i)) l
    (λ d k ne. ap (λ b. if b then net_count (cycle_at walks d) i else pos 0)
    (eq-false (d + 1) (c + 1) (λ s. ne (omega arith)))) in
    let here = ap (λ b. if b then net_count (cycle_at walks c) i else pos 0) (eq-true (c + 1) (c + 1) refl) in
    sym here ∙ sym one ∙ sym all ∙ none

are_idle : (n : Net) (table : List (List SignedRow)) (by_row : List (List Passage))
    → ArePassages (length n.arcs) (length table) table by_row → AreIdle n.arcs table (count_of by_row)
are_idle n table by_row h i l e c k = idle_is (length table) table i c (passages_at by_row i) (h.each i l)
    (no_items (passages_at by_row i) e) k

-- ---- edges between the events

end_below : (plus : Bool) (tail head events : ℕ) → tail < events → head < events → (if plus then tail else head) < events
end_below true tail head events h k = h
end_below false tail head events h k = k

-- the edges of a system lie between the network's events
pub within_of : (p : ProblemValue) (node : Node) (rows : List SignedRow) (edges : List Edge)
    → KeepsNetLimits p.network → IsSystem (problem_net p) p.table node rows edges
    → EdgesAreWithin p.network.events 10300001030000 edges
within_of p node rows edges limits y k l =
    let n = problem_net p in
    let long = y.demands.long in
    let in_rows : k < length rows = omega (arith, l, long) in
    let s = signed_at rows k in
    let d = y.demands.each k in_rows in
    let e = y.passed.exist k no_signed in_rows in
    let by_long = y.passages.long in
    let i = s.row - 1 in
    let in_net : i < length p.network.rows = omega (arith, e, by_long, length_arcs p) in
    let arc : arc_at n.arcs i ≡ arc_of_net (net_row_at p.network.rows i) =
    get_or-map arc_of_net p.network.rows i no_net_row no_arc in_net in
    let keeps = limits.each i no_net_row in_net in
    let tail : (arc_at n.arcs i).tail < p.network.events = let a = ap (λ (x : Arc). x.tail) arc in
    let t = keeps.tail in omega (arith, a, t) in
    let head : (arc_at n.arcs i).head < p.network.events = let a = ap (λ (x : Arc). x.head) arc in
    let t = keeps.head in omega (arith, a, t) in
    let from = end_below s.plus (arc_at n.arcs i).tail (arc_at n.arcs i).head p.network.events tail head in
    let to = end_below s.plus (arc_at n.arcs i).head (arc_at n.arcs i).tail p.network.events head tail in
    let starts = d.starts in
    let finishes = d.finishes in
    (omega (arith, starts, from), omega (arith, finishes, to), d.small)

-- ---- levels that settle

settled_levels : (n : Net) (table : List (List SignedRow)) (node : Node) (rows : List SignedRow)
    (edges : List Edge) (h : ℕ → ℕ) → IsFixed n table node → AreOwned n.arcs table (owner_of table)
    → (y : IsSystem n table node rows edges) → AreSettled edges h
    → AreLevels n node (owner_of table) (count_of y.by_row) (λ x. pos (h x))
settled_levels n table node rows edges h fixed f y settled s names some =
    let by_long = y.passages.long in
    let k = y.passed.all s (omega (arith, names), omega (arith, names, by_long)) some in
    let d : IsDemand n node.slacks y.shifts s (edge_at edges k.0) =
    subst (λ (x : SignedRow). IsDemand n node.slacks y.shifts x (edge_at edges k.0)) k.2
    (y.demands.each k.0 k.1) in
    let long = y.demands.long in
    let kl = k.1 in
    let meets = settled k.0 (omega (arith, kl, long)) in
    let from = ap h d.starts in
    let to = ap h d.finishes in
    let bounds = d.bounds in
    let same = bound_is n table node rows edges s fixed f y names in
    omega (arith, ints, meets, from, to, bounds, same)

-- a decided node's levels don't settle
pub not_settled : (p : ProblemValue) (node : Node) (rows : List SignedRow) (edges : List Edge) (h : ℕ → ℕ)
    → HaveNoCycle (problem_net p).arcs p.network.forest → IsSystem (problem_net p) p.table node rows edges → IsDecided p node
    → AreSettled edges h → ⊥
not_settled p node rows edges h none y d settled =
    let n = problem_net p in
    let f = are_owned n.arcs p.network.forest p.table d.fundamental none in
    let fixed = fixed_of p node d in
    let levels = settled_levels n p.table node rows edges h fixed f y settled in
    let found = levels_give_slacks n p.table node (owner_of p.table) (count_of y.by_row) (λ x. pos (h x)) f fixed
    (are_idle n p.table y.by_row y.passages) levels in
    d.empty found.0 found.1

-- ---- a closed way that gains

pub walk_exists : (n : Net) (by_row : List (List Passage)) (rows : List SignedRow) (way : List ℕ)
    → length by_row ≡ length n.arcs → ArePassed by_row (length by_row) rows → All (λ (k : ℕ). k < length rows) way
    → AreRows n.arcs (walk_along rows way)
walk_exists n by_row rows [] long h w = All-nil (RowExists n.arcs)
walk_exists n by_row rows (k ∷ way) long h w =
    let e = h.exist k no_signed (All-head (λ (j : ℕ). j < length rows) k way w) in
    All-cons (RowExists n.arcs) (signed_at rows k) (walk_along rows way) (e.0, omega (arith, e, long))
    (walk_exists n by_row rows way long h (λ i d l. w (suc i) d (omega arith)))

pub way_places : (edges : List Edge) (count : ℕ) (way : List ℕ) (a b : ℕ) → length edges ≡ count
    → IsEdgeWay edges a way b → All (λ (k : ℕ). k < count) way
way_places edges count [] a b e w = All-nil (λ (k : ℕ). k < count)
way_places edges count (k ∷ way) a b e w = let l = w.0 in
    All-cons (λ (j : ℕ). j < count) k way (omega (arith, l, e))
    (way_places edges count way (edge_at edges k).finish b e w.2)

way_leads : (n : Net) (slacks : List (ℕ × ℕ)) (shifts : List (ℤ × ℤ)) (rows : List SignedRow) (edges : List Edge)
    (way : List ℕ) (a b : ℕ) → AreDemands n slacks shifts rows edges → IsEdgeWay edges a way b
    → Leads n.arcs a (walk_along rows way) b
way_leads n slacks shifts rows edges [] a b e w = w
way_leads n slacks shifts rows edges (k ∷ way) a b e w =
    let long = e.long in
    let l = w.0 in
    let d = e.each k (omega (arith, l, long)) in (
      sym d.starts ∙ w.1,
      subst (λ (x : ℕ). Leads n.arcs x (walk_along rows way) b) d.finishes
          (way_leads n slacks shifts rows edges way (edge_at edges k).finish b e w.2),
    )

way_total : (n : Net) (table : List (List SignedRow)) (node : Node) (rows : List SignedRow) (edges : List Edge)
    (way : List ℕ) (a b : ℕ) → IsFixed n table node → AreOwned n.arcs table (owner_of table)
    → IsSystem n table node rows edges → IsEdgeWay edges a way b
    → pos (losses edges way) ≡ pos (gains edges way) +ℤ total n node (owner_of table) (walk_along rows way)
way_total n table node rows edges [] a b fixed f y w = omega (arith, ints)
way_total n table node rows edges (k ∷ way) a b fixed f y w =
    let long = y.demands.long in
    let l = w.0 in
    let in_rows : k < length rows = omega (arith, l, long) in
    let d = y.demands.each k in_rows in
    let bounds = d.bounds in
    let e = y.passed.exist k no_signed in_rows in
    let by_long = y.passages.long in
    let same = bound_is n table node rows edges (signed_at rows k) fixed f y (e.0, omega (arith, e, by_long)) in
    let rest = way_total n table node rows edges way (edge_at edges k).finish b fixed f y w.2 in
    omega (arith, ints, bounds, same, rest)

-- the counts along a short way are small
pub small_along : (count : ℕ) (rows : List SignedRow) (way : List ℕ) (flows : List ℤ) → length flows ≡ count
    → length way ≤ 100000 → ((i : ℕ) → i < count
    → slice_index_or flows i (pos 0) ≡ net_count (walk_along rows way) i)
    → All (λ (z : ℤ). unsigned_abs z ≤ 1000000000000) flows
small_along count rows way flows long short counts = let n = length-map way (signed_at rows) in
    small_counts count (walk_along rows way) flows long (omega (arith, short, n)) counts

pub counted_as : (count : ℕ) (rows rows2 : List SignedRow) (way way2 : List ℕ) (flows : List ℤ) → rows2 ≡ rows
    → way2 ≡ way → ((i : ℕ) → i < count → slice_index_or flows i (pos 0) ≡ net_count (walk_along rows2 way2) i)
    → (i : ℕ) → i < count → slice_index_or flows i (pos 0) ≡ net_count (walk_along rows way) i
counted_as count rows rows2 way way2 flows r w h i l = h i l
    ∙ ap (λ (x : List SignedRow). net_count (walk_along x way2) i) r
    ∙ ap (λ (x : List ℕ). net_count (walk_along rows x) i) w

pub mults_as : (table table2 : List (List SignedRow)) (flows flows2 : List ℤ) (pairs : List Pair) → table2 ≡ table
    → flows2 ≡ flows → AreCycleMultipliers (length table2)
    (own_flow table2 (λ i. slice_index_or flows2 i (pos 0))) pairs
    → AreCycleMultipliers (length table) (own_flow table (λ i. slice_index_or flows i (pos 0))) pairs
mults_as table table2 flows flows2 pairs t f h =
    subst (λ (x : List ℤ). AreCycleMultipliers (length table) (own_flow table (λ i. slice_index_or x i (pos 0))) pairs)
    f (subst (λ (x : List (List SignedRow)). AreCycleMultipliers (length x)
    (own_flow x (λ i. slice_index_or flows2 i (pos 0))) pairs) t h)

-- each cycle of a table of closed walks begins with a row that exists
pub own_rows : (p : ProblemValue) (count : ℕ) (table : List (List SignedRow)) → table ≡ p.table
    → count ≡ length p.network.rows → All (IsWalk (problem_net p).arcs) p.table
    → All (λ (walk : List SignedRow). Names count (own_row walk)) table
own_rows p count table e c closed = subst (λ (t : List (List SignedRow)).
    All (λ (walk : List SignedRow). Names count (own_row walk)) t) (sym e)
    (λ k d l. let names = own_row_names (problem_net p).arcs (slice_index_or p.table k d) (closed k d l) in
    (names.0, omega (arith, names, c, length_arcs p)))

-- the rows of a system exist
pub rows_exist : (p : ProblemValue) (node : Node) (rows list : List SignedRow) (edges : List Edge) (count : ℕ)
    → list ≡ rows → count ≡ length p.network.rows → IsSystem (problem_net p) p.table node rows edges
    → All (λ (s : SignedRow). Names count s.row) list
rows_exist p node rows list edges count e c y =
    subst (λ (x : List SignedRow). All (λ (s : SignedRow). Names count s.row) x) (sym e)
    (λ k d l. let names = y.passed.exist k d l in let long = y.passages.long in
    (names.0, omega (arith, names, c, long, length_arcs p)))

-- and gives pairs of value above 0
pub gains_are_nothing : (p : ProblemValue) (node : Node) (rows : List SignedRow) (edges : List Edge) (way : List ℕ)
    (flows : List ℤ) (pairs : List Pair) → HaveNoCycle (problem_net p).arcs p.network.forest
    → All (IsWalk (problem_net p).arcs) p.table → IsSystem (problem_net p) p.table node rows edges → GainsForEver edges way
    → ((i : ℕ) → i < length (problem_net p).arcs → slice_index_or flows i (pos 0) ≡ net_count (walk_along rows way) i)
    → ArePairs (length p.table) pairs → AreCycleMultipliers (length p.table)
    (own_flow p.table (λ i. slice_index_or flows i (pos 0))) pairs → IsDecided p node
    → IsSomeAnd (leaf_value (problem_net p) p.table node pairs false) (λ v. pos 0 <ℤ v)
gains_are_nothing p node rows edges way flows pairs none closed y g counted are mults d =
    let n = problem_net p in
    let owner = owner_of p.table in
    let walk = walk_along rows way in
    let f = are_owned n.arcs p.network.forest p.table d.fundamental none in
    let fixed = fixed_of p node d in
    let all = way_total n p.table node rows edges way g.0 g.0 fixed f y g.1 in
    let more = g.2 in
    let falls : Falls n node owner walk = record {
      rows = walk_exists n y.by_row rows way y.passages.long y.passed (way_places edges (length rows) way g.0 g.0 y.demands.long g.1);
      event = g.0;
      closes = way_leads n node.slacks y.shifts rows edges way g.0 g.0 y.demands g.1;
      falls = omega (arith, ints, all, more);
    } in
    let turns : AreCycleMultipliers (length p.table) (own_flow p.table (net_count walk)) pairs = λ term.
    mults term
    ∙ sum_below-same (length p.table) (λ c. own_flow p.table (λ i. slice_index_or flows i (pos 0)) c *ℤ term c)
    (λ c. own_flow p.table (net_count walk) c *ℤ term c)
    (λ c l. let names = own_row_names n.arcs (cycle_at p.table c) (closed c [] l) in
    ap (λ z. z *ℤ term c) (counted (own_row (cycle_at p.table c) - 1) (omega (arith, names)))) in
    falls_is_nothing n p.table node owner walk pairs f fixed falls (λ k e l. (are.each k e l).names) turns
