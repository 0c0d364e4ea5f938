-- The value of a leaf, put together from its parts.
use Rattle.std.proofs.Common.{◌≡◌, ℕ, ◌<◌, arith, refl, ap, sym, ◌∙◌, List, length, get_or, Bool, true, false, Option, Some, None, subst}
use Rattle.std.specs.Prelude.{ℤ, pos, ◌+ℤ◌, ◌-ℤ◌, ◌*ℤ◌, option_map}
use Rattle.std.specs.Int.{int_min}
use Rattle.std.proofs.lemmas.Int.{ints}
use Rattle.std.proofs.lemmas.List.{get_or_default}
use Rattle.pesp_problem.specs.declared.row.SignedRow.{SignedRow}
use Rattle.pesp_problem.specs.declared.pair.Pair.{Pair}
use Rattle.pesp_problem.specs.declared.arc.Arc.{Arc}
use Rattle.pesp_problem.specs.Sums.{sum_below}
use Rattle.pesp_problem.specs.Timetables.{Pesp}
use Rattle.pesp_problem.specs.Arcs.{Net, net_of, arcs_of, arc_at, over_arcs}
use Rattle.pesp_problem.specs.Nodes.{Node, cycle_at, offset_range, offsets_left, offset_part, weight_of, slack_part, slack_range, flow, leaf_value}
use Rattle.pesp_problem.specs.Ranges.{lesser, left_of}
use Rattle.pesp_problem.specs.Nets.{AreNets, nets_at, AreNetCounts}
use Rattle.pesp_problem.specs.Terms.{number_at}
use Rattle.pesp_leaves.specs.Flows.{flow_term, flow_sum}
use Rattle.pesp_leaves.specs.Ranges.{idle_part}
use Rattle.pesp_problem.proofs.Integers.{sum_below-same, sum_below-sub, sum_below-zero}
use Rattle.pesp_problem.proofs.Flowing.{nets_read}
use Rattle.pesp_problem.specs.declared.nets.NetCount.{NetCount}
use Rattle.pesp_leaves.proofs.Arcs.{arcs_long}

-- ---- what the rows add

abbrev idle_of : List Arc → List (ℕ × ℕ) → Bool → ℕ → ℤ
idle_of arcs slacks weighted i = lesser (weight_of weighted (arc_at arcs i)) (slack_range slacks i)

abbrev costs_of : Net → List (List SignedRow) → Node → List Pair → Bool → ℕ → ℤ
costs_of n walks node pairs weighted i = slack_part n walks node pairs weighted i -ℤ idle_of n.arcs node.slacks weighted i

abbrev lower_of : Net → List (List SignedRow) → List Pair → ℕ → ℤ
lower_of n walks pairs i = flow walks pairs i *ℤ (arc_at n.arcs i).lower

-- the flows' part, and what the slacks cost without flows
rows_are : (n : Net) (walks : List (List SignedRow)) (node : Node) (pairs : List Pair) (weighted : Bool)
    (flows : List ℤ) → length flows ≡ length n.arcs
    → ((i : ℕ) → i < length flows → number_at flows i ≡ flow walks pairs i)
    → flow_sum n.arcs node.slacks weighted flows
    ≡ (over_arcs n.arcs (slack_part n walks node pairs weighted) -ℤ over_arcs n.arcs
    (idle_of n.arcs node.slacks weighted)) -ℤ over_arcs n.arcs (lower_of n walks pairs)
rows_are n walks node pairs weighted flows long are =
    let m = length n.arcs in
    let first : flow_sum n.arcs node.slacks weighted flows
    ≡ sum_below (length flows) (λ i. costs_of n walks node pairs weighted i -ℤ lower_of n walks pairs i) =
    sum_below-same (length flows) (λ i. flow_term n.arcs node.slacks weighted i (number_at flows i))
    (λ i. costs_of n walks node pairs weighted i -ℤ lower_of n walks pairs i)
    (λ i l. ap (flow_term n.arcs node.slacks weighted i) (are i l)) in
    let same = ap (λ k. sum_below k (λ i. costs_of n walks node pairs weighted i -ℤ lower_of n walks pairs i)) long in
    let apart = sum_below-sub m (costs_of n walks node pairs weighted) (lower_of n walks pairs) in
    let apart' = sum_below-sub m (slack_part n walks node pairs weighted) (idle_of n.arcs node.slacks weighted) in
    first ∙ same ∙ apart ∙ ap (λ z. z -ℤ over_arcs n.arcs (lower_of n walks pairs)) apart'

no_weight : (range : ℕ × ℕ) → lesser (pos 0) range ≡ pos 0
no_weight range = none (pos 0 *ℤ pos range.0) (pos 0 *ℤ pos range.1) (omega (arith, ints)) (omega (arith, ints))
  where
    none : (a b : ℤ) → a ≡ pos 0 → b ≡ pos 0 → int_min a b ≡ pos 0
    none a b e f = ap (λ x. int_min x b) e ∙ ap (int_min (pos 0)) f

idle_is : (p : Pesp) (slacks : List (ℕ × ℕ)) (weighted : Bool)
    → over_arcs (arcs_of p) (idle_of (arcs_of p) slacks weighted) ≡ idle_part p slacks weighted
idle_is p slacks true = refl
idle_is p slacks false = sum_below-zero (length (arcs_of p)) (idle_of (arcs_of p) slacks false) (λ i l. no_weight (slack_range slacks i))

-- the value of the leaf
pub value_is : (p : Pesp) (walks : List (List SignedRow)) (node : Node) (pairs : List Pair) (weighted : Bool)
    (flows : List ℤ) (offsets moved idle value : ℤ) → length flows ≡ length p.rows
    → ((i : ℕ) → i < length flows → number_at flows i ≡ flow walks pairs i)
    → ◌≡◌ {A = Option ℤ} (Some offsets) (option_map (λ z. pos p.period *ℤ z)
    (offset_part (net_of p) walks node pairs)) → moved ≡ flow_sum (arcs_of p) node.slacks weighted flows
    → idle ≡ idle_part p node.slacks weighted → value ≡ offsets +ℤ (moved +ℤ idle)
    → ◌≡◌ {A = Option ℤ} (Some value) (leaf_value (net_of p) walks node pairs weighted)
value_is p walks node pairs weighted flows offsets moved idle value long are part m i v =
    go (offset_part (net_of p) walks node pairs) part
  where
    go : (o : Option ℤ) → ◌≡◌ {A = Option ℤ} (Some offsets) (option_map (λ z. pos p.period *ℤ z) o)
        → ◌≡◌ {A = Option ℤ} (Some value) (option_map
        (λ offsets. pos p.period *ℤ offsets -ℤ over_arcs (arcs_of p) (lower_of (net_of p) walks pairs)
        +ℤ over_arcs (arcs_of p) (slack_part (net_of p) walks node pairs weighted)) o)
    go None e = cc
    go (Some z) e =
        let same : offsets ≡ pos p.period *ℤ z = cc in
        let rows = rows_are (net_of p) walks node pairs weighted flows (long ∙ sym (arcs_long p)) are in
        let none = idle_is p node.slacks weighted in
        let all : value ≡ pos p.period *ℤ z -ℤ over_arcs (arcs_of p) (lower_of (net_of p) walks pairs)
        +ℤ over_arcs (arcs_of p) (slack_part (net_of p) walks node pairs weighted) = omega (arith, ints) in
        ap Some all

-- what the code reads of a cycle is what the definition reads
pub left_read : (n : ℕ) (net : Net) (walks : List (List SignedRow)) (table : List (List NetCount)) (node : Node)
    (c : ℕ) (counts read : List NetCount) (slacks : List (ℕ × ℕ)) (range : ℤ × ℤ) (left : Option (ℤ × ℤ))
    → AreNets n walks table → c < length table → length node.offsets ≡ length table
    → read ≡ get_or table c read → counts ≡ read → slacks ≡ node.slacks → range ≡ get_or node.offsets c range
    → ((walk : List SignedRow) → AreNetCounts n walk counts → left ≡ left_of net slacks range walk)
    → left ≡ offsets_left net walks node c
left_read n net walks table node c counts read slacks range left nets l long is e s r value =
    let at : counts ≡ nets_at table c = nets_read table c counts read l is e in
    let walk = cycle_at walks c in
    let P : List NetCount → Type 0 = λ cs. AreNetCounts n walk cs in
    let range_is : range ≡ offset_range node.offsets c = r ∙ get_or_default node.offsets c range (pos 0, pos 0) (omega arith) in
    value walk (subst P (sym at) (nets.each c l)) ∙ ap (λ (x : List (ℕ × ℕ)). left_of net x range walk) s
    ∙ ap (λ (x : ℤ × ℤ). left_of net node.slacks x walk) range_is
