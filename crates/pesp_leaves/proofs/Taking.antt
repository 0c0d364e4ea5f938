-- Flows as they are taken, row by row.
use Rattle.std.proofs.Common.{◌≡◌, ◌≢◌, inl, inr, ℕ, ◌+◌, ◌-◌, ◌*◌, ◌^◌, ◌<◌, ◌≤◌, arith, ap, sym, ◌∙◌, List, [], ◌∷◌, length, get_or, set, drop, Bool}
use Rattle.std.specs.Prelude.{ℤ, pos, ◌+ℤ◌, ◌-ℤ◌, ◌*ℤ◌, unsigned_abs, ◌==◌, count_by, cond}
use Rattle.std.proofs.lemmas.Int.{ints, clamps, unsigned_abs-mul}
use Rattle.std.proofs.Math.Nat.{mul-le-mul}
use Rattle.std.proofs.lemmas.Bool.{cases_eq}
use Rattle.std.proofs.lemmas.List.{get_or-set_same, get_or-set_other, length-set, length-drop}
use Rattle.std.proofs.lemmas.List.Sums.{sum_by-cons, sum_by-drop_more, count_by-le-length}
use Rattle.std.proofs.lemmas.List.Elements.{All-get_or}
use Rattle.pesp_problem.specs.declared.arc.Arc.{Arc}
use Rattle.pesp_problem.specs.declared.pair.Pair.{Pair}
use Rattle.pesp_problem.specs.Timetables.{Pesp, no_row}
use Rattle.pesp_problem.specs.Limits.{KeepsLimits, RowKeepsLimits}
use Rattle.pesp_problem.specs.Arcs.{arcs_of, arc_at}
use Rattle.pesp_problem.specs.Nodes.{weight_of, slack_range}
use Rattle.pesp_problem.specs.declared.nets.NetCount.{NetCount}
use Rattle.pesp_problem.specs.Nets.{AreZeros, nets_at}
use Rattle.pesp_leaves.specs.Offsets.{AreSlackRanges}
use Rattle.pesp_problem.specs.Ranges.{lesser}
use Rattle.pesp_problem.specs.Terms.{number_at, AreSmallFlows}
use Rattle.pesp_leaves.specs.Flows.{entries_at, flow_term, flow_sum, ArePairsOf}
use Rattle.pesp_problem.proofs.Counts.{eq-false}
use Rattle.pesp_problem.proofs.LeafValues.{weight_small}
use Rattle.pesp_leaves.proofs.Flowing.{pairs_apart}
use Rattle.pesp_leaves.proofs.Sums.{sum_below-small, held-take, held-zeros, small-set}
use Rattle.pesp_leaves.proofs.Arcs.{arc_is}
use Rattle.pesp_leaves.proofs.Idle.{small_weight}

-- ---- sizes

lesser_small : (factor : ℤ) (range : ℕ × ℕ) (m : ℕ) → unsigned_abs factor ≤ m → range.0 ≤ 10000 → range.1 ≤ 10000
    → unsigned_abs (lesser factor range) ≤ m * 10000
lesser_small factor range m h low high =
    let a = omega-ready factor range.0 m h low in
    let b = omega-ready factor range.1 m h high in
    omega (arith, ints, clamps)
  where
    omega-ready : (factor : ℤ) (y m : ℕ) → unsigned_abs factor ≤ m → y ≤ 10000 → unsigned_abs (factor *ℤ pos y) ≤ m * 10000
    omega-ready factor y m h l = omega (arith, unsigned_abs-mul factor (pos y), mul-le-mul h l)

lower_small : (p : Pesp) (i : ℕ) → KeepsLimits p → i < length p.rows → unsigned_abs (arc_at (arcs_of p) i).lower ≤ 1000000
lower_small p i keeps l =
    let row = All-get_or (RowKeepsLimits (length p.events)) p.rows i no_row l keeps.each in
    omega (arith, ints, row.lower, row.bounds, row.upper, ap (λ (a : Arc). a.lower) (arc_is p i l))

flow_term_small : (p : Pesp) (slacks : List (ℕ × ℕ)) (weighted : Bool) (i : ℕ) (flow : ℤ) → KeepsLimits p
    → AreSlackRanges (length p.rows) slacks → i < length p.rows → unsigned_abs flow ≤ 10 ^ 24
    → unsigned_abs (flow_term (arcs_of p) slacks weighted i flow) ≤ 10 ^ 30 + 10 ^ 29
flow_term_small p slacks weighted i flow keeps are l small =
    let arc = arc_at (arcs_of p) i in
    let range = are.1 i (0, 0) (omega (arith, are.0)) in
    let weight = weight_small weighted arc (small_weight p i keeps l) in
    let left : unsigned_abs (weight_of weighted arc -ℤ flow) ≤ 2 * 10 ^ 24 = omega (arith, ints) in
    let a = lesser_small (weight_of weighted arc -ℤ flow) (slack_range slacks i) (2 * 10 ^ 24) left range.0 range.1 in
    let b = lesser_small (weight_of weighted arc) (slack_range slacks i) 1000000000 weight range.0 range.1 in
    let c : unsigned_abs (flow *ℤ arc.lower) ≤ 10 ^ 24 * 1000000 =
    omega (arith, unsigned_abs-mul flow arc.lower, mul-le-mul small (lower_small p i keeps l)) in
    omega (arith, ints)

-- whatever the flows are, their sum is small
pub flow_sum_small : (p : Pesp) (slacks : List (ℕ × ℕ)) (weighted : Bool) (flows : List ℤ) → KeepsLimits p
    → AreSlackRanges (length p.rows) slacks → length flows ≡ length p.rows → AreSmallFlows flows
    → unsigned_abs (flow_sum (arcs_of p) slacks weighted flows) ≤ 2 * 10 ^ 35
flow_sum_small p slacks weighted flows keeps are long small =
    let each = λ (i : ℕ) (l : i < length flows).
    flow_term_small p slacks weighted i (number_at flows i) keeps are (omega (arith, long)) (small i l) in
    omega (
      arith,
      sum_below-small (length flows) (10 ^ 30 + 10 ^ 29)
          (λ i. flow_term (arcs_of p) slacks weighted i (number_at flows i)) each,
      keeps.rows,
      long,
    )

-- ---- one row's flow after the other

no_flow : (arcs : List Arc) (slacks : List (ℕ × ℕ)) (weighted : Bool) (i : ℕ) → flow_term arcs slacks weighted i (pos 0) ≡ pos 0
no_flow arcs slacks weighted i = none (weight_of weighted (arc_at arcs i)) (arc_at arcs i).lower (slack_range slacks i)
  where
    none : (weight lower : ℤ) (range : ℕ × ℕ) → (lesser (weight -ℤ pos 0) range -ℤ lesser weight range) -ℤ pos 0 *ℤ lower ≡ pos 0
    none weight lower range = let same : weight -ℤ pos 0 ≡ weight = omega (arith, ints) in
        omega (arith, ints, ap (λ w. lesser w range) same)

-- what was taken and what is left make the whole; what the rest doesn't name is 0 where what isn't named at all was
pub record AreTaken (arcs : List Arc) (slacks : List (ℕ × ℕ)) (weighted : Bool) (counts : List NetCount)
    (initial flows : List ℤ) (sum : ℤ) (k : ℕ) : Type 0 where
  pub sum_is : sum +ℤ flow_sum arcs slacks weighted flows ≡ flow_sum arcs slacks weighted initial
  pub small : AreSmallFlows flows
  pub taken : (i : ℕ) → i < length flows → (count_by (λ e. e.place == i) counts ≡ 0 → number_at initial i ≡ pos 0)
      → count_by (λ e. e.place == i) (drop k counts) ≡ 0 → number_at flows i ≡ pos 0

pub taken_none : (arcs : List Arc) (slacks : List (ℕ × ℕ)) (weighted : Bool) (counts : List NetCount)
    (flows : List ℤ) → AreSmallFlows flows → AreTaken arcs slacks weighted counts flows flows (pos 0) 0
taken_none arcs slacks weighted counts flows small = record { sum_is = omega (arith, ints); small = small; taken = λ i l h none. h none }

drop_unplaced : (counts : List NetCount) (k i : ℕ) (d : NetCount) → k < length counts
    → i ≢ (get_or counts k d).place → count_by (λ e. e.place == i) (drop k counts)
    ≡ count_by (λ e. e.place == i) (drop (k + 1) counts)
drop_unplaced counts k i d h ne =
    let more = sum_by-drop_more (λ (e : NetCount). cond (e.place == i) 1 0) counts k d h in
    let pick : Bool → ℕ = λ b. cond b 1 0 in
    let none = ap pick (eq-false (get_or counts k d).place i (λ e. ne (sym e))) in
    omega (arith, more, none)

pub taken_more : (arcs : List Arc) (slacks : List (ℕ × ℕ)) (weighted : Bool) (counts : List NetCount)
    (initial flows : List ℤ) (sum here sum' : ℤ) (k at : ℕ) (d : NetCount) → k < length counts
    → at ≡ (get_or counts k d).place → at < length flows
    → here ≡ flow_term arcs slacks weighted at (number_at flows at) → sum' ≡ sum +ℤ here
    → AreTaken arcs slacks weighted counts initial flows sum k
    → AreTaken arcs slacks weighted counts initial (set flows at (pos 0)) sum' (k + 1)
taken_more arcs slacks weighted counts initial flows sum here sum' k at d h is inside e s before = record {
  sum_is = omega (
    arith,
    ints,
    held-take (flow_term arcs slacks weighted) flows at
        (no_flow arcs slacks weighted) inside,
    before.sum_is,
    e,
    s,
  );
  small = small-set flows at (10 ^ 24) inside before.small;
  taken = λ i l given none.
      let l' : i < length flows = omega (arith, length-set flows at (pos 0)) in
      elim (cases_eq i at) [
        | inl same ↦ ap (λ j. number_at (set flows at (pos 0)) j) same ∙ get_or-set_same flows at (pos 0) (pos 0) inside
        | inr other ↦ get_or-set_other flows at i (pos 0) (pos 0) other
            ∙ before.taken i l' given (drop_unplaced counts k i d h (λ f. other (f ∙ sym is)) ∙ none)
      ];
}

pub taken_all : (counts : List NetCount) (k i : ℕ) → length counts ≤ k → count_by (λ e. e.place == i) (drop k counts) ≡ 0
taken_all counts k i h = omega (arith, count_by-le-length (λ (e : NetCount). e.place == i) (drop k counts), length-drop k counts)

-- ---- one pair's flows after the other

-- the flows that are not 0 are on rows of the pairs that are left
pub record AreLeft (arcs : List Arc) (slacks : List (ℕ × ℕ)) (weighted : Bool) (table : List (List NetCount))
    (left : List Pair) (initial flows : List ℤ) (sum : ℤ) : Type 0 where
  pub exist : ArePairsOf (length table) left
  pub sum_is : sum +ℤ flow_sum arcs slacks weighted flows ≡ flow_sum arcs slacks weighted initial
  pub small : AreSmallFlows flows
  pub touched : (i : ℕ) → i < length flows → entries_at table left i ≡ 0 → number_at flows i ≡ pos 0

module _ (arcs : List Arc) (slacks : List (ℕ × ℕ)) (weighted : Bool) (table : List (List NetCount))
    (left rest : List Pair) (p : Pair) (initial flows : List ℤ) (sum : ℤ) (is : left ≡ p ∷ rest)
    (before : AreLeft arcs slacks weighted table left initial flows sum) where
  pub left_more : (flows' : List ℤ) (here sum' : ℤ) → length flows' ≡ length flows
      → here +ℤ flow_sum arcs slacks weighted flows' ≡ flow_sum arcs slacks weighted flows → sum' ≡ sum +ℤ here
      → AreSmallFlows flows'
      → ((i : ℕ) → i < length flows → (count_by (λ e. e.place == i) (nets_at table (p.cycle - 1)) ≡ 0
      → number_at flows i ≡ pos 0) → number_at flows' i ≡ pos 0)
      → AreLeft arcs slacks weighted table rest initial flows' sum'
  left_more flows' here sum' long e s small taken = record {
    exist = (pairs_apart (length table) left rest p is before.exist).1;
    sum_is = omega (arith, ints, before.sum_is);
    small = small;
    touched = λ i l none.
        let l' : i < length flows = omega (arith, long) in
        let more : entries_at table left i ≡ count_by (λ (e : NetCount). e.place == i)
        (nets_at table (p.cycle - 1)) + entries_at table rest i =
        ap (λ (ps : List Pair). entries_at table ps i) is
        ∙ sum_by-cons (λ (pair : Pair). count_by (λ (e : NetCount). e.place == i)
        (nets_at table (pair.cycle - 1))) p rest in
        taken i l' (λ z. before.touched i l' (omega arith));
  }

-- all are taken
pub left_all : (arcs : List Arc) (slacks : List (ℕ × ℕ)) (weighted : Bool) (table : List (List NetCount))
    (left : List Pair) (initial flows : List ℤ) (sum : ℤ) → left ≡ []
    → AreLeft arcs slacks weighted table left initial flows sum
    → (sum ≡ flow_sum arcs slacks weighted initial) × AreZeros flows
left_all arcs slacks weighted table left initial flows sum done h =
    let zeros : AreZeros flows = λ i l. h.touched i l (ap (λ (ps : List Pair). entries_at table ps i) done) in
    let none = held-zeros (flow_term arcs slacks weighted) flows (no_flow arcs slacks weighted) zeros in
    (omega (arith, ints, h.sum_is), zeros)

-- what was taken lies between two sums of flows
pub part_small : (p : Pesp) (slacks : List (ℕ × ℕ)) (weighted : Bool) (before after : List ℤ) (part : ℤ)
    → KeepsLimits p → AreSlackRanges (length p.rows) slacks → length before ≡ length p.rows
    → length after ≡ length p.rows → AreSmallFlows before → AreSmallFlows after
    → part +ℤ flow_sum (arcs_of p) slacks weighted after ≡ flow_sum (arcs_of p) slacks weighted before → unsigned_abs part ≤ 4 * 10 ^ 35
part_small p slacks weighted before after part keeps are long long' small small' e =
    let a = flow_sum_small p slacks weighted before keeps are long small in
    let b = flow_sum_small p slacks weighted after keeps are long' small' in
    omega (arith, ints)
