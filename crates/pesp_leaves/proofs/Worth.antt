-- The value of a leaf that names lemmas, put together from its parts.
use Rattle.std.proofs.Common.{◌≡◌, ℕ, ◌+◌, ◌<◌, ◌≤◌, refl, ap, sym, ◌∙◌, List, [], ◌∷◌, length, Bool, true, false, Option, Some, None, arith, inl, inr}
use Rattle.std.specs.Prelude.{ℤ, pos, ◌+ℤ◌, ◌-ℤ◌, ◌*ℤ◌, unsigned_abs, All, option_map, if◌then◌else◌}
use Rattle.std.specs.Int.{int_min}
use Rattle.std.proofs.lemmas.Int.{ints}
use Rattle.std.proofs.lemmas.List.Elements.{All-nil, All-cons, All-head, All-tail}
use Rattle.pesp_problem.specs.declared.row.SignedRow.{SignedRow}
use Rattle.pesp_problem.specs.declared.pair.Pair.{Pair}
use Rattle.pesp_problem.specs.Timetables.{Pesp}
use Rattle.pesp_problem.specs.Arcs.{Net, arc_at, arcs_of, net_of, over_arcs}
use Rattle.pesp_problem.specs.Nodes.{Node, slack_range, flow, offset_part}
use Rattle.pesp_problem.proofs.Integers.{sum_below-same}
use Rattle.pesp_problem.specs.Sums.{sum_below}
use Rattle.pesp_problem.specs.Marked.{least_gain}
use Rattle.pesp_problem.specs.Sharp.{Multipliers, over_multiples, rates}
use Rattle.pesp_problem.specs.declared.rates.Rates.{Rates}
use Rattle.pesp_problem.specs.Rates.{rates_at, rate_of}
use Rattle.pesp_problem.specs.Terms.{number_at, lesser_excess}
use Rattle.pesp_truth.specs.Marks.{Marks}
use Rattle.pesp_truth.specs.Named.{AreNamed, IsNamed, of_cycles, of_walks, names_more, scale_of, of_lemmas, multipliers}
use Rattle.pesp_truth.proofs.Named.{at_most}
use Rattle.pesp_leaves.specs.Flows.{ArePairsOf, ArePairLimits}
use Rattle.pesp_leaves.proofs.Naming.{are_pairs}
use Rattle.pesp_leaves.specs.Gains.{gains_of}
use Rattle.pesp_truth.specs.Lemmas.{Lemma}
use Rattle.pesp_truth.specs.LemmaLeaves.{LemmaMultiple, over_lemmas, taken, least_lemma_excess, lemma_value}
use Rattle.pesp_truth.specs.Trees.{value_by}
use Rattle.pesp_truth.proofs.LemmaLeaves.{excess_at_low, excess_at_high}
use Rattle.pesp_leaves.specs.Taken.{floor_of}
use Rattle.pesp_leaves.specs.Terms.{lower_sum, unit_cost_left, rows_sum}

-- ---- what the calls want of the pairs

few_others : (others : ℕ) (pairs : List Pair) → length (of_cycles others pairs) ≤ length pairs
few_others others [] = omega arith
few_others others (pair ∷ pairs) =
    let rest = few_others others pairs in
    elim (at_most pair.cycle others) [ inl m ↦ rw m.0 (omega (arith, rest)) | inr m ↦ rw m.0 (omega (arith, rest)) ]

each_other : (P : Pair → Type 0) (others : ℕ) (pairs : List Pair) → All P pairs → All P (of_cycles others pairs)
each_other P others [] h = All-nil P
each_other P others (pair ∷ pairs) h =
    let rest = each_other P others pairs (All-tail P pair pairs h) in
    elim (at_most pair.cycle others) [
      | inl m ↦ rw m.0 (All-cons P pair (of_cycles others pairs) (All-head P pair pairs h) rest)
      | inr m ↦ rw m.0 rest
    ]

pub others_limits : (others : ℕ) (pairs : List Pair) → ArePairLimits pairs → ArePairLimits (of_cycles others pairs)
others_limits others pairs h = (
  each_other (λ pair. unsigned_abs pair.mult ≤ 1000000000000) others pairs h.0,
  omega (arith, few_others others pairs, h.1),
)

below_others : (others : ℕ) (pairs : List Pair) → All (λ pair. pair.cycle ≤ others) (of_cycles others pairs)
below_others others [] = All-nil (λ (pair : Pair). pair.cycle ≤ others)
below_others others (pair ∷ pairs) =
    let rest = below_others others pairs in
    elim (at_most pair.cycle others) [
      | inl m ↦ rw m.0 (All-cons (λ (p : Pair). p.cycle ≤ others) pair (of_cycles others pairs) m.1 rest)
      | inr m ↦ rw m.0 rest
    ]

-- the others name cycles and walks
pub others_named : (cycles walks facts others : ℕ) (pairs : List Pair) → others ≡ cycles + walks → AreNamed cycles (walks + facts) pairs
    → AreNamed cycles walks (of_cycles others pairs)
others_named cycles walks facts others pairs e h k d l =
    let here = each_other (IsNamed cycles (walks + facts)) others pairs h k d l in
    let below = below_others others pairs k d l in
    ((here.0.0, omega (arith, below, e)), here.1)

-- lemmas go on from all others
pub lemmas_named : (cycles walks facts others : ℕ) (pairs : List Pair) → others ≡ cycles + walks → AreNamed cycles (walks + facts) pairs
    → AreNamed others facts pairs
lemmas_named cycles walks facts others pairs e h k d l =
    let here = h k d l in ((here.0.0, omega (arith, here.0.1, e)), λ above. here.1 (omega (arith, above, e)))

-- the pairs of cycles are pairs of a leaf
pub cycle_pairs : (cycles walks facts others : ℕ) (pairs : List Pair) → others ≡ cycles + walks → AreNamed cycles (walks + facts) pairs
    → ArePairLimits pairs → ArePairsOf cycles (of_cycles cycles (of_cycles others pairs))
cycle_pairs cycles walks facts others pairs e named limits = are_pairs cycles walks (of_cycles others pairs)
    (others_named cycles walks facts others pairs e named) (others_limits others pairs limits)

-- ---- the rows

-- the working numbers are those of the multipliers, the lemmas and the weights
pub record AreOf (n : Net) (table : List (List SignedRow)) (node : Node) (m : Multipliers) (facts : List LemmaMultiple) (own : ℕ → ℤ)
    (weights made flows : List ℤ) (all : List Rates) : Type 0 where
  pub long : length node.slacks ≡ length n.arcs
  pub weights_are : (i : ℕ) → i < length n.arcs → number_at weights i ≡ own i
  pub made_are : (i : ℕ) → i < length n.arcs → number_at made i ≡ flow table m.pairs i
  pub flows_are : (i : ℕ) → i < length n.arcs → number_at flows i ≡ number_at made i +ℤ taken facts i
  pub rates_are : (i : ℕ) (flipped : Bool) → i < length n.arcs → rate_of flipped (rates_at all i) ≡ rates n node m flipped i

lesser_of : {a b c d : ℤ} → a ≡ c → b ≡ d → int_min a b ≡ int_min c d
lesser_of h k = cc

same_end : (a b r s y w : ℤ) → a ≡ b → r ≡ s → a *ℤ y -ℤ r *ℤ w ≡ b *ℤ y -ℤ s *ℤ w
same_end a b r s y w h k = cc

less_both : (a b c d : ℤ) → d ≡ b +ℤ c → a -ℤ d ≡ a -ℤ b -ℤ c
less_both a b c d h = omega (arith, ints, h)

same_sum : {a b c d e s t u v w : ℤ} → a ≡ s → b ≡ t → c ≡ u → d ≡ v → e ≡ w → a -ℤ b +ℤ c +ℤ d +ℤ e ≡ s -ℤ t +ℤ u +ℤ v +ℤ w
same_sum f g h i j = cc

module _ (n : Net) (table : List (List SignedRow)) (node : Node) (m : Multipliers) (facts : List LemmaMultiple) (own : ℕ → ℤ)
    (weighted : Bool) (weights made flows : List ℤ) (all : List Rates)
    (are : AreOf n table node m facts own weights made flows all) where
  abbrev chosen : ℕ → ℤ
  chosen i = if weighted then own i else pos 0

  left_is : (i : ℕ) → i < length n.arcs → unit_cost_left m.scale weighted (number_at weights i) (number_at flows i)
      ≡ pos m.scale *ℤ chosen i -ℤ flow table m.pairs i -ℤ taken facts i
  left_is i l =
      ap (λ z. unit_cost_left m.scale weighted z (number_at flows i)) (are.weights_are i l)
      ∙ less_both _ (flow table m.pairs i) (taken facts i) (number_at flows i)
      (are.flows_are i l ∙ ap (λ z. z +ℤ taken facts i) (are.made_are i l))

  term_is : (i : ℕ) → i < length n.arcs → lesser_excess
      (unit_cost_left m.scale weighted (number_at weights i) (number_at flows i)) (slack_range node.slacks i) (rates_at all i)
      ≡ least_lemma_excess n table node m facts chosen i
  term_is i l = lesser_of
      (same_end _ _ _ _ _ _ (left_is i l) (are.rates_are i true l) ∙ sym (excess_at_low n table node m facts chosen i))
      (same_end _ _ _ _ _ _ (left_is i l) (are.rates_are i false l) ∙ sym (excess_at_high n table node m facts chosen i))

  rows_are : rows_sum node.slacks weights weighted m.scale flows all ≡ over_arcs n.arcs (least_lemma_excess n table node m facts chosen)
  rows_are = ap (λ (k : ℕ). sum_below k (λ i. lesser_excess
      (unit_cost_left m.scale weighted (number_at weights i) (number_at flows i)) (slack_range node.slacks i) (rates_at all i))) are.long
      ∙ sum_below-same (length n.arcs) _ (least_lemma_excess n table node m facts chosen) term_is

  lowers_are : lower_sum n.arcs made ≡ over_arcs n.arcs (λ i. flow table m.pairs i *ℤ (arc_at n.arcs i).lower)
  lowers_are = sum_below-same (length n.arcs) _ (λ i. flow table m.pairs i *ℤ (arc_at n.arcs i).lower)
      (λ i l. ap (λ z. z *ℤ (arc_at n.arcs i).lower) (are.made_are i l))

  -- the period times the offsets less the lower bounds, and the gains, the least sums and the rows
  pub value_is : (z gains floors : ℤ) → offset_part n table node m.pairs ≡ Some z
      → gains ≡ over_multiples m.multiples (λ walk. pos (least_gain n node.slacks walk))
      → floors ≡ over_lemmas facts (λ fact. fact.least)
      → lemma_value n table node m facts chosen ≡ Some
      (pos n.period *ℤ z -ℤ lower_sum n.arcs made +ℤ gains +ℤ floors +ℤ rows_sum node.slacks weights weighted m.scale flows all)
  value_is z gains floors o g f =
      let offsets = pos n.period *ℤ z in
      let same : offsets ≡ offsets = refl in
      ap (option_map _) o ∙ ap Some (same_sum same (sym lowers_are) (sym g) (sym f) (sym rows_are))

-- ---- as the code finds them, by so many cycles, and cycles and walks, and a scale

abbrev at_scale : ℕ → ℕ → Marks → List Pair → ℕ → Multipliers
at_scale cycles others marks pairs scale = record {
  scale = scale;
  pairs = of_cycles cycles (of_cycles others pairs);
  multiples = of_walks cycles marks.walks (of_cycles others pairs);
}

module _ (p : Pesp) (table : List (List SignedRow)) (node : Node) (marks : Marks) (facts : List Lemma) (pairs : List Pair)
    (own : ℕ → ℤ) (weighted : Bool) (cycles others scale : ℕ) (is_scale : scale ≡ scale_of marks (names_more cycles pairs))
    (is_others : others ≡ cycles + length marks.walks) (long : cycles ≡ length table) where
  abbrev under : ℕ → ℤ
  under i = if weighted then own i else pos 0

  there : lemma_value (net_of p) table node (at_scale cycles others marks pairs scale) (of_lemmas others facts pairs) under
      ≡ value_by marks facts (net_of p) table node pairs under
  there = ap (λ (s : ℕ). lemma_value (net_of p) table node (at_scale cycles others marks pairs s) (of_lemmas others facts pairs) under) is_scale
      ∙ ap (λ (o : ℕ). lemma_value (net_of p) table node (at_scale cycles o marks pairs (scale_of marks (names_more cycles pairs)))
      (of_lemmas o facts pairs) under) is_others
      ∙ ap (λ (k : ℕ). lemma_value (net_of p) table node (multipliers k marks pairs)
      (of_lemmas (k + length marks.walks) facts pairs) under) long

  -- a cycle of a pair has no offset left
  pub no_value : ◌≡◌ {A = Option ℤ} None (option_map (λ z. pos p.period *ℤ z)
      (offset_part (net_of p) table node (of_cycles cycles (of_cycles others pairs))))
      → ◌≡◌ {A = Option ℤ} None (value_by marks facts (net_of p) table node pairs under)
  no_value none = go (offset_part (net_of p) table node (of_cycles cycles (of_cycles others pairs))) none _ ∙ there
    where
      go : (o : Option ℤ) → ◌≡◌ {A = Option ℤ} None (option_map (λ z. pos p.period *ℤ z) o) → (f : ℤ → ℤ)
          → ◌≡◌ {A = Option ℤ} None (option_map f o)
      go None e f = refl
      go (Some z) e f = cc

  pub whole_value : (weights made flows : List ℤ) (all : List Rates) (offsets lowers gains floors rows value : ℤ)
      → AreOf (net_of p) table node (at_scale cycles others marks pairs scale) (of_lemmas others facts pairs) own weights made flows all
      → ◌≡◌ {A = Option ℤ} (Some offsets) (option_map (λ z. pos p.period *ℤ z)
      (offset_part (net_of p) table node (of_cycles cycles (of_cycles others pairs))))
      → lowers ≡ lower_sum (arcs_of p) made
      → gains ≡ gains_of (net_of p) node.slacks cycles marks.walks (of_cycles others pairs)
      → floors ≡ floor_of others facts pairs
      → rows ≡ rows_sum node.slacks weights weighted scale flows all
      → value ≡ offsets -ℤ lowers +ℤ gains +ℤ floors +ℤ rows
      → ◌≡◌ {A = Option ℤ} (Some value) (value_by marks facts (net_of p) table node pairs under)
  whole_value weights made flows all offsets lowers gains floors rows value are part low g f r v =
      go (offset_part (net_of p) table node (of_cycles cycles (of_cycles others pairs))) refl part ∙ there
    where
      go : (o : Option ℤ) → offset_part (net_of p) table node (of_cycles cycles (of_cycles others pairs)) ≡ o
          → ◌≡◌ {A = Option ℤ} (Some offsets) (option_map (λ z. pos p.period *ℤ z) o)
          → ◌≡◌ {A = Option ℤ} (Some value) (lemma_value (net_of p) table node
          (at_scale cycles others marks pairs scale) (of_lemmas others facts pairs) under)
      go None is e = cc
      go (Some z) is e =
          let same : offsets ≡ pos p.period *ℤ z = cc in
          let whole : gains ≡ gains = refl in
          let least : floors ≡ floors = refl in
          ap Some (v ∙ same_sum same low whole least r) ∙ sym (value_is (net_of p) table node
          (at_scale cycles others marks pairs scale) (of_lemmas others facts pairs)
          own weighted weights made flows all are z gains floors is g f)
