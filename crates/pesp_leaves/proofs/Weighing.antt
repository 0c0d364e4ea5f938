-- What a leaf is worth under weights that agree row by row, and that of one which names cycles alone.
use Rattle.std.proofs.Common.{◌≡◌, ℕ, ◌+◌, ◌<◌, List, length, refl, ap, sym, ◌∙◌, Bool, true, false}
use Rattle.std.specs.Prelude.{ℤ, pos, ◌+ℤ◌, ◌-ℤ◌, ◌*ℤ◌, option_map, if◌then◌else◌}
use Rattle.std.specs.Int.{int_min}
use Rattle.pesp_problem.specs.declared.row.SignedRow.{SignedRow}
use Rattle.pesp_problem.specs.declared.pair.Pair.{Pair}
use Rattle.pesp_problem.specs.Arcs.{Net, arc_at, over_arcs}
use Rattle.pesp_problem.specs.Nodes.{Node, slack_range, weight_of, flow, offset_part, leaf_value}
use Rattle.pesp_problem.proofs.Integers.{sum_below-same}
use Rattle.pesp_problem.specs.Marked.{least_gain}
use Rattle.pesp_problem.specs.Sharp.{Multipliers, over_multiples}
use Rattle.pesp_truth.specs.Marks.{Marks}
use Rattle.pesp_truth.specs.Lemmas.{Lemma}
use Rattle.pesp_truth.specs.LemmaLeaves.{LemmaMultiple, over_lemmas, lemma_excess, least_lemma_excess, lemma_value}
use Rattle.pesp_truth.specs.Named.{AreNamed, names_more, of_lemmas, multipliers}
use Rattle.pesp_truth.specs.Trees.{value_by}
use Rattle.pesp_truth.proofs.Fronts.{same_value}
use Rattle.pesp_truth.proofs.Named.{named_cycles}
use Rattle.pesp_leaves.specs.Flows.{ArePairsOf, ArePairLimits}

same_excess : (n : Net) (table : List (List SignedRow)) (node : Node) (m : Multipliers) (facts : List LemmaMultiple)
    (a b : ℕ → ℤ) (i : ℕ) → a i ≡ b i → least_lemma_excess n table node m facts a i ≡ least_lemma_excess n table node m facts b i
same_excess n table node m facts a b i e =
    let low = (slack_range node.slacks i).0 in
    let high = (slack_range node.slacks i).1 in
    ap (λ (w : ℤ). int_min (lemma_excess n table node m facts (λ j. w) i low) (lemma_excess n table node m facts (λ j. w) i high)) e

same_weights : (n : Net) (table : List (List SignedRow)) (node : Node) (m : Multipliers) (facts : List LemmaMultiple)
    (a b : ℕ → ℤ) → ((i : ℕ) → i < length n.arcs → a i ≡ b i)
    → lemma_value n table node m facts a ≡ lemma_value n table node m facts b
same_weights n table node m facts a b agree =
    let lowers = over_arcs n.arcs (λ i. flow table m.pairs i *ℤ (arc_at n.arcs i).lower) in
    let gains = over_multiples m.multiples (λ walk. pos (least_gain n node.slacks walk)) in
    let floors = over_lemmas facts (λ fact. fact.least) in
    let rows = sum_below-same (length n.arcs) (least_lemma_excess n table node m facts a) (least_lemma_excess n table node m facts b)
    (λ i l. same_excess n table node m facts a b i (agree i l)) in
    ap (λ (z : ℤ). option_map (λ (o : ℤ). pos n.period *ℤ o -ℤ lowers +ℤ gains +ℤ floors +ℤ z) (offset_part n table node m.pairs)) rows

abbrev under : Bool → (ℕ → ℤ) → ℕ → ℤ
under weighted own i = if weighted then own i else pos 0

agrees : (n : Net) (weighted : Bool) (own : ℕ → ℤ) (i : ℕ) → (weighted ≡ true → own i ≡ pos (arc_at n.arcs i).weight)
    → under weighted own i ≡ weight_of weighted (arc_at n.arcs i)
agrees n true own i e = e refl
agrees n false own i e = refl

-- under the rows' own weights, or without weights, a leaf that names cycles alone is worth what it is without a front
pub plain_value : (n : Net) (table : List (List SignedRow)) (marks : Marks) (facts : List Lemma) (node : Node) (pairs : List Pair)
    (weighted : Bool) (own : ℕ → ℤ) → names_more (length table) pairs ≡ false
    → (weighted ≡ true → (i : ℕ) → i < length n.arcs → own i ≡ pos (arc_at n.arcs i).weight)
    → leaf_value n table node pairs weighted ≡ value_by marks facts n table node pairs (λ i. if weighted then own i else pos 0)
plain_value n table marks facts node pairs weighted own e agree =
    sym (same_weights n table node (multipliers (length table) marks pairs) (of_lemmas (length table + length marks.walks) facts pairs)
    (under weighted own) (λ i. weight_of weighted (arc_at n.arcs i)) (λ i l. agrees n weighted own i (λ w. agree w i l))
    ∙ same_value n table marks facts node pairs weighted e)

pub plain_pairs : (cycles others : ℕ) (pairs : List Pair) → names_more cycles pairs ≡ false → AreNamed cycles others pairs
    → ArePairLimits pairs → ArePairsOf cycles pairs
plain_pairs cycles others pairs e named limits =
    let names = (named_cycles cycles others pairs e).0 named in ((λ k d l. (names k d l, limits.0 k d l)), limits.1)
