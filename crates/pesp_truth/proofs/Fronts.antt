-- Pairs that name cycles alone show behind a front what they show without one, and so do leaves, trees and certificates.
use Rattle.std.proofs.Common.{◌≡◌, ℕ, ◌+◌, ◌<◌, ◌≤◌, List, [], length, Bool, true, false, sym, subst, ap, ◌∙◌, arith}
use Rattle.std.specs.Prelude.{ℤ, All, Option, Some, None, option_map, ◌↔◌, IsSomeAnd, pos, ◌<ℤ◌}
use Rattle.std.proofs.lemmas.List.Elements.{All-nil}
use Rattle.pesp_problem.specs.declared.row.SignedRow.{SignedRow}
use Rattle.pesp_problem.specs.declared.pair.Pair.{Pair}
use Rattle.pesp_problem.specs.Sums.{ceil_div}
use Rattle.pesp_problem.specs.Timetables.{Pesp}
use Rattle.pesp_problem.specs.Arcs.{Net, arc_at, arcs_of, net_of}
use Rattle.pesp_problem.specs.Walks.{Names}
use Rattle.pesp_problem.specs.Nodes.{Node, weight_of, leaf_value, root, low_part, high_part}
use Rattle.pesp_problem.specs.declared.marked.MarkedRow.{MarkedRow}
use Rattle.pesp_problem.specs.Marked.{IsMarkedWalk}
use Rattle.pesp_problem.specs.Sharp.{Multipliers, plain}
use Rattle.pesp_problem.proofs.Values.{value_without_walks, cost_without_walks}
use Rattle.pesp_truth.specs.Marks.{Marks}
use Rattle.pesp_truth.specs.Lemmas.{Lemma}
use Rattle.pesp_truth.specs.LemmaLeaves.{LemmaMultiple, lemma_value, lemma_bound}
use Rattle.pesp_truth.specs.Named.{AreNamed, names_more, of_lemmas, multipliers}
use Rattle.pesp_truth.specs.Trees.{Tree, Leaf, Ends, Branch, Bound, Shut, ByPairs, ByGap, ByPropagation, pairs_of_leaf, Goal, cost_goal, Claim, Plain, Behind, Reaches, PairsExist, value_by, value_rounded, bound_by, lack_by, IsSoundLeaf, IsSound}
use Rattle.pesp_truth.specs.Certificates.{Content, Front, IsValid, least_of}
use Rattle.pesp_truth.proofs.Named.{no_walks, no_lemmas, none_more, named_cycles}
use Rattle.pesp_truth.proofs.LemmaLeaves.{value_without_lemmas}

-- ---- pairs

pub same_value : (n : Net) (table : List (List SignedRow)) (marks : Marks) (facts : List Lemma) (node : Node) (pairs : List Pair)
    (weighted : Bool) → names_more (length table) pairs ≡ false
    → value_by marks facts n table node pairs (λ i. weight_of weighted (arc_at n.arcs i)) ≡ leaf_value n table node pairs weighted
same_value n table marks facts node pairs weighted e =
    let weights = λ (i : ℕ). weight_of weighted (arc_at n.arcs i) in
    ap (λ (m : Multipliers). lemma_value n table node m (of_lemmas (length table + length marks.walks) facts pairs) weights)
    (no_walks (length table) marks pairs e)
    ∙ ap (λ (multiples : List LemmaMultiple). lemma_value n table node (plain pairs) multiples weights)
    (no_lemmas (length table) (length marks.walks) facts pairs e)
    ∙ value_without_lemmas n table node (plain pairs) weighted
    ∙ value_without_walks n table node pairs weighted

pub same_lack : (n : Net) (table : List (List SignedRow)) (marks : Marks) (facts : List Lemma) (goal : Goal) (least : Option ℕ)
    (node : Node) (pairs : List Pair) → names_more (length table) pairs ≡ false
    → lack_by (Behind marks facts goal) n table node pairs ≡ lack_by (Plain least) n table node pairs
same_lack n table marks facts goal least node pairs e = same_value n table marks facts node pairs false e

pub same_bound : (n : Net) (table : List (List SignedRow)) (marks : Marks) (facts : List Lemma) (least : Option ℕ)
    (node : Node) (pairs : List Pair) → names_more (length table) pairs ≡ false
    → bound_by (Behind marks facts (cost_goal n least)) n table node pairs ≡ bound_by (Plain least) n table node pairs
same_bound n table marks facts least node pairs e =
    let weights = λ (i : ℕ). weight_of true (arc_at n.arcs i) in
    ap (λ (m : Multipliers). lemma_bound n table node m (of_lemmas (length table + length marks.walks) facts pairs) weights)
    (no_walks (length table) marks pairs e)
    ∙ ap (λ (multiples : List LemmaMultiple). lemma_bound n table node (plain pairs) multiples weights)
    (no_lemmas (length table) (length marks.walks) facts pairs e)
    ∙ ap (option_map (λ v. ceil_div v 1)) (value_without_lemmas n table node (plain pairs) true)
    ∙ cost_without_walks n table node pairs

pub same_pairs : (table : List (List SignedRow)) (marks : Marks) (facts : List Lemma) (goal : Goal) (least : Option ℕ)
    (pairs : List Pair) → names_more (length table) pairs ≡ false
    → PairsExist (Behind marks facts goal) table pairs ↔ PairsExist (Plain least) table pairs
same_pairs table marks facts goal least pairs e = named_cycles (length table) (length marks.walks + length facts) pairs e

-- ---- leaves

both_ways : {A B : Type 0} → A ↔ B → {C D : Type 0} → C ↔ D → (A × C) ↔ (B × D)
both_ways h k = (λ x. (h.0 x.0, k.0 x.1), λ y. (h.1 y.0, k.1 y.1))

pub plain_leaf : (n : Net) (table : List (List SignedRow)) (marks : Marks) (facts : List Lemma) (least : Option ℕ) (leaf : Leaf)
    (node : Node) → names_more (length table) (pairs_of_leaf leaf) ≡ false
    → IsSoundLeaf (Behind marks facts (cost_goal n least)) n table leaf node ↔ IsSoundLeaf (Plain least) n table leaf node
plain_leaf n table marks facts least (Bound pairs) node e =
    let P : Option ℤ → Type 0 = λ v. Reaches v (option_map pos least) in
    let same = same_bound n table marks facts least node pairs e in
    both_ways (same_pairs table marks facts (cost_goal n least) least pairs e) (subst P same, subst P (sym same))
plain_leaf n table marks facts least (Shut (ByPairs pairs)) node e =
    let P : Option ℤ → Type 0 = λ v. IsSomeAnd v (λ z. pos 0 <ℤ z) in
    let same = same_lack n table marks facts (cost_goal n least) least node pairs e in
    both_ways (same_pairs table marks facts (cost_goal n least) least pairs e) (subst P same, subst P (sym same))
plain_leaf n table marks facts least (Shut (ByGap cycle)) node e = (λ s. s, λ s. s)
plain_leaf n table marks facts least (Shut ByPropagation) node e = (λ s. s, λ s. s)

-- ---- a front that has no marked walk and no lemma

cycles_alone : (cycles : ℕ) (pairs : List Pair) → All (λ pair. Names cycles pair.cycle) pairs → names_more cycles pairs ≡ false
cycles_alone cycles pairs h = none_more cycles pairs (λ k d l. (h k d l).1)

none_named : (cycles others : ℕ) (pairs : List Pair) → others ≡ 0 → AreNamed cycles others pairs → names_more cycles pairs ≡ false
none_named cycles others pairs e h = none_more cycles pairs (λ k d l. let here = h k d l in omega (arith, here.0, e))

module _ (n : Net) (table : List (List SignedRow)) (marks : Marks) (facts : List Lemma) (least : Option ℕ)
    (none : length marks.walks + length facts ≡ 0) where
  to_leaf : (leaf : Leaf) (node : Node) → IsSoundLeaf (Plain least) n table leaf node
      → IsSoundLeaf (Behind marks facts (cost_goal n least)) n table leaf node
  to_leaf (Bound pairs) node s = (plain_leaf n table marks facts least (Bound pairs) node (cycles_alone (length table) pairs s.0)).1 s
  to_leaf (Shut (ByPairs pairs)) node s = (plain_leaf n table marks facts least (Shut (ByPairs pairs)) node
      (cycles_alone (length table) pairs s.0)).1 s
  to_leaf (Shut (ByGap cycle)) node s = s
  to_leaf (Shut ByPropagation) node s = s

  from_leaf : (leaf : Leaf) (node : Node) → IsSoundLeaf (Behind marks facts (cost_goal n least)) n table leaf node
      → IsSoundLeaf (Plain least) n table leaf node
  from_leaf (Bound pairs) node s = (plain_leaf n table marks facts least (Bound pairs) node
      (none_named (length table) (length marks.walks + length facts) pairs none s.0)).0 s
  from_leaf (Shut (ByPairs pairs)) node s = (plain_leaf n table marks facts least (Shut (ByPairs pairs)) node
      (none_named (length table) (length marks.walks + length facts) pairs none s.0)).0 s
  from_leaf (Shut (ByGap cycle)) node s = s
  from_leaf (Shut ByPropagation) node s = s

  to_tree : (tree : Tree) (node : Node) → IsSound (Plain least) n table tree node
      → IsSound (Behind marks facts (cost_goal n least)) n table tree node
  to_tree (Ends leaf) node s = to_leaf leaf node s
  to_tree (Branch cut low high) node s = (s.0, to_tree low (low_part node cut) s.1, to_tree high (high_part node cut) s.2)

  from_tree : (tree : Tree) (node : Node) → IsSound (Behind marks facts (cost_goal n least)) n table tree node
      → IsSound (Plain least) n table tree node
  from_tree (Ends leaf) node s = from_leaf leaf node s
  from_tree (Branch cut low high) node s = (s.0, from_tree low (low_part node cut) s.1, from_tree high (high_part node cut) s.2)

no_lengths : (marks : Marks) → marks.walks ≡ [] → length marks.walks + 0 ≡ 0
no_lengths marks none = let e : length marks.walks ≡ 0 = ap length none in omega (arith, e)

pub without_walks : (p : Pesp) (content : Content) (marks : Marks) → 0 < marks.scale → marks.walks ≡ []
    → IsValid None p content ↔ IsValid (Some (record { marks = marks; lemmas = [] })) p content
without_walks p content marks positive none =
    let P : List (List MarkedRow) → Type 0 = All (IsMarkedWalk (arcs_of p)) in
    let least = least_of content.answer in (
      λ v. record {
        shown = record {
          lemmas = tt;
          marks = record { scale = positive; walks = subst P (sym none) (All-nil (IsMarkedWalk (arcs_of p))) };
        };
        period = v.period;
        answer = v.answer;
        cycles = v.cycles;
        tree = (
          v.tree.0,
          v.tree.1,
          to_tree (net_of p) content.cycles marks [] least (no_lengths marks none) v.tree.0 (root (net_of p) content.cycles) v.tree.2,
        );
      },
      λ v. record {
        shown = tt;
        period = v.period;
        answer = v.answer;
        cycles = v.cycles;
        tree = (
          v.tree.0,
          v.tree.1,
          from_tree (net_of p) content.cycles marks [] least (no_lengths marks none) v.tree.0 (root (net_of p) content.cycles) v.tree.2,
        );
      },
    )
