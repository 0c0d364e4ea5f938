-- The opening board: no pairs are worth 0 at the root.
use Rattle.std.proofs.Common.{◌≡◌, ℕ, zero, suc, List, [], ◌∷◌, length, map, refl, sym, ap, ◌∙◌, arith, subst, inl, inr, true}
use Rattle.std.specs.Prelude.{pos, ◌-ℤ◌, ◌*ℤ◌, ◌≤ℤ◌, Some, None, option_map, Contains}
use Rattle.std.specs.List.Sorted.{IsPermutation}
use Rattle.std.proofs.lemmas.Int.{ints, clamps}
use Rattle.std.proofs.lemmas.List.Elements.{Contains-append_cases, Contains-append_left}
use Rattle.std.proofs.lemmas.List.Sorted.{IsPermutation-sym, Contains-permutation}
use Rattle.pesp_problem.specs.declared.pair.Pair.{Pair}
use Rattle.pesp_problem.specs.declared.arc.Arc.{Arc}
use Rattle.pesp_problem.specs.declared.row.SignedRow.{SignedRow}
use Rattle.pesp_problem.specs.Arcs.{Net, arc_at}
use Rattle.pesp_problem.specs.Nodes.{root, leaf_value, slack_part, slack_range, root_slacks}
use Rattle.pesp_problem.proofs.Integers.{sum_below-zero, zero-mul, mul_comm, mul-le}
use Rattle.pesp_truth.specs.Trees.{Bound}
use Rattle.pesp_network.specs.Networks.{KeepsNetLimits}
use Rattle.pesp_nodes.specs.Problems.{ProblemValue, IsSmallTable, problem_net}
use Rattle.pesp_tree.specs.WorkTrees.{WorkTreeValue, IsWhole, leaf_at}
use Rattle.pesp_tree.specs.WorkTrees as trees
use Rattle.pesp_tree.specs.declared.entry.Entry.{Entry}
use Rattle.pesp_tree.specs.Entries.{entry, HasItem}
use Rattle.pesp_tree.specs.Queues.{QueueValue, all_of}
use Rattle.pesp_tree.specs.BoardLeaves.{told}
use Rattle.pesp_tree.proofs.Runs.{opening_is_orderly}
use Rattle.pesp_board.specs.declared.slot.Slot.{Slot}
use Rattle.pesp_board.specs.Insides.{IsWorth, IsQueue, IsBoard, IsLentNode}
use Rattle.pesp_board.proofs.Queues.{none_held, one_held}

-- ---- the value of no pairs at the root

least_slack : (arcs : List Arc) (i : ℕ) → (slack_range (map (λ (arc : Arc). (0, arc.span)) arcs) i).0 ≡ 0
least_slack [] i = refl
least_slack (arc ∷ arcs) zero = refl
least_slack (arc ∷ arcs) (suc i) = least_slack arcs i

-- a natural times a natural is none below 0
times_natural : (w y : ℕ) → pos 0 ≤ℤ ((pos w -ℤ pos 0) *ℤ pos y)
times_natural w y = omega (arith, ints, mul-le w (pos 0) (pos y) (omega (arith, ints)))

times_zero : (w y : ℕ) → y ≡ 0 → (pos w -ℤ pos 0) *ℤ pos y ≡ pos 0
times_zero w y e = ap (λ (m : ℕ). (pos w -ℤ pos 0) *ℤ pos m) e ∙ mul_comm (pos w -ℤ pos 0) (pos 0) ∙ zero-mul (pos w -ℤ pos 0)

costs_nothing : (n : Net) (table : List (List SignedRow)) (i : ℕ) → slack_part n table (root n table) [] true i ≡ pos 0
costs_nothing n table i =
    let w = (arc_at n.arcs i).weight in
    let range = slack_range (root_slacks n) i in
    let none = times_zero w range.0 (least_slack n.arcs i) in
    let some = times_natural w range.1 in
    omega (arith, ints, clamps, none, some)

pub no_pairs_value : (n : Net) (table : List (List SignedRow)) → leaf_value n table (root n table) [] true ≡ Some (pos 0)
no_pairs_value n table =
    let count = length n.arcs in
    let terms = sum_below-zero count (slack_part n table (root n table) [] true) (λ i l. costs_nothing n table i) in
    let flows = sum_below-zero count (λ i. pos 0 *ℤ (arc_at n.arcs i).lower) (λ i l. zero-mul (arc_at n.arcs i).lower) in
    ap Some (omega (arith, ints, terms, flows))

-- ---- the queue of the opening

pub nothing_lent : (node : ℕ) → IsLentNode [] node → ⊥
nothing_lent node l = cc (l.1)

first_leaf : (node : ℕ) (pairs : List Pair) → leaf_at trees.opening_tree node ≡ Some (Bound pairs) → node ≡ 0
first_leaf zero pairs e = refl
first_leaf (suc node) pairs e = cc

opening_queue : (p : ProblemValue) (q : QueueValue) → IsPermutation (entry 0 0 ∷ []) q.waiting
    → IsPermutation [] q.parked → IsQueue p trees.opening_tree [] q
opening_queue p q w k =
    let none : (e : Entry) → Contains q.parked e
    → ⊥ = λ e h. none_held e (Contains-permutation q.parked [] e (IsPermutation-sym _ _ k) h) in
    let worth : IsWorth p trees.opening_tree (entry 0 0) =
    record { pairs = []; leaf = refl; worth = ap (option_map told) (no_pairs_value (problem_net p) p.table) } in
    let here : Contains q.waiting (entry 0 0) = Contains-permutation (entry 0 0 ∷ []) q.waiting (entry 0 0) w (0, omega arith, refl) in
    record {
      each = λ e h. elim (Contains-append_cases q.waiting q.parked e h) [
        | inl waits ↦ subst (IsWorth p trees.opening_tree)
            (one_held e (entry 0 0) (Contains-permutation q.waiting (entry 0 0 ∷ []) e
            (IsPermutation-sym _ _ w) waits)) worth
        | inr lies ↦ absurd (none e lies)
      ];
      has = λ node pairs e. subst (HasItem (all_of q)) (sym (first_leaf node pairs e))
          (0, Contains-append_left q.waiting q.parked (entry 0 0) here);
      lent = λ node l. absurd (nothing_lent node l);
      parked = λ node h. absurd (none (entry node h.0) h.1);
    }

pub opening_board : (p : ProblemValue) (t : WorkTreeValue) (slots : List Slot) (q r : QueueValue)
    → KeepsNetLimits p.network → IsSmallTable p.table → t ≡ trees.opening_tree → IsWhole t → slots ≡ [] → r.waiting ≡ []
    → r.parked ≡ [] → IsPermutation (entry 0 0 ∷ r.waiting) q.waiting → IsPermutation r.parked q.parked
    → IsBoard p t slots q None 0
opening_board p t slots q r network table e whole none w k more same = record {
  network = network;
  table = table;
  whole = whole;
  orderly = rw (e, none) (opening_is_orderly p);
  queue = rw (e, none) (opening_queue p q (subst (λ l. IsPermutation (entry 0 0 ∷ l) q.waiting) w more)
      (subst (λ l. IsPermutation l q.parked) k same));
  cost = refl;
  pairs = rw e refl;
}
