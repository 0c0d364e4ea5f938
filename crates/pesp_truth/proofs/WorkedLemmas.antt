-- A lemma worked by hand, against what the definitions compute.
use Rattle.std.proofs.Common.{◌≡◌, ℕ, ◌<◌, true, List, [], ◌∷◌, refl, arith}
use Rattle.std.specs.Prelude.{pos, negsuc, Some}
use Rattle.std.proofs.lemmas.Int.{ints}
use Rattle.std.proofs.lemmas.List.Elements.{All-nil}
use lib.Signed.{le_z_yes}
use Rattle.pesp_problem.specs.declared.pair.Pair.{Pair}
use Rattle.pesp_problem.specs.declared.row.SignedRow.{SignedRow}
use Rattle.pesp_problem.specs.Timetables.{Pesp, IsSatisfied, IsTimetableOfCost}
use Rattle.pesp_problem.specs.Arcs.{Net, arc_at, arcs_of, net_of, slacks_at}
use Rattle.pesp_problem.specs.Walks.{Names, RowExists, IsWalk}
use Rattle.pesp_problem.specs.Nodes.{root, weight_of}
use Rattle.pesp_problem.proofs.Worked.{row, plus, minus, pair, single, both}
use Rattle.pesp_problem.specs.Marked.{IsMarkedWalk}
use Rattle.pesp_truth.specs.declared.answer.Answer.TheVariants.{Optimal}
use Rattle.pesp_truth.specs.declared.tree.TreeLine.TheVariants.{Bound as BoundLine}
use Rattle.pesp_truth.specs.Marks.{Marks}
use Rattle.pesp_truth.specs.Named.{IsNamed}
use Rattle.pesp_truth.specs.Truth.{IsTrueAnswer}
use Rattle.pesp_truth.specs.Certificates.{Content, Front, IsValid}
use Rattle.pesp_truth.specs.Lemmas.{Lemma, lemma_sum, IsTrueOf}
use Rattle.pesp_truth.specs.Trees.{Tree, Ends, Bound, value_rounded}
use Rattle.pesp_truth.specs.Shown.{LemmaProof, IsShownLemma}
use Rattle.pesp_truth.proofs.Shown.{shown_is_true}
use Rattle.pesp_truth.proofs.Certificates.{valid_is_true}

-- two rows side by side at a period of 10: the second event is 2 or 3 behind the first
abbrev two : Pesp
two = record {
  period = 10;
  events = pos 1 ∷ pos 2 ∷ [];
  rows = row (pos 1) 0 1 (pos 0) (pos 3) 1 ∷ row (pos 2) 0 1 (pos 2) (pos 9) 0 ∷ [];
}

-- the slack of the first row is 2 more than that of the second
abbrev apart : Lemma
apart = record { weights = pair 1 (pos 1) ∷ pair 2 (negsuc 0) ∷ []; least = pos 2 }

apart_at_two : lemma_sum (arcs_of two) apart.weights (slacks_at (net_of two) (0 ∷ 2 ∷ [])) ≡ pos 2
apart_at_two = refl

apart_at_three : lemma_sum (arcs_of two) apart.weights (slacks_at (net_of two) (0 ∷ 3 ∷ [])) ≡ pos 2
apart_at_three = refl

-- a leaf that names the cycle once shows it
abbrev around : List SignedRow
around = plus 1 ∷ minus 2 ∷ []

around_closes : IsWalk (arcs_of two) around
around_closes = (
  both (RowExists (arcs_of two)) (plus 1) (minus 2) (omega arith, omega arith) (omega arith, omega arith),
  (refl, (refl, refl)),
)

abbrev no_marks : Marks
no_marks = record { scale = 1; walks = [] }

abbrev once : List Pair
once = pair 1 (pos 1) ∷ []

abbrev apart_proof : LemmaProof
apart_proof = record { fact = apart; marks = no_marks; cycles = around ∷ []; tree = BoundLine once ∷ [] }

apart_is_shown : IsShownLemma (net_of two) [] apart_proof
apart_is_shown = record {
  rows = both (λ (p : Pair). Names 2 p.cycle) (pair 1 (pos 1)) (pair 2 (negsuc 0)) (omega arith, omega arith) (omega arith, omega arith);
  marks = record { scale = omega arith; walks = All-nil (IsMarkedWalk (arcs_of two)) };
  cycles = single (IsWalk (arcs_of two)) around around_closes;
  tree = (
    Ends (Bound once),
    refl,
    (single (IsNamed 1 0) (pair 1 (pos 1)) ((omega arith, omega arith), λ above. absurd (omega arith)), le_z_yes tt),
  );
}

apart_is_true : IsTrueOf two apart
apart_is_true = shown_is_true two [] apart_proof (omega arith) (All-nil (IsTrueOf two)) apart_is_shown

-- with no cycles and no walks the lemma has number 1; a leaf that names it shows that each timetable costs at least 2, and one
-- that names nothing shows 0
lemma_leaf : value_rounded no_marks (apart ∷ []) (net_of two) [] (root (net_of two) []) once (λ i. weight_of true (arc_at (arcs_of two) i))
    ≡ Some (pos 2)
lemma_leaf = refl

bare_leaf : value_rounded no_marks (apart ∷ []) (net_of two) [] (root (net_of two) []) [] (λ i. weight_of true (arc_at (arcs_of two) i))
    ≡ Some (pos 0)
bare_leaf = refl

-- ---- a whole certificate: the lemma with what shows it, then one leaf that names it

abbrev times : List ℕ
times = 0 ∷ 2 ∷ []

abbrev content : Content
content = record {
  version = 1;
  period = 10;
  answer = Optimal 2;
  times = (pos 1, 0) ∷ (pos 2, 2) ∷ [];
  cycles = [];
  tree = BoundLine once ∷ [];
}

two_timetable : IsTimetableOfCost two times 2
two_timetable = (
  (
    (refl, both (λ t. t < 10) 0 2 (omega arith) (omega arith)),
    both (λ r. IsSatisfied two times r) (row (pos 1) 0 1 (pos 0) (pos 3) 1) (row (pos 2) 0 1 (pos 2) (pos 9) 0) (le_z_yes tt) (le_z_yes tt),
  ),
  refl,
)

abbrev front : Front
front = record { marks = no_marks; lemmas = apart_proof ∷ [] }

two_valid : IsValid (Some front) two content
two_valid = record {
  shown = record {
    lemmas = (apart_is_shown, tt);
    marks = record { scale = omega arith; walks = All-nil (IsMarkedWalk (arcs_of two)) };
  };
  period = refl;
  answer = (refl, two_timetable);
  cycles = All-nil (IsWalk (arcs_of two));
  tree = (
    Ends (Bound once),
    refl,
    (single (IsNamed 0 1) (pair 1 (pos 1)) ((omega arith, omega arith), λ above. omega (arith, ints)), le_z_yes tt),
  );
}

two_is_optimal : IsTrueAnswer two (Optimal 2) times
two_is_optimal = valid_is_true (Some front) two content (omega arith) two_valid
