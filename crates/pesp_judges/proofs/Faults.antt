-- Faults of lines are faults of their tree, and no valid certificate has a fault.
use Rattle.std.proofs.Common.{◌≡◌, ◌⊎◌, inl, inr, ℕ, ◌+◌, ◌-◌, arith, sym, ◌∙◌, List, [], ◌∷◌, ◌++◌, length, subst, Option, Some, None, length-append, append_assoc, true, refl, ℤ}
use Rattle.std.specs.Prelude.{All, IfSome, map, ◌↔◌}
use Rattle.std.proofs.lemmas.List.{append-nil}
use Rattle.std.proofs.lemmas.List.Elements.{All-map}
use Rattle.pesp_problem.specs.declared.row.SignedRow.{SignedRow}
use Rattle.pesp_problem.specs.declared.arc.Arc.{Arc}
use Rattle.pesp_problem.specs.Timetables.{Pesp, no_row}
use Rattle.pesp_problem.specs.Arcs.{Net, net_of, arcs_of}
use Rattle.pesp_problem.specs.Walks.{IsWalk}
use Rattle.pesp_problem.specs.Nodes.{Node, root, low_part, high_part}
use Rattle.pesp_problem.specs.declared.marked.MarkedRow.{MarkedRow}
use Rattle.pesp_problem.specs.Marked.{signed_rows, IsMarkedWalk}
use Rattle.pesp_truth.specs.declared.answer.Answer.{Answer}
use Rattle.pesp_truth.specs.declared.answer.Answer.TheVariants.{Optimal, Infeasible, Bounded}
use Rattle.pesp_truth.specs.Lemmas.{Lemma}
use Rattle.pesp_truth.specs.Trees.{Tree, Ends, Branch, Leaf, Bound, Shut, Reason, ByPairs, ByGap, ByPropagation, Line, line_of, preorder, Claim, Reaches, bound_by, IsShut, IsSoundLeaf, IsSound, AreSound, are_trees}
use Rattle.pesp_truth.specs.Shown.{LemmaProof, lemma_lines, lemma_claim, IsShownLemma, AreShownLemmas}
use Rattle.pesp_truth.specs.Certificates.{Content, Front, IsShownFront, claim_of, IsValid, ShowsAnswer, ShowsTimetable, shown_labels, shown_times, least_of, cost_of, lines_of}
use Rattle.pesp_truth.proofs.Lines.{whole_tree, one_tree, sound_as_tree}
use Rattle.pesp_judges.specs.declared.refusal.Refusal.{Refusal}
use Rattle.pesp_judges.specs.declared.refusal.Verdict.{Verdict}
use Rattle.pesp_judges.specs.declared.refusal.Verdict.TheVariants.{Accepted, Refused}
use Rattle.pesp_judges.specs.Faults.{HasShape, IsTimesFault, IsAnswerFault, IsCycleFault, IsMarkFault, IsReasonFault, IsLeafFault, IsTreeFault, IsLinesTreeFault, IsLemmaFault, IsLemmasFault, own_line, IsFrontFault, IsMarksFault, IsLaterFault, IsFirstFault, IsVerdict}
use Rattle.pesp_judges.specs.Lines.{IsLinesFault}

-- ---- from lines to the tree

-- a fault of a tree's lines and others is one of the tree, or the tree is sound and it is one of the others
fault_in_tree : (claim : Claim) (n : Net) (table : List (List SignedRow)) (tree : Tree) (node : Node)
    (nodes : List Node) (rest : List Line) (at : ℕ) (refusal : Refusal)
    → IsLinesFault claim n table (preorder tree ++ rest) (node ∷ nodes) at refusal
    → IsTreeFault claim n table tree node at refusal
    ⊎ (IsSound claim n table tree node × IsLinesFault claim n table rest nodes
    (at + length (preorder tree)) refusal)
fault_in_tree claim n table (Ends leaf) node nodes rest at refusal (inl f) = inl f
fault_in_tree claim n table (Ends leaf) node nodes rest at refusal (inr g) = inr g
fault_in_tree claim n table (Branch cut low high) node nodes rest at refusal (inl f) = inl (inl f)
fault_in_tree claim n table (Branch cut low high) node nodes rest at refusal (inr g) =
    let P : List Line → Type 0 = λ ls. IsLinesFault claim n table ls (low_part node cut ∷ high_part node cut ∷ nodes) (at + 1) refusal in
    let first = subst P (append_assoc (preorder low) (preorder high) rest) g.1 in
    elim (fault_in_tree claim n table low (low_part node cut) (high_part node cut ∷ nodes) (preorder high ++ rest) (at + 1) refusal first) [
      | inl f ↦ inl (inr (inl (g.0, f)))
      | inr s ↦
          elim (fault_in_tree claim n table high (high_part node cut) nodes rest (at + 1 + length (preorder low)) refusal s.1) [
            | inl f ↦ inl (inr (inr (g.0, s.0, f)))
            | inr t ↦
                let R : ℕ → Type 0 = λ m. IsLinesFault claim n table rest nodes m refusal in
                inr ((g.0, s.0, t.0), subst R (omega (arith, length-append (preorder low) (preorder high))) t.1)
          ]
    ]

pub tree_fault_is : (claim : Claim) (n : Net) (table : List (List SignedRow)) (tree : Tree) (lines : List Line)
    (node : Node) (at : ℕ) (refusal : Refusal) → preorder tree ≡ lines
    → IsLinesFault claim n table lines (node ∷ []) at refusal → IsTreeFault claim n table tree node at refusal
tree_fault_is claim n table tree lines node at refusal e f =
    let P : List Line → Type 0 = λ ls. IsLinesFault claim n table ls (node ∷ []) at refusal in
    elim (fault_in_tree claim n table tree node [] [] at refusal (subst P (sym e ∙ sym (append-nil (preorder tree))) f)) [
      | inl g ↦ g
      | inr g ↦ absurd g.1
    ]

-- the fault of a tree that lines are
pub lines_tree_fault : (claim : Claim) (n : Net) (table : List (List SignedRow)) (lines : List Line) (at : ℕ) (refusal : Refusal)
    → are_trees 1 lines ≡ true → IsLinesFault claim n table lines (root n table ∷ []) at refusal
    → IsLinesTreeFault claim n table lines at refusal
lines_tree_fault claim n table lines at refusal whole f =
    let tree = (whole_tree lines).0 whole in
    (tree.0, tree.1, tree_fault_is claim n table tree.0 lines (root n table) at refusal tree.1 f)

pub later_tree_fault : (front : Option Front) (p : Pesp) (content : Content) (refusal : Refusal) → are_trees 1 (lines_of content) ≡ true
    → ShowsAnswer p content.answer (shown_labels content) (shown_times content)
    → All (IsWalk (arcs_of p)) content.cycles → IfSome front (λ f. All (IsMarkedWalk (arcs_of p)) f.marks.walks)
    → IsLinesFault (claim_of front (net_of p) (least_of content.answer)) (net_of p) content.cycles (lines_of content)
    (root (net_of p) content.cycles ∷ []) (own_line front (4 + length content.times + length content.cycles)) refusal
    → IsLaterFault front p content refusal
later_tree_fault front p content refusal whole answer cycles closed f =
    inr (inr (inr (
      answer,
      cycles,
      closed,
      lines_tree_fault (claim_of front (net_of p) (least_of content.answer)) (net_of p) content.cycles (lines_of content)
          (own_line front (4 + length content.times + length content.cycles)) refusal whole f,
    )))

pub valid_is : (front : Option Front) (p : Pesp) (content : Content) → IfSome front (IsShownFront (net_of p))
    → content.period ≡ p.period → ShowsAnswer p content.answer (shown_labels content) (shown_times content)
    → All (IsWalk (arcs_of p)) content.cycles
    → AreSound (claim_of front (net_of p) (least_of content.answer)) (net_of p) content.cycles (lines_of content)
    (root (net_of p) content.cycles ∷ []) → IsValid front p content
valid_is front p content shown period answer cycles sound = record {
  shown = shown;
  period = period;
  answer = answer;
  cycles = cycles;
  tree = sound_as_tree (claim_of front (net_of p) (least_of content.answer)) (net_of p) content.cycles (lines_of content)
      (root (net_of p) content.cycles) sound;
}

-- ---- a certificate with a fault isn't valid

shape_of : (p : Pesp) (answer : Answer) (labels : List ℤ) (times : List ℕ) → ShowsAnswer p answer labels times → HasShape answer times
shape_of p (Optimal c) labels times h = tt
shape_of p Infeasible labels times h = h
shape_of p (Bounded least (Some c)) labels times h = h.0
shape_of p (Bounded least None) labels times h = h

timetable_of : (p : Pesp) (answer : Answer) (labels : List ℤ) (times : List ℕ) (c : ℕ)
    → ShowsAnswer p answer labels times → cost_of answer ≡ Some c → ShowsTimetable p labels times c
timetable_of p (Optimal d) labels times c h e = let same : d ≡ c = cc in
    let P : ℕ → Type 0 = λ m. ShowsTimetable p labels times m in subst P same h
timetable_of p Infeasible labels times c h e = cc
timetable_of p (Bounded least (Some d)) labels times c h e = let same : d ≡ c = cc in
    let P : ℕ → Type 0 = λ m. ShowsTimetable p labels times m in subst P same h.1
timetable_of p (Bounded least None) labels times c h e = cc

times_fault : (p : Pesp) (c : ℕ) (labels : List ℤ) (times : List ℕ) (refusal : Refusal)
    → ShowsTimetable p labels times c → IsTimesFault p c labels times refusal → ⊥
times_fault p c labels times refusal h (inl f) = f.1 (h.0, h.1.0.0)
times_fault p c labels times refusal h (inr (inl f)) = f.3.violated (h.1.0.1 (f.0 - 1) no_row (omega (arith, f.3.exists)))
times_fault p c labels times refusal h (inr (inr f)) = f.3 h.1.1

pub answer_fault : (p : Pesp) (answer : Answer) (labels : List ℤ) (times : List ℕ) (refusal : Refusal)
    → ShowsAnswer p answer labels times → IsAnswerFault p answer labels times refusal → ⊥
answer_fault p answer labels times refusal h (inl f) = f.1 (shape_of p answer labels times h)
answer_fault p answer labels times refusal h (inr f) =
    times_fault p f.1.0 labels times refusal (timetable_of p answer labels times f.1.0 h f.1.1) f.1.2

pub cycle_fault : (arcs : List Arc) (cycles : List (List SignedRow)) (line : ℕ) (refusal : Refusal)
    → All (IsWalk arcs) cycles → IsCycleFault arcs cycles line refusal → ⊥
cycle_fault arcs cycles line refusal h f = let first = f.1 in first.open_ends (h (f.0 - 1) [] (omega (arith, first.exists)))

reason_fault : (claim : Claim) (n : Net) (table : List (List SignedRow)) (reason : Reason) (node : Node) (at : ℕ)
    (refusal : Refusal) → IsShut claim n table reason node → IsReasonFault claim n table reason node at refusal → ⊥
reason_fault claim n table (ByPairs pairs) node at refusal h (inl f) = f.1 h.0
reason_fault claim n table (ByPairs pairs) node at refusal h (inr f) = f.2 h.1
reason_fault claim n table (ByGap cycle) node at refusal h (inl f) = f.1 h.0
reason_fault claim n table (ByGap cycle) node at refusal h (inr f) = f.2 h.1
reason_fault claim n table ByPropagation node at refusal h f = f.1 h

leaf_fault : (claim : Claim) (n : Net) (table : List (List SignedRow)) (leaf : Leaf) (node : Node) (at : ℕ)
    (refusal : Refusal) → IsSoundLeaf claim n table leaf node → IsLeafFault claim n table leaf node at refusal → ⊥
leaf_fault claim n table (Bound pairs) node at refusal h (inl f) = f.1 h.0
leaf_fault claim n table (Bound pairs) node at refusal h (inr (inl f)) =
    let P : Option ℤ → Type 0 = λ l. Reaches (bound_by claim n table node pairs) l in subst P f.2 h.1
leaf_fault claim n table (Bound pairs) node at refusal h (inr (inr f)) =
    let P : Option ℤ → Type 0 = λ l. Reaches (bound_by claim n table node pairs) l in f.2.2 (subst P f.2.1 h.1)
leaf_fault claim n table (Shut reason) node at refusal h f = reason_fault claim n table reason node at refusal h f

tree_fault : (claim : Claim) (n : Net) (table : List (List SignedRow)) (tree : Tree) (node : Node) (at : ℕ)
    (refusal : Refusal) → IsSound claim n table tree node → IsTreeFault claim n table tree node at refusal → ⊥
tree_fault claim n table (Ends leaf) node at refusal h f = leaf_fault claim n table leaf node at refusal h f
tree_fault claim n table (Branch cut low high) node at refusal h (inl f) = f.1 h.0
tree_fault claim n table (Branch cut low high) node at refusal h (inr (inl f)) =
    tree_fault claim n table low (low_part node cut) (at + 1) refusal h.1 f.1
tree_fault claim n table (Branch cut low high) node at refusal h (inr (inr f)) =
    tree_fault claim n table high (high_part node cut) (at + 1 + length (preorder low)) refusal h.2 f.2

lines_fault : (claim : Claim) (n : Net) (table : List (List SignedRow)) (lines : List Line) (at : ℕ) (refusal : Refusal)
    → (tree : Tree) × (preorder tree ≡ lines) × IsSound claim n table tree (root n table)
    → IsLinesTreeFault claim n table lines at refusal → ⊥
lines_fault claim n table lines at refusal h f =
    let same : h.0 ≡ f.0 = one_tree h.0 f.0 (h.1 ∙ sym f.1) in
    let P : Tree → Type 0 = λ t. IsSound claim n table t (root n table) in
    tree_fault claim n table f.0 (root n table) at refusal (subst P same h.2) f.2

pub mark_fault : (arcs : List Arc) (cycles line : ℕ) (walks : List (List MarkedRow)) (refusal : Refusal)
    → All (IsMarkedWalk arcs) walks → IsMarkFault arcs cycles line walks refusal → ⊥
mark_fault arcs cycles line walks refusal closed f =
    let first = f.1 in
    let all : All (IsWalk arcs) (map signed_rows walks) = All-map (IsWalk arcs) signed_rows walks closed in
    first.open_ends (all (f.0 - 1) [] (omega (arith, first.exists)))

-- ---- lemmas

lemma_fault : (n : Net) (earlier : List Lemma) (s : LemmaProof) (at : ℕ) (refusal : Refusal) → IsShownLemma n earlier s
    → IsLemmaFault n earlier s at refusal → ⊥
lemma_fault n earlier s at refusal h (inl f) = f.1 h.rows
lemma_fault n earlier s at refusal h (inr (inl f)) = cycle_fault n.arcs s.cycles _ refusal h.cycles f.1
lemma_fault n earlier s at refusal h (inr (inr (inl f))) =
    mark_fault n.arcs (length s.cycles) (at + 2) s.marks.walks refusal h.marks.walks f.2
lemma_fault n earlier s at refusal h (inr (inr (inr f))) =
    lines_fault (lemma_claim earlier s) n s.cycles (map line_of s.tree) _ refusal h.tree f.3

lemmas_fault : (n : Net) (earlier : List Lemma) (shown : List LemmaProof) (at : ℕ) (refusal : Refusal) → AreShownLemmas n earlier shown
    → IsLemmasFault n earlier shown at refusal → ⊥
lemmas_fault n earlier [] at refusal h f = f
lemmas_fault n earlier (s ∷ shown) at refusal h (inl f) = lemma_fault n earlier s at refusal h.0 f
lemmas_fault n earlier (s ∷ shown) at refusal h (inr f) =
    lemmas_fault n (earlier ++ s.fact ∷ []) shown (at + lemma_lines s) refusal h.1 f.1

-- ---- fronts and certificates

front_fault : (front : Option Front) (p : Pesp) (refusal : Refusal) → IfSome front (IsShownFront (net_of p)) → IsFrontFault front p refusal → ⊥
front_fault None p refusal h f = f
front_fault (Some front) p refusal h f = lemmas_fault (net_of p) [] front.lemmas _ refusal h.lemmas f

marks_fault : (front : Option Front) (p : Pesp) (cycles : ℕ) (refusal : Refusal) → IfSome front (IsShownFront (net_of p))
    → IsMarksFault front p cycles refusal → ⊥
marks_fault None p cycles refusal h f = f
marks_fault (Some front) p cycles refusal h f = mark_fault (arcs_of p) cycles 2 front.marks.walks refusal h.marks.walks f

later_fault : (front : Option Front) (p : Pesp) (content : Content) (refusal : Refusal) → IsValid front p content
    → IsLaterFault front p content refusal → ⊥
later_fault front p content refusal h (inl f) = answer_fault p content.answer (shown_labels content) (shown_times content) refusal h.answer f
later_fault front p content refusal h (inr (inl f)) = cycle_fault (arcs_of p) content.cycles _ refusal h.cycles f.1
later_fault front p content refusal h (inr (inr (inl f))) = marks_fault front p (length content.cycles) refusal h.shown f.2
later_fault front p content refusal h (inr (inr (inr f))) =
    lines_fault (claim_of front (net_of p) (least_of content.answer)) (net_of p) content.cycles (lines_of content) _ refusal h.tree f.3

pub fault_is_not_valid : (front : Option Front) (p : Pesp) (content : Content) (refusal : Refusal)
    → IsFirstFault front p content refusal → IsValid front p content → ⊥
fault_is_not_valid front p content refusal (inl f) h = front_fault front p refusal h.shown f
fault_is_not_valid front p content refusal (inr (shown, inl f)) h = f.1 h.period
fault_is_not_valid front p content refusal (inr (shown, inr f)) h = later_fault front p content refusal h f.1

-- accepted is exactly what is valid
pub accepts_valid : (front : Option Front) (p : Pesp) (content : Content) (verdict : Verdict)
    → IsVerdict front p content verdict → (verdict ≡ Accepted) ↔ IsValid front p content
accepts_valid front p content Accepted h = (λ e. h, λ valid. refl)
accepts_valid front p content (Refused refusal) h = (λ e. cc, λ valid. absurd (fault_is_not_valid front p content refusal h valid))
