-- Lines that are judged one after the other.
use Rattle.std.proofs.Common.{◌≡◌, ◌≢◌, inl, inr, ℕ, ◌+◌, ◌<◌, ◌≤◌, arith, ap, sym, ◌∙◌, List, [], ◌∷◌, length, get_or, drop, map, subst, true, Option, Some, None}
use Rattle.std.proofs.lemmas.List.{drop_all, drop_more}
use Rattle.pesp_problem.specs.declared.row.SignedRow.{SignedRow}
use Rattle.pesp_problem.specs.Arcs.{Net}
use Rattle.pesp_problem.specs.Nodes.{Node}
use Rattle.pesp_truth.specs.declared.tree.TreeLine.{TreeLine}
use Rattle.pesp_truth.specs.Trees.{Leaf, Line, EndLine, CutLine, Claim, AreSound, are_trees, line_of}
use Rattle.pesp_judges.specs.declared.refusal.Refusal.{Refusal}
use Rattle.pesp_judges.specs.Lines.{after, IsLeafVerdict, IsLineVerdict, IsSoundLine, IsLineFault, IsLinesFault, AreJudged}

-- ---- one line

sound_step : (claim : Claim) (n : Net) (table : List (List SignedRow)) (line : Line) (lines : List Line)
    (nodes : List Node) → IsSoundLine claim n table line nodes → AreSound claim n table lines (after line nodes)
    → AreSound claim n table (line ∷ lines) nodes
sound_step claim n table line lines [] s a = absurd s
sound_step claim n table (EndLine leaf) lines (node ∷ nodes) s a = (s, a)
sound_step claim n table (CutLine cut) lines (node ∷ nodes) s a = (s, a)

trees_step : (line : Line) (lines : List Line) (nodes : List Node) → are_trees (length nodes) (line ∷ lines) ≡ true
    → are_trees (length (after line nodes)) lines ≡ true
trees_step line lines [] e = cc
trees_step (EndLine leaf) lines (node ∷ nodes) e = e
trees_step (CutLine cut) lines (node ∷ nodes) e = e

trees_open : (line : Line) (lines : List Line) (nodes : List Node) → are_trees (length nodes) (line ∷ lines) ≡ true → nodes ≢ []
trees_open line lines [] e = cc
trees_open line lines (node ∷ nodes) e = λ f. cc

trees_done : (claim : Claim) (n : Net) (table : List (List SignedRow)) (nodes : List Node)
    → are_trees (length nodes) [] ≡ true → AreSound claim n table [] nodes
trees_done claim n table [] e = tt
trees_done claim n table (node ∷ nodes) e = cc

-- a leaf at the first of the nodes that wait
pub leaf_told : (claim : Claim) (n : Net) (table : List (List SignedRow)) (leaf : Leaf) (nodes nodes' rest : List Node) (node : Node)
    (at : ℕ) (found : Option Refusal) → nodes ≡ node ∷ rest → nodes' ≡ drop 1 nodes → IsLeafVerdict claim n table leaf node at found
    → IsLineVerdict claim n table (EndLine leaf) nodes nodes' at found
leaf_told claim n table leaf nodes nodes' rest node at None is d h = rw is (h, rw is at d)
leaf_told claim n table leaf nodes nodes' rest node at (Some refusal) is d h = rw is h

-- ---- the lines that are left

pub judged_none : (claim : Claim) (n : Net) (table : List (List SignedRow)) (lines : List TreeLine)
    (node : Node) (first : ℕ) → AreJudged claim n table lines node first (node ∷ []) 0
judged_none claim n table lines node first = record {
  sound = λ a. a;
  fault = λ refusal f. let P : ℕ → Type 0 = λ m.
      IsLinesFault claim n table (map line_of lines) (node ∷ []) m refusal in subst P (omega arith) f;
}

module _ (lines : List TreeLine) (k : ℕ) (line : TreeLine) (within : k < length lines) (is : line ≡ get_or lines k line) where
  pub next_line : map line_of (drop k lines) ≡ line_of line ∷ map line_of (drop (k + 1) lines)
  next_line = ap (map line_of) (drop_more lines k line within)
      ∙ ap (λ (l : TreeLine). line_of l ∷ map line_of (drop (k + 1) lines)) (sym is)

  pub open_there : (nodes : List Node) → are_trees (length nodes) (map line_of (drop k lines)) ≡ true → nodes ≢ []
  open_there nodes e = trees_open (line_of line) (map line_of (drop (k + 1) lines)) nodes
      (ap (are_trees (length nodes)) (sym next_line) ∙ e)

  pub whole_more : (nodes nodes' : List Node) → nodes' ≡ after (line_of line) nodes
      → are_trees (length nodes) (map line_of (drop k lines)) ≡ true
      → are_trees (length nodes') (map line_of (drop (k + 1) lines)) ≡ true
  whole_more nodes nodes' e w = ap (λ (ns : List Node). are_trees (length ns) (map line_of (drop (k + 1) lines))) e
      ∙ trees_step (line_of line) (map line_of (drop (k + 1) lines)) nodes
      (ap (are_trees (length nodes)) (sym next_line) ∙ w)

  module _ (claim : Claim) (n : Net) (table : List (List SignedRow)) (node : Node) (first : ℕ)
      (nodes : List Node) (before : AreJudged claim n table lines node first nodes k) where
    pub judged_more : (nodes' : List Node) → IsSoundLine claim n table (line_of line) nodes
        → nodes' ≡ after (line_of line) nodes → AreJudged claim n table lines node first nodes' (k + 1)
    judged_more nodes' s e = record {
      sound = λ a.
          let P : List Line → Type 0 = λ ls. AreSound claim n table ls nodes in
          let Q : List Node → Type 0 = λ ns. AreSound claim n table (map line_of (drop (k + 1) lines)) ns in
          before.sound (subst P (sym next_line)
          (sound_step claim n table (line_of line) (map line_of (drop (k + 1) lines)) nodes s (subst Q e a)));
      fault = λ refusal f.
          let P : List Line → Type 0 = λ ls. IsLinesFault claim n table ls nodes (first + k) refusal in
          let Q : List Node → Type 0 = λ ns. IsLinesFault claim n table (map line_of (drop (k + 1) lines)) ns (first + (k + 1)) refusal in
          let R : ℕ → Type 0 = λ m. IsLinesFault claim n table (map line_of (drop (k + 1) lines)) (after (line_of line) nodes) m refusal in
          before.fault refusal (subst P (sym next_line) (inr (s, subst R (omega arith) (subst Q e f))));
    }

    pub fault_here : (at : ℕ) (refusal : Refusal) → at ≡ first + k
        → IsLineFault claim n table (line_of line) nodes at refusal
        → IsLinesFault claim n table (map line_of lines) (node ∷ []) first refusal
    fault_here at refusal e f =
        let P : List Line → Type 0 = λ ls. IsLinesFault claim n table ls nodes (first + k) refusal in
        let R : ℕ → Type 0 = λ m. IsLineFault claim n table (line_of line) nodes m refusal in
        before.fault refusal (subst P (sym next_line) (inl (subst R e f)))

pub judged_all : (claim : Claim) (n : Net) (table : List (List SignedRow)) (lines : List TreeLine) (node : Node)
    (first : ℕ) (nodes : List Node) (k : ℕ) → length lines ≤ k
    → are_trees (length nodes) (map line_of (drop k lines)) ≡ true
    → AreJudged claim n table lines node first nodes k → AreSound claim n table (map line_of lines) (node ∷ [])
judged_all claim n table lines node first nodes k done whole h =
    let none : map line_of (drop k lines) ≡ [] = ap (map line_of) (drop_all k lines done) in
    let P : List Line → Type 0 = λ ls. AreSound claim n table ls nodes in
    h.sound (subst P (sym none) (trees_done claim n table nodes (ap (are_trees (length nodes)) (sym none) ∙ whole)))
