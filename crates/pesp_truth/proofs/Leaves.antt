-- How many lines a tree has, and what they add up to, once another tree takes the place of a leaf.
use Rattle.std.proofs.Common.{◌≡◌, ℕ, ◌+◌, List, [], ◌∷◌, ◌++◌, length, refl, ap, ◌∙◌, arith}
use Rattle.std.specs.Prelude.{sum_by}
use Rattle.std.proofs.lemmas.List.Sums.{sum_by-append, sum_by-cons}
use Rattle.pesp_problem.specs.declared.cut.Cut.{Cut}
use Rattle.pesp_problem.specs.declared.cut.Side.{Side}
use Rattle.pesp_problem.specs.declared.cut.Side.TheVariants.{Low, High}
use Rattle.pesp_truth.specs.Trees.{Tree, Leaf, Line, Ends, Branch, EndLine, CutLine, preorder}
use Rattle.pesp_truth.specs.Leaves.{IsLeafAt, put}

-- the sum of a number for each line
abbrev total : (Line → ℕ) → Tree → ℕ
total f tree = sum_by f (preorder tree)

total_branch : (f : Line → ℕ) (cut : Cut) (low high : Tree) → total f (Branch cut low high) ≡ f (CutLine cut) + (total f low + total f high)
total_branch f cut low high = sum_by-cons f (CutLine cut) (preorder low ++ preorder high)
    ∙ ap (λ (n : ℕ). f (CutLine cut) + n) (sum_by-append f (preorder low) (preorder high))

pub sums_after_put : (f : Line → ℕ) (tree : Tree) (path : List (Cut × Side)) (leaf : Leaf) (new : Tree)
    → IsLeafAt tree path leaf → sum_by f (preorder (put tree path new)) + f (EndLine leaf)
    ≡ sum_by f (preorder tree) + sum_by f (preorder new)
sums_after_put f (Ends there) [] leaf new h = let one : total f (Ends there)
    ≡ f (EndLine there) = sum_by-cons f (EndLine there) [] ∙ omega arith in
    omega (arith, one, ap (λ (x : Leaf). f (EndLine x)) h)
sums_after_put f (Ends there) (step ∷ path) leaf new h = absurd h
sums_after_put f (Branch cut low high) [] leaf new h = absurd h
sums_after_put f (Branch cut low high) ((c, Low) ∷ path) leaf new h =
    omega (
      arith,
      total_branch f cut low high,
      total_branch f cut (put low path new) high,
      sums_after_put f low path leaf new h.1,
    )
sums_after_put f (Branch cut low high) ((c, High) ∷ path) leaf new h =
    omega (
      arith,
      total_branch f cut low high,
      total_branch f cut low (put high path new),
      sums_after_put f high path leaf new h.1,
    )

ones : (lines : List Line) → sum_by (λ line. 1) lines ≡ length lines
ones [] = refl
ones (line ∷ lines) = omega (arith, sum_by-cons (λ (x : Line). 1) line lines, ones lines)

pub lines_after_put : (tree : Tree) (path : List (Cut × Side)) (leaf : Leaf) (new : Tree) → IsLeafAt tree path leaf
    → length (preorder (put tree path new)) + 1 ≡ length (preorder tree) + length (preorder new)
lines_after_put tree path leaf new h = omega (
  arith,
  sums_after_put (λ line. 1) tree path leaf new h,
  ones (preorder (put tree path new)),
  ones (preorder tree),
  ones (preorder new),
)
