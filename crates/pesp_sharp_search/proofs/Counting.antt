-- Branches counted line by line.
use Rattle.std.proofs.Common.{◌≡◌, ℕ, ◌+◌, ◌<◌, ◌≤◌, List, [], ◌∷◌, length, get_or, map, drop, drop-cons, refl, ap, ◌∙◌, arith, add-one}
use Rattle.std.proofs.lemmas.List.{drop_all}
use Rattle.pesp_truth.specs.declared.tree.TreeLine.{TreeLine}
use Rattle.pesp_truth.specs.declared.tree.TreeLine.TheVariants.{Slack, Offset, Bound, Nothing, Gap, Propagated}
use Rattle.pesp_truth.specs.Trees.{line_of}
use Rattle.pesp_branching.specs.Rooms.{branch_lines}

-- so many branches were counted, at most one a line, once k lines are read
pub record AreCounted (lines : List TreeLine) (k count : ℕ) : Type 0 where
  pub counted : count + branch_lines (map line_of (drop k lines)) ≡ branch_lines (map line_of lines)
  pub most : count ≤ k

first_line : (line : TreeLine) (rest : List TreeLine)
    → branch_lines (map line_of (line ∷ rest)) ≡ branch_lines (line_of line ∷ []) + branch_lines (map line_of rest)
first_line (Slack row k) rest = omega arith
first_line (Offset cycle k) rest = omega arith
first_line (Bound pairs) rest = omega arith
first_line (Nothing pairs) rest = omega arith
first_line (Gap cycle) rest = omega arith
first_line Propagated rest = omega arith

pub none_read : (lines : List TreeLine) → AreCounted lines 0 0
none_read lines = record { counted = omega arith; most = omega arith }

pub one_read : (lines : List TreeLine) (k count new own : ℕ) (line : TreeLine) → k < length lines
    → get_or lines k line ≡ line → own ≡ branch_lines (line_of line ∷ []) → own ≤ 1 → new ≡ count + own
    → AreCounted lines k count → AreCounted lines (k + 1) new
one_read lines k count new own line below is e most sum h =
    let there : drop k lines ≡ get_or lines k line ∷ drop (k + 1) lines = rw (add-one, drop-cons lines k line below) refl in
    let rest : drop k lines ≡ line ∷ drop (k + 1) lines = there ∙ ap (λ (x : TreeLine). x ∷ drop (k + 1) lines) is in
    let split = ap (λ (ls : List TreeLine). branch_lines (map line_of ls)) rest ∙ first_line line (drop (k + 1) lines) in
    let counted = h.counted in
    let before = h.most in
    record { counted = omega (arith, split, e, sum, counted); most = omega (arith, most, sum, before) }

pub all_read : (lines : List TreeLine) (k count : ℕ) → length lines ≤ k → AreCounted lines k count
    → count ≡ branch_lines (map line_of lines)
all_read lines k count done h =
    let none = ap (λ (ls : List TreeLine). branch_lines (map line_of ls)) (drop_all k lines done) in
    let counted = h.counted in
    omega (arith, none, counted)
