-- Branches counted line by line.
use Rattle.std.proofs.Common.{◌≡◌, ℕ, ◌+◌, ◌-◌, ◌<◌, ◌≤◌, List, [], ◌∷◌, length, get_or, map, drop, drop-cons, refl, ap, ◌∙◌, arith, add-one}
use Rattle.std.proofs.lemmas.List.{drop_all}
use Rattle.pesp_truth.specs.declared.tree.TreeLine.{TreeLine}
use Rattle.pesp_truth.specs.declared.tree.TreeLine.TheVariants.{Slack, Offset, Bound, Nothing, Gap, Propagated}
use Rattle.pesp_truth.specs.Trees.{line_of}
use Rattle.pesp_branching.specs.Rooms.{branch_lines}

-- so many branches, of at most so many, are counted once k lines are read
abbrev pub AreCounted : ℕ → List TreeLine → ℕ → ℕ → Type 0
AreCounted most lines k count = (count ≤ most) × (branch_lines (map line_of lines) ≡ count + branch_lines (map line_of (drop k lines)))

first_line : (line : TreeLine) (rest : List TreeLine)
    → branch_lines (map line_of (line ∷ rest)) ≡ branch_lines (line_of line ∷ []) + branch_lines (map line_of rest)
first_line (Slack row k) rest = omega arith
first_line (Offset cycle k) rest = omega arith
first_line (Bound pairs) rest = omega arith
first_line (Nothing pairs) rest = omega arith
first_line (Gap cycle) rest = omega arith
first_line Propagated rest = omega arith

pub none_counted : (most : ℕ) (lines : List TreeLine) → AreCounted most lines 0 0
none_counted most lines = (omega arith, omega arith)

pub one_counted : (most : ℕ) (lines : List TreeLine) (k count own : ℕ) (line : TreeLine) → k < length lines
    → get_or lines k line ≡ line → own ≡ branch_lines (line_of line ∷ []) → own ≤ most - count
    → AreCounted most lines k count → AreCounted most lines (k + 1) (count + own)
one_counted most lines k count own line below is e few h =
    let there : drop k lines ≡ get_or lines k line ∷ drop (k + 1) lines = rw (add-one, drop-cons lines k line below) refl in
    let rest : drop k lines ≡ line ∷ drop (k + 1) lines = there ∙ ap (λ (x : TreeLine). x ∷ drop (k + 1) lines) is in
    let read = ap (λ (ls : List TreeLine). branch_lines (map line_of ls)) rest ∙ first_line line (drop (k + 1) lines) in
    let most_left = h.0 in
    let all = h.1 in
    (omega (arith, few, most_left), omega (arith, read, e, all))

pub all_counted : (most : ℕ) (lines : List TreeLine) (k count : ℕ) → length lines ≤ k
    → AreCounted most lines k count → (branch_lines (map line_of lines) ≡ count) × (count ≤ most)
all_counted most lines k count done h =
    let none = ap (λ (ls : List TreeLine). branch_lines (map line_of ls)) (drop_all k lines done) in
    let all = h.1 in
    (omega (arith, none, all), h.0)
