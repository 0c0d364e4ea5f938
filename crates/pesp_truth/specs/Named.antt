-- What the pairs of a leaf name behind a front: cycles, marked walks numbered on from the cycles, and lemmas numbered on from the
-- walks.
use Rattle.std.specs.Prelude.{ℕ, ◌+◌, ◌-◌, ◌<◌, List, [], ◌∷◌, length, pos, ◌<ℤ◌, Bool, true, false, nat_abs, nat_le, if◌then◌else◌, slice_index_or, All}
use Rattle.pesp_problem.specs.declared.pair.Pair.{Pair}
use Rattle.pesp_problem.specs.declared.marked.MarkedRow.{MarkedRow}
use Rattle.pesp_problem.specs.Walks.{Names}
use Rattle.pesp_problem.specs.Sharp.{Multiple, Multipliers}
use Rattle.pesp_truth.specs.Marks.{Marks}
use Rattle.pesp_truth.specs.Lemmas.{Lemma}
use Rattle.pesp_truth.specs.LemmaLeaves.{LemmaMultiple}

-- the marked walk at a place, from 0
abbrev pub walk_at : List (List MarkedRow) → ℕ → List MarkedRow
walk_at walks c = slice_index_or walks c []

-- the lemma at a place, from 0
abbrev pub lemma_at : List Lemma → ℕ → Lemma
lemma_at facts i = slice_index_or facts i (record { weights = []; least = pos 0 })

-- the pair names one of so many cycles, or one of so many other things under a multiplier above 0
abbrev pub IsNamed : ℕ → ℕ → Pair → Type 0
IsNamed cycles others pair = Names (cycles + others) pair.cycle × (cycles < pair.cycle → pos 0 <ℤ pair.mult)

-- each pair names a cycle, or another thing under a multiplier above 0
abbrev pub AreNamed : ℕ → ℕ → List Pair → Type 0
AreNamed cycles others pairs = All (IsNamed cycles others) pairs

-- whether some pair names more than cycles
abbrev pub names_more : ℕ → List Pair → Bool
names_more cycles [] = false
names_more cycles (pair ∷ pairs) = if nat_le pair.cycle cycles then names_more cycles pairs else true

-- the pairs of cycles
abbrev pub of_cycles : ℕ → List Pair → List Pair
of_cycles cycles [] = []
of_cycles cycles (pair ∷ pairs) = if nat_le pair.cycle cycles then pair ∷ of_cycles cycles pairs else of_cycles cycles pairs

-- the marked walks of the other pairs, with their multipliers
abbrev pub of_walks : ℕ → List (List MarkedRow) → List Pair → List Multiple
of_walks cycles walks [] = []
of_walks cycles walks (pair ∷ pairs) = if nat_le pair.cycle cycles then of_walks cycles walks
    pairs else record { mult = nat_abs pair.mult; walk = walk_at walks (pair.cycle - cycles - 1) }
    ∷ of_walks cycles walks pairs

-- the lemmas of the pairs whose numbers are above so many cycles and walks, with their multipliers
abbrev pub of_lemmas : ℕ → List Lemma → List Pair → List LemmaMultiple
of_lemmas others facts [] = []
of_lemmas others facts (pair ∷ pairs) = if nat_le pair.cycle others then of_lemmas others facts pairs
    else record { mult = nat_abs pair.mult; fact = lemma_at facts (pair.cycle - others - 1) } ∷ of_lemmas others facts pairs

-- the scale of a leaf: 1 where it names cycles alone
abbrev pub scale_of : Marks → Bool → ℕ
scale_of marks more = if more then marks.scale else 1

-- what the pairs say but for lemmas, for a table of so many cycles
abbrev pub multipliers : ℕ → Marks → List Pair → Multipliers
multipliers cycles marks pairs = record {
  scale = scale_of marks (names_more cycles pairs);
  pairs = of_cycles cycles (of_cycles (cycles + length marks.walks) pairs);
  multiples = of_walks cycles marks.walks (of_cycles (cycles + length marks.walks) pairs);
}
