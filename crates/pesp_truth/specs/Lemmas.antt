-- Lemmas: a weighted sum of slacks that is at least a number at every timetable. The pairs of a lemma name rows.
use Rattle.std.specs.Prelude.{ℕ, ◌+◌, ◌-◌, List, [], ◌∷◌, length, ℤ, pos, ◌+ℤ◌, ◌*ℤ◌, ◌≤ℤ◌, ◌==◌, if◌then◌else◌, All}
use Rattle.pesp_problem.specs.declared.arc.Arc.{Arc}
use Rattle.pesp_problem.specs.declared.pair.Pair.{Pair}
use Rattle.pesp_problem.specs.Timetables.{Pesp, IsTimetable}
use Rattle.pesp_problem.specs.Arcs.{Net, arcs_of, net_of, over_arcs, slacks_at}
use Rattle.pesp_problem.specs.Walks.{Names}

-- rows with whole weights, also negative ones, and what the sum of weight times slack is at least
pub record Lemma : Type 0 where
  pub weights : List Pair
  pub least : ℤ

-- the weight of the row at place i, whose number is i + 1: 0 where no pair names it
abbrev pub weight_at : List Pair → ℕ → ℤ
weight_at [] i = pos 0
weight_at (pair ∷ pairs) i = (if pair.cycle == i + 1 then pair.mult else pos 0) +ℤ weight_at pairs i

-- the sum of weight times slack
abbrev pub lemma_sum : List Arc → List Pair → (ℕ → ℕ) → ℤ
lemma_sum arcs weights slacks = over_arcs arcs (λ i. weight_at weights i *ℤ pos (slacks i))

-- the rows exist
abbrev pub NamesRows : List Arc → List Pair → Type 0
NamesRows arcs weights = All (λ pair. Names (length arcs) pair.cycle) weights

-- the sum of a term over pairs
abbrev pub over_pairs : List Pair → (Pair → ℤ) → ℤ
over_pairs [] term = pos 0
over_pairs (pair ∷ pairs) term = term pair +ℤ over_pairs pairs term

-- the sum is large enough at these slacks
abbrev pub HoldsAt : List Arc → (ℕ → ℕ) → Lemma → Type 0
HoldsAt arcs slacks fact = fact.least ≤ℤ lemma_sum arcs fact.weights slacks

-- and at each timetable of an instance
abbrev pub IsTrueOf : Pesp → Lemma → Type 0
IsTrueOf p fact = (times : List ℕ) → IsTimetable p times → HoldsAt (arcs_of p) (slacks_at (net_of p) times) fact
