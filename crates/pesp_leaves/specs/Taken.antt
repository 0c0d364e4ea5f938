-- What the lemmas of pairs add to a leaf, and what they take of each row.
use Rattle.std.specs.Prelude.{ℕ, ◌<◌, ◌≤◌, ◌+◌, ◌*◌, ◌^◌, List, length, ℤ, unsigned_abs, All}
use Rattle.pesp_problem.specs.declared.limits.TheConstants.{MOST_MULTIPLIER}
use Rattle.pesp_problem.specs.declared.pair.Pair.{Pair}
use Rattle.pesp_problem.specs.Walks.{Names}
use Rattle.pesp_problem.specs.Terms.{number_at}
use Rattle.pesp_truth.specs.Lemmas.{Lemma}
use Rattle.pesp_truth.specs.LemmaLeaves.{over_lemmas, taken}
use Rattle.pesp_truth.specs.Named.{of_lemmas}

-- what the sums of the lemmas are at least, each times its multiplier; there are so many cycles and walks
abbrev pub floor_of : ℕ → List Lemma → List Pair → ℤ
floor_of others facts pairs = over_lemmas (of_lemmas others facts pairs) (λ fact. fact.least)

-- the weights of the row at place i in the lemmas, each times its multiplier
abbrev pub taken_of : ℕ → List Lemma → List Pair → ℕ → ℤ
taken_of others facts pairs i = taken (of_lemmas others facts pairs) i

-- the lemmas name rows of so many
abbrev pub HaveRows : ℕ → List Lemma → Type 0
HaveRows rows facts = All (λ fact. All (λ pair. Names rows pair.cycle) fact.weights) facts

-- flows that a leaf can have, where what so many lemmas take was added to them
abbrev pub AreFlowsWith : ℕ → List ℤ → Type 0
AreFlowsWith lemmas flows = (i : ℕ) → i < length flows → unsigned_abs (number_at flows i) ≤ 10 ^ 24 + lemmas * 10 ^ 24

-- weights that a lemma may have
abbrev pub AreSmallWeights : List ℤ → Type 0
AreSmallWeights weights = (i : ℕ) → i < length weights → unsigned_abs (number_at weights i) ≤ MOST_MULTIPLIER
