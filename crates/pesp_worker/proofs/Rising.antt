-- Numbers that rise.
use Rattle.std.proofs.Common.{ℕ, suc, ◌+◌, ◌<◌, ◌≤◌, List, [], ◌∷◌, length, get_or, arith}
use Rattle.std.specs.Prelude.{⊤}
use Rattle.std.specs.List.{AllPairs}
use Rattle.std.specs.List.Sorted.{IsStrictlyIncreasing}
use Rattle.std.proofs.lemmas.List.Kept.{AllPairs-from_increasing}

-- from n on
abbrev pub RiseFrom : ℕ → List ℕ → Type 0
RiseFrom n [] = ⊤
RiseFrom n (x ∷ xs) = (n ≤ x) × RiseFrom (x + 1) xs

abbrev Pairs : List ℕ → Type 0
Pairs xs = AllPairs (λ x y. x < y) xs

tail_pairs : (x : ℕ) (xs : List ℕ) → Pairs (x ∷ xs) → Pairs xs
tail_pairs x xs h i j d below within = h (suc i) (suc j) d (omega (arith, below)) (omega (arith, within))

rise_on : (n : ℕ) (xs : List ℕ) → Pairs xs → ((0 < length xs) → n ≤ get_or xs 0 0) → RiseFrom n xs
rise_on n [] h first = tt
rise_on n (x ∷ xs) h first = (
  first (omega arith),
  rise_on (x + 1) xs (tail_pairs x xs h) (λ some. let less : x
      < get_or xs 0 0 = h 0 1 0 (omega arith) (omega (arith, some)) in omega (arith, less)),
)

pub rise_from_none : (xs : List ℕ) → IsStrictlyIncreasing xs → RiseFrom 0 xs
rise_from_none xs h = rise_on 0 xs (AllPairs-from_increasing xs h) (λ some. omega arith)
