-- Pairs that are gone through one by one.
use Rattle.std.proofs.Common.{◌≡◌, inl, inr, ℕ, ◌<◌, ◌≤◌, arith, ap, refl, List, [], ◌∷◌, length, true, subst}
use Rattle.std.specs.Prelude.{All, unsigned_abs, ◌↔◌}
use Rattle.std.proofs.lemmas.List.Elements.{All-nil, All-cons, All-head, All-tail}
use Rattle.pesp_problem.specs.declared.pair.Pair.{Pair}
use Rattle.pesp_problem.specs.Walks.{Names}
use Rattle.pesp_leaves.specs.Flows.{ArePairLimits}
use Rattle.pesp_leaves.specs.Flows.{ArePairsOf}
use Rattle.pesp_truth.specs.Named.{IsNamed, AreNamed, of_cycles, names_more}
use Rattle.pesp_truth.proofs.Named.{at_most}

module _ (cycles : ℕ) (left rest : List Pair) (pair : Pair) (is : left ≡ pair ∷ rest) where
  -- the pair names a cycle
  pub here_of_cycles : pair.cycle ≤ cycles → of_cycles cycles left ≡ pair ∷ of_cycles cycles rest
  here_of_cycles h = elim (at_most pair.cycle cycles) [ inl m ↦ rw (is, m.0) refl | inr m ↦ absurd (omega (arith, h, m.1)) ]

  pub here_no_walk : pair.cycle ≤ cycles → names_more cycles left ≡ names_more cycles rest
  here_no_walk h = elim (at_most pair.cycle cycles) [ inl m ↦ rw (is, m.0) refl | inr m ↦ absurd (omega (arith, h, m.1)) ]

  -- the pair names a marked walk
  pub over_of_cycles : cycles < pair.cycle → of_cycles cycles left ≡ of_cycles cycles rest
  over_of_cycles h = elim (at_most pair.cycle cycles) [ inl m ↦ absurd (omega (arith, h, m.1)) | inr m ↦ rw (is, m.0) refl ]

  pub here_walk : cycles < pair.cycle → names_more cycles left ≡ true
  here_walk h = elim (at_most pair.cycle cycles) [ inl m ↦ absurd (omega (arith, h, m.1)) | inr m ↦ rw (is, m.0) refl ]

  -- the limits of both
  pub limits_apart : ArePairLimits left → (unsigned_abs pair.mult ≤ 1000000000000) × ArePairLimits rest
  limits_apart l =
      let P : List Pair → Type 0 = ArePairLimits in
      let Q : Pair → Type 0 = λ p. unsigned_abs p.mult ≤ 1000000000000 in
      let both = subst P is l in
      (All-head Q pair rest both.0, (All-tail Q pair rest both.0, omega (arith, both.1)))

  pub named_apart : (walks : ℕ) → AreNamed cycles walks left → IsNamed cycles walks pair × AreNamed cycles walks rest
  named_apart walks h =
      let P : List Pair → Type 0 = AreNamed cycles walks in
      let both = subst P is h in
      (All-head (IsNamed cycles walks) pair rest both, All-tail (IsNamed cycles walks) pair rest both)

-- one that isn't so, among those that are left
pub not_all : {X : Type 0} (P : X → Type 0) (left rest : List X) (x : X) (Q : Type 0) → left ≡ x ∷ rest → All P left ↔ Q → Q → P x
not_all {X} P left rest x Q is same q = let R : List X → Type 0 = All P in All-head P x rest (subst R is (same.1 q))

few_of_cycles : (cycles : ℕ) (pairs : List Pair) → length (of_cycles cycles pairs) ≤ length pairs
few_of_cycles cycles [] = omega arith
few_of_cycles cycles (pair ∷ pairs) =
    elim (at_most pair.cycle cycles) [
      | inl m ↦ omega (arith, few_of_cycles cycles pairs, ap length (here_of_cycles cycles (pair ∷ pairs) pairs pair refl m.1))
      | inr m ↦ omega (arith, few_of_cycles cycles pairs, ap length (over_of_cycles cycles (pair ∷ pairs) pairs pair refl m.1))
    ]

abbrev IsPair : ℕ → Pair → Type 0
IsPair cycles pair = Names cycles pair.cycle × (unsigned_abs pair.mult ≤ 1000000000000)

each_of_cycles : (cycles walks : ℕ) (pairs : List Pair) → AreNamed cycles walks pairs
    → All (λ pair. unsigned_abs pair.mult ≤ 1000000000000) pairs → All (IsPair cycles) (of_cycles cycles pairs)
each_of_cycles cycles walks [] named small = All-nil (IsPair cycles)
each_of_cycles cycles walks (pair ∷ pairs) named small =
    let here = All-head (IsNamed cycles walks) pair pairs named in
    let Q : Pair → Type 0 = λ p. unsigned_abs p.mult ≤ 1000000000000 in
    let mult = All-head Q pair pairs small in
    let rest = each_of_cycles cycles walks pairs (All-tail (IsNamed cycles walks) pair pairs named) (All-tail Q pair pairs small) in
    elim (at_most pair.cycle cycles) [
      | inl m ↦ rw m.0 (All-cons (IsPair cycles) pair (of_cycles cycles pairs) ((here.0.0, m.1), mult) rest)
      | inr m ↦ rw m.0 rest
    ]

-- the pairs of cycles are pairs of a leaf
pub are_pairs : (cycles walks : ℕ) (pairs : List Pair) → AreNamed cycles walks pairs → ArePairLimits pairs
    → ArePairsOf cycles (of_cycles cycles pairs)
are_pairs cycles walks pairs named limits = (
  each_of_cycles cycles walks pairs named limits.0,
  omega (arith, few_of_cycles cycles pairs, limits.1),
)
