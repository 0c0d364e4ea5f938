-- How large the weights of a lemma are that keeps its limits.
use Rattle.std.proofs.Common.{◌≡◌, inl, inr, ℕ, suc, zero, ◌+◌, ◌<◌, ◌≤◌, arith, ap, refl, ◌∙◌, List, [], ◌∷◌, drop, Bool, true, false}
use Rattle.std.specs.Prelude.{ℤ, pos, ◌+ℤ◌, unsigned_abs, nat_abs, nat_le, ◌&&◌, ◌==◌, if◌then◌else◌}
use Rattle.std.proofs.lemmas.Int.{ints}
use Rattle.std.proofs.lemmas.Bool.{eq-eqb, ne_eqb}
use Rattle.pesp_problem.specs.declared.pair.Pair.{Pair}
use Rattle.pesp_truth.proofs.Named.{at_most}
use Rattle.pesp_truth.specs.Lemmas.{weight_at}
use Rattle.pesp_truth.specs.Limits.{rises_from}

-- the first pair and the others
pub record Apart (least : ℕ) (pair : Pair) (pairs : List Pair) : Type 0 where
  pub row : least ≤ pair.cycle
  pub weight : nat_abs pair.mult ≤ 1000000000000
  pub rest : rises_from (pair.cycle + 1) pairs ≡ true

pub first_apart : (least : ℕ) (pair : Pair) (pairs : List Pair) → rises_from least (pair ∷ pairs) ≡ true → Apart least pair pairs
first_apart least pair pairs e =
    elim (at_most least pair.cycle) [
      | inl m ↦ elim (at_most (nat_abs pair.mult) 1000000000000) [
        | inl k ↦ record { row = m.1; weight = k.1; rest = rest_of m.0 k.0 }
        | inr k ↦ absurd (wrong_weight m.0 k.0)
      ]
      | inr m ↦ absurd (wrong_row m.0)
    ]
  where
    rest_of : nat_le least pair.cycle ≡ true → nat_le (nat_abs pair.mult) 1000000000000 ≡ true → rises_from (pair.cycle + 1) pairs ≡ true
    rest_of a b = cc

    wrong_weight : nat_le least pair.cycle ≡ true → nat_le (nat_abs pair.mult) 1000000000000 ≡ false → ⊥
    wrong_weight a b = let w : false ≡ true = cc in cc

    wrong_row : nat_le least pair.cycle ≡ false → ⊥
    wrong_row a = let w : false ≡ true = cc in cc

-- a row below all that are named has weight 0
none_below : (least : ℕ) (pairs : List Pair) (i : ℕ) → rises_from least pairs ≡ true → i + 1 < least → weight_at pairs i ≡ pos 0
none_below least [] i e l = refl
none_below least (pair ∷ pairs) i e l =
    let a = first_apart least pair pairs e in
    let here = ap (λ b. if b then pair.mult else pos 0) (ne_eqb pair.cycle (i + 1) (λ same. omega (arith, a.row, l, same))) in
    let rest = none_below (pair.cycle + 1) pairs i a.rest (omega (arith, a.row, l)) in
    omega (arith, ints, here, rest)

pub weight_small : (least : ℕ) (pairs : List Pair) (i : ℕ) → rises_from least pairs ≡ true → unsigned_abs (weight_at pairs i) ≤ 1000000000000
weight_small least [] i e = omega arith
weight_small least (pair ∷ pairs) i e =
    let a = first_apart least pair pairs e in
    elim (at_most (i + 1) pair.cycle) [
      | inl m ↦ (let rest = none_below (pair.cycle + 1) pairs i a.rest (omega (arith, m.1)) in
          let here = one_small (pair.cycle == i + 1) pair.mult a.weight in
          omega (arith, ints, here, rest))
      | inr m ↦ (let here = ap (λ b. if b then pair.mult else pos 0) (ne_eqb pair.cycle (i + 1) (λ same. omega (arith, m.1, same))) in
          let rest = weight_small (pair.cycle + 1) pairs i a.rest in
          omega (arith, ints, here, rest))
    ]
  where
    one_small : (b : Bool) (z : ℤ) → nat_abs z ≤ 1000000000000 → unsigned_abs (if b then z else pos 0) ≤ 1000000000000
    one_small true z h = omega (arith, ints)
    one_small false z h = omega arith
