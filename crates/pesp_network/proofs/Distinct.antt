-- Lists along which a rank rises have no element twice.
use Rattle.std.proofs.Common.{◌≡◌, ◌≢◌, ℕ, ◌<◌, ◌≤◌, ap, arith, List, [], ◌∷◌, ◌++◌, false, All}
use Rattle.std.specs.Prelude.{nat_eq}
use Rattle.std.specs.List.{AllByRecursion, IsDistinct}
use Rattle.std.proofs.lemmas.Bool.{ne_eqb}
use Rattle.std.proofs.lemmas.Map.Keys.{IsDistinct-cons}
use Rattle.std.proofs.lemmas.List.Elements.{recursion_from_All, All-weaker}

-- the ranks rise from above low, and the last one is at most high
abbrev pub IsChain : (ℕ → ℕ) → ℕ → List ℕ → ℕ → Type 0
IsChain r low [] high = low ≤ high
IsChain r low (x ∷ xs) high = (low < r x) × IsChain r (r x) xs high

pub chain_bounds : (r : ℕ → ℕ) (low high : ℕ) (xs : List ℕ) → IsChain r low xs high → low ≤ high
chain_bounds r low high [] h = h
chain_bounds r low high (x ∷ xs) h = let a = h.0 in let b = chain_bounds r (r x) high xs h.1 in omega arith

pub chain_higher : (r : ℕ → ℕ) (low high higher : ℕ) (xs : List ℕ) → high ≤ higher → IsChain r low xs high → IsChain r low xs higher
chain_higher r low high higher [] l h = omega arith
chain_higher r low high higher (x ∷ xs) l h = (h.0, chain_higher r (r x) high higher xs l h.1)

pub chain_lower : (r : ℕ → ℕ) (lower low high : ℕ) (xs : List ℕ) → lower ≤ low → IsChain r low xs high → IsChain r lower xs high
chain_lower r lower low high [] l h = omega arith
chain_lower r lower low high (x ∷ xs) l h = let a = h.0 in (omega arith, h.1)

pub chain_append : (r : ℕ → ℕ) (low mid high : ℕ) (xs ys : List ℕ) → IsChain r low xs mid → IsChain r mid ys high
    → IsChain r low (xs ++ ys) high
chain_append r low mid high [] ys h k = chain_lower r low mid high ys h k
chain_append r low mid high (x ∷ xs) ys h k = (h.0, chain_append r (r x) mid high xs ys h.1 k)

apart_above : (r : ℕ → ℕ) (x low high : ℕ) (ys : List ℕ) → r x ≤ low → IsChain r low ys high → AllByRecursion (λ y. nat_eq x y ≡ false) ys
apart_above r x low high [] l h = tt
apart_above r x low high (y ∷ ys) l h = (
  ne_eqb x y (λ e. let q = ap r e in let a = h.0 in omega arith),
  apart_above r x (r y) high ys (let a = h.0 in omega arith) h.1,
)

pub apart_below : (r : ℕ → ℕ) (x low high : ℕ) (ys : List ℕ) → high < r x → IsChain r low ys high
    → AllByRecursion (λ y. nat_eq x y ≡ false) ys
apart_below r x low high [] l h = tt
apart_below r x low high (y ∷ ys) l h = (
  ne_eqb x y
      (λ e. let q = ap r e in let b = chain_bounds r (r y) high ys h.1 in omega arith),
  apart_below r x (r y) high ys l h.1,
)

pub chain_distinct : (r : ℕ → ℕ) (low high : ℕ) (xs : List ℕ) → IsChain r low xs high → IsDistinct nat_eq xs
unfolding IsDistinct
chain_distinct r low high [] h = tt
chain_distinct r low high (x ∷ xs) h = (apart_above r x (r x) high xs (omega arith) h.1, chain_distinct r (r x) high xs h.1)

pub apart_all : (x : ℕ) (xs : List ℕ) → All (λ y. x ≢ y) xs → AllByRecursion (λ y. nat_eq x y ≡ false) xs
apart_all x xs h = recursion_from_All (λ y. nat_eq x y ≡ false) xs
    (All-weaker (λ y. x ≢ y) (λ y. nat_eq x y ≡ false) (λ y ne. ne_eqb x y ne) xs h)

pub distinct_cons : (x : ℕ) (xs : List ℕ) → AllByRecursion (λ y. nat_eq x y ≡ false) xs → IsDistinct nat_eq xs → IsDistinct nat_eq (x ∷ xs)
distinct_cons x xs h k = IsDistinct-cons nat_eq x xs h k
