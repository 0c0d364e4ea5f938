-- Sums by place: one changed term, small terms, and what working numbers hold.
use Rattle.std.proofs.Common.{◌≡◌, ◌≢◌, inl, inr, ℕ, zero, suc, ◌*◌, ◌<◌, ◌≤◌, ap, sym, ◌∙◌, arith, List, length, get_or, set}
use Rattle.std.specs.Prelude.{ℤ, pos, ◌+ℤ◌, ◌-ℤ◌, unsigned_abs}
use Rattle.std.proofs.lemmas.Int.{ints}
use Rattle.std.proofs.lemmas.Bool.{cases_eq}
use Rattle.std.proofs.lemmas.List.{get_or-set_same, get_or-set_other, length-set}
use Rattle.pesp_problem.specs.Sums.{sum_below}
use Rattle.pesp_problem.proofs.Integers.{sum_below-zero, sum_below-sub, sum_below-single}

-- a sum changes as its one changed term does
pub sum_below-change : (n at : ℕ) (f g : ℕ → ℤ) → at < n → ((k : ℕ) → k < n → k ≢ at → f k ≡ g k)
    → sum_below n f +ℤ g at ≡ sum_below n g +ℤ f at
sum_below-change n at f g l h =
    let apart = sum_below-sub n f g in
    let none = λ (k : ℕ) (m : k < n) (ne : k ≢ at). difference_zero (f k) (g k) (h k m ne) in
    let single = sum_below-single n at (λ k. f k -ℤ g k) l none in
    omega (arith, ints, apart, single)
  where
    difference_zero : (a b : ℤ) → a ≡ b → a -ℤ b ≡ pos 0
    difference_zero a b e = omega (arith, ints)

-- the sum of n small terms is small
pub sum_below-small : (n b : ℕ) (f : ℕ → ℤ) → ((k : ℕ) → k < n → unsigned_abs (f k) ≤ b) → unsigned_abs (sum_below n f) ≤ n * b
sum_below-small zero b f h = omega arith
sum_below-small (suc n) b f h =
    let before = sum_below-small n b f (λ k l. h k (omega arith)) in
    let here = h n (omega arith) in
    omega (arith, ints)

-- the sum of a term over what the working numbers hold
abbrev pub held : (ℕ → ℤ → ℤ) → List ℤ → ℤ
held term numbers = sum_below (length numbers) (λ i. term i (get_or numbers i (pos 0)))

-- to set a place to 0 takes its term away
pub held-take : (term : ℕ → ℤ → ℤ) (numbers : List ℤ) (at : ℕ) → ((i : ℕ) → term i (pos 0) ≡ pos 0)
    → at < length numbers → held term (set numbers at (pos 0)) +ℤ term at (get_or numbers at (pos 0))
    ≡ held term numbers
held-take term numbers at none inside =
    let f : ℕ → ℤ = λ i. term i (get_or numbers i (pos 0)) in
    let g : ℕ → ℤ = λ i. term i (get_or (set numbers at (pos 0)) i (pos 0)) in
    let change = sum_below-change (length numbers) at f g inside
    (λ i l ne. ap (term i) (sym (get_or-set_other numbers at i (pos 0) (pos 0) ne))) in
    let here : g at ≡ pos 0 = ap (term at) (get_or-set_same numbers at (pos 0) (pos 0) inside) ∙ none at in
    let same : held term (set numbers at (pos 0))
    ≡ sum_below (length numbers) g = ap (λ n. sum_below n g) (length-set numbers at (pos 0)) in
    omega (arith, ints)

-- where all numbers are 0 nothing is held
pub held-zeros : (term : ℕ → ℤ → ℤ) (numbers : List ℤ) → ((i : ℕ) → term i (pos 0) ≡ pos 0)
    → ((i : ℕ) → i < length numbers → get_or numbers i (pos 0) ≡ pos 0) → held term numbers ≡ pos 0
held-zeros term numbers none zeros = sum_below-zero (length numbers) (λ i. term i (get_or numbers i (pos 0)))
    (λ i l. ap (term i) (zeros i l) ∙ none i)

-- a number that is set to 0 stays small
pub small-set : (numbers : List ℤ) (at m : ℕ) → at < length numbers
    → ((i : ℕ) → i < length numbers → unsigned_abs (get_or numbers i (pos 0)) ≤ m) → (i : ℕ)
    → i < length (set numbers at (pos 0)) → unsigned_abs (get_or (set numbers at (pos 0)) i (pos 0)) ≤ m
small-set numbers at m inside h i l =
    let l' : i < length numbers = omega (arith, length-set numbers at (pos 0)) in
    elim (cases_eq i at) [
      | inl same ↦ omega (
        arith,
        ap unsigned_abs
            (ap (λ j. get_or (set numbers at (pos 0)) j (pos 0)) same
            ∙ get_or-set_same numbers at (pos 0) (pos 0) inside),
      )
      | inr other ↦ omega (arith, h i l', ap unsigned_abs (get_or-set_other numbers at i (pos 0) (pos 0) other))
    ]
