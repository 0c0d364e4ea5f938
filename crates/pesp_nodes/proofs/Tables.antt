-- The passages of a table.
use Rattle.std.proofs.Common.{◌≡◌, ℕ, zero, suc, ◌≤◌, List, [], ◌∷◌, length, get_or, take, add-one, ap, refl, arith}
use Rattle.std.specs.Prelude.{ℤ, pos, ◌+ℤ◌, ◌≤ℤ◌, unsigned_abs, sum_by, replicate, fold}
use Rattle.std.proofs.lemmas.Int.{ints}
use Rattle.std.proofs.lemmas.List.{take_all}
use Rattle.std.proofs.lemmas.List.Sums.{sum_by_more, sum_by-cons}
use Rattle.pesp_problem.specs.declared.row.SignedRow.{SignedRow}
use Rattle.pesp_problem.specs.Sums.{sum_below}
use Rattle.pesp_problem.specs.Walks.{net_count}
use Rattle.pesp_problem.specs.Nodes.{cycle_at}
use Rattle.pesp_problem.proofs.Integers.{sum_below-le}
use Rattle.pesp_nodes.specs.declared.passages.Passage.{Passage}
use Rattle.pesp_nodes.specs.Passages.{ArePassages, ArePassagesOf, sum_over}
use Rattle.pesp_problem.proofs.Counts.{net_count_small}

pub empty_at : {X : Type 0} (n i : ℕ) → get_or {A = List X} (replicate n []) i [] ≡ []
empty_at zero i = refl
empty_at (suc n) zero = refl
empty_at (suc n) (suc i) = empty_at n i

pub length-replicate : {X : Type 0} (n : ℕ) (x : X) → length (replicate n x) ≡ n
length-replicate zero x = refl
length-replicate (suc n) x = ap suc (length-replicate n x)

pub passages_none : (n : ℕ) (walks : List (List SignedRow)) → ArePassages n 0 walks (replicate n [])
passages_none n walks = record { long = length-replicate n []; each = λ i l term none. ap (sum_over term) (empty_at n i) }

sums_by : {X : Type 0} (f : X → ℕ) (xs : List X) (d : X) (n : ℕ) → n ≤ length xs
    → sum_below n (λ i. pos (f (get_or xs i d))) ≡ pos (sum_by f (take n xs))
sums_by f xs d zero h = refl
sums_by f xs d (suc n) h = omega (
  arith,
  ints,
  sums_by f xs d n (omega arith),
  sum_by_more f xs n d (omega arith),
  ap (λ k. sum_by f (take k xs)) (add-one n),
)

-- the sum over the cycles of how often each passes a row is no more than the table is long
pub counts_short : (walks : List (List SignedRow)) (i : ℕ)
    → sum_below (length walks) (λ c. pos (unsigned_abs (net_count (cycle_at walks c) i)))
    ≤ℤ pos (sum_by length walks)
counts_short walks i =
    let each = sum_below-le (length walks) (λ c. pos (unsigned_abs (net_count (cycle_at walks c) i)))
    (λ c. pos (length (cycle_at walks c))) (λ c l. let s =
    net_count_small (cycle_at walks c) i (length (cycle_at walks c)) (omega arith) in omega (arith, ints)) in
    let all = sums_by length walks [] (length walks) (omega arith) in
    let whole = ap (λ (ws : List (List SignedRow)). sum_by length ws) (take_all (length walks) walks (omega arith)) in
    omega (arith, ints)

amount_from : (passages : List Passage) (z : ℤ)
    → fold (λ z e. z +ℤ pos (unsigned_abs e.count)) z passages
    ≡ z +ℤ pos (sum_by (λ e. unsigned_abs e.count) passages)
amount_from [] z = omega (arith, ints)
amount_from (e ∷ passages) z = omega (
  arith,
  ints,
  amount_from passages (z +ℤ pos (unsigned_abs e.count)),
  sum_by-cons (λ (e : Passage). unsigned_abs e.count) e passages,
)

-- and so is the sum over a row's passages
pub passages_short : (walks : List (List SignedRow)) (i : ℕ) (passages : List Passage)
    → ArePassagesOf (length walks) walks i passages
    → sum_by (λ e. unsigned_abs e.count) passages ≤ sum_by length walks
passages_short walks i passages are =
    let sums = are (λ c n. pos (unsigned_abs n)) (λ c. refl) in
    let from = amount_from passages (pos 0) in
    let short = counts_short walks i in
    omega (arith, ints)
