-- Sums along a walk as they are added up: what was added, and what is left.
use Rattle.std.proofs.Common.{◌≡◌, ℕ, ◌+◌, ◌*◌, ◌<◌, ◌≤◌, List, length, get_or, drop, ap, arith}
use Rattle.std.specs.Prelude.{ℤ, pos, ◌+ℤ◌, unsigned_abs}
use Rattle.std.proofs.lemmas.Int.{ints}
use Rattle.std.proofs.lemmas.List.{drop_all, drop_more}
use Rattle.pesp_problem.specs.declared.marked.MarkedRow.{MarkedRow}
use Rattle.pesp_problem.specs.Marked.{walk_sum}

-- the rows from the k-th on
pub along_more : (walk : List MarkedRow) (k : ℕ) (d : MarkedRow) (term : MarkedRow → ℤ) → k < length walk
    → walk_sum (drop k walk) term ≡ term (get_or walk k d) +ℤ walk_sum (drop (k + 1) walk) term
along_more walk k d term l = ap (λ (w : List MarkedRow). walk_sum w term) (drop_more walk k d l)

pub along_done : (walk : List MarkedRow) (k : ℕ) (term : MarkedRow → ℤ) → length walk ≤ k → walk_sum (drop k walk) term ≡ pos 0
along_done walk k term l = ap (λ (w : List MarkedRow). walk_sum w term) (drop_all k walk l)

-- the first k rows are added
pub record IsAdded (most : ℕ) (walk : List MarkedRow) (term : MarkedRow → ℤ) (k : ℕ) (sum : ℤ) : Type 0 where
  pub is : sum +ℤ walk_sum (drop k walk) term ≡ walk_sum walk term
  pub size : unsigned_abs sum ≤ k * most

pub added_none : (most : ℕ) (walk : List MarkedRow) (term : MarkedRow → ℤ) → IsAdded most walk term 0 (pos 0)
added_none most walk term = record { is = omega (arith, ints); size = omega arith }

pub added_more : (most : ℕ) (walk : List MarkedRow) (term : MarkedRow → ℤ) (k : ℕ) (d : MarkedRow) (sum next : ℤ)
    → k < length walk → unsigned_abs (term (get_or walk k d)) ≤ most → next ≡ sum +ℤ term (get_or walk k d)
    → IsAdded most walk term k sum → IsAdded most walk term (k + 1) next
added_more most walk term k d sum next l small e before = record {
  is = let apart = along_more walk k d term l in omega (arith, ints, before.is);
  size = omega (arith, ints, before.size);
}
