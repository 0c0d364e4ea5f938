-- Flows by passages.
use Rattle.std.proofs.Common.{◌≡◌, ℕ, ℤ, pos, ◌+◌, ◌-◌, ◌*◌, ◌<◌, ◌≤◌, ◌^◌, ◌+ℤ◌, ◌*ℤ◌, ap, sym, ◌∙◌, arith, List, [], ◌∷◌, length, get_or, take, All, eqb, cond, true, false}
use Rattle.std.specs.Prelude.{unsigned_abs, sum_by}
use Rattle.std.proofs.lemmas.Int.{ints, unsigned_abs-mul}
use Rattle.std.proofs.Math.Nat.{mul-le-mul}
use Rattle.std.proofs.lemmas.List.Elements.{All-head, All-tail}
use Rattle.std.proofs.lemmas.List.Sums.{fold_more, sum_by_more, sum_by_more_le, get_or-le-sum_by}
use Rattle.std.proofs.lemmas.Bool.Decides.{nat_tests}
use Rattle.pesp_problem.specs.declared.row.SignedRow.{SignedRow}
use Rattle.pesp_problem.specs.declared.pair.Pair.{Pair}
use Rattle.pesp_problem.specs.Sums.{sum_below}
use Rattle.pesp_problem.specs.Walks.{Names, net_count}
use Rattle.pesp_problem.specs.Nodes.{cycle_at, flow}
use Rattle.pesp_problem.proofs.Integers.{add-mul, zero-mul, sum_below-same, sum_below-add, sum_below-zero, sum_below-single}
use Rattle.pesp_nodes.specs.declared.passages.Passage.{Passage}
use Rattle.pesp_nodes.specs.Passages.{mult_of, sum_over, ArePassagesOf}

-- ---- the flow by cycles

-- what one pair adds to the sum over the cycles
one_pair : (walks : List (List SignedRow)) (i : ℕ) (p : Pair) → Names (length walks) p.cycle
    → sum_below (length walks) (λ c. cond (eqb p.cycle (c + 1)) p.mult (pos 0) *ℤ net_count (cycle_at walks c) i)
    ≡ p.mult *ℤ net_count (cycle_at walks (p.cycle - 1)) i
one_pair walks i p names =
    let f : ℕ → ℤ = λ c. cond (eqb p.cycle (c + 1)) p.mult (pos 0) *ℤ net_count (cycle_at walks c) i in
    let low = names.0 in
    let high = names.1 in
    let yes : eqb p.cycle (p.cycle - 1 + 1) ≡ true = grind (arith, nat_tests) in
    let one : sum_below (length walks) f ≡ f (p.cycle - 1) = sum_below-single (length walks) (p.cycle - 1) f (omega arith) (λ k l ne.
    (let other : eqb p.cycle (k + 1) ≡ false = grind (arith, nat_tests) in
    ap (λ b. cond b p.mult (pos 0) *ℤ net_count (cycle_at walks k) i) other ∙ zero-mul (net_count (cycle_at walks k) i))) in
    one ∙ ap (λ b. cond b p.mult (pos 0) *ℤ net_count (cycle_at walks (p.cycle - 1)) i) yes

-- the flow on a row is the sum over the cycles of multiplier times net count
pub flow_is : (walks : List (List SignedRow)) (i : ℕ) (pairs : List Pair) → All (λ pair. Names (length walks) pair.cycle) pairs
    → flow walks pairs i ≡ sum_below (length walks) (λ c. mult_of pairs (c + 1) *ℤ net_count (cycle_at walks c) i)
flow_is walks i [] names = sym (sum_below-zero (length walks) (λ c. pos 0 *ℤ net_count (cycle_at walks c) i)
    (λ c l. zero-mul (net_count (cycle_at walks c) i)))
flow_is walks i (p ∷ pairs) names =
    let rest = flow_is walks i pairs (All-tail (λ (pair : Pair). Names (length walks) pair.cycle) p pairs names) in
    let f : ℕ → ℤ = λ c. cond (eqb p.cycle (c + 1)) p.mult (pos 0) *ℤ net_count (cycle_at walks c) i in
    let g : ℕ → ℤ = λ c. mult_of pairs (c + 1) *ℤ net_count (cycle_at walks c) i in
    let split = sum_below-same (length walks) (λ c.
    (cond (eqb p.cycle (c + 1)) p.mult (pos 0) +ℤ mult_of pairs (c + 1)) *ℤ net_count (cycle_at walks c) i)
    (λ c. f c +ℤ g c) (λ c l. add-mul (cond (eqb p.cycle (c + 1)) p.mult (pos 0)) (mult_of pairs (c + 1))
    (net_count (cycle_at walks c) i)) in
    let apart = sum_below-add (length walks) f g in
    let one = one_pair walks i p (All-head (λ (pair : Pair). Names (length walks) pair.cycle) p pairs names) in
    omega (arith, ints)

mul_zero : (a : ℤ) → a *ℤ pos 0 ≡ pos 0
mul_zero a = omega (arith, ints)

-- and so the sum over its passages
pub flow_by_passages : (walks : List (List SignedRow)) (i : ℕ) (passages : List Passage) (pairs : List Pair)
    → All (λ pair. Names (length walks) pair.cycle) pairs → ArePassagesOf (length walks) walks i passages
    → sum_over (λ c n. mult_of pairs c *ℤ n) passages ≡ flow walks pairs i
flow_by_passages walks i passages pairs names are =
    are (λ c n. mult_of pairs c *ℤ n) (λ c. mul_zero (mult_of pairs c)) ∙ sym (flow_is walks i pairs names)

-- ---- the sum over passages as it is added up

-- the sum of multiplier times count over the first k passages, and its size
pub record IsFlow (pairs : List Pair) (passages : List Passage) (k : ℕ) (sum : ℤ) : Type 0 where
  pub is : sum ≡ sum_over (λ c n. mult_of pairs c *ℤ n) (take k passages)
  pub size : unsigned_abs sum ≤ 1000000000000 * sum_by (λ e. unsigned_abs e.count) (take k passages)

product_small : (m n : ℤ) → unsigned_abs m ≤ 1000000000000 → unsigned_abs (m *ℤ n) ≤ 1000000000000 * unsigned_abs n
product_small m n h = let same : unsigned_abs n ≤ unsigned_abs n = omega arith in omega (arith, unsigned_abs-mul m n, mul-le-mul h same)

pub flow_more : (pairs : List Pair) (passages : List Passage) (k : ℕ) (d : Passage) (sum here : ℤ)
    → k < length passages → here ≡ mult_of pairs (get_or passages k d).cycle *ℤ (get_or passages k d).count
    → unsigned_abs (mult_of pairs (get_or passages k d).cycle) ≤ 1000000000000
    → IsFlow pairs passages k sum → IsFlow pairs passages (k + 1) (sum +ℤ here)
flow_more pairs passages k d sum here l e small before = record {
  is = ap (λ z. z +ℤ here) before.is ∙ ap (λ z. sum_over (λ c n. mult_of pairs c *ℤ n) (take k passages) +ℤ z) e
      ∙ sym (fold_more (λ z e. z +ℤ mult_of pairs e.cycle *ℤ e.count) (pos 0) passages k d l);
  size = (let more = sum_by_more (λ (e : Passage). unsigned_abs e.count) passages k d l in
      let size = before.size in let product = product_small (mult_of pairs (get_or passages k d).cycle)
      (get_or passages k d).count small in omega (arith, ints, ap unsigned_abs e));
}

-- sums stay small
pub flow_small : (pairs : List Pair) (passages : List Passage) (k : ℕ) (d : Passage) (sum here : ℤ)
    → k < length passages → here ≡ mult_of pairs (get_or passages k d).cycle *ℤ (get_or passages k d).count
    → unsigned_abs (mult_of pairs (get_or passages k d).cycle) ≤ 1000000000000
    → sum_by (λ e. unsigned_abs e.count) passages ≤ 10000000 → IsFlow pairs passages k sum → unsigned_abs sum + unsigned_abs here ≤ 10 ^ 19
flow_small pairs passages k d sum here l e small most before =
    let within = sum_by_more_le (λ (e : Passage). unsigned_abs e.count) passages k d l in
    let product = product_small (mult_of pairs (get_or passages k d).cycle) (get_or passages k d).count small in
    let size = before.size in
    omega (arith, ints, ap unsigned_abs e)

pub count_small : (passages : List Passage) (k : ℕ) (d : Passage) → k < length passages
    → sum_by (λ e. unsigned_abs e.count) passages ≤ 10000000 → unsigned_abs (get_or passages k d).count ≤ 10000000
count_small passages k d l most = omega (arith, get_or-le-sum_by (λ (e : Passage). unsigned_abs e.count) passages k d l)
