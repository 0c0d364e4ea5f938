-- Net counts of walks: of a walk's first part, by amount, and as entries.
use Rattle.std.proofs.Common.{◌≡◌, ℕ, ◌+◌, ◌-◌, ◌≤◌, ◌<◌, ◌≢◌, inl, inr, Bool, true, false, cond, not, List, [], ◌∷◌, length, get_or, set, take, refl, ap, arith, ◌∙◌, fold}
use Rattle.std.specs.Prelude.{ℤ, pos, negsuc, ◌+ℤ◌, ◌-ℤ◌, neg_ℤ, ◌≤ℤ◌, unsigned_abs, ◌&&◌, ◌==◌, if◌then◌else◌, All}
use Rattle.std.proofs.lemmas.Int.{ints}
use Rattle.std.proofs.lemmas.Bool.Decides.{nat_tests}
use Rattle.std.proofs.lemmas.Bool.{cases_eq, cases_lt}
use Rattle.std.proofs.lemmas.List.{get_or-set_same, get_or-set_other, get_or_default, length-take}
use Rattle.std.proofs.lemmas.List.Sums.{sum_by_more, sum_by-cons, count_by-le-length}
use Rattle.pesp_problem.specs.declared.row.SignedRow.{SignedRow}
use Rattle.pesp_problem.specs.Sums.{sum_below}
use Rattle.pesp_problem.specs.Walks.{sign, net_count}
use Rattle.pesp_problem.specs.declared.nets.NetCount.{NetCount}
use Rattle.pesp_problem.specs.Nets.{sum_of, amount, AreSmallCounts, AreNets}
use Rattle.pesp_problem.proofs.Integers.{sum_below-zero, sum_below-single, sum_below-le, sum_below-add}

pub one_more : (plus here : Bool) → pos (cond (plus && here) 1 0) -ℤ pos (cond (not plus && here) 1 0)
    ≡ (if here then (if plus then pos 1 else negsuc 0) else pos 0)
one_more true true = refl
one_more true false = refl
one_more false true = refl
one_more false false = refl

pub net_count_more : (walk : List SignedRow) (k i : ℕ) (d : SignedRow) → k < length walk
    → net_count (take (k + 1) walk) i ≡ net_count (take k walk) i
    +ℤ (if (get_or walk k d).row == i + 1 then sign (get_or walk k d) else pos 0)
net_count_more walk k i d h =
    let plus = sum_by_more (λ (x : SignedRow). cond (x.plus && (x.row == i + 1)) 1 0) walk k d h in
    let minus = sum_by_more (λ (x : SignedRow). cond (not x.plus && (x.row == i + 1)) 1 0) walk k d h in
    omega (arith, ints, plus, minus, one_more (get_or walk k d).plus ((get_or walk k d).row == i + 1))

pub eq-true : (a b : ℕ) → a ≡ b → (a == b) ≡ true
eq-true a b e = grind (arith, nat_tests)

pub eq-false : (a b : ℕ) → a ≢ b → (a == b) ≡ false
eq-false a b e = grind (arith, nat_tests)

-- one more signed row is counted
pub count_step : (counts : List ℤ) (walk : List SignedRow) (k : ℕ) (d : SignedRow) (z : ℤ) → k < length walk
    → 1 ≤ (get_or walk k d).row → (get_or walk k d).row ≤ length counts
    → z ≡ get_or counts ((get_or walk k d).row - 1) (pos 0) +ℤ sign (get_or walk k d)
    → ((i : ℕ) → i < length counts → get_or counts i (pos 0) ≡ net_count (take k walk) i)
    → (i : ℕ) → i < length counts → get_or (set counts ((get_or walk k d).row - 1) z) i (pos 0) ≡ net_count (take (k + 1) walk) i
count_step counts walk k d z h low high e inv i l =
    let at = (get_or walk k d).row - 1 in
    let more = net_count_more walk k i d h in
    elim (cases_eq i at) [
      | inl same ↦
          let here = ap (λ b. if b then sign (get_or walk k d) else pos 0) (eq-true (get_or walk k d).row (i + 1) (omega arith)) in
          let read : get_or (set counts at z) i (pos 0) ≡ z = ap (λ j. get_or (set counts at z) j (pos 0)) same
          ∙ get_or-set_same counts at z (pos 0) (omega arith) in
          let before = ap (λ j. get_or counts j (pos 0)) same in
          omega (arith, ints, read, before, more, here, e, inv i l)
      | inr other ↦
          let here = ap (λ b. if b then sign (get_or walk k d) else pos 0)
          (eq-false (get_or walk k d).row (i + 1) (λ e'. other (omega arith))) in
          omega (arith, ints, more, here, inv i l, get_or-set_other counts at i z (pos 0) other)
    ]

pub net_count_bound : (walk : List SignedRow) (k i : ℕ)
    → (neg_ℤ (pos k) ≤ℤ net_count (take k walk) i) × (net_count (take k walk) i ≤ℤ pos k)
net_count_bound walk k i =
    let plus = count_by-le-length (λ (x : SignedRow). x.plus && (x.row == i + 1)) (take k walk) in
    let minus = count_by-le-length (λ (x : SignedRow). not x.plus && (x.row == i + 1)) (take k walk) in
    let len = length-take k walk in
    (omega (arith, ints, plus, minus, len), omega (arith, ints, plus, minus, len))

pub count_small : (walk : List SignedRow) (k i : ℕ) → k ≤ 10000000 → unsigned_abs (net_count (take k walk) i) ≤ 10000000
count_small walk k i few = let bound = net_count_bound walk k i in omega (arith, ints)

pub net_count_small : (walk : List SignedRow) (i n : ℕ) → length walk ≤ n → unsigned_abs (net_count walk i) ≤ n
net_count_small walk i n h =
    let plus = count_by-le-length (λ (x : SignedRow). x.plus && (x.row == i + 1)) walk in
    let minus = count_by-le-length (λ (x : SignedRow). not x.plus && (x.row == i + 1)) walk in
    omega (arith, ints, plus, minus)

-- ---- the amounts of the net counts are no more than the walk is long

net_count-cons : (s : SignedRow) (walk : List SignedRow) (i : ℕ)
    → net_count (s ∷ walk) i ≡ (if s.row == i + 1 then sign s else pos 0) +ℤ net_count walk i
net_count-cons s walk i =
    let plus = sum_by-cons (λ (x : SignedRow). cond (x.plus && (x.row == i + 1)) 1 0) s walk in
    let minus = sum_by-cons (λ (x : SignedRow). cond (not x.plus && (x.row == i + 1)) 1 0) s walk in
    omega (arith, ints, plus, minus, one_more s.plus (s.row == i + 1))

abbrev here_or_not : ℕ → ℕ → ℤ
here_or_not row i = pos (cond (row == i + 1) 1 0)

here_at_most : (b : Bool) → pos (cond b 1 0) ≤ℤ pos 1
here_at_most true = omega (arith, ints)
here_at_most false = omega (arith, ints)

not_here : (row i : ℕ) → row ≢ i + 1 → here_or_not row i ≡ pos 0
not_here row i ne = let value : Bool → ℤ = λ b. pos (cond b 1 0) in ap value (eq-false row (i + 1) ne)

at_most_one : (n row : ℕ) → sum_below n (here_or_not row) ≤ℤ pos 1
at_most_one n row =
    elim (cases_lt (row - 1) n) [
      | inl l ↦
          let single = sum_below-single n (row - 1) (here_or_not row) l (λ i m ne. not_here row i (λ e. ne (omega arith))) in
          omega (arith, ints, here_at_most (row == row - 1 + 1))
      | inr m ↦
          let none = sum_below-zero n (here_or_not row) (λ i l. not_here row i (λ e. absurd (omega arith))) in
          omega (arith, ints)
    ]

abbrev by_amount : List SignedRow → ℕ → ℤ
by_amount walk i = pos (unsigned_abs (net_count walk i))

step_amount : (here plus : Bool) → pos (unsigned_abs (if here then (if plus then pos 1 else negsuc 0) else pos 0)) ≤ℤ pos (cond here 1 0)
step_amount true true = omega (arith, ints)
step_amount true false = omega (arith, ints)
step_amount false true = omega (arith, ints)
step_amount false false = omega (arith, ints)

amount-cons : (s : SignedRow) (walk : List SignedRow) (i : ℕ) → by_amount (s ∷ walk) i ≤ℤ (here_or_not s.row i +ℤ by_amount walk i)
amount-cons s walk i = omega (arith, ints, ap unsigned_abs (net_count-cons s walk i), step_amount (s.row == i + 1) s.plus)

pub amounts_short : (n : ℕ) (walk : List SignedRow) → sum_below n (λ i. pos (unsigned_abs (net_count walk i))) ≤ℤ pos (length walk)
amounts_short n [] = let none = sum_below-zero n (by_amount []) (λ i l. refl) in omega (arith, ints)
amounts_short n (s ∷ walk) =
    let each = sum_below-le n (by_amount (s ∷ walk)) (λ i. here_or_not s.row i +ℤ by_amount walk i) (λ i l. amount-cons s walk i) in
    let apart = sum_below-add n (here_or_not s.row) (by_amount walk) in
    omega (arith, ints, each, apart, at_most_one n s.row, amounts_short n walk)

-- ---- entries

amount_from : (counts : List NetCount) (z : ℤ) → fold (λ z e. z +ℤ pos (unsigned_abs e.count)) z counts ≡ z +ℤ pos (amount counts)
amount_from [] z = omega (arith, ints)
amount_from (e ∷ counts) z = omega (
  arith,
  ints,
  amount_from counts (z +ℤ pos (unsigned_abs e.count)),
  sum_by-cons (λ (e : NetCount). unsigned_abs e.count) e counts,
)

-- the sum of the amounts is the amount
pub amount_is : (counts : List NetCount) → sum_of (λ i z. pos (unsigned_abs z)) counts ≡ pos (amount counts)
amount_is counts = omega (arith, ints, amount_from counts (pos 0))

pub nets_small : (n : ℕ) (walks : List (List SignedRow)) (nets : List (List NetCount)) → AreNets n walks nets → All (AreSmallCounts n) nets
nets_small n walks nets h k d l = rw (get_or_default nets k d [] l) ((h.each k l).small)
