-- Flows as they are added up, entry by entry.
use Rattle.std.proofs.Common.{◌≡◌, ◌≢◌, inl, inr, ℕ, ◌+◌, ◌^◌, ◌<◌, ◌≤◌, arith, refl, ap, sym, ◌∙◌, List, [], ◌∷◌, length, get_or, set, take, fold, Bool, true, false}
use Rattle.std.specs.Prelude.{ℤ, pos, ◌+ℤ◌, ◌*ℤ◌, unsigned_abs, if◌then◌else◌, ◌==◌}
use Rattle.std.proofs.lemmas.Int.{ints, unsigned_abs-mul}
use Rattle.std.proofs.Math.Nat.{mul-le-mul}
use Rattle.std.proofs.lemmas.Bool.{cases_eq}
use Rattle.std.proofs.lemmas.List.{get_or-set_same, get_or-set_other, length-set, get_or_default}
use Rattle.std.proofs.lemmas.List.Sums.{fold_more, sum_by-cons, sum_by-take-le}
use Rattle.pesp_problem.specs.declared.nets.NetCount.{NetCount}
use Rattle.pesp_problem.specs.declared.row.SignedRow.{SignedRow}
use Rattle.pesp_problem.specs.Walks.{net_count}
use Rattle.pesp_problem.specs.Nets.{amount, AreSmallCounts, AreNetCounts, count_of, nets_at}
use Rattle.pesp_problem.specs.Terms.{number_at}
use Rattle.pesp_problem.proofs.Integers.{mul-add, sum_below-single}
use Rattle.pesp_problem.proofs.Counts.{eq-true, eq-false}

one_small : (here : Bool) (count : ℤ) → unsigned_abs (if here then count else pos 0) ≤ unsigned_abs count
one_small true count = omega arith
one_small false count = omega arith

count_from : (counts : List NetCount) (i : ℕ) (z : ℤ)
    → unsigned_abs (fold (λ z e. z +ℤ (if e.place == i then e.count else pos 0)) z counts)
    ≤ unsigned_abs z + amount counts
count_from [] i z = omega arith
count_from (e ∷ counts) i z =
    let rest = count_from counts i (z +ℤ (if e.place == i then e.count else pos 0)) in
    let more = sum_by-cons (λ (e : NetCount). unsigned_abs e.count) e counts in
    let here = one_small (e.place == i) e.count in
    omega (arith, ints)

pub count_small : (counts : List NetCount) (i : ℕ) → unsigned_abs (count_of counts i) ≤ amount counts
count_small counts i = omega (arith, count_from counts i (pos 0))

-- the first k entries are added
pub record AreAdded (counts : List NetCount) (mult : ℤ) (initial flows : List ℤ) (k : ℕ) : Type 0 where
  pub sum : (i : ℕ) → i < length flows → number_at flows i ≡ number_at initial i +ℤ mult *ℤ count_of (take k counts) i

pub added_none : (counts : List NetCount) (mult : ℤ) (flows : List ℤ) → AreAdded counts mult flows flows 0
added_none counts mult flows = record { sum = λ i l. omega (arith, ints) }

-- how much a part of the entries adds
pub added_small : (n : ℕ) (counts : List NetCount) (mult : ℤ) (k i : ℕ) → AreSmallCounts n counts
    → unsigned_abs mult ≤ 1000000000000 → unsigned_abs (mult *ℤ count_of (take k counts) i) ≤ 10 ^ 19
added_small n counts mult k i small m =
    let count : unsigned_abs (count_of (take k counts) i)
    ≤ 10000000 = omega (
      arith,
      count_small (take k counts) i,
      sum_by-take-le (λ (e : NetCount). unsigned_abs e.count) counts k,
      small.1,
    ) in
    omega (arith, unsigned_abs-mul mult (count_of (take k counts) i), mul-le-mul m count)

pub added_more : (counts : List NetCount) (mult : ℤ) (initial flows : List ℤ) (k at : ℕ) (d : NetCount) (flow : ℤ)
    → k < length counts → at ≡ (get_or counts k d).place → at < length flows
    → flow ≡ number_at flows at +ℤ mult *ℤ (get_or counts k d).count
    → AreAdded counts mult initial flows k → AreAdded counts mult initial (set flows at flow) (k + 1)
added_more counts mult initial flows k at d flow h is inside e before = record {
  sum = λ i l.
      let e' = get_or counts k d in
      let l' : i < length flows = omega (arith, length-set flows at flow) in
      let more : count_of (take (k + 1) counts) i
      ≡ count_of (take k counts) i +ℤ (if e'.place == i then e'.count else pos 0) =
      fold_more (λ z (e : NetCount). z +ℤ (if e.place == i then e.count else pos 0)) (pos 0) counts k d h in
      let pick : Bool → ℤ = λ b. if b then e'.count else pos 0 in
      let apart = mul-add mult (count_of (take k counts) i) in
      elim (cases_eq i at) [
        | inl same ↦
            let here : pick (e'.place == i) ≡ e'.count = ap pick (eq-true e'.place i (omega arith)) in
            let read : number_at (set flows at flow) i ≡ flow = ap (λ j. number_at (set flows at flow) j) same
            ∙ get_or-set_same flows at flow (pos 0) inside in
            let old = before.sum i l' in
            let at_is : number_at flows i ≡ number_at flows at = ap (number_at flows) same in
            let all : mult *ℤ count_of (take (k + 1) counts) i
            ≡ mult *ℤ count_of (take k counts) i +ℤ mult *ℤ e'.count =
            ap (λ z. mult *ℤ z) (more ∙ ap (λ z. count_of (take k counts) i +ℤ z) here) ∙ apart e'.count in
            omega (arith, ints)
        | inr other ↦
            let none : pick (e'.place == i) ≡ pos 0 = ap pick (eq-false e'.place i (λ f. other (sym f ∙ sym is))) in
            let read = get_or-set_other flows at i flow (pos 0) other in
            let old = before.sum i l' in
            let all : mult *ℤ count_of (take (k + 1) counts) i
            ≡ mult *ℤ count_of (take k counts) i +ℤ mult *ℤ pos 0 =
            ap (λ z. mult *ℤ z) (more ∙ ap (λ z. count_of (take k counts) i +ℤ z) none) ∙ apart (pos 0) in
            omega (arith, ints)
      ];
}

-- the entries of a walk's row add up to its net count
pub count_is : (n : ℕ) (walk : List SignedRow) (counts : List NetCount) (i : ℕ) → AreNetCounts n walk counts
    → i < n → count_of counts i ≡ net_count walk i
count_is n walk counts i h l =
    let term : ℕ → ℤ → ℤ = λ place count. if place == i then count else pos 0 in
    let pick : ℤ → Bool → ℤ = λ z b. if b then z else pos 0 in
    let others = λ (j : ℕ) (m : j < n) (ne : j ≢ i). ap (pick (net_count walk j)) (eq-false j i ne) in
    h.sums term (λ j. zero_either (j == i)) ∙ sum_below-single n i (λ j. term j (net_count walk j)) l others
    ∙ ap (pick (net_count walk i)) (eq-true i i refl)
  where
    zero_either : (b : Bool) → (if b then pos 0 else pos 0) ≡ pos 0
    zero_either true = refl
    zero_either false = refl

-- the entries as the code reads them
pub nets_read : (table : List (List NetCount)) (c : ℕ) (counts read : List NetCount) → c < length table
    → read ≡ get_or table c read → counts ≡ read → counts ≡ nets_at table c
nets_read table c counts read l is e = e ∙ is ∙ get_or_default table c read [] l
