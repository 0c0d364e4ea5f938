-- The net counts of a walk, collected along it.
use Rattle.std.proofs.Common.{◌≡◌, inl, inr, ℕ, ◌+◌, ◌<◌, ◌≤◌, ◌≢◌, ◌++◌, ◌∷◌, [], Bool, arith, refl, ap, sym, ◌∙◌, List, length, get_or, set, drop}
use Rattle.std.specs.Prelude.{ℤ, pos, ◌+ℤ◌, unsigned_abs, All, count_by, cond, ◌==◌}
use Rattle.std.proofs.lemmas.Int.{ints}
use Rattle.std.proofs.lemmas.Bool.{cases_eq}
use Rattle.std.proofs.lemmas.List.{get_or-set_same, get_or-set_other, length-set, length-drop}
use Rattle.std.proofs.lemmas.List.Elements.{All-push, All-nil}
use Rattle.std.proofs.lemmas.List.Sums.{fold_push, sum_by-drop_more, count_by-le-length}
use Rattle.std.proofs.Math.IntN.{+ℤ_idl}
use Rattle.pesp_problem.specs.declared.row.SignedRow.{SignedRow}
use Rattle.pesp_problem.specs.Sums.{sum_below}
use Rattle.pesp_problem.specs.Walks.{net_count}
use Rattle.pesp_problem.specs.declared.nets.NetCount.{NetCount}
use Rattle.pesp_problem.specs.Nets.{sum_of, AreNetCounts}
use Rattle.pesp_leaves.specs.Nets.{ArePlaces}
use Rattle.pesp_problem.proofs.Integers.{sum_below-same}
use Rattle.pesp_leaves.proofs.Sums.{held, held-take, held-zeros, small-set}
use Rattle.pesp_problem.proofs.Counts.{eq-false, amounts_short, amount_is}

-- the entries so far and what the working numbers still hold; what the places that are left don't name is collected
pub record AreCollected (places : List ℕ) (initial working : List ℤ) (counts : List NetCount) (k : ℕ) : Type 0 where
  pub sums : (term : ℕ → ℤ → ℤ) → ((i : ℕ) → term i (pos 0) ≡ pos 0) → sum_of term counts +ℤ held term working ≡ held term initial
  pub inside : All (λ e. e.place < length working) counts
  pub small : (i : ℕ) → i < length working → unsigned_abs (get_or working i (pos 0)) ≤ 10000000
  pub taken : (i : ℕ) → i < length working → count_by (λ place. place == i) (drop k places) ≡ 0 → get_or working i (pos 0) ≡ pos 0

drop_other : (places : List ℕ) (k i : ℕ) → k < length places → i ≢ get_or places k 0
    → count_by (λ place. place == i) (drop k places) ≡ count_by (λ place. place == i) (drop (k + 1) places)
drop_other places k i h ne =
    let more = sum_by-drop_more (λ (place : ℕ). cond (place == i) 1 0) places k 0 h in
    let pick : Bool → ℕ = λ b. cond b 1 0 in
    let none = ap pick (eq-false (get_or places k 0) i (λ e. ne (sym e))) in
    omega (arith, more, none)

taken_more : (places : List ℕ) (working : List ℤ) (k at : ℕ) → k < length places → at ≡ get_or places k 0 → at < length working
    → ((i : ℕ) → i < length working → count_by (λ place. place == i) (drop k places) ≡ 0 → get_or working i (pos 0) ≡ pos 0)
    → (i : ℕ) → i < length (set working at (pos 0)) → count_by (λ place. place == i) (drop (k + 1) places) ≡ 0
    → get_or (set working at (pos 0)) i (pos 0) ≡ pos 0
taken_more places working k at h is inside taken i l none =
    let l' : i < length working = omega (arith, length-set working at (pos 0)) in
    elim (cases_eq i at) [
      | inl same ↦ ap (λ j. get_or (set working at (pos 0)) j (pos 0)) same ∙ get_or-set_same working at (pos 0) (pos 0) inside
      | inr other ↦ get_or-set_other working at i (pos 0) (pos 0) other
          ∙ taken i l' (drop_other places k i h (λ e. other (e ∙ sym is)) ∙ none)
    ]

-- a row whose count isn't 0 becomes an entry
pub collected-push : (places : List ℕ) (initial working : List ℤ) (counts : List NetCount) (k at : ℕ)
    (e : NetCount) → k < length places → at ≡ get_or places k 0 → at < length working
    → e.place ≡ at → e.count ≡ get_or working at (pos 0) → AreCollected places initial working counts k
    → AreCollected places initial (set working at (pos 0)) (counts ++ e ∷ []) (k + 1)
collected-push places initial working counts k at e within row inside is count h = record {
  sums = λ term none.
      (let o = h.sums term none in let s = held-take term working at none inside in
      let here : term e.place e.count ≡ term at (get_or working at (pos 0)) = ap (λ a. term a e.count) is ∙ ap (term at) count in
      rw (fold_push (λ z e. z +ℤ term e.place e.count) (pos 0) counts e) (omega (arith, ints)));
  inside = All-push (λ (e : NetCount). e.place < length (set working at (pos 0))) counts e
      (rw (length-set working at (pos 0)) h.inside) (omega (arith, length-set working at (pos 0)));
  small = small-set working at 10000000 inside h.small;
  taken = taken_more places working k at within row inside h.taken;
}

-- a row whose count is 0 is passed over
pub collected-skip : (places : List ℕ) (initial working : List ℤ) (counts : List NetCount) (k at : ℕ)
    → k < length places → at ≡ get_or places k 0 → at < length working
    → get_or working at (pos 0) ≡ pos 0 → AreCollected places initial working counts k
    → AreCollected places initial (set working at (pos 0)) counts (k + 1)
collected-skip places initial working counts k at within row inside zero h = record {
  sums = λ term none. (let o = h.sums term none in let s = held-take term working at none inside in
      let here : term at (get_or working at (pos 0)) ≡ pos 0 = ap (term at) zero ∙ none at in omega (arith, ints));
  inside = rw (length-set working at (pos 0)) h.inside;
  small = small-set working at 10000000 inside h.small;
  taken = taken_more places working k at within row inside h.taken;
}

-- before the first
pub collected-none : (places : List ℕ) (working : List ℤ) → ArePlaces places working
    → ((i : ℕ) → i < length working → unsigned_abs (get_or working i (pos 0)) ≤ 10000000)
    → AreCollected places working working [] 0
collected-none places working are small = record {
  sums = λ term none. +ℤ_idl (held term working);
  inside = All-nil (λ (e : NetCount). e.place < length working);
  small = small;
  taken = are.named;
}

pub all_zeros : (places : List ℕ) (initial working : List ℤ) (counts : List NetCount) (k : ℕ) → length places ≤ k
    → AreCollected places initial working counts k → (i : ℕ) → i < length working → get_or working i (pos 0) ≡ pos 0
all_zeros places initial working counts k done h i l =
    h.taken i l (omega (
      arith,
      count_by-le-length (λ (place : ℕ). place == i) (drop k places),
      length-drop k places,
    ))

-- after the last
pub collected-all : (places : List ℕ) (walk : List SignedRow) (initial working : List ℤ) (counts : List NetCount)
    (k : ℕ) → length working ≡ length initial → length walk ≤ 10000000 → length places ≤ k
    → ((i : ℕ) → i < length initial → get_or initial i (pos 0) ≡ net_count walk i)
    → AreCollected places initial working counts k → AreNetCounts (length initial) walk counts
collected-all places walk initial working counts k same short done are h = record {
  sums = sums;
  small = (
    rw (sym same) h.inside,
    (let s = sums (λ i z. pos (unsigned_abs z)) (λ i. refl) in
        let a = amount_is counts in let m = amounts_short (length initial) walk in omega (arith, ints)),
  );
}
  where
    sums : (term : ℕ → ℤ → ℤ) → ((i : ℕ) → term i (pos 0) ≡ pos 0)
        → sum_of term counts ≡ sum_below (length initial) (λ i. term i (net_count walk i))
    sums term none =
        let empty = held-zeros term working none (all_zeros places initial working counts k done h) in
        let whole : held term initial ≡ sum_below (length initial) (λ i. term i (net_count walk i)) =
        sum_below-same (length initial) (λ i. term i (get_or initial i (pos 0)))
        (λ i. term i (net_count walk i)) (λ i l. ap (term i) (are i l)) in
        let o = h.sums term none in omega (arith, ints)
