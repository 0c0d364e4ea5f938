-- Times along the forest.
use Rattle.std.proofs.Common.{◌≡◌, ℕ, suc, ◌+◌, ◌<◌, ap, arith, List, [], ◌∷◌, All, true, false, Bool, ℤ, pos, negsuc, neg_ℤ, ◌+ℤ◌, ◌-ℤ◌, ◌*ℤ◌}
use Rattle.std.proofs.lemmas.Int.{ints}
use Rattle.std.specs.Int.{int_rem_euclid}
use Rattle.std.proofs.lemmas.List.Elements.{All-head, All-tail}
use Rattle.pesp_problem.specs.declared.row.SignedRow.{SignedRow}
use Rattle.pesp_problem.specs.declared.arc.Arc.{Arc}
use Rattle.pesp_problem.specs.Walks.{Leads, start, finish}
use Rattle.pesp_problem.specs.Arcs.{tail_of, head_of}
use Rattle.pesp_problem.specs.Congruences.{IsSame}
use Rattle.pesp_problem.proofs.Congruences.{same_trans, same_add, same_neg, same_is, rem_same, same_rem}
use Rattle.pesp_network.specs.Times.{duration_of, IsMultiple}

whole_from : (p : ℕ) (a z : ℤ) → a ≡ pos p *ℤ z → IsSame p a (pos 0)
whole_from p a (pos z) e = record { more = 0; less = z; even = omega (arith, ints) }
whole_from p a (negsuc z) e = record { more = suc z; less = 0; even = omega (arith, ints) }

pub whole_same : (p : ℕ) (a : ℤ) → IsMultiple p a → IsSame p a (pos 0)
whole_same p a w = whole_from p a w.0 w.1

-- the time from the start of a signed row to its end
goes : (p : ℕ) (g : List Arc) (d : ℕ → ℤ) (t : ℕ → ℕ) (row : ℕ) (b : Bool)
    → IsSame p (pos (t (head_of g row)) -ℤ pos (t (tail_of g row))) (d row)
    → IsSame p (pos (t (finish g (record { row = row; plus = b }))) -ℤ pos
    (t (start g (record { row = row; plus = b })))) (duration_of d (record { row = row; plus = b } ∷ []))
goes p g d t row true h = same_trans p _ (d row) _ h (same_is p _ _ (omega (arith, ints)))
goes p g d t row false h = same_trans p _ (neg_ℤ (d row)) _
    (same_trans p _ (neg_ℤ (pos (t (head_of g row)) -ℤ pos (t (tail_of g row)))) _
    (same_is p _ _ (omega (arith, ints))) (same_neg p _ _ h)) (same_is p _ _ (omega (arith, ints)))

abbrev pub FitsRow : ℕ → List Arc → (ℕ → ℤ) → (ℕ → ℕ) → SignedRow → Type 0
FitsRow p g d t s = IsSame p (pos (t (head_of g s.row)) -ℤ pos (t (tail_of g s.row))) (d s.row)

-- along a way whose rows fit
pub goes_along : (p : ℕ) (g : List Arc) (d : ℕ → ℤ) (t : ℕ → ℕ) (a b : ℕ) (way : List SignedRow) → Leads g a way b
    → All (FitsRow p g d t) way → IsSame p (pos (t b) -ℤ pos (t a)) (duration_of d way)
goes_along p g d t a b [] h k = same_is p _ _ (let e = ap t h in omega (arith, ints))
goes_along p g d t a b (s ∷ way) h k =
    let one = goes p g d t s.row s.plus (All-head (FitsRow p g d t) s way k) in
    let more = goes_along p g d t (finish g s) b way h.1 (All-tail (FitsRow p g d t) s way k) in
    let e = ap t h.0 in
    let u = t (finish g s) in let v = t (start g s) in
    let x = duration_of d (s ∷ []) in let y = duration_of d way in
    same_trans p (pos (t b) -ℤ pos (t a)) ((pos u -ℤ pos v) +ℤ (pos (t b) -ℤ pos u)) (duration_of d (s ∷ way))
    (same_is p _ _ (omega (arith, ints)))
    (same_trans p _ (x +ℤ y) _ (same_add p (pos u -ℤ pos v) x (pos (t b) -ℤ pos u) y one more) (same_is p _ _ (omega (arith, ints))))

-- a row whose walk has a whole offset has its slack
pub closes_row : (p : ℕ) (g : List Arc) (d : ℕ → ℤ) (t : ℕ → ℕ) (k y : ℕ) (lower : ℤ) (rest : List SignedRow) → y < p → d k ≡ lower +ℤ pos y
    → Leads g (head_of g k) rest (tail_of g k) → All (FitsRow p g d t) rest
    → IsMultiple p (duration_of d (record { row = k; plus = true } ∷ rest))
    → int_rem_euclid ((pos (t (head_of g k)) -ℤ pos (t (tail_of g k))) -ℤ lower) (pos p) ≡ pos y
closes_row p g d t k y lower rest h e leads fits whole =
    let w = whole_same p _ whole in
    let r = goes_along p g d t (head_of g k) (tail_of g k) rest leads fits in
    let a = pos (t (head_of g k)) in let b = pos (t (tail_of g k)) in
    same_rem p y ((a -ℤ b) -ℤ lower) h (record {
      more = r.less + w.less;
      less = r.more + w.more;
      even = let x = r.even in let z = w.even in omega (arith, ints);
    })

pub later_is : (p r time slack : ℕ) (lower z : ℤ) → 0 < p → pos r ≡ int_rem_euclid z (pos p)
    → z ≡ ((pos time +ℤ lower) +ℤ pos slack) → IsSame p (pos r -ℤ pos time) (lower +ℤ pos slack)
later_is p r time slack lower z h v e = let s = rem_same p z h in let q = s.even in
    record { more = s.more; less = s.less; even = omega (arith, ints) }

pub earlier_is : (p r time slack : ℕ) (lower z : ℤ) → 0 < p → pos r ≡ int_rem_euclid z (pos p)
    → z ≡ ((pos time -ℤ lower) -ℤ pos slack) → IsSame p (pos time -ℤ pos r) (lower +ℤ pos slack)
earlier_is p r time slack lower z h v e = let s = rem_same p z h in let q = s.even in
    record { more = s.less; less = s.more; even = omega (arith, ints) }
