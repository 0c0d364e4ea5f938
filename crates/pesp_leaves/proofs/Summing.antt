-- What the marked walks of pairs add, as it is added up pair by pair.
use Rattle.std.proofs.Common.{◌≡◌, inl, inr, ℕ, ◌+◌, ◌-◌, ◌*◌, ◌^◌, ◌<◌, ◌≤◌, arith, ap, sym, ◌∙◌, refl, List, [], ◌∷◌, length, get_or, Bool, true, false}
use Rattle.std.specs.Prelude.{ℤ, pos, negsuc, ◌+ℤ◌, ◌*ℤ◌, ◌<ℤ◌, unsigned_abs, nat_abs, All}
use Rattle.std.proofs.lemmas.Int.{ints}
use Rattle.std.proofs.lemmas.List.Elements.{All-map}
use Rattle.std.proofs.lemmas.List.{length-map}
use Rattle.pesp_problem.specs.declared.row.SignedRow.{SignedRow}
use Rattle.pesp_problem.specs.declared.arc.Arc.{Arc}
use Rattle.pesp_problem.specs.declared.pair.Pair.{Pair}
use Rattle.pesp_problem.specs.Timetables.{Pesp}
use Rattle.pesp_problem.specs.Limits.{KeepsLimits}
use Rattle.pesp_problem.specs.Arcs.{Net, arc_of, arcs_of, net_of}
use Rattle.pesp_problem.specs.Walks.{AreRows, IsWalk, RowExists}
use Rattle.pesp_leaves.specs.Flows.{ArePairLimits}
use Rattle.pesp_problem.specs.declared.marked.MarkedRow.{MarkedRow}
use Rattle.pesp_problem.specs.Marked.{signed_rows, IsMarkedWalk, rates_at as walk_rates}
use Rattle.pesp_problem.specs.Sharp.{over_multiples}
use Rattle.pesp_truth.specs.Named.{IsNamed, AreNamed, walk_at, of_walks}
use Rattle.pesp_truth.proofs.Named.{at_most}
use Rattle.pesp_problem.specs.declared.rates.Rates.{Rates}
use Rattle.pesp_problem.specs.Rates.{rates_at, rate_of, AreSmallRates, AreNoRates}
use Rattle.pesp_problem.specs.Terms.{AreSmallArcs}
use Rattle.pesp_problem.proofs.Small.{marked_exist}
use Rattle.pesp_leaves.specs.Gains.{gains_of, rates_of}
use Rattle.pesp_leaves.proofs.Naming.{limits_apart, named_apart}

-- ---- one pair

none_more : (z : ℤ) → z ≡ pos 0 +ℤ z
none_more z = omega (arith, ints)

one_more : (a z : ℤ) → a +ℤ z ≡ (a +ℤ pos 0) +ℤ z
one_more a z = omega (arith, ints)

no_more : (a : ℤ) → a +ℤ pos 0 ≡ a
no_more a = omega (arith, ints)

-- a pair and the others
over_more : (cycles : ℕ) (walks : List (List MarkedRow)) (pair : Pair) (rest : List Pair)
    (term : List MarkedRow → ℤ) → over_multiples (of_walks cycles walks (pair ∷ rest)) term
    ≡ over_multiples (of_walks cycles walks (pair ∷ [])) term +ℤ over_multiples (of_walks cycles walks rest) term
over_more cycles walks pair rest term =
    elim (at_most pair.cycle cycles) [
      | inl m ↦ rw m.0 (none_more (over_multiples (of_walks cycles walks rest) term))
      | inr m ↦ rw m.0 (one_more _ (over_multiples (of_walks cycles walks rest) term))
    ]

-- a pair that names a cycle adds nothing
pub over_none : (cycles : ℕ) (walks : List (List MarkedRow)) (pair : Pair) (term : List MarkedRow → ℤ)
    → pair.cycle ≤ cycles → over_multiples (of_walks cycles walks (pair ∷ [])) term ≡ pos 0
over_none cycles walks pair term h = elim (at_most pair.cycle cycles) [ inl m ↦ rw m.0 refl | inr m ↦ absurd (omega (arith, h, m.1)) ]

pos_abs : (z : ℤ) → pos 0 <ℤ z → pos (nat_abs z) ≡ z
pos_abs (pos n) h = refl
pos_abs (negsuc n) h = absurd (omega (arith, ints, h))

-- one that names a marked walk adds its term, under the multiplier
pub over_one : (cycles : ℕ) (walks : List (List MarkedRow)) (pair : Pair) (term : List MarkedRow → ℤ)
    → cycles < pair.cycle → pos 0 <ℤ pair.mult → over_multiples (of_walks cycles walks (pair ∷ [])) term
    ≡ pair.mult *ℤ term (walk_at walks (pair.cycle - cycles - 1))
over_one cycles walks pair term h above =
    elim (at_most pair.cycle cycles) [
      | inl m ↦ absurd (omega (arith, h, m.1))
      | inr m ↦ rw m.0 (no_more (pos (nat_abs pair.mult) *ℤ term (walk_at walks (pair.cycle - cycles - 1)))
          ∙ ap (λ z. z *ℤ term (walk_at walks (pair.cycle - cycles - 1))) (pos_abs pair.mult above))
    ]

-- the same of its rates, as they are read
pub walk_added : (p : Pesp) (slacks : List (ℕ × ℕ)) (cycles : ℕ) (walks : List (List MarkedRow)) (pair : Pair)
    (rows : List MarkedRow) (period : ℕ) (arcs : List Arc) (flipped : Bool) (i : ℕ) → cycles < pair.cycle
    → pos 0 <ℤ pair.mult → rows ≡ walk_at walks (pair.cycle - cycles - 1) → period ≡ p.period → arcs ≡ arcs_of p
    → pair.mult *ℤ walk_rates (record { period = period; arcs = arcs }) slacks rows flipped i
    ≡ rates_of (net_of p) slacks cycles walks (pair ∷ []) flipped i
walk_added p slacks cycles walks pair rows period arcs flipped i h above r e f =
    let R : ℕ → List Arc → List MarkedRow → ℤ = λ t a w. pair.mult *ℤ walk_rates (record { period = t; arcs = a }) slacks w flipped i in
    ap (λ (t : ℕ). R t arcs rows) e ∙ ap (λ (a : List Arc). R p.period a rows) f
    ∙ ap (λ (w : List MarkedRow). R p.period (arcs_of p) w) r
    ∙ sym (over_one cycles walks pair (λ walk. walk_rates (net_of p) slacks walk flipped i) h above)

-- ---- what the call for one walk wants

walk_rows : (arcs : List Arc) (walk : List SignedRow) → IsWalk arcs walk → AreRows arcs walk
walk_rows arcs [] w = absurd w
walk_rows arcs (s ∷ walk) w = w.0

-- the rows of closed marked walks exist
pub rows_exist : (arcs : List Arc) (walks : List (List MarkedRow)) → All (IsMarkedWalk arcs) walks
    → All (λ walk. All (λ s. RowExists arcs s.signed) walk) walks
rows_exist arcs walks closed c d l = marked_exist arcs (get_or walks c d) (walk_rows arcs (signed_rows (get_or walks c d)) (closed c d l))

pub small_arcs : (p : Pesp) → KeepsLimits p → AreSmallArcs (arcs_of p)
small_arcs p keeps = record {
  most = omega (arith, length-map p.rows (arc_of p.period), keeps.rows);
  each = All-map (λ (arc : Arc). (unsigned_abs arc.lower ≤ 1020000) × (arc.weight ≤ 1000000000))
      (arc_of p.period) p.rows (λ i d l. (let r = keeps.each i d l in
      (omega (arith, ints, r.lower, r.bounds, r.upper), r.weight)));
}

-- ---- pair by pair

pub record AreSummed (n : Net) (slacks : List (ℕ × ℕ)) (cycles : ℕ) (walks : List (List MarkedRow))
    (pairs left : List Pair) (gains : ℤ) (rates : List Rates) : Type 0 where
  pub named : AreNamed cycles (length walks) left
  pub limits : ArePairLimits left
  pub gains_are : gains +ℤ gains_of n slacks cycles walks left ≡ gains_of n slacks cycles walks pairs
  pub size : unsigned_abs gains + length left * 10 ^ 20 ≤ 10 ^ 25
  pub rates_are : (i : ℕ) (flipped : Bool) → i < length rates
      → rate_of flipped (rates_at rates i) +ℤ rates_of n slacks cycles walks left flipped i
      ≡ rates_of n slacks cycles walks pairs flipped i
  pub small : (i : ℕ) (flipped : Bool) → i < length rates
      → unsigned_abs (rate_of flipped (rates_at rates i)) + length left * 10 ^ 23 ≤ 100000 * 10 ^ 23

entry_none : (rates : List Rates) (i : ℕ) (flipped : Bool) → AreNoRates rates → i < length rates → rate_of flipped (rates_at rates i) ≡ pos 0
entry_none rates i true none l = ap (λ (r : Rates). r.flipped) (none i l)
entry_none rates i false none l = ap (λ (r : Rates). r.plain) (none i l)

pub summed_none : (n : Net) (slacks : List (ℕ × ℕ)) (cycles : ℕ) (walks : List (List MarkedRow))
    (pairs : List Pair) (rates : List Rates) → AreNamed cycles (length walks) pairs → ArePairLimits pairs
    → AreNoRates rates → AreSummed n slacks cycles walks pairs pairs (pos 0) rates
summed_none n slacks cycles walks pairs rates named limits none = record {
  named = named;
  limits = limits;
  gains_are = sym (none_more (gains_of n slacks cycles walks pairs));
  size = omega (arith, limits.1);
  rates_are = λ i flipped l. ap (λ z. z +ℤ rates_of n slacks cycles walks pairs flipped i)
      (entry_none rates i flipped none l) ∙ sym (none_more (rates_of n slacks cycles walks pairs flipped i));
  small = λ i flipped l. omega (arith, limits.1, ap unsigned_abs (entry_none rates i flipped none l));
}

next_sum : (sum more all here rest whole : ℤ) → all ≡ sum +ℤ here → more ≡ here +ℤ rest → sum +ℤ more ≡ whole → all +ℤ rest ≡ whole
next_sum sum more all here rest whole a b c = omega (arith, ints)

module _ (n : Net) (slacks : List (ℕ × ℕ)) (cycles : ℕ) (walks : List (List MarkedRow))
    (pairs left rest : List Pair) (pair : Pair) (gains : ℤ) (rates : List Rates) (is : left ≡ pair ∷ rest)
    (before : AreSummed n slacks cycles walks pairs left gains rates) where
  pub here_named : IsNamed cycles (length walks) pair
  here_named = (named_apart cycles left rest pair is (length walks) before.named).0

  pub here_small : unsigned_abs pair.mult ≤ 1000000000000
  here_small = (limits_apart cycles left rest pair is before.limits).0

  one_fewer : length left ≡ length rest + 1
  one_fewer = let e = ap length is in omega (arith, e)

  pub room : AreSmallRates 99999 rates
  room i flipped l = omega (arith, before.small i flipped l, one_fewer)

  pub gains_small : unsigned_abs gains ≤ 10 ^ 25
  gains_small = omega (arith, before.size)

  pub summed_more : (gains' here : ℤ) (rates' : List Rates) → length rates' ≡ length rates → gains' ≡ gains +ℤ here
      → here ≡ gains_of n slacks cycles walks (pair ∷ []) → unsigned_abs here ≤ 10 ^ 20
      → ((i : ℕ) (flipped : Bool) → i < length rates
      → rate_of flipped (rates_at rates' i) ≡ rate_of flipped (rates_at rates i)
      +ℤ rates_of n slacks cycles walks (pair ∷ []) flipped i)
      → ((i : ℕ) (flipped : Bool) → i < length rates
      → unsigned_abs (rate_of flipped (rates_at rates' i))
      ≤ unsigned_abs (rate_of flipped (rates_at rates i)) + 10 ^ 23)
      → AreSummed n slacks cycles walks pairs rest gains' rates'
  summed_more gains' here rates' long e h s added small = record {
    named = (named_apart cycles left rest pair is (length walks) before.named).1;
    limits = (limits_apart cycles left rest pair is before.limits).1;
    gains_are = next_sum gains (gains_of n slacks cycles walks left) gains' here
        (gains_of n slacks cycles walks rest) (gains_of n slacks cycles walks pairs) e
        (ap (gains_of n slacks cycles walks) is ∙ over_more cycles walks pair rest _
        ∙ ap (λ z. z +ℤ gains_of n slacks cycles walks rest) (sym h)) before.gains_are;
    size = omega (arith, ints, before.size, one_fewer, s, e);
    rates_are = λ i flipped l.
        let l' : i < length rates = omega (arith, l, long) in
        next_sum (rate_of flipped (rates_at rates i)) (rates_of n slacks cycles walks left flipped i)
        (rate_of flipped (rates_at rates' i)) (rates_of n slacks cycles walks (pair ∷ []) flipped i)
        (rates_of n slacks cycles walks rest flipped i) (rates_of n slacks cycles walks pairs flipped i)
        (added i flipped l') (ap (λ (ps : List Pair). rates_of n slacks cycles walks ps flipped i) is
        ∙ over_more cycles walks pair rest _) (before.rates_are i flipped l');
    small = λ i flipped l.
        let l' : i < length rates = omega (arith, l, long) in
        omega (arith, before.small i flipped l', small i flipped l', one_fewer);
  }

-- all pairs are added
module _ (n : Net) (slacks : List (ℕ × ℕ)) (cycles : ℕ) (walks : List (List MarkedRow)) (pairs left : List Pair)
    (gains : ℤ) (rates : List Rates) (done : left ≡ [])
    (h : AreSummed n slacks cycles walks pairs left gains rates) where
  pub all_gains : gains ≡ gains_of n slacks cycles walks pairs
  all_gains = sym (no_more gains) ∙ ap (λ (ps : List Pair). gains +ℤ gains_of n slacks cycles walks ps) (sym done) ∙ h.gains_are

  pub all_rates : (i : ℕ) (flipped : Bool) → i < length rates
      → rate_of flipped (rates_at rates i) ≡ rates_of n slacks cycles walks pairs flipped i
  all_rates i flipped l = sym (no_more (rate_of flipped (rates_at rates i)))
      ∙ ap (λ (ps : List Pair). rate_of flipped (rates_at rates i) +ℤ rates_of n slacks cycles walks ps flipped i)
      (sym done) ∙ h.rates_are i flipped l

  pub all_small : AreSmallRates 100000 rates
  all_small i flipped l = omega (arith, h.small i flipped l)
