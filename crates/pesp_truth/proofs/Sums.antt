-- What marked walks and lemmas add up to over the rows.
use Rattle.std.proofs.Common.{◌≡◌, ℕ, ◌+◌, ◌-◌, ◌<◌, ◌≢◌, Bool, true, false, List, [], ◌∷◌, length, refl, ap, ◌∙◌, arith}
use Rattle.std.specs.Prelude.{ℤ, pos, ◌+ℤ◌, ◌*ℤ◌, ◌≤ℤ◌, All, ◌==◌, if◌then◌else◌}
use Rattle.std.proofs.lemmas.Int.{ints}
use Rattle.std.proofs.lemmas.Bool.{eq-eqb, ne_eqb}
use Rattle.std.proofs.lemmas.List.Elements.{All-head, All-tail}
use Rattle.pesp_problem.specs.declared.arc.Arc.{Arc}
use Rattle.pesp_problem.specs.declared.pair.Pair.{Pair}
use Rattle.pesp_problem.specs.Arcs.{Net, over_arcs}
use Rattle.pesp_problem.specs.Walks.{Names, RowExists, AreRows, HasWholeOffset}
use Rattle.pesp_problem.specs.Nodes.{Node, slack_range, SlacksIn}
use Rattle.pesp_problem.proofs.Integers.{mul-le, mul_assoc, add-mul, zero-mul, sum_below-same, sum_below-add, sum_below-mul, sum_below-zero, sum_below-single}
use Rattle.pesp_problem.specs.declared.marked.MarkedRow.{MarkedRow}
use Rattle.pesp_problem.specs.Marked.{signed_rows, IsMarkedWalk, place, walk_sum, distance, rate, rest, gain, least_gain, gain_at}
use Rattle.pesp_problem.specs.Sharp.{Multiple, over_multiples}
use Rattle.pesp_problem.proofs.Gains.{marked_rows_exist, gain_is_enough}
use Rattle.pesp_problem.proofs.Values.{AreWhole}
use Rattle.pesp_truth.specs.Lemmas.{weight_at, lemma_sum, NamesRows, over_pairs, HoldsAt}
use Rattle.pesp_truth.specs.LemmaLeaves.{LemmaMultiple, over_lemmas, taken, AllHoldAt}

sums_add : {a b c d : ℤ} → a ≡ b → c ≡ d → a +ℤ c ≡ b +ℤ d
sums_add h k = cc

sums-le : (a b c d : ℤ) → a ≤ℤ b → c ≤ℤ d → (a +ℤ c) ≤ℤ (b +ℤ d)
sums-le a b c d h k = omega (arith, ints)

-- a term of one row over all places
row_sum : (arcs : List Arc) (row : ℕ) (g : ℕ → ℤ) → Names (length arcs) row
    → over_arcs arcs (λ i. if row == i + 1 then g i else pos 0) ≡ g (row - 1)
row_sum arcs row g h =
    let others = λ (i : ℕ) (l : i < length arcs) (ne : i ≢ row - 1).
    ap (λ b. if b then g i else pos 0) (ne_eqb row (i + 1) (λ e. ne (omega arith))) in
    sum_below-single (length arcs) (row - 1) (λ i. if row == i + 1 then g i else pos 0)
    (omega (arith, h)) others ∙ ap (λ b. if b then g (row - 1) else pos 0)
    (eq-eqb row ((row - 1) + 1) (omega (arith, h)))

-- ---- marked walks

rows_sum : (arcs : List Arc) (term : MarkedRow → ℕ → ℤ) (walk : List MarkedRow) → AreRows arcs (signed_rows walk)
    → over_arcs arcs (λ i. walk_sum walk (λ s. if s.signed.row == i + 1 then term s i else pos 0))
    ≡ walk_sum walk (λ s. term s (place s))
rows_sum arcs term [] rows = sum_below-zero (length arcs) (λ i. pos 0) (λ i l. refl)
rows_sum arcs term (s ∷ walk) rows =
    sum_below-add (length arcs) (λ i. if s.signed.row == i + 1 then term s i else pos 0)
    (λ i. walk_sum walk (λ s. if s.signed.row == i + 1 then term s i else pos 0))
    ∙ sums_add (row_sum arcs s.signed.row (term s) (All-head (RowExists arcs) s.signed (signed_rows walk) rows))
    (rows_sum arcs term walk (All-tail (RowExists arcs) s.signed (signed_rows walk) rows))

gain_by_rows : (n : Net) (ranges : List (ℕ × ℕ)) (slacks : ℕ → ℕ) (walk : List MarkedRow)
    → AreRows n.arcs (signed_rows walk) → over_arcs n.arcs (λ i. gain_at n ranges walk i (slacks i))
    ≡ gain n ranges slacks walk
gain_by_rows n ranges slacks walk rows = rows_sum n.arcs
    (λ s i. pos (rate n.period (rest n ranges walk) s) *ℤ distance s.flipped (slack_range ranges i) (slacks i))
    walk rows

pub multiples_apart : (arcs : List Arc) (term : List MarkedRow → ℕ → ℤ) (multiples : List Multiple)
    → over_arcs arcs (λ i. over_multiples multiples (λ walk. term walk i))
    ≡ over_multiples multiples (λ walk. over_arcs arcs (term walk))
multiples_apart arcs term [] = sum_below-zero (length arcs) (λ i. pos 0) (λ i l. refl)
multiples_apart arcs term (multiple ∷ multiples) =
    sum_below-add (length arcs) (λ i. pos multiple.mult *ℤ term multiple.walk i) (λ i. over_multiples multiples (λ walk. term walk i))
    ∙ sums_add (sum_below-mul (pos multiple.mult) (length arcs) (term multiple.walk)) (multiples_apart arcs term multiples)

abbrev AreClosed : Net → List Multiple → Type 0
AreClosed n multiples = All (λ multiple. IsMarkedWalk n.arcs multiple.walk) multiples

pub multiples_gain : (n : Net) (slacks : ℕ → ℕ) (node : Node) (multiples : List Multiple) → 0 < n.period
    → AreClosed n multiples → AreWhole n slacks multiples → SlacksIn n slacks node.slacks
    → over_multiples multiples (λ walk. pos (least_gain n node.slacks walk))
    ≤ℤ over_multiples multiples (λ walk. over_arcs n.arcs (λ i. gain_at n node.slacks walk i (slacks i)))
multiples_gain n slacks node [] h closed whole lies = omega (arith, ints)
multiples_gain n slacks node (multiple ∷ multiples) h closed whole lies =
    let walk = multiple.walk in
    let is_closed = All-head (λ (m : Multiple). IsMarkedWalk n.arcs m.walk) multiple multiples closed in
    let has_whole = All-head (λ (m : Multiple). HasWholeOffset n slacks (signed_rows m.walk)) multiple multiples whole in
    let enough = gain_is_enough n node.slacks slacks walk h is_closed has_whole lies in
    let by_rows = gain_by_rows n node.slacks slacks walk (marked_rows_exist n.arcs walk is_closed) in
    sums-le _ _ _ _ (mul-le multiple.mult (pos (least_gain n node.slacks walk))
    (over_arcs n.arcs (λ i. gain_at n node.slacks walk i (slacks i))) (rw by_rows enough))
    (multiples_gain n slacks node multiples h (All-tail
    (λ (m : Multiple). IsMarkedWalk n.arcs m.walk) multiple multiples closed)
    (All-tail (λ (m : Multiple). HasWholeOffset n slacks (signed_rows m.walk)) multiple multiples whole) lies)

-- ---- lemmas

-- a choice between a number and 0, times another
chosen : (b : Bool) (w y : ℤ) → (if b then w else pos 0) *ℤ y ≡ (if b then w *ℤ y else pos 0)
chosen true w y = refl
chosen false w y = zero-mul y

pub sum_by_rows : (n : Net) (weights : List Pair) (slacks : ℕ → ℕ) → NamesRows n.arcs weights
    → lemma_sum n.arcs weights slacks ≡ over_pairs weights (λ pair. pair.mult *ℤ pos (slacks (pair.cycle - 1)))
sum_by_rows n [] slacks h = sum_below-zero (length n.arcs) (λ i. pos 0 *ℤ pos (slacks i)) (λ i l. zero-mul (pos (slacks i)))
sum_by_rows n (pair ∷ pairs) slacks h =
    let P = λ (p : Pair). Names (length n.arcs) p.cycle in
    let here = λ (i : ℕ). if pair.cycle == i + 1 then pair.mult *ℤ pos (slacks i) else pos 0 in
    let more = λ (i : ℕ). weight_at pairs i *ℤ pos (slacks i) in
    sum_below-same (length n.arcs) (λ i. weight_at (pair ∷ pairs) i *ℤ pos (slacks i)) (λ i. here i +ℤ more i)
    (λ i l. add-mul (if pair.cycle == i + 1 then pair.mult else pos 0) (weight_at pairs i) (pos (slacks i))
    ∙ ap (λ z. z +ℤ more i) (chosen (pair.cycle == i + 1) pair.mult (pos (slacks i))))
    ∙ sum_below-add (length n.arcs) here more
    ∙ sums_add (row_sum n.arcs pair.cycle (λ i. pair.mult *ℤ pos (slacks i)) (All-head P pair pairs h))
    (sum_by_rows n pairs slacks (All-tail P pair pairs h))

-- what the lemmas take at slacks is the sum of their sums
pub lemmas_apart : (arcs : List Arc) (slacks : ℕ → ℕ) (facts : List LemmaMultiple)
    → over_arcs arcs (λ i. taken facts i *ℤ pos (slacks i)) ≡ over_lemmas facts (λ fact. lemma_sum arcs fact.weights slacks)
lemmas_apart arcs slacks [] = sum_below-zero (length arcs) (λ i. pos 0 *ℤ pos (slacks i)) (λ i l. zero-mul (pos (slacks i)))
lemmas_apart arcs slacks (one ∷ facts) =
    let w = weight_at one.fact.weights in
    let term = λ (i : ℕ). w i *ℤ pos (slacks i) in
    sum_below-same (length arcs) (λ i. taken (one ∷ facts) i *ℤ pos (slacks i))
    (λ i. pos one.mult *ℤ term i +ℤ taken facts i *ℤ pos (slacks i))
    (λ i l. add-mul (pos one.mult *ℤ w i) (taken facts i) (pos (slacks i))
    ∙ ap (λ z. z +ℤ taken facts i *ℤ pos (slacks i)) (mul_assoc (pos one.mult) (w i) (pos (slacks i))))
    ∙ sum_below-add (length arcs) (λ i. pos one.mult *ℤ term i) (λ i. taken facts i *ℤ pos (slacks i))
    ∙ sums_add (sum_below-mul (pos one.mult) (length arcs) term) (lemmas_apart arcs slacks facts)

pub lemmas_hold : (n : Net) (slacks : ℕ → ℕ) (facts : List LemmaMultiple) → AllHoldAt n slacks facts
    → over_lemmas facts (λ fact. fact.least) ≤ℤ over_lemmas facts (λ fact. lemma_sum n.arcs fact.weights slacks)
lemmas_hold n slacks [] h = omega (arith, ints)
lemmas_hold n slacks (one ∷ facts) h =
    let P = λ (one : LemmaMultiple). HoldsAt n.arcs slacks one.fact in
    sums-le _ _ _ _ (mul-le one.mult one.fact.least (lemma_sum n.arcs one.fact.weights slacks) (All-head P one facts h))
    (lemmas_hold n slacks facts (All-tail P one facts h))
