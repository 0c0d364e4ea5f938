-- The sum of lower bounds along a lifted walk.
use Rattle.std.proofs.Common.{◌≡◌, ℕ, ◌-◌, inl, inr, refl, sym, ◌∙◌, ap, arith, subst, List, [], ◌∷◌, map, true, false, Bool, All, ℤ, pos, negsuc, ◌+ℤ◌, ◌-ℤ◌, ◌*ℤ◌}
use Rattle.std.specs.Prelude.{if◌then◌else◌, filter}
use Rattle.std.proofs.lemmas.Int.{ints}
use Rattle.std.proofs.lemmas.Bool.{cases_Bool}
use Rattle.std.proofs.lemmas.List.Elements.{All-head, All-tail}
use Rattle.pesp_problem.specs.declared.arc.Arc.{Arc}
use Rattle.pesp_problem.specs.declared.row.SignedRow.{SignedRow}
use Rattle.pesp_problem.specs.Arcs.{arc_at}
use Rattle.pesp_problem.specs.Walks.{AreRows, IsWalk, start, sign}
use Rattle.pesp_problem.proofs.Integers.{mul-add}
use Rattle.pesp_problem.proofs.Walks.{sum_along, net_count_sum, rise, telescope}
use Rattle.pesp_network.specs.declared.row.NetRow.{NetRow}
use Rattle.pesp_network.specs.Networks.{arcs_of_network}
use Rattle.pesp_problem.specs.Congruences.{IsSame}
use Rattle.pesp_reduce.specs.LiftedWalks.{original_row, lower_sum}
use Rattle.pesp_problem.proofs.Congruences.{same_trans, same_add, same_is}
use Rattle.pesp_reduce.proofs.Trees.{filter_on, filter_off}

same_sign : (period : ℕ) (b : Bool) (z w : ℤ) → IsSame period z w
    → IsSame period ((if b then pos 1 else negsuc 0) *ℤ z) ((if b then pos 1 else negsuc 0) *ℤ w)
same_sign period true z w h = record { more = h.more; less = h.less; even = let e = h.even in omega (arith, ints) }
same_sign period false z w h = record { more = h.less; less = h.more; even = let e = h.even in omega (arith, ints) }

times_zero : (period : ℕ) (a b c d : ℤ) → IsSame period (a *ℤ b) (a *ℤ pos 0) → IsSame period c d → IsSame period (a *ℤ b +ℤ c) d
times_zero period a b c d h k = same_trans period (a *ℤ b +ℤ c) (a *ℤ pos 0 +ℤ d) d
    (same_add period (a *ℤ b) (a *ℤ pos 0) c d h k) (same_is period (a *ℤ pos 0 +ℤ d) d (omega (arith, ints)))

-- rows whose terms are multiples of the period may be left out
sum_filtered : (period : ℕ) (test : SignedRow → Bool) (g : ℕ → ℤ) (way : List SignedRow)
    → All (λ s. test s ≡ false → IsSame period (g (s.row - 1)) (pos 0)) way
    → IsSame period (sum_along way g) (sum_along (filter test way) g)
sum_filtered period test g [] h = same_is period (pos 0) (pos 0) refl
sum_filtered period test g (s ∷ way) h =
    let P : SignedRow → Type 0 = λ q. test q ≡ false → IsSame period (g (q.row - 1)) (pos 0) in
    let rest = sum_filtered period test g way (All-tail P s way h) in
    elim (cases_Bool (test s)) [
      | inl e ↦
          subst (λ w. IsSame period (sum_along (s ∷ way) g) (sum_along w g)) (sym (filter_on test s way e))
          (same_add period (sign s *ℤ g (s.row - 1)) (sign s *ℤ g (s.row - 1)) (sum_along way g)
          (sum_along (filter test way) g) (same_is period (sign s *ℤ g (s.row - 1))
          (sign s *ℤ g (s.row - 1)) refl) rest)
      | inr e ↦
          subst (λ w. IsSame period (sum_along (s ∷ way) g) (sum_along w g)) (sym (filter_off test s way e))
          (times_zero period (sign s) (g (s.row - 1)) (sum_along way g) (sum_along (filter test way) g)
          (same_sign period s.plus (g (s.row - 1)) (pos 0) (All-head P s way h e)) rest)
    ]

-- rows that come from others have their terms
pub sum_of_originals : (left : List NetRow) (g h : ℕ → ℤ) (walk : List SignedRow)
    → All (λ s. g ((original_row left s).row - 1) ≡ h (s.row - 1)) walk
    → sum_along (map (original_row left) walk) g ≡ sum_along walk h
sum_of_originals left g h [] e = refl
sum_of_originals left g h (s ∷ walk) e =
    let P : SignedRow → Type 0 = λ q. g ((original_row left q).row - 1) ≡ h (q.row - 1) in
    ap (λ z. sign s *ℤ z +ℤ sum_along (map (original_row left) walk) g) (All-head P s walk e)
    ∙ ap (λ z. sign s *ℤ h (s.row - 1) +ℤ z) (sum_of_originals left g h walk (All-tail P s walk e))

sum_split : (f g h : ℕ → ℤ) (way : List SignedRow) → ((i : ℕ) → f i ≡ g i +ℤ h i) → sum_along way f ≡ sum_along way g +ℤ sum_along way h
sum_split f g h [] e = omega (arith, ints)
sum_split f g h (s ∷ way) e =
    let here = ap (λ z. sign s *ℤ z) (e (s.row - 1)) ∙ mul-add (sign s) (g (s.row - 1)) (h (s.row - 1)) in
    omega (arith, ints, here, sum_split f g h way e)

pub rows_of_walk : (arcs : List Arc) (walk : List SignedRow) → IsWalk arcs walk → AreRows arcs walk
rows_of_walk arcs [] w = absurd w
rows_of_walk arcs (s ∷ way) w = w.0

-- along a closed walk the differences of a number at each event cancel
closed_rise : (arcs : List Arc) (f : ℕ → ℤ) (walk : List SignedRow) → IsWalk arcs walk → sum_along walk (rise arcs f) ≡ pos 0
closed_rise arcs f [] w = absurd w
closed_rise arcs f (s ∷ way) w = telescope arcs f (s ∷ way) (start arcs s) (start arcs s) w.1 ∙ omega (arith, ints)

-- what a lower bound exceeds the difference of the shifts by
abbrev pub excess : List Arc → (ℕ → ℤ) → ℕ → ℤ
excess arcs f i = (arc_at arcs i).lower -ℤ rise arcs f i

-- the sums of lower bounds differ by a multiple of the period
pub same_lower_sums : (period : ℕ) (arcs : List Arc) (left : List NetRow) (f : ℕ → ℤ) (test : SignedRow → Bool)
    (walk lifted : List SignedRow) → IsWalk arcs lifted → IsWalk (arcs_of_network left) walk
    → filter test lifted ≡ map (original_row left) walk
    → All (λ s. test s ≡ false → IsSame period (excess arcs f (s.row - 1)) (pos 0)) lifted
    → All (λ s. excess arcs f ((original_row left s).row - 1)
    ≡ (arc_at (arcs_of_network left) (s.row - 1)).lower) walk
    → IsSame period (lower_sum arcs lifted) (lower_sum (arcs_of_network left) walk)
same_lower_sums period arcs left f test walk lifted w v kept none each =
    let B = arcs_of_network left in
    let low : ℕ → ℤ = λ i. (arc_at arcs i).lower in
    let own : ℕ → ℤ = λ i. (arc_at B i).lower in
    let g = excess arcs f in
    let all = net_count_sum arcs lifted low (rows_of_walk arcs lifted w) in
    let parts = sum_split low g (rise arcs f) lifted (λ i. omega (arith, ints)) in
    let closed = closed_rise arcs f lifted w in
    let is : lower_sum arcs lifted ≡ sum_along lifted g = omega (arith, ints, all, parts, closed) in
    let fewer = sum_filtered period test g lifted none in
    let there : sum_along (filter test lifted) g ≡ lower_sum B walk = ap (λ xs. sum_along xs g) kept
    ∙ sum_of_originals left g own walk each ∙ sym (net_count_sum B walk own (rows_of_walk B walk v)) in
    same_trans period (lower_sum arcs lifted) (sum_along lifted g) (lower_sum B walk)
    (same_is period (lower_sum arcs lifted) (sum_along lifted g) is)
    (subst (λ z. IsSame period (sum_along lifted g) z) there fewer)
