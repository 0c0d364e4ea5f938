-- Cycle periodicity: over a closed walk the differences of times cancel, so the durations add up to a multiple of the period.
use Rattle.std.proofs.Common.{◌≡◌, ℕ, ◌+◌, ◌-◌, ◌<◌, ◌≢◌, Bool, true, false, cond, not, List, [], ◌∷◌, length, refl, ap, arith, ◌∙◌}
use Rattle.std.specs.Prelude.{ℤ, pos, negsuc, ◌+ℤ◌, ◌-ℤ◌, ◌*ℤ◌, neg_ℤ, slice_index, ◌&&◌, ◌==◌, if◌then◌else◌}
use Rattle.std.specs.Int.{int_div_euclid}
use Rattle.std.proofs.lemmas.Int.{ints}
use Rattle.std.proofs.lemmas.Bool.{eq-eqb, ne_eqb}
use Rattle.std.proofs.lemmas.List.Sums.{sum_by-cons}
use Rattle.std.proofs.lemmas.List.Elements.{All-head, All-tail}
use Rattle.pesp_problem.specs.declared.arc.Arc.{Arc}
use Rattle.pesp_problem.specs.declared.row.SignedRow.{SignedRow}
use Rattle.pesp_problem.specs.Sums.{sum_below}
use Rattle.pesp_problem.specs.Timetables.{difference}
use Rattle.pesp_problem.specs.Arcs.{Net, arc_at, over_arcs, slacks_at}
use Rattle.pesp_problem.specs.Walks.{RowExists, start, finish, Leads, AreRows, IsWalk, sign, net_count, HasWholeOffset}
use Rattle.pesp_problem.proofs.Integers.{mul-neg, mul-sub, add-mul, zero-mul, swap_left, sum_below-same, sum_below-add, sum_below-sub, sum_below-mul, sum_below-zero, sum_below-single, quotient-remainder}

-- ---- net counts

-- what a signed row adds to the net count of the row at place i
abbrev pub step : SignedRow → ℕ → ℤ
step s i = if s.row == i + 1 then sign s else pos 0

step_is : (plus here : Bool) → pos (cond (plus && here) 1 0) -ℤ pos (cond (not plus && here) 1 0)
    ≡ (if here then (if plus then pos 1 else negsuc 0) else pos 0)
step_is true true = refl
step_is true false = refl
step_is false true = refl
step_is false false = refl

pub net_count-cons : (s : SignedRow) (walk : List SignedRow) (i : ℕ) → net_count (s ∷ walk) i ≡ step s i +ℤ net_count walk i
net_count-cons s walk i =
    let plus = sum_by-cons (λ (x : SignedRow). cond (x.plus && (x.row == i + 1)) 1 0) s walk in
    let minus = sum_by-cons (λ (x : SignedRow). cond (not x.plus && (x.row == i + 1)) 1 0) s walk in
    let one = step_is s.plus (s.row == i + 1) in
    omega (arith, ints, plus, minus, one)

pub step_same : (s : SignedRow) (i : ℕ) → s.row ≡ i + 1 → step s i ≡ sign s
step_same s i e = ap (λ b. if b then sign s else pos 0) (eq-eqb s.row (i + 1) e)

pub step_other : (s : SignedRow) (i : ℕ) → s.row ≢ i + 1 → step s i ≡ pos 0
step_other s i ne = ap (λ b. if b then sign s else pos 0) (ne_eqb s.row (i + 1) ne)

-- ---- sums along a walk

-- the sum of a signed row's step times g over all arcs is the sign times g at that row
step_sum : (arcs : List Arc) (s : SignedRow) (g : ℕ → ℤ) → RowExists arcs s
    → over_arcs arcs (λ i. step s i *ℤ g i) ≡ sign s *ℤ g (s.row - 1)
step_sum arcs s g h =
    let zeros = λ (i : ℕ) (l : i < length arcs) (ne : i ≢ s.row - 1).
    ap (λ z. z *ℤ g i) (step_other s i (λ e. ne (omega arith))) ∙ zero-mul (g i) in
    sum_below-single (length arcs) (s.row - 1) (λ i. step s i *ℤ g i) (omega (arith, h)) zeros
    ∙ ap (λ z. z *ℤ g (s.row - 1)) (step_same s (s.row - 1) (omega (arith, h)))

-- the sum along a walk of the sign times g at the row's place
abbrev pub sum_along : List SignedRow → (ℕ → ℤ) → ℤ
sum_along [] g = pos 0
sum_along (s ∷ walk) g = sign s *ℤ g (s.row - 1) +ℤ sum_along walk g

pub net_count_sum : (arcs : List Arc) (walk : List SignedRow) (g : ℕ → ℤ) → AreRows arcs walk
    → over_arcs arcs (λ i. net_count walk i *ℤ g i) ≡ sum_along walk g
net_count_sum arcs [] g h = sum_below-zero (length arcs) (λ i. net_count [] i *ℤ g i) (λ i l. zero-mul (g i))
net_count_sum arcs (s ∷ walk) g h =
    let split = sum_below-same (length arcs) (λ i. net_count (s ∷ walk) i *ℤ g i)
    (λ i. step s i *ℤ g i +ℤ net_count walk i *ℤ g i)
    (λ i l. ap (λ z. z *ℤ g i) (net_count-cons s walk i) ∙ add-mul (step s i) (net_count walk i) (g i)) in
    let apart = sum_below-add (length arcs) (λ i. step s i *ℤ g i) (λ i. net_count walk i *ℤ g i) in
    let first = step_sum arcs s g (All-head (RowExists arcs) s walk h) in
    let rest = net_count_sum arcs walk g (All-tail (RowExists arcs) s walk h) in
    omega (arith, ints, split, apart, first, rest)

-- ---- differences of a number at each event

-- the number at an arc's head less the number at its tail
abbrev pub rise : List Arc → (ℕ → ℤ) → ℕ → ℤ
rise arcs f i = f (arc_at arcs i).head -ℤ f (arc_at arcs i).tail

at_if : (b : Bool) (f : ℕ → ℤ) (d e : ℕ) → f (if b then d else e) ≡ (if b then f d else f e)
at_if true f d e = refl
at_if false f d e = refl

signed_rise : (b : Bool) (tail head : ℤ) → (if b then pos 1 else negsuc 0) *ℤ (head -ℤ tail)
    ≡ (if b then head else tail) -ℤ (if b then tail else head)
signed_rise true tail head = omega (arith, ints)
signed_rise false tail head = omega (arith, ints)

-- along signed rows that lead from a to b the differences add up to the number at b less the number at a
pub telescope : (arcs : List Arc) (f : ℕ → ℤ) (way : List SignedRow) (a b : ℕ) → Leads arcs a way b
    → sum_along way (rise arcs f) ≡ f b -ℤ f a
telescope arcs f [] a b h = omega (arith, ints, ap f h)
telescope arcs f (s ∷ way) a b h =
    let arc = arc_at arcs (s.row - 1) in
    let rest = telescope arcs f way (finish arcs s) b h.1 in
    let first = signed_rise s.plus (f arc.tail) (f arc.head) in
    let begins = ap f h.0 in
    let start_is = at_if s.plus f arc.tail arc.head in
    let finish_is = at_if s.plus f arc.head arc.tail in
    omega (arith, ints, rest, first, begins, start_is, finish_is)

-- over a closed walk they cancel
pub rises_cancel : (arcs : List Arc) (f : ℕ → ℤ) (walk : List SignedRow) → IsWalk arcs walk
    → over_arcs arcs (λ i. net_count walk i *ℤ rise arcs f i) ≡ pos 0
rises_cancel arcs f [] h = absurd h
rises_cancel arcs f (s ∷ walk) h =
    let all = net_count_sum arcs (s ∷ walk) (rise arcs f) h.0 in
    let closed = telescope arcs f (s ∷ walk) (start arcs s) (start arcs s) h.1 in
    omega (arith, ints, all, closed)

-- ---- offsets

-- how often the period goes into the difference of times less the lower bound
abbrev pub turns : Net → List ℕ → ℕ → ℤ
turns n times i = int_div_euclid (difference times (arc_at n.arcs i).tail (arc_at n.arcs i).head -ℤ (arc_at n.arcs i).lower) (pos n.period)

pub duration_is : (n : Net) (times : List ℕ) (i : ℕ) → 0 < n.period
    → (arc_at n.arcs i).lower +ℤ pos (slacks_at n times i)
    ≡ rise n.arcs (λ e. pos (slice_index times e)) i -ℤ pos n.period *ℤ turns n times i
duration_is n times i h = omega (
  arith,
  ints,
  quotient-remainder
      (difference times (arc_at n.arcs i).tail (arc_at n.arcs i).head -ℤ (arc_at n.arcs i).lower) n.period h,
)

term_is : (n d t q : ℤ) → n *ℤ (d -ℤ t *ℤ q) ≡ n *ℤ d -ℤ t *ℤ (n *ℤ q)
term_is n d t q = mul-sub n d (t *ℤ q) ∙ ap (λ z. n *ℤ d -ℤ z) (swap_left n t q)

-- slacks whose durations differ from a rise by whole periods give each closed walk an offset
pub has_offset_of : (n : Net) (slacks : ℕ → ℕ) (f : ℕ → ℤ) (turn : ℕ → ℤ) (walk : List SignedRow)
    → IsWalk n.arcs walk → ((i : ℕ) → i < length n.arcs
    → (arc_at n.arcs i).lower +ℤ pos (slacks i) ≡ rise n.arcs f i -ℤ pos n.period *ℤ turn i)
    → HasWholeOffset n slacks walk
has_offset_of n slacks f turn walk w durations =
    let whole = λ (i : ℕ). net_count walk i *ℤ rise n.arcs f i in
    let part = λ (i : ℕ). net_count walk i *ℤ turn i in
    let terms = sum_below-same (length n.arcs)
    (λ i. net_count walk i *ℤ ((arc_at n.arcs i).lower +ℤ pos (slacks i)))
    (λ i. whole i -ℤ pos n.period *ℤ part i)
    (λ i l. ap (λ z. net_count walk i *ℤ z) (durations i l) ∙ term_is (net_count walk i) (rise n.arcs f i) (pos n.period) (turn i)) in
    let apart = sum_below-sub (length n.arcs) whole (λ i. pos n.period *ℤ part i) in
    let factor = sum_below-mul (pos n.period) (length n.arcs) part in
    let none = rises_cancel n.arcs f walk w in (
      neg_ℤ (sum_below (length n.arcs) part),
      omega
          (arith, ints, terms, apart, factor, none, mul-neg (pos n.period) (sum_below (length n.arcs) part)),
    )

-- the slacks at any times give each closed walk an offset
pub has_offset : (n : Net) (times : List ℕ) (walk : List SignedRow) → 0 < n.period → IsWalk n.arcs walk
    → HasWholeOffset n (slacks_at n times) walk
has_offset n times walk h w = has_offset_of n (slacks_at n times) (λ e. pos (slice_index times e))
    (turns n times) walk w (λ i l. duration_is n times i h)
