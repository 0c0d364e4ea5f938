-- Times with one side shifted: their slacks and their cost.
use Rattle.std.proofs.Common.{◌≡◌, ℕ, ℤ, pos, negsuc, ◌+◌, ◌*◌, ◌/◌, ◌<◌, ◌≤◌, ◌+ℤ◌, ◌*ℤ◌, ◌-ℤ◌, zero, suc, refl, ap, sym, ◌∙◌, arith, List, length, true, false, take, sum_by, add-one}
use Rattle.std.specs.Prelude.{unsigned_abs, Bool, ◌%◌, slice_index, if◌then◌else◌}
use Rattle.std.specs.Int.{int_rem_euclid, int_div_euclid}
use Rattle.std.proofs.lemmas.Int.{ints}
use Rattle.std.proofs.lemmas.List.{take_all}
use Rattle.std.proofs.lemmas.List.Sums.{sum_by_more}
use Rattle.std.proofs.Math.Nat.{mod-eq_of_lt, add-mul-mod_self_right}
use Rattle.pesp_problem.specs.Sums.{sum_below}
use Rattle.pesp_problem.specs.declared.arc.Arc.{Arc}
use Rattle.pesp_problem.specs.Arcs.{Net, no_arc, arc_at, arc_slack, over_arcs}
use Rattle.pesp_problem.specs.NetTimetables.{net_cost}
use Rattle.pesp_propagate.specs.Cuts.{arc_growth, arc_moved, cut_change}
use Rattle.pesp_propagate.specs.Local.{IsShifted}
use Rattle.pesp_problem.proofs.Integers.{mul-add, mul-sub, sum_below-same, sum_below-sub, quotient-remainder, remainder-lt}
use Rattle.pesp_propagate.proofs.Moving.{remainder_is}

-- the remainder, from any multiple of the period
pub remainder_of : (z w : ℤ) (n r : ℕ) → r < n → z ≡ pos n *ℤ w +ℤ pos r → unsigned_abs (int_rem_euclid z (pos n)) ≡ r
remainder_of z (pos c) n r small e =
    let natural : z ≡ pos (r + c * n) = omega (arith, ints) in
    rw natural (add-mul-mod_self_right r c n ∙ mod-eq_of_lt small)
remainder_of z (negsuc c) n r small e = remainder_is z n (suc c) r small (omega (arith, ints))

-- a time on the side is later by d, less a multiple of the period
later : (period t d : ℕ) → 0 < period → (t + d) % period + period * ((t + d) / period) ≡ t + d
later period t d some = omega arith

shift_of : (period : ℕ) (s : Bool) (t d u : ℕ) → 0 < period → u ≡ (if s then (t + d) % period else t)
    → (q : ℕ) × (pos u +ℤ pos period *ℤ pos q ≡ pos t +ℤ (if s then pos d else pos 0))
shift_of period true t d u some e = ((t + d) / period, let l = later period t d some in omega (arith, ints))
shift_of period false t d u some e = (0, omega (arith, ints))

-- the sum of the parts
collects : (period : ℕ) (old new g lower q1 q2 a b r : ℤ) → new +ℤ pos period *ℤ a ≡ old +ℤ g +ℤ pos period *ℤ b
    → old -ℤ lower ≡ pos period *ℤ q1 +ℤ r → new -ℤ lower ≡ pos period *ℤ (q1 +ℤ b -ℤ a) +ℤ (r +ℤ g)
collects period old new g lower q1 q2 a b r e f =
    let m = mul-sub (pos period) (q1 +ℤ b) a in let n = mul-add (pos period) q1 b in omega (arith, ints)

-- the slack after the shift is the slack that the growth leaves
pub slack_shifts : (period : ℕ) (times others : List ℕ) (side : ℕ → Bool) (d : ℕ) (arc : Arc) → 0 < period
    → arc.tail < length times → arc.head < length times → IsShifted period side d times others
    → arc_slack period others arc ≡ arc_moved period times side arc d
slack_shifts period times others side d arc some lt lh h =
    let t = shift_of period (side arc.tail) (slice_index times arc.tail) d (slice_index others arc.tail) some (h.places arc.tail lt) in
    let u = shift_of period (side arc.head) (slice_index times arc.head) d (slice_index others arc.head) some (h.places arc.head lh) in
    let old = pos (slice_index times arc.head) -ℤ pos (slice_index times arc.tail) in
    let new = pos (slice_index others arc.head) -ℤ pos (slice_index others arc.tail) in
    let g = arc_growth side arc d in
    let y = arc_slack period times arc in
    let q = int_div_euclid (old -ℤ arc.lower) (pos period) in
    let a : old -ℤ arc.lower ≡ pos period *ℤ q +ℤ pos y = quotient-remainder (old -ℤ arc.lower) period some in
    let w = pos y +ℤ g in
    let q2 = int_div_euclid w (pos period) in
    let b : w ≡ pos period *ℤ q2 +ℤ pos (arc_moved period times side arc d) = quotient-remainder w period some in
    remainder_of (new -ℤ arc.lower) (q +ℤ pos (t.0) -ℤ pos (u.0) +ℤ q2) period (arc_moved period times side arc d)
    (remainder-lt w period some)
    (gathers period old new g arc.lower q q2 (pos (u.0)) (pos (t.0)) (pos y)
    (pos (arc_moved period times side arc d)) (differ (slice_index times arc.head) (slice_index times arc.tail)
    (slice_index others arc.head) (slice_index others arc.tail) _ _ (if side arc.head then pos d else pos 0)
    (if side arc.tail then pos d else pos 0) (u.1) (t.1)) a b)
  where
    differ : (th tt oh ot : ℕ) (a b gh gt : ℤ) → pos oh +ℤ a ≡ pos th +ℤ gh → pos ot +ℤ b ≡ pos tt +ℤ gt
        → (pos oh -ℤ pos ot) +ℤ a ≡ ((pos th -ℤ pos tt) +ℤ (gh -ℤ gt)) +ℤ b
    differ th tt oh ot a b gh gt e f = omega (arith, ints)

    gathers : (period : ℕ) (old new g lower q q2 a b y m : ℤ)
        → new +ℤ pos period *ℤ a ≡ old +ℤ g +ℤ pos period *ℤ b → old -ℤ lower ≡ pos period *ℤ q +ℤ y
        → y +ℤ g ≡ pos period *ℤ q2 +ℤ m → new -ℤ lower ≡ pos period *ℤ (q +ℤ b -ℤ a +ℤ q2) +ℤ m
    gathers period old new g lower q q2 a b y m e f k =
        let r = mul-add (pos period) (q +ℤ b -ℤ a) q2 in let s = mul-sub (pos period) (q +ℤ b) a in
        let t = mul-add (pos period) q b in omega (arith, ints)

-- the cost as a sum over the places
abbrev cost_at : Net → List ℕ → ℕ → ℤ
cost_at n times i = pos (arc_at n.arcs i).weight *ℤ pos (arc_slack n.period times (arc_at n.arcs i))

sum_by-places : (f : Arc → ℕ) (arcs : List Arc) (k : ℕ) → k ≤ length arcs
    → pos (sum_by f (take k arcs)) ≡ sum_below k (λ i. pos (f (arc_at arcs i)))
sum_by-places f arcs zero h = refl
sum_by-places f arcs (suc k) h =
    let ih = sum_by-places f arcs k (omega arith) in
    let more : sum_by f (take (k + 1) arcs) ≡ sum_by f (take k arcs) + f (arc_at arcs k) = sum_by_more f arcs k no_arc (omega arith) in
    let e : sum_by f (take (suc k) arcs) ≡ sum_by f (take (k + 1) arcs) = ap (λ (j : ℕ). sum_by f (take j arcs)) (sym (add-one k)) in
    omega (arith, ints)

pub net_cost-places : (n : Net) (times : List ℕ) → pos (net_cost n times) ≡ over_arcs n.arcs (cost_at n times)
net_cost-places n times =
    let f : Arc → ℕ = λ arc. arc.weight * arc_slack n.period times arc in
    let whole : sum_by f (take (length n.arcs) n.arcs) ≡ sum_by f n.arcs = ap (sum_by f) (take_all (length n.arcs) n.arcs (omega arith)) in
    let e = sum_by-places f n.arcs (length n.arcs) (omega arith) in
    ap pos (sym whole) ∙ e ∙ sum_below-same (length n.arcs) (λ i. pos (f (arc_at n.arcs i))) (cost_at n times)
    (λ i l. product (arc_at n.arcs i).weight (arc_slack n.period times (arc_at n.arcs i)))
  where
    product : (w y : ℕ) → pos (w * y) ≡ pos w *ℤ pos y
    product w y = omega (arith, ints)

-- and the cost grows by what the rows that cross become dearer
pub cost_shifts : (n : Net) (times others : List ℕ) (side : ℕ → Bool) (d : ℕ) → 0 < n.period
    → ((i : ℕ) → i < length n.arcs → ((arc_at n.arcs i).tail < length times)
    × ((arc_at n.arcs i).head < length times)) → IsShifted n.period side d times others
    → pos (net_cost n others) -ℤ pos (net_cost n times) ≡ cut_change n times side d
cost_shifts n times others side d some ends h =
    let period = n.period in
    let arcs = n.arcs in
    let new : ℕ → ℤ = cost_at n others in
    let old : ℕ → ℤ = cost_at n times in
    let change : ℕ → ℤ = λ i. pos (arc_at arcs i).weight
    *ℤ (pos (arc_moved period times side (arc_at arcs i) d) -ℤ pos (arc_slack period times (arc_at arcs i))) in
    less _ _ _ _ (net_cost-places n others) (net_cost-places n times) ∙ sym (sum_below-sub (length arcs) new old)
    ∙ sum_below-same (length arcs) (λ i. new i -ℤ old i) change (λ i l.
    weighs (arc_at arcs i).weight (arc_slack period others (arc_at arcs i))
    (arc_slack period times (arc_at arcs i)) (arc_moved period times side (arc_at arcs i) d)
    (slack_shifts period times others side d (arc_at arcs i) some (ends i l).0 (ends i l).1 h))
  where
    less : (a b c d : ℤ) → a ≡ b → c ≡ d → a -ℤ c ≡ b -ℤ d
    less a b c d e f = cc

    weighs : (w n o m : ℕ) → n ≡ m → pos w *ℤ pos n -ℤ pos w *ℤ pos o ≡ pos w *ℤ (pos m -ℤ pos o)
    weighs w n o m e = let s = mul-sub (pos w) (pos m) (pos o) in rw e (sym s)
