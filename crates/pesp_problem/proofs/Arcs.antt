-- The arcs of an instance's rows, and what they say of its times.
use Rattle.std.proofs.Common.{◌≡◌, ℕ, suc, zero, ◌*◌, ◌<◌, ◌≤◌, List, length, get_or, refl, ap, arith, ◌∙◌, add-one, take}
use Rattle.std.specs.Prelude.{pos, ◌-ℤ◌, ◌*ℤ◌, ◌≤ℤ◌, ◌↔◌, sum_by}
use Rattle.std.proofs.lemmas.Int.{ints}
use Rattle.std.proofs.lemmas.List.Sums.{sum_by_more}
use Rattle.std.proofs.lemmas.List.{take_all, get_or-map, length-map}
use Rattle.pesp_problem.specs.declared.row.Row.{Row}
use Rattle.pesp_problem.specs.Sums.{sum_below}
use Rattle.pesp_problem.specs.Timetables.{Pesp, row_at, no_row, difference, slack, cost, IsSatisfied}
use Rattle.pesp_problem.specs.Arcs.{no_arc, arc_at, span, arc_of, arcs_of, net_of, over_arcs, arc_slack, slacks_at}
use Rattle.pesp_problem.proofs.Integers.{remainder-lt, sum_below-same}

pub length-arcs_of : (p : Pesp) → length (arcs_of p) ≡ length p.rows
length-arcs_of p = length-map p.rows (arc_of p.period)

-- the arc at a place is that of the row there
pub arc_at-arcs_of : (p : Pesp) (i : ℕ) → i < length p.rows → arc_at (arcs_of p) i ≡ arc_of p.period (row_at p.rows i)
arc_at-arcs_of p i l = get_or-map (arc_of p.period) p.rows i no_row no_arc l

-- an arc's slack is that of its row
pub arc_slack_of : (period : ℕ) (times : List ℕ) (row : Row) → arc_slack period times (arc_of period row) ≡ slack period times row
arc_slack_of period times row = refl

pub slacks_at-net_of : (p : Pesp) (times : List ℕ) (i : ℕ) → i < length p.rows
    → slacks_at (net_of p) times i ≡ slack p.period times (row_at p.rows i)
slacks_at-net_of p times i l = ap (arc_slack p.period times) (arc_at-arcs_of p i l)

pub slack-lt-period : (period : ℕ) (times : List ℕ) (row : Row) → 0 < period → slack period times row < period
slack-lt-period period times row h = remainder-lt (difference times row.tail row.head -ℤ row.lower) period h

pub slack-le-span : (p : Pesp) (times : List ℕ) (row : Row) → 0 < p.period → IsSatisfied p times row
    → slack p.period times row ≤ span p.period row
slack-le-span p times row h s = omega (arith, ints, s, slack-lt-period p.period times row h)

satisfied_within : (p : Pesp) (times : List ℕ) (row : Row) → row.lower ≤ℤ row.upper
    → slack p.period times row ≤ span p.period row → IsSatisfied p times row
satisfied_within p times row b s = omega (arith, ints, s, b)

-- a row is satisfied exactly where its slack is at most its span
pub within_span : (p : Pesp) (times : List ℕ) (row : Row) → 0 < p.period → row.lower ≤ℤ row.upper
    → IsSatisfied p times row ↔ (slack p.period times row ≤ span p.period row)
within_span p times row h b = (slack-le-span p times row h, satisfied_within p times row b)

-- ---- the cost

sum_by-is : {X : Type 0} (f : X → ℕ) (xs : List X) (d : X) (n : ℕ) → n ≤ length xs
    → sum_below n (λ i. pos (f (get_or xs i d))) ≡ pos (sum_by f (take n xs))
sum_by-is f xs d zero h = refl
sum_by-is f xs d (suc n) h = omega (
  arith,
  ints,
  sum_by-is f xs d n (omega arith),
  sum_by_more f xs n d (omega arith),
  ap (λ k. sum_by f (take k xs)) (add-one n),
)

cost_by_rows : (period : ℕ) (rows : List Row) (times : List ℕ)
    → sum_below (length rows) (λ i. pos ((row_at rows i).weight * slack period times (row_at rows i)))
    ≡ pos (cost period rows times)
cost_by_rows period rows times =
    sum_by-is (λ row. row.weight * slack period times row) rows no_row (length rows) (omega arith)
    ∙ ap (λ taken. pos (sum_by (λ row. row.weight * slack period times row) taken)) (take_all (length rows) rows (omega arith))

-- the cost is the sum of weight times slack over the arcs
pub cost_is : (p : Pesp) (times : List ℕ) → over_arcs (arcs_of p)
    (λ i. pos (arc_at (arcs_of p) i).weight *ℤ pos (slacks_at (net_of p) times i))
    ≡ pos (cost p.period p.rows times)
cost_is p times =
    let term = λ (row : Row). pos row.weight *ℤ pos (slack p.period times row) in
    let terms = sum_below-same (length p.rows)
    (λ i. pos (arc_at (arcs_of p) i).weight *ℤ pos (slacks_at (net_of p) times i)) (λ i. term (row_at p.rows i))
    (λ i l. ap (λ arc. pos arc.weight *ℤ pos (arc_slack p.period times arc)) (arc_at-arcs_of p i l)) in
    ap (λ k. sum_below k (λ i. pos (arc_at (arcs_of p) i).weight *ℤ pos (slacks_at (net_of p) times i)))
    (length-arcs_of p) ∙ terms ∙ cost_by_rows p.period p.rows times
