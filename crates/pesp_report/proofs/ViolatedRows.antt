-- The violated rows, one after the other.
use Rattle.std.proofs.Common.{Some, None, ◌≡◌, ◌∙◌, refl, ap, Bool, true, false, ℕ, ◌+◌, ◌-◌, ◌<◌, arith, ℤ, pos, List, [], ◌∷◌, ◌++◌, length, take}
use Rattle.std.specs.Prelude.{All, ◌↔◌, ◌+ℤ◌, ◌-ℤ◌}
use Rattle.std.specs.List.{cons_option, enumerate_from, filter_map}
use Rattle.std.proofs.lemmas.Int.{ints}
use Rattle.std.proofs.lemmas.List.{take_more}
use Rattle.std.proofs.lemmas.List.Elements.{All-cons, All-get_or, All-head, All-nil, All-tail, filter_map-append}
use Rattle.std.proofs.lemmas.List.FromFn.{get_or-enumerate_from, length-enumerate_from}
use mir.Syntax.{w64}
use mir.Val.{to_z, of_z}
use Rattle.pesp_problem.specs.Limits.{IsLabel, KeepsLimits, RowKeepsLimits}
use Rattle.pesp_problem.specs.Timetables.{Pesp, IsSatisfied, no_row, row_at, slack}
use Rattle.pesp_problem.specs.declared.row.Row.{Row}
use Rattle.pesp_problem.proofs.Arcs.{slack-lt-period}
use Rattle.pesp_report.specs.Report.{label_at}
use Rattle.pesp_report.proofs.Order.{kept}
use Rattle.pesp_report.specs.Violations.{is_violated, violation_at, violation_of, violations_of}
use Rattle.pesp_report.specs.declared.violation.Violation.{Violation}

-- the violated ones of the first rows
abbrev pub violations_to : Pesp → List ℕ → ℕ → List Violation
violations_to p times i = filter_map (violation_at p times) (take i (enumerate_from 1 p.rows))

module _ (p : Pesp) (times : List ℕ) (i : ℕ) (there : i < length p.rows) where
  -- one more row
  pub violations-more : violations_to p times (i + 1)
      ≡ violations_to p times i ++ cons_option (violation_at p times (i + 1, row_at p.rows i)) []
  violations-more =
      let d : ℕ × Row = (0, no_row) in
      let all : List (ℕ × Row) = enumerate_from 1 p.rows in
      let here : i < length all = omega (arith, length-enumerate_from 1 p.rows, there) in
      let number : (1 + i) ≡ i + 1 = omega arith in
      let at = get_or-enumerate_from 1 p.rows i d there ∙ ap (λ (n : ℕ). (n, row_at p.rows i)) number in
      ap (filter_map (violation_at p times)) (take_more all i d here ∙ ap (λ (x : ℕ × Row). take i all ++ x ∷ []) at)
      ∙ filter_map-append (violation_at p times) (take i all) ((i + 1, row_at p.rows i) ∷ [])

-- what is told of a row within its limits
pub violation-is : (p : Pesp) (times : List ℕ) (place : ℕ) → KeepsLimits p → place < length p.rows
    → ◌≡◌ {A = Violation}
    (record {
      row = place + 1;
      label = to_z w64 (of_z w64 (row_at p.rows place).label);
      tail = to_z w64 (of_z w64 (label_at p.events (row_at p.rows place).tail));
      head = to_z w64 (of_z w64 (label_at p.events (row_at p.rows place).head));
      duration = to_z w64 (of_z w64 ((row_at p.rows place).lower +ℤ pos (slack p.period times (row_at p.rows place))));
      lower = to_z w64 (of_z w64 (row_at p.rows place).lower);
      upper = to_z w64 (of_z w64 (row_at p.rows place).upper);
      excess = to_z w64 (of_z w64 (pos (slack p.period times (row_at p.rows place)) -ℤ
          ((row_at p.rows place).upper -ℤ (row_at p.rows place).lower)));
      short = p.period - slack p.period times (row_at p.rows place);
    })
    (violation_of p times (place + 1, row_at p.rows place))
violation-is p times place limits there =
    let r : Row = row_at p.rows place in
    let small = slack-lt-period p.period times r limits.some_period in
    let period = limits.period in
    let k = All-get_or (RowKeepsLimits (length p.events)) p.rows place no_row there limits.each in
    let t = All-get_or IsLabel p.events r.tail (pos 0) k.tail limits.labels in
    let h = All-get_or IsLabel p.events r.head (pos 0) k.head limits.labels in
    let y : ℤ = pos (slack p.period times r) in
    let e : ℤ = r.upper -ℤ r.lower in
    let el = kept r.label (omega (arith, k.label)) in
    let et = kept (label_at p.events r.tail) (omega (arith, t)) in
    let eh = kept (label_at p.events r.head) (omega (arith, h)) in
    let ew = kept r.lower (omega (arith, ints, k.lower, k.bounds, k.upper)) in
    let eu = kept r.upper (omega (arith, ints, k.lower, k.bounds, k.upper)) in
    let ed = kept (r.lower +ℤ y) (omega (arith, ints, small, period, k.lower, k.bounds, k.upper)) in
    let ex = kept (y -ℤ e) (omega (arith, ints, small, period, k.lower, k.bounds, k.upper)) in
    rw (el, et, eh, ew, eu, ed, ex) refl

-- a row that isn't violated is satisfied
satisfied : (p : Pesp) (times : List ℕ) (row : Row) → is_violated p times row ≡ false → IsSatisfied p times row
satisfied p times row e = grind (arith, ints, e)

violated : (p : Pesp) (times : List ℕ) (row : Row) → is_violated p times row ≡ true → IsSatisfied p times row → ⊥
violated p times row e h = grind (arith, ints, e, h)

-- what is told of a row that is violated, and of one that isn't
pub violation-some : (p : Pesp) (times : List ℕ) (n : ℕ) (row : Row) → is_violated p times row ≡ true
    → violation_at p times (n, row) ≡ Some (violation_of p times (n, row))
violation-some p times n row e = rw e refl

pub violation-none : (p : Pesp) (times : List ℕ) (n : ℕ) (row : Row) → is_violated p times row ≡ false
    → violation_at p times (n, row) ≡ None
violation-none p times n row e = rw e refl

-- where none of these rows is violated all are satisfied
none-all : (p : Pesp) (times : List ℕ) (n : ℕ) (rows : List Row)
    → length (filter_map (violation_at p times) (enumerate_from n rows)) ≡ 0
    → All (λ row. IsSatisfied p times row) rows
none-all p times n [] e = All-nil (λ row. IsSatisfied p times row)
none-all p times n (row ∷ rows) e = by (is_violated p times row) refl (none-all p times (n + 1) rows)
  where
    by : (b : Bool) → is_violated p times row ≡ b
        → (length (filter_map (violation_at p times) (enumerate_from (n + 1) rows)) ≡ 0
        → All (λ row. IsSatisfied p times row) rows) → All (λ row. IsSatisfied p times row) (row ∷ rows)
    by true v more = let none = rw v at e in absurd (omega (arith, none))
    by false v more =
        let less = rw v at e in
        All-cons (λ row. IsSatisfied p times row) row rows (satisfied p times row v) (more less)

-- where all rows are satisfied none is violated
all-none : (p : Pesp) (times : List ℕ) (n : ℕ) (rows : List Row) → All (λ row. IsSatisfied p times row) rows
    → length (filter_map (violation_at p times) (enumerate_from n rows)) ≡ 0
all-none p times n [] a = refl
all-none p times n (row ∷ rows) a = by (is_violated p times row) refl
    (all-none p times (n + 1) rows (All-tail (λ row. IsSatisfied p times row) row rows a))
  where
    by : (b : Bool) → is_violated p times row ≡ b
        → length (filter_map (violation_at p times) (enumerate_from (n + 1) rows)) ≡ 0
        → length (filter_map (violation_at p times) (enumerate_from n (row ∷ rows))) ≡ 0
    by true v more = absurd (violated p times row v (All-head (λ row. IsSatisfied p times row) row rows a))
    by false v more = rw v more

-- no row is violated exactly where all are satisfied
pub none-iff : (p : Pesp) (times : List ℕ) → (length (violations_of p times) ≡ 0) ↔ All (λ row. IsSatisfied p times row) p.rows
none-iff p times = (none-all p times 1 p.rows, all-none p times 1 p.rows)
