-- The lines, their order and their records.
use Rattle.std.proofs.Common.{Option, Some, None, ◌≡◌, ◌∙◌, refl, sym, ap, rules, ℕ, zero, suc, ◌+◌, ◌*◌, ◌<◌, ◌≤◌, arith, ℤ, pos, List, [], ◌∷◌, ◌++◌, length, map, take, get_or, append-nil, append_assoc}
use Rattle.std.specs.Prelude.{◌+ℤ◌, unsigned_abs}
use Rattle.std.specs.List.{enumerate_from, flat_map}
use Rattle.std.specs.Ordering.{is_lt, nat_cmp, ordering_then}
use Rattle.std.proofs.lemmas.Bool.Decides.{nat_tests}
use Rattle.std.proofs.lemmas.Int.{ints, to_z-of_z}
use Rattle.std.proofs.lemmas.List.{take_more, map-append}
use Rattle.std.proofs.lemmas.List.FromFn.{get_or-enumerate_from, length-enumerate_from}
use Rattle.std.proofs.lemmas.List.Elements.{All-get_or}
use mir.Syntax.{w64}
use mir.Val.{SFits, to_z, of_z}
use Rattle.std.specs.Io.KnownBytes.{Keeps}
use Rattle.csv.specs.Writing.{default_writer, row_text}
use Rattle.pesp_problem.specs.Limits.{IsLabel, KeepsLimits, RowKeepsLimits}
use Rattle.pesp_problem.specs.Timetables.{Pesp, no_row, row_at, slack}
use Rattle.pesp_problem.specs.declared.row.Row.{Row}
use Rattle.pesp_report.specs.Report.{goes_before, label_at, line_of_row, report_lines, records_text}
use Rattle.pesp_report.specs.declared.line.Line.{Line}

-- the order of the keys by which the lines are sorted
pub before-is : (x y : Line) → is_lt (ordering_then (nat_cmp y.weighted x.weighted) (nat_cmp x.row y.row)) ≡ goes_before x y
before-is x y = grind (arith, nat_tests)

-- a number that 64 bits hold
pub kept : (z : ℤ) → unsigned_abs z ≤ 4611686018427387904 → to_z w64 (of_z w64 z) ≡ z
kept z h = let fits : SFits w64 z = search (rules, ints) in to_z-of_z w64 z fits

-- the line of a row within its limits
pub line-is : (p : Pesp) (times : List ℕ) (place : ℕ) → KeepsLimits p → place < length p.rows
    → slack p.period times (row_at p.rows place) < 4294967296
    → ◌≡◌ {A = Line}
    (record {
      row = place + 1;
      label = to_z w64 (of_z w64 (row_at p.rows place).label);
      tail = to_z w64 (of_z w64 (label_at p.events (row_at p.rows place).tail));
      head = to_z w64 (of_z w64 (label_at p.events (row_at p.rows place).head));
      duration = to_z w64 (of_z w64 (to_z w64 (of_z w64 (row_at p.rows place).lower)
          +ℤ to_z w64 (of_z w64 (pos (slack p.period times (row_at p.rows place))))));
      slack = slack p.period times (row_at p.rows place);
      weight = (row_at p.rows place).weight;
      weighted = (row_at p.rows place).weight * slack p.period times (row_at p.rows place);
    })
    (line_of_row p times (place + 1, row_at p.rows place))
line-is p times place limits there small =
    let r : Row = row_at p.rows place in
    let k = All-get_or (RowKeepsLimits (length p.events)) p.rows place no_row there limits.each in
    let t = All-get_or IsLabel p.events r.tail (pos 0) k.tail limits.labels in
    let h = All-get_or IsLabel p.events r.head (pos 0) k.head limits.labels in
    let y : ℤ = pos (slack p.period times r) in
    let el = kept r.label (omega (arith, k.label)) in
    let et = kept (label_at p.events r.tail) (omega (arith, t)) in
    let eh = kept (label_at p.events r.head) (omega (arith, h)) in
    let ew = kept r.lower (omega (arith, ints, k.lower, k.bounds, k.upper)) in
    let ey = kept y (omega (arith, ints, small)) in
    let ed = kept (r.lower +ℤ y) (omega (arith, ints, small, k.lower, k.bounds, k.upper)) in
    rw (el, et, eh, ew, ey, ed) refl

get_or-map : {A B : Type 0} (f : A → B) (xs : List A) (i : ℕ) (d : A) → get_or (map f xs) i (f d) ≡ f (get_or xs i d)
get_or-map f [] i d = refl
get_or-map f (x ∷ xs) zero d = refl
get_or-map f (x ∷ xs) (suc i) d = get_or-map f xs i d

length-mapped : {A B : Type 0} (f : A → B) (xs : List A) → length (map f xs) ≡ length xs
length-mapped f [] = refl
length-mapped f (x ∷ xs) = ap suc (length-mapped f xs)

-- so many lines as rows
pub length-lines : (p : Pesp) (times : List ℕ) → length (report_lines p times) ≡ length p.rows
length-lines p times = length-mapped (line_of_row p times) (enumerate_from 1 p.rows) ∙ length-enumerate_from 1 p.rows

-- one more line
pub lines-more : (p : Pesp) (times : List ℕ) (i : ℕ) → i < length p.rows
    → take (i + 1) (report_lines p times) ≡ take i (report_lines p times) ++ line_of_row p times (i + 1, row_at p.rows i) ∷ []
lines-more p times i there =
    let d : ℕ × Row = (0, no_row) in
    let here : i < length (report_lines p times) = omega (arith, length-lines p times, there) in
    let number : (1 + i) ≡ i + 1 = omega arith in
    let at = get_or-map (line_of_row p times) (enumerate_from 1 p.rows) i d
    ∙ ap (line_of_row p times) (get_or-enumerate_from 1 p.rows i d there
    ∙ ap (λ (n : ℕ). (n, row_at p.rows i)) number) in
    take_more (report_lines p times) i (line_of_row p times d) here ∙ ap (λ (l : Line). take i (report_lines p times) ++ l ∷ []) at

flat_map-last : {A : Type 0} (f : A → List ℕ) (xs : List A) (x : A) → flat_map f (xs ++ x ∷ []) ≡ flat_map f xs ++ f x
flat_map-last f [] x = append-nil (f x)
flat_map-last f (y ∷ ys) x = ap (λ (l : List ℕ). f y ++ l) (flat_map-last f ys x) ∙ sym (append_assoc (f y) (flat_map f ys) (f x))

-- the records of one more item
pub records-more : {A : Type 0} (fields : A → List (List ℕ)) (items : List A) (i : ℕ) (d : A) → i < length items
    → records_text (map fields (take (i + 1) items))
    ≡ records_text (map fields (take i items)) ++ row_text default_writer (fields (get_or items i d))
records-more {A} fields items i d there =
    ap (λ (l : List A). records_text (map fields l)) (take_more items i d there)
    ∙ ap records_text (map-append fields (take i items) (get_or items i d ∷ []))
    ∙ flat_map-last (row_text default_writer) (map fields (take i items)) (fields (get_or items i d))

-- the records of the header, the lines and the total
pub records-whole : (head total : List (List ℕ)) (lines : List (List (List ℕ)))
    → records_text (head ∷ (lines ++ total ∷ [])) ≡ (row_text default_writer head ++ records_text lines) ++ row_text default_writer total
records-whole head total lines =
    ap (λ (l : List ℕ). row_text default_writer head ++ l) (flat_map-last (row_text default_writer) lines total)
    ∙ sym (append_assoc (row_text default_writer head) (records_text lines) (row_text default_writer total))

-- bytes that stay as they were
pub keeps-known : (old new : Option (List ℕ)) (xs ys : List ℕ) → old ≡ Some xs → new ≡ Some ys → Keeps old new → ys ≡ xs
keeps-known None new xs ys e f k = cc
keeps-known (Some a) None xs ys e f k = absurd k
keeps-known (Some a) (Some b) xs ys e f k = cc
