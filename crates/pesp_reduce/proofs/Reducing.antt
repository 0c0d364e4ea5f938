-- A reduction: limits of the rows that are made, fates, and what is left.
use Rattle.std.proofs.Common.{◌≡◌, ◌≢◌, ℕ, ◌+◌, ◌-◌, ◌<◌, ◌≤◌, ◌⊎◌, inl, inr, refl, sym, ◌∙◌, ap, arith, subst, List, [], ◌∷◌, length, map, true, false, Bool, All, ℤ, pos, negsuc, ◌+ℤ◌, ◌-ℤ◌}
use Rattle.std.specs.Prelude.{if◌then◌else◌, slice_index, unsigned_abs, ◌==◌, ◌≤ℤ◌}
use Rattle.std.proofs.lemmas.Int.{ints}
use Rattle.std.proofs.lemmas.Bool.{cases_Bool, cases_eq, eqb-true, eq-eqb, and_parts, and_from}
use Rattle.std.proofs.lemmas.List.{length-map, get_or-map}
use Rattle.std.proofs.lemmas.List.Elements.{All-cons, All-nil, All-head, All-tail, All-get_or, All-from_get_or}
use Rattle.pesp_problem.specs.declared.arc.Arc.{Arc}
use Rattle.pesp_problem.specs.declared.row.SignedRow.{SignedRow}
use Rattle.pesp_problem.specs.Timetables.{Pesp, row_at, no_row}
use Rattle.pesp_problem.specs.Limits.{KeepsLimits, RowKeepsLimits}
use Rattle.pesp_problem.specs.Arcs.{arc_at, arcs_of, arc_of}
use Rattle.pesp_problem.specs.Walks.{Names, RowExists, AreRows, Leads, IsWalk, start, finish, net_count}
use Rattle.pesp_problem.specs.Forests.{IsBridge}
use Rattle.pesp_problem.proofs.Arcs.{arc_at-arcs_of}
use Rattle.pesp_problem.proofs.Walks.{step, net_count-cons, step_same, step_other}
use Rattle.pesp_network.specs.declared.row.NetRow.{NetRow}
use Rattle.pesp_network.specs.Networks.{net_row_at, no_net_row, arc_of_net, arcs_of_network, KeepsNetLimits, RowKeepsNetLimits}
use Rattle.pesp_reduce.specs.declared.fate.Fate.{Fate}
use Rattle.pesp_reduce.specs.declared.fate.Fate.TheVariants.{Free, Contracted, Bridge, Kept}
use Rattle.pesp_reduce.specs.Rows.{flag, loop_at, is_free, IsFree, row_that_matters}
use Rattle.pesp_reduce.specs.Contractions.{AreTree, AreTogether, IsStanding}
use Rattle.pesp_reduce.specs.Fates.{AreFates, fate_at, is_kept, IsFate, mapped_row, kept_below}
use Rattle.pesp_reduce.proofs.Lists.{arc_at_net, arcs_length, row_of_map}
use Rattle.pesp_reduce.proofs.Contracting.{keeps_parts}
use Rattle.pesp_reduce.proofs.Keeping.{keeps, places, length_kept, places_before, one_place, kept_at, which, all_kept, few_kept}
use Rattle.pesp_reduce.proofs.Bridges.{IsSorted, KeptCount, bridge_counts, without_bridges}

-- ---- the rows that matter

by_test : (b : Bool) → (if b then loop_at no_net_row else no_net_row) ≡ no_net_row
by_test true = refl
by_test false = refl

matters_none : (period : ℕ) → row_that_matters period no_net_row ≡ no_net_row
matters_none period = by_test (is_free period no_net_row)

pub matters_at : (period : ℕ) (rows : List NetRow) (i : ℕ)
    → net_row_at (map (row_that_matters period) rows) i ≡ row_that_matters period (net_row_at rows i)
matters_at period rows i = row_of_map (row_that_matters period) rows i (matters_none period)

pub matters_on : (period : ℕ) (row : NetRow) → is_free period row ≡ false → row_that_matters period row ≡ row
matters_on period row e = ap (λ (b : Bool). if b then loop_at row else row) e

pub matters_off : (period : ℕ) (row : NetRow) → is_free period row ≡ true → row_that_matters period row ≡ loop_at row
matters_off period row e = ap (λ (b : Bool). if b then loop_at row else row) e

matters_cases : (period : ℕ) (row : NetRow) → (row_that_matters period row ≡ row) ⊎ (row_that_matters period row ≡ loop_at row)
matters_cases period row = elim (cases_Bool (is_free period row))
    [ inl e ↦ inr (matters_off period row e) | inr e ↦ inl (matters_on period row e) ]

pub keeps_matters : (period events : ℕ) (rows made : List NetRow) (forest : List ℕ)
    → KeepsNetLimits (record { period = period; events = events; rows = rows; forest = forest })
    → made ≡ map (row_that_matters period) rows
    → KeepsNetLimits (record { period = period; events = events; rows = made; forest = [] })
keeps_matters period events rows made forest k e =
    keeps_parts period events rows made forest k (ap length e ∙ length-map rows (row_that_matters period)) (λ i l.
    let at : net_row_at made i ≡ row_that_matters period (net_row_at rows i) = ap (λ xs. net_row_at xs i) e ∙ matters_at period rows i in
    elim (matters_cases period (net_row_at rows i)) [ inl p ↦ inl (at ∙ p) | inr p ↦ inr (at ∙ p) ])

free_is : (period : ℕ) (row : NetRow) → is_free period row ≡ true → IsFree period (arc_of_net row)
free_is period row e = let w = and_parts (row.span == period - 1) (row.weight == 0) e in
    (eqb-true row.span (period - 1) w.0, eqb-true row.weight 0 w.1)

pub is_not_free : (period : ℕ) (row : NetRow) → is_free period row ≡ false → IsFree period (arc_of_net row) → ⊥
is_not_free period row e f =
    let t = and_from (row.span == period - 1) (row.weight == 0) (eq-eqb row.span (period - 1) f.0) (eq-eqb row.weight 0 f.1) in
    let q = sym e ∙ t in cc

-- ---- limits of mapped rows

small_lower : (z : ℤ) → (neg : Unit {0}) → unsigned_abs z ≤ 1000000 → (s t : ℕ) → s < 10000 → t < 10000
    → unsigned_abs ((z +ℤ pos s) -ℤ pos t) ≤ 1020000
small_lower z u h s t a b = omega (arith, ints)

within : (z w : ℤ) → negsuc 999999 ≤ℤ z → z ≤ℤ w → w ≤ℤ pos 1000000 → unsigned_abs z ≤ 1000000
within z w a b c = omega (arith, ints)

pub given_lower : (p : Pesp) (rows : List NetRow) (i : ℕ) → KeepsLimits p → arcs_of_network rows ≡ arcs_of p
    → i < length p.rows → unsigned_abs (net_row_at rows i).lower ≤ 1000000
given_lower p rows i k e l =
    let lower : (net_row_at rows i).lower ≡ (row_at p.rows i).lower =
    ap (λ (a : Arc). a.lower) (sym (arc_at_net rows i) ∙ ap (λ arcs. arc_at arcs i) e ∙ arc_at-arcs_of p i l) in
    let r = All-get_or (RowKeepsLimits (length p.events)) p.rows i no_row l k.each in
    let a = r.lower in let b = r.bounds in let c = r.upper in
    subst (λ z. unsigned_abs z ≤ 1000000) (sym lower) (within (row_at p.rows i).lower (row_at p.rows i).upper a b c)

pub matter_lower : (p : Pesp) (rows : List NetRow) (i : ℕ) → KeepsLimits p → arcs_of_network rows ≡ arcs_of p
    → i < length p.rows → unsigned_abs (net_row_at (map (row_that_matters p.period) rows) i).lower ≤ 1000000
matter_lower p rows i k e l =
    let at = matters_at p.period rows i in
    let Q : NetRow → Type 0 = λ row. unsigned_abs row.lower ≤ 1000000 in
    elim (matters_cases p.period (net_row_at rows i)) [
      | inl q ↦ subst Q (sym (at ∙ q)) (given_lower p rows i k e l)
      | inr q ↦ subst Q (sym (at ∙ q)) (omega arith)
    ]

given_ends : (p : Pesp) (rows : List NetRow) (i : ℕ) → KeepsLimits p → arcs_of_network rows ≡ arcs_of p
    → i < length p.rows → ((net_row_at rows i).tail < length p.events)
    × ((net_row_at rows i).head < length p.events)
given_ends p rows i k e l =
    let arc : arc_of_net (net_row_at rows i) ≡ arc_of p.period (row_at p.rows i) = sym (arc_at_net rows i)
    ∙ ap (λ arcs. arc_at arcs i) e ∙ arc_at-arcs_of p i l in
    let r = All-get_or (RowKeepsLimits (length p.events)) p.rows i no_row l k.each in
    (subst (λ (a : Arc). a.tail < length p.events) (sym arc) r.tail, subst (λ (a : Arc). a.head < length p.events) (sym arc) r.head)

pub matter_ends : (p : Pesp) (rows : List NetRow) (i : ℕ) → KeepsLimits p → arcs_of_network rows ≡ arcs_of p → i < length p.rows
    → ((net_row_at (map (row_that_matters p.period) rows) i).tail < length p.events)
    × ((net_row_at (map (row_that_matters p.period) rows) i).head < length p.events)
matter_ends p rows i k e l =
    let at = matters_at p.period rows i in
    let Q : NetRow → Type 0 = λ row. (row.tail < length p.events) × (row.head < length p.events) in
    let g = given_ends p rows i k e l in
    elim (matters_cases p.period (net_row_at rows i)) [
      | inl q ↦ subst Q (sym (at ∙ q)) g
      | inr q ↦ subst Q (sym (at ∙ q)) (g.0, g.0)
    ]

pub mapped_at : (stands shifts : List ℕ) (rows : List NetRow) (i : ℕ) → i < length rows
    → net_row_at (map (mapped_row stands shifts) rows) i ≡ mapped_row stands shifts (net_row_at rows i)
mapped_at stands shifts rows i l = get_or-map (mapped_row stands shifts) rows i no_net_row no_net_row l

pub below_at : (period : ℕ) (xs : List ℕ) (i : ℕ) → All (λ t. t < period) xs → i < length xs → slice_index xs i < period
below_at period xs i h l = All-get_or (λ t. t < period) xs i 0 l h

pub keeps_mapped : (period events : ℕ) (arcs : List Arc) (rows made : List NetRow)
    (forest stands firsts shifts : List ℕ) → KeepsNetLimits
    (record { period = period; events = events; rows = rows; forest = forest })
    → ((i : ℕ) → i < length rows → unsigned_abs (net_row_at rows i).lower ≤ 1000000)
    → IsStanding arcs events stands firsts → length shifts ≡ events → All (λ t. t < period) shifts
    → made ≡ map (mapped_row stands shifts) rows
    → KeepsNetLimits (record { period = period; events = length firsts; rows = made; forest = [] })
keeps_mapped period events arcs rows made forest stands firsts shifts k low s n b e =
    let count : length made ≡ length rows = ap length e ∙ length-map rows (mapped_row stands shifts) in
    let R : NetRow → Type 0 = λ row. RowKeepsNetLimits period (length firsts) row in
    record {
      some_period = k.some_period;
      period_most = k.period_most;
      events_most = let m = k.events_most in let f = s.firsts_count in omega arith;
      rows_most = omega (arith, k.rows_most, count);
      each = All-from_get_or R made no_net_row (λ i l.
          let in' : i < length rows = omega arith in
          let row = net_row_at rows i in
          let at : net_row_at made i ≡ mapped_row stands shifts row = ap (λ xs. net_row_at xs i) e ∙ mapped_at stands shifts rows i in' in
          let old = All-get_or (RowKeepsNetLimits period events) rows i no_net_row in' k.each in
          let t = old.tail in let h = old.head in let most = k.period_most in
          let st = below_at period shifts row.tail b (omega arith) in
          let sh = below_at period shifts row.head b (omega arith) in
          subst R (sym at) (record {
            tail = s.stands_below row.tail t;
            head = s.stands_below row.head h;
            span = old.span;
            lower = small_lower row.lower tt (low i in') (slice_index shifts row.tail)
                (slice_index shifts row.head) (omega arith) (omega arith);
            weight = old.weight;
          }));
    }

pub keeps_kept : (period events : ℕ) (rows made : List NetRow) (forest : List ℕ) (fates : List Fate)
    → KeepsNetLimits (record { period = period; events = events; rows = rows; forest = forest })
    → made ≡ kept_below fates rows (length rows)
    → KeepsNetLimits (record { period = period; events = events; rows = made; forest = [] })
keeps_kept period events rows made forest fates k e =
    let R : NetRow → Type 0 = λ row. RowKeepsNetLimits period events row in
    record {
      some_period = k.some_period;
      period_most = k.period_most;
      events_most = k.events_most;
      rows_most = let a = ap length e in let b = length_kept fates rows (length rows) in
          let c = few_kept fates (length rows) in let m = k.rows_most in omega arith;
      each = subst (λ xs. All R xs) (sym e) (all_kept R fates rows (length rows) (λ i l. All-get_or R rows i no_net_row l k.each));
    }

-- ---- walks over the mapped rows

at_if : (b : Bool) (f : ℕ → ℕ) (x y : ℕ) → (if b then f x else f y) ≡ f (if b then x else y)
at_if true f x y = refl
at_if false f x y = refl

mapped_arc : (stands shifts : List ℕ) (rows : List NetRow) (i : ℕ) → i < length rows
    → arc_at (arcs_of_network (map (mapped_row stands shifts) rows)) i
    ≡ arc_of_net (mapped_row stands shifts (net_row_at rows i))
mapped_arc stands shifts rows i l = arc_at_net (map (mapped_row stands shifts) rows) i ∙ ap arc_of_net (mapped_at stands shifts rows i l)

-- the ends of a mapped row are what the ends of the row become
pub mapped_ends : (stands shifts : List ℕ) (rows : List NetRow) (s : SignedRow) → RowExists (arcs_of_network rows) s
    → (start (arcs_of_network (map (mapped_row stands shifts) rows)) s
    ≡ slice_index stands (start (arcs_of_network rows) s))
    × (finish (arcs_of_network (map (mapped_row stands shifts) rows)) s
    ≡ slice_index stands (finish (arcs_of_network rows) s))
mapped_ends stands shifts rows s x =
    let i = s.row - 1 in
    let mapped = mapped_arc stands shifts rows i (omega (arith, x, arcs_length rows)) in
    let own = arc_at_net rows i in
    let row = net_row_at rows i in (
      ap (λ (arc : Arc). if s.plus then arc.tail else arc.head) mapped
          ∙ at_if s.plus (slice_index stands) row.tail row.head
          ∙ sym (ap (λ (arc : Arc). slice_index stands (if s.plus then arc.tail else arc.head)) own),
      ap (λ (arc : Arc). if s.plus then arc.head else arc.tail) mapped
          ∙ at_if s.plus (slice_index stands) row.head row.tail
          ∙ sym (ap (λ (arc : Arc). slice_index stands (if s.plus then arc.head else arc.tail)) own),
    )

pub leads_mapped : (stands shifts : List ℕ) (rows : List NetRow) (way : List SignedRow) (a b : ℕ)
    → AreRows (arcs_of_network rows) way → Leads (arcs_of_network rows) a way b
    → Leads (arcs_of_network (map (mapped_row stands shifts) rows)) (slice_index stands a) way (slice_index stands b)
leads_mapped stands shifts rows [] a b r h = ap (slice_index stands) h
leads_mapped stands shifts rows (s ∷ way) a b r h =
    let W = arcs_of_network rows in let B = arcs_of_network (map (mapped_row stands shifts) rows) in
    let ends = mapped_ends stands shifts rows s (All-head (RowExists W) s way r) in
    let rest = leads_mapped stands shifts rows way (finish W s) b (All-tail (RowExists W) s way r) h.1 in
    (ends.0 ∙ ap (slice_index stands) h.0, subst (λ y. Leads B y way (slice_index stands b)) (sym ends.1) rest)

pub bridge_below : (stands shifts : List ℕ) (rows : List NetRow) (i : ℕ) (walk : List SignedRow)
    → IsBridge (arcs_of_network (map (mapped_row stands shifts) rows)) (i + 1) → IsWalk (arcs_of_network rows) walk
    → net_count walk i ≡ pos 0
bridge_below stands shifts rows i [] b w = absurd w
bridge_below stands shifts rows i (s ∷ way) b w =
    let W = arcs_of_network rows in let B = arcs_of_network (map (mapped_row stands shifts) rows) in
    let walk : List SignedRow = s ∷ way in
    let place : (i + 1) - 1 ≡ i = omega arith in
    let count : length B ≡ length W = arcs_length (map (mapped_row stands shifts) rows)
    ∙ length-map rows (mapped_row stands shifts) ∙ sym (arcs_length rows) in
    let exists : AreRows B walk = subst (λ (n : ℕ). All (λ (x : SignedRow). Names n x.row) walk) (sym count) w.0 in
    let a = slice_index stands (start W s) in
    sym (ap (net_count walk) place) ∙ bridge_counts B (i + 1) a walk b exists
    (leads_mapped stands shifts rows walk (start W s) (start W s) w.0 w.1)

-- a row between one event and itself is no bridge
loop_no_bridge : (arcs : List Arc) (i : ℕ) → i < length arcs → (arc_at arcs i).tail ≡ (arc_at arcs i).head → IsBridge arcs (i + 1) → ⊥
loop_no_bridge arcs i inside loop b =
    let s : SignedRow = record { row = i + 1; plus = true } in
    let place : (i + 1) - 1 ≡ i = omega arith in
    let exists = All-cons (RowExists arcs) s [] (omega arith, omega arith) (All-nil (RowExists arcs)) in
    let closes : finish arcs s ≡ start arcs s = ap (λ (k : ℕ). (arc_at arcs k).head) place ∙ sym loop
    ∙ sym (ap (λ (k : ℕ). (arc_at arcs k).tail) place) in
    let none = sym (ap (net_count (s ∷ [])) place) ∙ b (s ∷ []) (exists, (refl, closes)) in
    let one = step_same s i refl in
    let first = net_count-cons s [] i in
    let clash : pos 1 ≡ pos 0 = omega (arith, ints, none, one, first) in
    cc

-- a row whose ends become one event is no bridge of what is left
pub together_no_bridge : (stands shifts : List ℕ) (rows : List NetRow) (i : ℕ) → i < length rows
    → slice_index stands (net_row_at rows i).tail ≡ slice_index stands (net_row_at rows i).head
    → IsBridge (arcs_of_network (map (mapped_row stands shifts) rows)) (i + 1) → ⊥
together_no_bridge stands shifts rows i l e b =
    let B = map (mapped_row stands shifts) rows in
    let arc = mapped_arc stands shifts rows i l in
    let count = length-map rows (mapped_row stands shifts) in
    loop_no_bridge (arcs_of_network B) i (omega (arith, arcs_length B, count))
    (ap (λ (a : Arc). a.tail) arc ∙ e ∙ sym (ap (λ (a : Arc). a.head) arc)) b

-- ---- flagged rows join different events

flagged_no_loop : (rows tree : List NetRow) (flags : List Bool) (i : ℕ) → AreTree rows tree flags
    → flag flags i ≡ true → (net_row_at rows i).tail ≡ (net_row_at rows i).head → ⊥
flagged_no_loop rows tree flags i t e loop =
    let W = arcs_of_network rows in
    let s : SignedRow = record { row = i + 1; plus = true } in
    let place : (i + 1) - 1 ≡ i = omega arith in
    let inside = (t.fixed i e).0 in
    let arc : arc_at W (s.row - 1) ≡ arc_of_net (net_row_at rows i) = ap (arc_at W) place ∙ arc_at_net rows i in
    let exists = All-cons (RowExists W) s [] (omega arith, omega (arith, arcs_length rows)) (All-nil (RowExists W)) in
    let closes : finish W s ≡ start W s = ap (λ (a : Arc). a.head) arc ∙ sym loop ∙ sym (ap (λ (a : Arc). a.tail) arc) in
    let F : SignedRow → Type 0 = λ x. flag flags (x.row - 1) ≡ true in
    let flagged = All-cons F s [] (ap (flag flags) place ∙ e) (All-nil F) in
    let none = t.no_cycle (s ∷ []) i (exists, (refl, closes)) flagged in
    let one = step_same s i refl in
    let first = net_count-cons s [] i in
    let clash : pos 1 ≡ pos 0 = omega (arith, ints, none, one, first) in
    cc

-- ---- fates

pub free_fate : (period : ℕ) (row : NetRow) (b : Bool) (left : List Arc) (k : ℕ) (fate : Fate)
    → IsFate period row b left k fate → fate ≡ Free → IsFree period (arc_of_net row)
free_fate period row b left k fate f e = free_is period row (subst (λ x. IsFate period row b left k x) e f)

not_free_fate : (period : ℕ) (row : NetRow) (b : Bool) (left : List Arc) (k : ℕ) (fate : Fate)
    → IsFate period row b left k fate → (fate ≡ Free → ⊥) → is_free period row ≡ false
not_free_fate period row b left k Free f n = absurd (n refl)
not_free_fate period row b left k Contracted f n = f.0
not_free_fate period row b left k Bridge f n = f.0
not_free_fate period row b left k Kept f n = f.0

pub other_fate : (period : ℕ) (row : NetRow) (b : Bool) (left : List Arc) (k : ℕ) (fate : Fate)
    → IsFate period row b left k fate → (fate ≡ Free → ⊥)
    → (row_that_matters period row ≡ row) × (IsFree period (arc_of_net row) → ⊥)
other_fate period row b left k fate f n = let e = not_free_fate period row b left k fate f n in
    (matters_on period row e, is_not_free period row e)

pub contracted_fate : (period : ℕ) (row : NetRow) (b : Bool) (left : List Arc) (k : ℕ) (fate : Fate)
    → IsFate period row b left k fate → fate ≡ Contracted → b ≡ true
contracted_fate period row b left k fate f e = (subst (λ x. IsFate period row b left k x) e f).1

pub bridge_fate : (period : ℕ) (row : NetRow) (b : Bool) (left : List Arc) (k : ℕ) (fate : Fate)
    → IsFate period row b left k fate → fate ≡ Bridge → IsBridge left k
bridge_fate period row b left k fate f e = (subst (λ x. IsFate period row b left k x) e f).2

pub flagged_fate : (period : ℕ) (row : NetRow) (b : Bool) (left : List Arc) (k : ℕ) (fate : Fate)
    → IsFate period row b left k fate → b ≡ true → (is_free period row ≡ true → ⊥) → fate ≡ Contracted
flagged_fate period row b left k Free f e n = absurd (n f)
flagged_fate period row b left k Contracted f e n = refl
flagged_fate period row b left k Bridge f e n = absurd (let q = sym e ∙ f.1 in cc)
flagged_fate period row b left k Kept f e n = absurd (let q = sym e ∙ f.1 in cc)

pub kept_parts : (period : ℕ) (row : NetRow) (b : Bool) (left : List Arc) (k : ℕ) (fate : Fate)
    → IsFate period row b left k fate → fate ≡ Kept
    → (is_free period row ≡ false) × (b ≡ false) × (IsBridge left k → ⊥)
kept_parts period row b left k fate f e = subst (λ x. IsFate period row b left k x) e f

kept_fate : (period : ℕ) (row : NetRow) (b : Bool) (left : List Arc) (k : ℕ) (fate : Fate)
    → IsFate period row b left k fate → is_kept fate ≡ true → IsBridge left k → ⊥
kept_fate period row b left k Free f e = cc
kept_fate period row b left k Contracted f e = cc
kept_fate period row b left k Bridge f e = cc
kept_fate period row b left k Kept f e = f.2

pub flagged_matters : (period : ℕ) (rows tree : List NetRow) (flags : List Bool) (i : ℕ)
    → AreTree (map (row_that_matters period) rows) tree flags → flag flags i ≡ true
    → is_free period (net_row_at rows i) ≡ true → ⊥
flagged_matters period rows tree flags i t e f =
    let at = matters_at period rows i ∙ matters_off period (net_row_at rows i) f in
    flagged_no_loop (map (row_that_matters period) rows) tree flags i t e
    (ap (λ (r : NetRow). r.tail) at ∙ sym (ap (λ (r : NetRow). r.head) at))

-- ---- what is left has no bridge

sorted_by_fate : (period : ℕ) (given : NetRow) (mapped : NetRow) (b : Bool) (left : List Arc) (k : ℕ) (fate : Fate)
    → IsFate period given b left k fate → is_kept fate ≡ false
    → (is_free period given ≡ true → mapped.tail ≡ mapped.head) → (b ≡ true → mapped.tail ≡ mapped.head)
    → (mapped.tail ≡ mapped.head) ⊎ IsBridge left k
sorted_by_fate period given mapped b left k Free f e x y = inl (x f)
sorted_by_fate period given mapped b left k Contracted f e x y = inl (y f.1)
sorted_by_fate period given mapped b left k Bridge f e x y = inr f.2
sorted_by_fate period given mapped b left k Kept f e x y = cc

pub left_sorted : (period : ℕ) (given tree : List NetRow) (flags : List Bool) (stands shifts : List ℕ)
    (fates : List Fate) → AreTree (map (row_that_matters period) given) tree flags
    → AreTogether (map (row_that_matters period) given) stands
    → AreFates period given flags (arcs_of_network
    (map (mapped_row stands shifts) (map (row_that_matters period) given))) fates
    → IsSorted (arcs_of_network (map (mapped_row stands shifts) (map (row_that_matters period) given)))
    (keeps fates)
left_sorted period given tree flags stands shifts fates t together f = record {
  each = λ i l e.
      let W = map (row_that_matters period) given in
      let count = arcs_length (map (mapped_row stands shifts) W) ∙ length-map W (mapped_row stands shifts) in
      let count_w = length-map given (row_that_matters period) in
      let inside : i < length W = omega arith in
      let row = net_row_at W i in
      let arc = mapped_arc stands shifts W i inside in
      let at = matters_at period given i in
      let as_arc = λ (q : slice_index stands row.tail ≡ slice_index stands row.head). ap (λ (a : Arc). a.tail) arc
      ∙ q ∙ sym (ap (λ (a : Arc). a.head) arc) in
      let free : is_free period (net_row_at given i) ≡ true → slice_index stands row.tail ≡ slice_index stands row.head = λ q.
      let loop = at ∙ matters_off period (net_row_at given i) q in
      ap (slice_index stands) (ap (λ (r : NetRow). r.tail) loop ∙ sym (ap (λ (r : NetRow). r.head) loop)) in
      let fixed : flag flags i ≡ true → slice_index stands row.tail
      ≡ slice_index stands row.head = λ q. let x = t.fixed i q in together i inside x.1 in
      elim (sorted_by_fate period (net_row_at given i) (mapped_row stands shifts row) (flag flags i)
      (arcs_of_network (map (mapped_row stands shifts) W)) (i + 1) (fate_at fates i)
      (f.each i (omega arith)) e free fixed) [
        | inl q ↦ inl (as_arc q)
        | inr b ↦ inr b
      ];
}

-- the way over the kept rows by their new numbers
abbrev pub renumbered : List Fate → SignedRow → SignedRow
renumbered fates s = record { row = places fates (s.row - 1) + 1; plus = s.plus }

renumbered_arc : (fates : List Fate) (rows : List NetRow) (s : SignedRow) → 1 ≤ s.row → s.row ≤ length rows
    → keeps fates (s.row - 1) ≡ true → arc_at (arcs_of_network (kept_below fates rows (length rows)))
    ((renumbered fates s).row - 1) ≡ arc_at (arcs_of_network rows) (s.row - 1)
renumbered_arc fates rows s a b k =
    let N = kept_below fates rows (length rows) in
    let place : (places fates (s.row - 1) + 1) - 1 ≡ places fates (s.row - 1) = omega arith in
    ap (arc_at (arcs_of_network N)) place ∙ arc_at_net N (places fates (s.row - 1))
    ∙ ap arc_of_net (kept_at fates rows (length rows) (s.row - 1) (omega arith) k)
    ∙ sym (arc_at_net rows (s.row - 1))

leads_renumbered : (fates : List Fate) (rows : List NetRow) (way : List SignedRow) (a b : ℕ)
    → AreRows (arcs_of_network rows) way → All (λ s. keeps fates (s.row - 1) ≡ true) way
    → Leads (arcs_of_network rows) a way b
    → Leads (arcs_of_network (kept_below fates rows (length rows))) a (map (renumbered fates) way) b
leads_renumbered fates rows [] a b r k h = h
leads_renumbered fates rows (s ∷ way) a b r k h =
    let W = arcs_of_network rows in let N = arcs_of_network (kept_below fates rows (length rows)) in
    let x = All-head (RowExists W) s way r in
    let K : SignedRow → Type 0 = λ y. keeps fates (y.row - 1) ≡ true in
    let same = renumbered_arc fates rows s x.0 (omega (arith, x, arcs_length rows)) (All-head K s way k) in
    let starts = ap (λ (arc : Arc). if s.plus then arc.tail else arc.head) same in
    let ends = ap (λ (arc : Arc). if s.plus then arc.head else arc.tail) same in
    let rest = leads_renumbered fates rows way (finish W s) b (All-tail (RowExists W) s way r) (All-tail K s way k) h.1 in
    (starts ∙ h.0, subst (λ y. Leads N y (map (renumbered fates) way) b) (sym ends) rest)

rows_renumbered : (fates : List Fate) (rows : List NetRow) (way : List SignedRow)
    → AreRows (arcs_of_network rows) way → All (λ s. keeps fates (s.row - 1) ≡ true) way
    → AreRows (arcs_of_network (kept_below fates rows (length rows))) (map (renumbered fates) way)
rows_renumbered fates rows [] r k = All-nil (RowExists (arcs_of_network (kept_below fates rows (length rows))))
rows_renumbered fates rows (s ∷ way) r k =
    let W = arcs_of_network rows in let N = kept_below fates rows (length rows) in
    let x = All-head (RowExists W) s way r in
    let K : SignedRow → Type 0 = λ y. keeps fates (y.row - 1) ≡ true in
    let below = places_before fates (length rows) (s.row - 1) (omega (arith, x, arcs_length rows)) (All-head K s way k) in
    let size = arcs_length N ∙ length_kept fates rows (length rows) in
    All-cons (RowExists (arcs_of_network N)) (renumbered fates s) (map (renumbered fates) way)
    (omega arith, omega arith) (rows_renumbered fates rows way (All-tail (RowExists W) s way r)
    (All-tail K s way k))

place_is : (i : ℕ) → (i + 1) - 1 ≡ i
place_is i = omega arith

step_renumbered : (fates : List Fate) (s : SignedRow) (i : ℕ) → 1 ≤ s.row → keeps fates (s.row - 1) ≡ true
    → keeps fates i ≡ true → step (renumbered fates s) (places fates i) ≡ step s i
step_renumbered fates s i h k l =
    elim (cases_eq s.row (i + 1)) [
      | inl e ↦
          let at : places fates (s.row - 1) + 1 ≡ places fates i + 1 = ap (λ m. places fates (m - 1) + 1) e
          ∙ ap (λ m. places fates m + 1) (place_is i) in
          step_same (renumbered fates s) (places fates i) at ∙ sym (step_same s i e)
      | inr ne ↦
          let other : places fates (s.row - 1) + 1
          ≢ places fates i + 1 = λ q. ne (let one = one_place fates (s.row - 1) i k l (omega arith) in
          omega arith) in
          step_other (renumbered fates s) (places fates i) other ∙ sym (step_other s i ne)
    ]

net_renumbered : (fates : List Fate) (arcs : List Arc) (way : List SignedRow) (i : ℕ) → AreRows arcs way
    → All (λ s. keeps fates (s.row - 1) ≡ true) way → keeps fates i ≡ true
    → net_count (map (renumbered fates) way) (places fates i) ≡ net_count way i
net_renumbered fates arcs [] i r k l = refl
net_renumbered fates arcs (s ∷ way) i r k l =
    let K : SignedRow → Type 0 = λ y. keeps fates (y.row - 1) ≡ true in
    let x = All-head (RowExists arcs) s way r in
    let rest = net_renumbered fates arcs way i (All-tail (RowExists arcs) s way r) (All-tail K s way k) l in
    let one = step_renumbered fates s i x.0 (All-head K s way k) l in
    omega (
      arith,
      ints,
      net_count-cons (renumbered fates s) (map (renumbered fates) way) (places fates i),
      net_count-cons s way i,
      rest,
      one,
    )

walk_counts : (arcs : List Arc) (kept : ℕ → Bool) (i : ℕ) (walk : List SignedRow) → IsSorted arcs kept
    → kept i ≡ true → KeptCount arcs kept i → IsWalk arcs walk → net_count walk i ≡ pos 0
walk_counts arcs kept i [] s k b w = absurd w
walk_counts arcs kept i (x ∷ way) s k b w =
    without_bridges arcs kept i s k b (length (x ∷ way)) [] (x ∷ way) (start arcs x) (omega arith)
    (All-nil (RowExists arcs)) w.0 (All-nil (λ (y : SignedRow). kept (y.row - 1) ≡ true)) w.1

pub none_left_over : (period : ℕ) (given rows : List NetRow) (flags : List Bool) (fates : List Fate) (k : ℕ)
    → length given ≡ length rows → IsSorted (arcs_of_network rows) (keeps fates)
    → AreFates period given flags (arcs_of_network rows) fates
    → Names (length (kept_below fates rows (length rows))) k → IsBridge (arcs_of_network (kept_below fates rows (length rows))) k → ⊥
none_left_over period given rows flags fates k n sorted f name b =
    let N = kept_below fates rows (length rows) in
    let B = arcs_of_network rows in
    let size = length_kept fates rows (length rows) in
    let w = which fates (length rows) (k - 1) (omega (arith, name)) in
    let i = w.from in
    let below = w.below in
    let place : (i + 1) - 1 ≡ i = omega arith in
    let base : KeptCount B (keeps fates) i = λ way a r l kept.
    sym (net_renumbered fates B way i r kept w.kept) ∙ ap (net_count (map (renumbered fates) way)) w.place
    ∙ bridge_counts (arcs_of_network N) k a (map (renumbered fates) way) b (rows_renumbered fates rows way r kept)
    (leads_renumbered fates rows way a a r kept l) in
    let bridge : IsBridge B (i + 1) = λ walk closed.
    ap (net_count walk) place ∙ walk_counts B (keeps fates) i walk sorted w.kept base closed in
    kept_fate period (net_row_at given i) (flag flags i) B (i + 1) (fate_at fates i) (f.each i (omega arith)) w.kept bridge
