-- The contraction of fixed rows: limits, the tree, the shifts, and what becomes one.
use Rattle.std.proofs.Common.{◌≡◌, ℕ, ◌+◌, ◌-◌, ◌<◌, ◌≤◌, ◌⊎◌, inl, inr, refl, sym, ◌∙◌, ap, arith, subst, List, [], ◌∷◌, length, get_or, map, true, false, Bool, All, pos, ◌-ℤ◌}
use Rattle.std.specs.Prelude.{slice_index, Contains, ◌==◌}
use Rattle.std.proofs.lemmas.Bool.{cases_Bool, cases_lt, eqb-true, eq-eqb}
use Rattle.std.proofs.lemmas.List.{get_or_past, length-map}
use Rattle.std.proofs.lemmas.List.Elements.{All-from_get_or, All-get_or, All-cons, All-nil, All-contains}
use Rattle.pesp_problem.specs.declared.arc.Arc.{Arc}
use Rattle.pesp_problem.specs.declared.row.SignedRow.{SignedRow}
use Rattle.pesp_problem.specs.Arcs.{arc_at, slacks_at, arc_slack}
use Rattle.pesp_problem.specs.Walks.{Names, RowExists, AreRows, Leads, IsWalk, start, net_count}
use Rattle.pesp_problem.specs.Forests.{IsSpanningForest, KeepsTo, AreJoined}
use Rattle.pesp_network.specs.declared.row.NetRow.{NetRow}
use Rattle.pesp_network.specs.Networks.{net_row_at, no_net_row, arc_of_net, arcs_of_network, KeepsNetLimits, RowKeepsNetLimits}
use Rattle.pesp_reduce.specs.Rows.{flag, row_or_loop, loop_at, fixed_row}
use Rattle.pesp_reduce.specs.Contractions.{AreTree, AreShifts, AreTogether, AreFlags, IsStanding}
use Rattle.pesp_problem.proofs.Congruences.{none_left}
use Rattle.pesp_reduce.proofs.Lists.{arc_at_net, arcs_length, row_of_map}
use Rattle.pesp_reduce.proofs.Ways.{leads_same}
use Rattle.pesp_reduce.proofs.Trees.{no_loop_in, same_arc}
use Rattle.pesp_reduce.proofs.Standings.{standing_joined}

-- ---- limits

pub part_cases : (b : Bool) (row : NetRow) → (row_or_loop b row ≡ row) ⊎ (row_or_loop b row ≡ loop_at row)
part_cases true row = inl refl
part_cases false row = inr refl

loop_keeps : (period events : ℕ) (row : NetRow) → 0 < period → RowKeepsNetLimits period events row
    → RowKeepsNetLimits period events (loop_at row)
loop_keeps period events row h k = record { tail = k.tail; head = k.tail; span = h; lower = omega arith; weight = omega arith }

-- rows and loops in their places keep the limits
pub keeps_parts : (period events : ℕ) (rows made : List NetRow) (forest : List ℕ)
    → KeepsNetLimits (record { period = period; events = events; rows = rows; forest = forest })
    → length made ≡ length rows
    → ((i : ℕ) → i < length rows → (net_row_at made i ≡ net_row_at rows i) ⊎ (net_row_at made i ≡ loop_at (net_row_at rows i)))
    → KeepsNetLimits (record { period = period; events = events; rows = made; forest = [] })
keeps_parts period events rows made forest k n each =
    let R : NetRow → Type 0 = λ row. RowKeepsNetLimits period events row in
    record {
      some_period = k.some_period;
      period_most = k.period_most;
      events_most = k.events_most;
      rows_most = omega (arith, k.rows_most, n);
      each = All-from_get_or R made no_net_row (λ i l.
          let b : i < length rows = omega arith in
          let old : R (net_row_at rows i) = All-get_or R rows i no_net_row b k.each in
          elim (each i b) [
            | inl e ↦ subst R (sym e) old
            | inr e ↦ subst R (sym e) (loop_keeps period events (net_row_at rows i) (let p = k.some_period in omega arith) old)
          ]);
    }

-- ---- the tree

fixed_at : (rows : List NetRow) (i : ℕ) → net_row_at (map fixed_row rows) i ≡ fixed_row (net_row_at rows i)
fixed_at rows i = row_of_map fixed_row rows i refl

fixed_on : (row : NetRow) → row.span ≡ 0 → fixed_row row ≡ row
fixed_on row e = ap (λ (b : Bool). row_or_loop b row) (eq-eqb row.span 0 e)

fixed_off : (row : NetRow) → (row.span == 0) ≡ false → fixed_row row ≡ loop_at row
fixed_off row e = ap (λ (b : Bool). row_or_loop b row) e

pub fixed_arc : (rows : List NetRow) (i : ℕ) → (net_row_at rows i).span ≡ 0
    → arc_at (arcs_of_network (map fixed_row rows)) i ≡ arc_at (arcs_of_network rows) i
fixed_arc rows i e = arc_at_net (map fixed_row rows) i
    ∙ ap arc_of_net (fixed_at rows i ∙ fixed_on (net_row_at rows i) e) ∙ sym (arc_at_net rows i)

fixed_length : (rows : List NetRow) → length (arcs_of_network (map fixed_row rows)) ≡ length rows
fixed_length rows = arcs_length (map fixed_row rows) ∙ length-map rows fixed_row

flagged_is_fixed : (rows : List NetRow) (forest : List ℕ) (i : ℕ)
    → IsSpanningForest (arcs_of_network (map fixed_row rows)) forest → Contains forest (i + 1)
    → (i < length rows) × ((net_row_at rows i).span ≡ 0)
flagged_is_fixed rows forest i f c =
    let row = net_row_at rows i in
    let F = arcs_of_network (map fixed_row rows) in
    let exists : Names (length F) (i + 1) = All-contains (Names (length F)) forest (i + 1) f.exist c in
    let inside : i < length rows = omega (arith, exists, fixed_length rows) in
    elim (cases_Bool (row.span == 0)) [
      | inl e ↦ (inside, eqb-true row.span 0 e)
      | inr e ↦
          let place : (i + 1) - 1 ≡ i = omega arith in
          let arc : arc_at F i ≡ arc_of_net (loop_at row) = arc_at_net (map fixed_row rows) i
          ∙ ap arc_of_net (fixed_at rows i ∙ fixed_off row e) in
          let here : arc_at F ((i + 1) - 1) ≡ arc_of_net (loop_at row) = ap (arc_at F) place ∙ arc in
          absurd (no_loop_in F forest (i + 1) f c (ap (λ (a : Arc). a.tail) here ∙ sym (ap (λ (a : Arc). a.head) here)))
    ]

place_of : (k : ℕ) → 1 ≤ k → (k - 1) + 1 ≡ k
place_of k h = omega arith

fixed_no_cycle : (rows : List NetRow) (forest : List ℕ) (flags : List Bool) (walk : List SignedRow) (i : ℕ)
    → IsSpanningForest (arcs_of_network (map fixed_row rows)) forest → AreFlags (length rows) forest flags
    → IsWalk (arcs_of_network rows) walk → All (λ s. flag flags (s.row - 1) ≡ true) walk → net_count walk i ≡ pos 0
fixed_no_cycle rows forest flags [] i f g w k = absurd w
fixed_no_cycle rows forest flags (s ∷ way) i f g w k =
    let R = arcs_of_network rows in let F = arcs_of_network (map fixed_row rows) in
    let walk : List SignedRow = s ∷ way in
    let G : SignedRow → Type 0 = λ x. flag flags (x.row - 1) ≡ true in
    let same : All (λ x. arc_at F (x.row - 1) ≡ arc_at R (x.row - 1)) walk =
    λ j d l. fixed_arc rows ((get_or walk j d).row - 1)
    (flagged_is_fixed rows forest ((get_or walk j d).row - 1) f
    (g.only ((get_or walk j d).row - 1) (k j d l))).1 in
    let exists : AreRows F walk = λ j d l. let e = w.0 j d l in let n = fixed_length rows in
    let m = arcs_length rows in (e.0, omega (arith, e, n, m)) in
    let keeps : KeepsTo forest walk = λ j d l.
    subst (Contains forest) (place_of (get_or walk j d).row (w.0 j d l).0)
    (g.only ((get_or walk j d).row - 1) (k j d l)) in
    let leads = leads_same R F walk (start R s) (start R s) same w.1 in
    let closed : Leads F (start F s) walk (start F s) = subst (λ x. Leads F x walk x) (sym leads.0) leads in
    f.no_cycle walk i (exists, closed) keeps

pub are_tree : (rows tree : List NetRow) (forest : List ℕ) (flags : List Bool)
    → IsSpanningForest (arcs_of_network (map fixed_row rows)) forest → AreFlags (length rows) forest flags
    → length tree ≡ length rows
    → ((i : ℕ) → i < length rows → net_row_at tree i ≡ row_or_loop (flag flags i) (net_row_at rows i)) → AreTree rows tree flags
are_tree rows tree forest flags f g n each = record {
  flags_count = g.count_is;
  tree_count = n;
  fixed = λ i e. flagged_is_fixed rows forest i f (g.only i e);
  no_cycle = λ walk i w k. fixed_no_cycle rows forest flags walk i f g w k;
  parts = λ i. elim (cases_lt i (length rows)) [
    | inl l ↦ each i l
    | inr m ↦
        let past = get_or_past tree i no_net_row (omega arith) in
        let past_flag = get_or_past flags i false (omega (arith, g.count_is)) in
        let past_row = get_or_past rows i no_net_row m in
        past ∙ sym (ap (λ (row : NetRow). row_or_loop (flag flags i) row) past_row ∙ ap (λ (b : Bool). row_or_loop b no_net_row) past_flag)
  ];
}

-- ---- shifts

pub are_shifts : (period events : ℕ) (rows tree : List NetRow) (flags : List Bool) (shifts : List ℕ) → 0 < period
    → AreTree rows tree flags → length shifts ≡ events → All (λ t. t < period) shifts
    → ((i : ℕ) → i < length tree → slacks_at (record { period = period; arcs = arcs_of_network tree }) shifts i
    ≡ 0) → AreShifts period events rows flags shifts
are_shifts period events rows tree flags shifts h t n b none = record {
  count = n;
  below = b;
  tight = λ i e.
      let inside = (t.fixed i e).0 in
      let row = net_row_at rows i in
      let same : arc_at (arcs_of_network tree) i ≡ arc_of_net row = same_arc rows tree flags i t e ∙ arc_at_net rows i in
      let zero : arc_slack period shifts (arc_of_net row) ≡ 0 = sym (ap (arc_slack period shifts) same)
      ∙ none i (omega (arith, t.tree_count)) in
      none_left period (pos (slice_index shifts row.head) -ℤ pos (slice_index shifts row.tail)) row.lower h zero;
}

-- ---- what becomes one

pub are_together : (period events : ℕ) (rows tree : List NetRow) (forest : List ℕ) (flags : List Bool)
    (stands firsts : List ℕ) → IsSpanningForest (arcs_of_network (map fixed_row rows)) forest
    → AreFlags (length rows) forest flags → AreTree rows tree flags
    → All (RowKeepsNetLimits period events) rows → IsStanding (arcs_of_network tree) events stands firsts → AreTogether rows stands
are_together period events rows tree forest flags stands firsts f g t k s = λ i l e.
    let row = net_row_at rows i in
    let F = arcs_of_network (map fixed_row rows) in let T = arcs_of_network tree in
    let one : SignedRow = record { row = i + 1; plus = true } in
    let place : (i + 1) - 1 ≡ i = omega arith in
    let arc : arc_at F (one.row - 1) ≡ arc_of_net row = ap (arc_at F) place ∙ fixed_arc rows i e ∙ arc_at_net rows i in
    let exists : AreRows F (one ∷ []) = All-cons (RowExists F) one []
    (omega arith, omega (arith, fixed_length rows)) (All-nil (RowExists F)) in
    let leads : Leads F row.tail (one ∷ []) row.head = (ap (λ (a : Arc). a.tail) arc, ap (λ (a : Arc). a.head) arc) in
    let other = f.joins row.tail row.head (one ∷ []) exists leads in
    let way = other.0 in
    let same : All (λ x. arc_at T (x.row - 1) ≡ arc_at F (x.row - 1)) way = λ j d b.
    let p = (get_or way j d).row - 1 in
    let c = g.all (get_or way j d).row (other.1 j d b) in
    same_arc rows tree flags p t c ∙ sym (fixed_arc rows p (t.fixed p c).1) in
    let there : AreRows T way = λ j d b.
    let x = All-contains (Names (length F)) forest (get_or way j d).row f.exist (other.1 j d b) in
    (x.0, omega (arith, x, fixed_length rows, arcs_length tree, t.tree_count)) in
    let joined : AreJoined T row.tail row.head = (way, there, leads_same F T way row.tail row.head same other.2) in
    let b = All-get_or (RowKeepsNetLimits period events) rows i no_net_row l k in
    standing_joined T events stands firsts row.tail row.head s b.tail b.head joined

pub keeps_fixed : (period events : ℕ) (rows made : List NetRow) (forest : List ℕ)
    → KeepsNetLimits (record { period = period; events = events; rows = rows; forest = forest })
    → made ≡ map fixed_row rows
    → KeepsNetLimits (record { period = period; events = events; rows = made; forest = [] })
keeps_fixed period events rows made forest k e =
    keeps_parts period events rows made forest k (ap length e ∙ length-map rows fixed_row) (λ i l.
    let at : net_row_at made i ≡ fixed_row (net_row_at rows i) = ap (λ xs. net_row_at xs i) e ∙ fixed_at rows i in
    elim (part_cases ((net_row_at rows i).span == 0) (net_row_at rows i)) [
      | inl p ↦ inl (at ∙ p)
      | inr p ↦ inr (at ∙ p)
    ])

pub keeps_some : (period events : ℕ) (rows made : List NetRow) (forest : List ℕ) (flags : List Bool)
    → KeepsNetLimits (record { period = period; events = events; rows = rows; forest = forest })
    → length made ≡ length rows
    → ((i : ℕ) → i < length rows → net_row_at made i ≡ row_or_loop (flag flags i) (net_row_at rows i))
    → KeepsNetLimits (record { period = period; events = events; rows = made; forest = [] })
keeps_some period events rows made forest flags k n each =
    keeps_parts period events rows made forest k n (λ i l. elim (part_cases (flag flags i) (net_row_at rows i)) [
      | inl p ↦ inl (each i l ∙ p)
      | inr p ↦ inr (each i l ∙ p)
    ])
