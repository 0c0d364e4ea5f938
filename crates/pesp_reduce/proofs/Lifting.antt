-- Times that are lowered and times that are lifted.
use Rattle.std.proofs.Common.{◌≡◌, ℕ, ◌+◌, ◌-◌, ◌*◌, ◌/◌, ◌%◌, ◌<◌, ◌≤◌, ◌⊎◌, inl, inr, refl, sym, ◌∙◌, ap, arith, subst, List, [], ◌∷◌, length, map, true, false, Bool, All, ℤ, pos, ◌+ℤ◌, ◌-ℤ◌, ◌*ℤ◌}
use Rattle.std.specs.Prelude.{if◌then◌else◌, slice_index, sum_by, neg_ℤ}
use Rattle.std.proofs.lemmas.Int.{ints}
use Rattle.std.proofs.lemmas.Bool.{cases_Bool}
use Rattle.std.proofs.lemmas.List.{length-map, get_or-map, take_all}
use Rattle.std.proofs.lemmas.List.Elements.{All-get_or, All-from_get_or}
use Rattle.std.proofs.lemmas.List.Sums.{sum_by-cons}
use Rattle.pesp_problem.specs.declared.arc.Arc.{Arc}
use Rattle.pesp_problem.specs.declared.row.Row.{Row}
use Rattle.pesp_problem.specs.declared.row.SignedRow.{SignedRow}
use Rattle.pesp_problem.specs.Sums.{sum_below, floor_div}
use Rattle.pesp_problem.specs.Timetables.{Pesp, row_at, no_row, remainder, difference, slack, cost, IsSatisfied, IsTimetable}
use Rattle.pesp_problem.specs.Limits.{KeepsLimits, RowKeepsLimits}
use Rattle.pesp_problem.specs.Arcs.{Net, no_arc, arc_at, arcs_of, arc_of, span, arc_slack, slacks_at}
use Rattle.pesp_problem.specs.NetTimetables.{IsNetTimetable, net_cost}
use Rattle.pesp_problem.specs.Walks.{Leads, IsWalk, HasWholeOffset, start, finish, net_count}
use Rattle.pesp_problem.proofs.Integers.{mul-neg, mul-sub, swap_left, zero-mul, quotient-remainder, sum_below-same, sum_below-sub, sum_below-mul}
use Rattle.pesp_problem.proofs.Walks.{rise, rises_cancel}
use Rattle.pesp_problem.proofs.Arcs.{arc_at-arcs_of, slack-lt-period, slack-le-span, within_span}
use Rattle.pesp_network.specs.declared.row.NetRow.{NetRow}
use Rattle.pesp_network.specs.Networks.{NetworkValue, net_row_at, arc_of_net, arcs_of_network, net_of_network}
use Rattle.pesp_reduce.specs.declared.fate.Fate.{Fate}
use Rattle.pesp_reduce.specs.declared.fate.Fate.TheVariants.{Free, Contracted, Bridge, Kept}
use Rattle.pesp_reduce.specs.declared.contraction.Contraction.{Contraction}
use Rattle.pesp_problem.specs.Congruences.{IsSame}
use Rattle.pesp_reduce.specs.Rows.{flag, IsFree}
use Rattle.pesp_reduce.specs.Contractions.{AreTree}
use Rattle.pesp_reduce.specs.Fates.{fate_at, is_kept, mapped_row}
use Rattle.pesp_reduce.specs.Reductions.{IsReduction, origin_place}
use Rattle.pesp_reduce.specs.Times.{lowered_time, shifted, lifted_slack}
use Rattle.pesp_problem.proofs.Congruences.{same_trans, same_sym, same_is, same_remainders, none_left, none_left_of}
use Rattle.pesp_reduce.proofs.Lists.{arc_at_net, arcs_length}
use Rattle.pesp_reduce.proofs.Trees.{same_arc, loop_arc, loop_stays}
use Rattle.pesp_reduce.proofs.Keeping.{keeps, places, places_before, sum_kept}
use Rattle.pesp_reduce.proofs.Reducing.{mapped_at, below_at}
use Rattle.pesp_reduce.proofs.Results.{ComesFrom, size_of, kept_row, comes_from}

-- ---- along the tree

same_ends : (period : ℕ) (g : ℕ → ℤ) (b : Bool) (x y : ℕ) → IsSame period (g x) (g y)
    → IsSame period (g (if b then x else y)) (g (if b then y else x))
same_ends period g true x y h = h
same_ends period g false x y h = same_sym period (g x) (g y) h

-- a number that is the same at both ends of each flagged row is the same at both ends of a way over the tree
pub same_along : (period : ℕ) (rows tree : List NetRow) (flags : List Bool) (g : ℕ → ℤ) (way : List SignedRow)
    (a b : ℕ) → AreTree rows tree flags
    → ((i : ℕ) → flag flags i ≡ true → IsSame period (g (net_row_at rows i).tail) (g (net_row_at rows i).head))
    → Leads (arcs_of_network tree) a way b → IsSame period (g a) (g b)
same_along period rows tree flags g [] a b t h l = same_is period (g a) (g b) (ap g l)
same_along period rows tree flags g (s ∷ way) a b t h l =
    let T = arcs_of_network tree in
    let i = s.row - 1 in
    let rest = same_along period rows tree flags g way (finish T s) b t h l.1 in
    let begins = ap g (sym l.0) in
    elim (cases_Bool (flag flags i)) [
      | inl e ↦
          let arc = same_arc rows tree flags i t e ∙ arc_at_net rows i in
          let starts : start T s ≡ (if s.plus then (net_row_at rows i).tail else (net_row_at rows i).head) =
          ap (λ (x : Arc). if s.plus then x.tail else x.head) arc in
          let ends : finish T s ≡ (if s.plus then (net_row_at rows i).head else (net_row_at rows i).tail) =
          ap (λ (x : Arc). if s.plus then x.head else x.tail) arc in
          let across = same_ends period g s.plus (net_row_at rows i).tail (net_row_at rows i).head (h i e) in
          same_trans period (g a) (g (start T s)) (g b) (same_is period (g a) (g (start T s)) begins)
          (same_trans period (g (start T s)) (g (finish T s)) (g b)
          (subst (λ y. IsSame period (g (start T s)) (g y)) (sym ends)
          (subst (λ x. IsSame period (g x) (g (if s.plus then (net_row_at rows i).head else (net_row_at rows
          i).tail))) (sym starts) across)) rest)
      | inr e ↦
          let arc = loop_arc rows tree flags i t e in
          let stays = loop_stays T s (ap (λ (x : Arc). x.tail) arc ∙ sym (ap (λ (x : Arc). x.head) arc)) in
          same_trans period (g a) (g (finish T s)) (g b) (same_is period (g a) (g (finish T s)) (begins ∙ ap g stays)) rest
    ]

-- ---- lowered times

lowered_same : (period t s : ℕ) → 0 < period → s < period → IsSame period (pos (((t + period) - s) % period)) (pos t -ℤ pos s)
lowered_same period t s h l =
    let x = (t + period) - s in
    let split : period * (x / period) + x % period ≡ x = omega arith in
    record { more = x / period; less = 1; even = omega (arith, ints) }

pub lowered_below : (period t s : ℕ) → 0 < period → ((t + period) - s) % period < period
lowered_below period t s h = omega arith

contracted_not_free : (fate : Fate) → fate ≡ Contracted → fate ≡ Free → ⊥
contracted_not_free fate e q = cc

differ : (period : ℕ) (th tl sh sl lower : ℤ) → IsSame period (th -ℤ tl) lower → IsSame period (sh -ℤ sl) lower
    → IsSame period (tl -ℤ sl) (th -ℤ sh)
differ period th tl sh sl lower x y = record {
  more = x.less + y.more;
  less = x.more + y.less;
  even = let e = x.even in let f = y.even in omega (arith, ints);
}

-- what a time is later than a shift is the same at both ends of a contracted row
tight_rows : (p : Pesp) (fates : List Fate) (whole network : NetworkValue) (c : Contraction) (times : List ℕ)
    (i : ℕ) → KeepsLimits p → IsReduction p fates whole c network → IsTimetable p times
    → flag c.contracted.items i ≡ true
    → IsSame p.period (pos (slice_index times (net_row_at whole.rows i).tail) -ℤ pos
    (slice_index c.shifts.items (net_row_at whole.rows i).tail))
    (pos (slice_index times (net_row_at whole.rows i).head) -ℤ pos
    (slice_index c.shifts.items (net_row_at whole.rows i).head))
tight_rows p fates whole network c times i k r tt' e =
    let T = p.period in
    let some : 0 < T = let q = k.some_period in omega arith in
    let fixed = r.contraction.tree.fixed i e in
    let below : i < length p.rows = let l = fixed.0 in omega (arith, r.whole_count) in
    let fate = r.flagged i e in
    let arc = sym (arc_at_net whole.rows i) ∙ (r.others i below
    (λ q. contracted_not_free (fate_at fates i) fate q)).0 ∙ arc_at-arcs_of p i below in
    let row = row_at p.rows i in
    let w = net_row_at whole.rows i in
    let small = slack-le-span p times row some (All-get_or (IsSatisfied p times) p.rows i no_row below tt'.1) in
    let no_span : span T row ≡ 0 = sym (ap (λ (a : Arc). a.span) arc) ∙ fixed.1 in
    let none : remainder T (difference times row.tail row.head -ℤ row.lower) ≡ 0 = omega arith in
    let of_row = none_left T (difference times row.tail row.head) row.lower some none in
    let of_shift = r.contraction.shifts.tight i e in
    let tail = ap (λ (a : Arc). a.tail) arc in let head = ap (λ (a : Arc). a.head) arc in let lower = ap (λ (a : Arc). a.lower) arc in
    let times_is : difference times row.tail row.head
    ≡ difference times w.tail w.head = sym (ap (λ (a : Arc). difference times a.tail a.head) arc) in
    let here : IsSame T (difference times w.tail w.head) w.lower =
    subst (λ z. IsSame T z w.lower) times_is (subst (λ z. IsSame T (difference times row.tail row.head) z)
    (sym lower) of_row) in
    differ T (pos (slice_index times w.head)) (pos (slice_index times w.tail))
    (pos (slice_index c.shifts.items w.head)) (pos (slice_index c.shifts.items w.tail)) w.lower here of_shift

-- the lowered time of the event that an event becomes is the event's time less its shift
lowered_stand : (p : Pesp) (fates : List Fate) (whole network : NetworkValue) (c : Contraction) (times : List ℕ)
    (e : ℕ) → KeepsLimits p → IsReduction p fates whole c network → IsTimetable p times → e < length p.events
    → IsSame p.period (pos (slice_index (map (lowered_time p.period times c.shifts.items) c.firsts.items)
    (slice_index c.stands.items e))) (pos (slice_index times e) -ℤ pos (slice_index c.shifts.items e))
lowered_stand p fates whole network c times e k r t l =
    let T = p.period in
    let some : 0 < T = let q = k.some_period in omega arith in
    let s = r.contraction.standing in
    let stand = slice_index c.stands.items e in
    let below = s.stands_below e l in
    let first = slice_index c.firsts.items stand in
    let g : ℕ → ℤ = λ x. pos (slice_index times x) -ℤ pos (slice_index c.shifts.items x) in
    let at : slice_index (map (lowered_time T times c.shifts.items) c.firsts.items) stand
    ≡ lowered_time T times c.shifts.items first =
    get_or-map (lowered_time T times c.shifts.items) c.firsts.items stand 0 0 below in
    let inside = s.firsts_below stand below in
    let shift = below_at T c.shifts.items first r.contraction.shifts.below (omega (arith, r.contraction.shifts.count)) in
    let here = lowered_same T (slice_index times first) (slice_index c.shifts.items first) some shift in
    let way = (s.first e l).joined in
    let along = same_along T whole.rows c.tree.rows c.contracted.items g way.0 e first r.contraction.tree
    (λ i f. tight_rows p fates whole network c times i k r t f) way.2 in
    same_trans T (pos (slice_index (map (lowered_time T times c.shifts.items) c.firsts.items) stand)) (g first) (g e)
    (subst (λ y. IsSame T (pos y) (g first)) (sym at) here) (same_sym T (g e) (g first) along)

meets : (period : ℕ) (lh lt th tl sh sl lower : ℤ) → IsSame period lh (th -ℤ sh) → IsSame period lt (tl -ℤ sl)
    → IsSame period ((lh -ℤ lt) -ℤ ((lower +ℤ sl) -ℤ sh)) ((th -ℤ tl) -ℤ lower)
meets period lh lt th tl sh sl lower x y = record {
  more = x.more + y.less;
  less = x.less + y.more;
  even = let e = x.even in let f = y.even in omega (arith, ints);
}

-- each row of the network has its original's slack
pub lowered_slack : (p : Pesp) (fates : List Fate) (whole network : NetworkValue) (c : Contraction)
    (times : List ℕ) (j : ℕ) → KeepsLimits p → IsReduction p fates whole c network → IsTimetable p times
    → (f : ComesFrom p fates whole c network j)
    → arc_slack p.period (map (lowered_time p.period times c.shifts.items) c.firsts.items)
    (arc_of_net (net_row_at network.rows j)) ≡ slack p.period times (row_at p.rows f.place)
lowered_slack p fates whole network c times j k r t f =
    let T = p.period in
    let some : 0 < T = let q = k.some_period in omega arith in
    let below = f.below in
    let row = row_at p.rows f.place in
    let w = net_row_at whole.rows f.place in
    let made = map (lowered_time T times c.shifts.items) c.firsts.items in
    let arc : arc_of_net w ≡ arc_of T row = f.arc ∙ arc_at-arcs_of p f.place below in
    let limits = All-get_or (RowKeepsLimits (length p.events)) p.rows f.place no_row below k.each in
    let lt = limits.tail in let lh = limits.head in
    let at = ap (λ (x : NetRow). arc_slack T made (arc_of_net x)) f.row in
    let same_w : arc_slack T made (arc_of_net (mapped_row c.stands.items c.shifts.items w))
    ≡ remainder T ((pos (slice_index made (slice_index c.stands.items row.head)) -ℤ pos
    (slice_index made (slice_index c.stands.items row.tail))) -ℤ
    ((row.lower +ℤ pos (slice_index c.shifts.items row.tail)) -ℤ pos (slice_index c.shifts.items row.head))) =
    ap (λ (a : Arc). remainder T ((pos (slice_index made (slice_index c.stands.items a.head)) -ℤ pos
    (slice_index made (slice_index c.stands.items a.tail))) -ℤ
    ((a.lower +ℤ pos (slice_index c.shifts.items a.tail)) -ℤ pos (slice_index c.shifts.items a.head)))) arc in
    let m = meets T (pos (slice_index made (slice_index c.stands.items row.head)))
    (pos (slice_index made (slice_index c.stands.items row.tail))) (pos (slice_index times row.head))
    (pos (slice_index times row.tail)) (pos (slice_index c.shifts.items row.head))
    (pos (slice_index c.shifts.items row.tail)) row.lower
    (lowered_stand p fates whole network c times row.head k r t lh) (lowered_stand p fates whole network c times row.tail k r t lt) in
    at ∙ same_w ∙ same_remainders T ((pos (slice_index made (slice_index c.stands.items row.head)) -ℤ pos
    (slice_index made (slice_index c.stands.items row.tail))) -ℤ
    ((row.lower +ℤ pos (slice_index c.shifts.items row.tail)) -ℤ pos (slice_index c.shifts.items row.head)))
    (difference times row.tail row.head -ℤ row.lower) some m

pub lowered_is_timetable : (p : Pesp) (fates : List Fate) (whole network : NetworkValue) (c : Contraction)
    (times : List ℕ) → KeepsLimits p → IsReduction p fates whole c network → IsTimetable p times
    → IsNetTimetable (net_of_network network) network.events (map (lowered_time p.period times c.shifts.items) c.firsts.items)
lowered_is_timetable p fates whole network c times k r t =
    let T = p.period in
    let some : 0 < T = let q = k.some_period in omega arith in
    let made = map (lowered_time T times c.shifts.items) c.firsts.items in
    record {
      count = length-map c.firsts.items (lowered_time T times c.shifts.items) ∙ sym r.events;
      below = subst (λ m. All (λ y. y < m) made) (sym r.period) (All-from_get_or (λ (y : ℕ). y < T) made 0 (λ i l.
          let b : i < length c.firsts.items = omega (arith, length-map c.firsts.items (lowered_time T times c.shifts.items)) in
          let e = slice_index c.firsts.items i in
          subst (λ y. y < T) (sym (get_or-map (lowered_time T times c.shifts.items) c.firsts.items i 0 0 b))
          (lowered_below T (slice_index times e) (slice_index c.shifts.items e) some)));
      slacks = All-from_get_or (λ arc. arc_slack network.period made arc ≤ arc.span) (arcs_of_network network.rows) no_arc (λ j inside.
          let l : j < length network.rows = omega (arith, arcs_length network.rows) in
          let f = comes_from p fates whole network c j r l in
          let same = ap (λ m. arc_slack m made (arc_of_net (net_row_at network.rows j))) r.period
          ∙ lowered_slack p fates whole network c times j k r t f in
          let small = slack-le-span p times (row_at p.rows f.place) some
          (All-get_or (IsSatisfied p times) p.rows f.place no_row f.below t.1) in
          let span_is = ap (λ (x : NetRow). x.span) f.row ∙ ap (λ (a : Arc). a.span) (f.arc ∙ arc_at-arcs_of p f.place f.below) in
          let within : arc_slack network.period made (arc_of_net (net_row_at network.rows j))
          ≤ (net_row_at network.rows j).span = omega arith in
          subst (λ arc. arc_slack network.period made arc ≤ arc.span) (sym (arc_at_net network.rows j)) within);
    }

-- ---- lifted times

abbrev term_of : ℤ → ℤ → ℤ → ℤ → ℤ
term_of n d t q = n *ℤ (d -ℤ t *ℤ q)

term_is : (n d t q : ℤ) → n *ℤ (d -ℤ t *ℤ q) ≡ n *ℤ d -ℤ t *ℤ (n *ℤ q)
term_is n d t q = mul-sub n d (t *ℤ q) ∙ ap (λ z. n *ℤ d -ℤ z) (swap_left n t q)

none_times : (n a b : ℤ) → n ≡ pos 0 → n *ℤ a ≡ n *ℤ b
none_times n a b e = ap (λ z. z *ℤ a) e ∙ zero-mul a ∙ sym (ap (λ z. z *ℤ b) e ∙ zero-mul b)

-- slacks that a number at each event gives, at all rows but bridges, give each closed walk a whole offset
pub whole_offset : (n : Net) (slacks : ℕ → ℕ) (f : ℕ → ℤ) (walk : List SignedRow) → 0 < n.period → IsWalk n.arcs walk
    → ((i : ℕ) → i < length n.arcs → (net_count walk i ≡ pos 0)
    ⊎ (slacks i ≡ remainder n.period (rise n.arcs f i -ℤ (arc_at n.arcs i).lower)))
    → HasWholeOffset n slacks walk
whole_offset n slacks f walk h w each =
    let T = pos n.period in
    let turn : ℕ → ℤ = λ i. floor_div (rise n.arcs f i -ℤ (arc_at n.arcs i).lower) n.period in
    let whole = λ (i : ℕ). net_count walk i *ℤ rise n.arcs f i in
    let part = λ (i : ℕ). net_count walk i *ℤ turn i in
    let terms = sum_below-same (length n.arcs)
    (λ i. net_count walk i *ℤ ((arc_at n.arcs i).lower +ℤ pos (slacks i))) (λ i. whole i -ℤ T *ℤ part i)
    (λ i l. elim (each i l) [
      | inl none ↦ none_times (net_count walk i) ((arc_at n.arcs i).lower +ℤ pos (slacks i))
          (rise n.arcs f i -ℤ T *ℤ turn i) none ∙ term_is (net_count walk i) (rise n.arcs f i) T (turn i)
      | inr y ↦
          let split = quotient-remainder (rise n.arcs f i -ℤ (arc_at n.arcs i).lower) n.period h in
          let duration : (arc_at n.arcs i).lower +ℤ pos (slacks i)
          ≡ rise n.arcs f i -ℤ T *ℤ turn i = ap (λ m. (arc_at n.arcs i).lower +ℤ pos m) y
          ∙ omega (arith, ints, split) in
          ap (λ z. net_count walk i *ℤ z) duration ∙ term_is (net_count walk i) (rise n.arcs f i) T (turn i)
    ]) in
    let apart = sum_below-sub (length n.arcs) whole (λ i. T *ℤ part i) in
    let factor = sum_below-mul T (length n.arcs) part in
    let none = rises_cancel n.arcs f walk w in
    (neg_ℤ (sum_below (length n.arcs) part), omega (arith, ints, terms, apart, factor, none, mul-neg T (sum_below (length n.arcs) part)))

-- slacks of rows at lifted times: 0 for bridges, what shifted times give for the others
abbrev pub AreLifted : (p : Pesp) (fates : List Fate) (whole : NetworkValue) (c : Contraction) (times : List ℕ) (slacks : ℕ → ℕ) → Type 0
AreLifted p fates whole c times slacks = (i : ℕ) → i < length whole.rows
    → slacks i ≡ lifted_slack p.period c.stands.items c.shifts.items times (net_row_at whole.rows i)
    (fate_at fates i)

slack_off : (period : ℕ) (stands shifts times : List ℕ) (row : NetRow) (fate : Fate) → (fate ≡ Bridge → ⊥)
    → lifted_slack period stands shifts times row fate
    ≡ remainder period ((shifted stands shifts times row.head -ℤ shifted stands shifts times row.tail) -ℤ row.lower)
slack_off period stands shifts times row Free n = refl
slack_off period stands shifts times row Contracted n = refl
slack_off period stands shifts times row Bridge n = absurd (n refl)
slack_off period stands shifts times row Kept n = refl

slack_on : (period : ℕ) (stands shifts times : List ℕ) (row : NetRow) (fate : Fate) → fate ≡ Bridge
    → lifted_slack period stands shifts times row fate ≡ 0
slack_on period stands shifts times row fate e = ap (lifted_slack period stands shifts times row) e

bridge_or_not : (fate : Fate) → (fate ≡ Bridge) ⊎ (fate ≡ Bridge → ⊥)
bridge_or_not Free = inr (λ e. cc)
bridge_or_not Contracted = inr (λ e. cc)
bridge_or_not Bridge = inl refl
bridge_or_not Kept = inr (λ e. cc)

pub lifted_whole : (p : Pesp) (fates : List Fate) (whole network : NetworkValue) (c : Contraction) (times : List ℕ)
    (slacks : ℕ → ℕ) (walk : List SignedRow) → KeepsLimits p → IsReduction p fates whole c network
    → AreLifted p fates whole c times slacks → IsWalk (arcs_of_network whole.rows) walk
    → HasWholeOffset (record { period = whole.period; arcs = arcs_of_network whole.rows }) slacks walk
lifted_whole p fates whole network c times slacks walk k r are w =
    let T = p.period in
    let some : 0 < whole.period = let q = k.some_period in omega (arith, r.whole_period) in
    let S = c.stands.items in let H = c.shifts.items in
    let f : ℕ → ℤ = shifted S H times in
    let W = arcs_of_network whole.rows in
    whole_offset (record { period = whole.period; arcs = W }) slacks f walk some w (λ i l.
    let inside : i < length whole.rows = omega (arith, arcs_length whole.rows) in
    elim (bridge_or_not (fate_at fates i)) [
      | inl e ↦ inl (r.bridges i walk (omega (arith, r.whole_count)) e w)
      | inr n ↦ inr (are i inside ∙ slack_off T S H times (net_row_at whole.rows i) (fate_at fates i) n
          ∙ ap (λ m. remainder m ((f (net_row_at whole.rows i).head -ℤ f (net_row_at whole.rows i).tail) -ℤ
          (net_row_at whole.rows i).lower)) (sym r.whole_period)
          ∙ sym (ap (λ (a : Arc). remainder whole.period ((f a.head -ℤ f a.tail) -ℤ a.lower)) (arc_at_net whole.rows i)))
    ])

-- what each row's slack is at lifted times
pub record LiftedTo (p : Pesp) (fates : List Fate) (whole network : NetworkValue) (c : Contraction) (times lifted : List ℕ) : Type 0 where
  pub count : length lifted ≡ length p.events
  pub below : All (λ t. t < p.period) lifted
  pub slacks : (i : ℕ) → i < length whole.rows
      → arc_slack p.period lifted (arc_of_net (net_row_at whole.rows i))
      ≡ lifted_slack p.period c.stands.items c.shifts.items times (net_row_at whole.rows i) (fate_at fates i)

contracted_not_bridge : (fate : Fate) → fate ≡ Contracted → fate ≡ Bridge → ⊥
contracted_not_bridge fate e q = cc

kept_not_bridge : (fate : Fate) → fate ≡ Kept → fate ≡ Bridge → ⊥
kept_not_bridge fate e q = cc

alike : (period : ℕ) (th tl sh sl lower : ℤ) → tl ≡ th → IsSame period (sh -ℤ sl) lower → IsSame period ((th +ℤ sh) -ℤ (tl +ℤ sl)) lower
alike period th tl sh sl lower e x = record { more = x.more; less = x.less; even = let f = x.even in omega (arith, ints) }

regroup : (th tl sh sl lower : ℤ) → ((th +ℤ sh) -ℤ (tl +ℤ sl)) -ℤ lower ≡ (th -ℤ tl) -ℤ ((lower +ℤ sl) -ℤ sh)
regroup th tl sh sl lower = omega (arith, ints)

-- the slack of a row that is contracted is 0
contracted_slack : (p : Pesp) (fates : List Fate) (whole network : NetworkValue) (c : Contraction) (times : List ℕ)
    (i : ℕ) → KeepsLimits p → IsReduction p fates whole c network → i < length p.rows → fate_at fates i ≡ Contracted
    → lifted_slack p.period c.stands.items c.shifts.items times (net_row_at whole.rows i) (fate_at fates i) ≡ 0
contracted_slack p fates whole network c times i k r l e =
    let T = p.period in
    let some : 0 < T = let q = k.some_period in omega arith in
    let S = c.stands.items in let H = c.shifts.items in
    let w = net_row_at whole.rows i in
    let flagged = r.contracted i l e in
    let inside : i < length whole.rows = omega (arith, r.whole_count) in
    let fixed = r.contraction.tree.fixed i flagged in
    let one = r.contraction.together i inside fixed.1 in
    let tight = r.contraction.shifts.tight i flagged in
    let off = slack_off T S H times w (fate_at fates i) (λ q. contracted_not_bridge (fate_at fates i) e q) in
    let place = ap (λ (x : ℕ). pos (slice_index times x)) one in
    off ∙ none_left_of T (shifted S H times w.head -ℤ shifted S H times w.tail) w.lower some
    (alike T (pos (slice_index times (slice_index S w.head))) (pos (slice_index times (slice_index S w.tail)))
    (pos (slice_index H w.head)) (pos (slice_index H w.tail)) w.lower place tight)

-- the slack of a row that is kept is that of the network's row
kept_slack : (p : Pesp) (fates : List Fate) (whole network : NetworkValue) (c : Contraction) (times : List ℕ)
    (j : ℕ) → IsReduction p fates whole c network → (f : ComesFrom p fates whole c network j)
    → lifted_slack p.period c.stands.items c.shifts.items times (net_row_at whole.rows f.place)
    (fate_at fates f.place) ≡ arc_slack network.period times (arc_of_net (net_row_at network.rows j))
kept_slack p fates whole network c times j r f =
    let T = p.period in
    let S = c.stands.items in let H = c.shifts.items in
    let w = net_row_at whole.rows f.place in
    slack_off T S H times w (fate_at fates f.place) (λ q. kept_not_bridge (fate_at fates f.place) f.kept q)
    ∙ ap (remainder T) (regroup (pos (slice_index times (slice_index S w.head)))
    (pos (slice_index times (slice_index S w.tail))) (pos (slice_index H w.head))
    (pos (slice_index H w.tail)) w.lower)
    ∙ sym (ap (λ (x : NetRow). arc_slack T times (arc_of_net x)) f.row)
    ∙ ap (λ m. arc_slack m times (arc_of_net (net_row_at network.rows j))) (sym r.period)

free_row : (p : Pesp) (i : ℕ) → 0 < p.period → i < length p.rows → IsFree p.period (arc_at (arcs_of p) i)
    → (span p.period (row_at p.rows i) ≡ p.period - 1) × ((row_at p.rows i).weight ≡ 0)
free_row p i h l f = let e = arc_at-arcs_of p i l in (sym (ap (λ (a : Arc). a.span) e) ∙ f.0, sym (ap (λ (a : Arc). a.weight) e) ∙ f.1)

-- the slack of a row of the instance at lifted times
pub record SlackIs (p : Pesp) (fates : List Fate) (network : NetworkValue) (times lifted : List ℕ) (i : ℕ) : Type 0 where
  pub within : slack p.period lifted (row_at p.rows i) ≤ span p.period (row_at p.rows i)
  pub kept : keeps fates i ≡ true → slack p.period lifted (row_at p.rows i)
      ≡ arc_slack network.period times (arc_of_net (net_row_at network.rows (places fates i)))
  pub dropped : keeps fates i ≡ false → (row_at p.rows i).weight * slack p.period lifted (row_at p.rows i) ≡ 0

fate_cases : (fate : Fate) → (fate ≡ Free) ⊎ ((fate ≡ Contracted) ⊎ ((fate ≡ Bridge) ⊎ (fate ≡ Kept)))
fate_cases Free = inl refl
fate_cases Contracted = inr (inl refl)
fate_cases Bridge = inr (inr (inl refl))
fate_cases Kept = inr (inr (inr refl))

unkept : (fates : List Fate) (i : ℕ) (b : Bool) → is_kept (fate_at fates i) ≡ false → keeps fates i ≡ true → ⊥
unkept fates i b e f = let q = sym e ∙ f in cc

no_product : (w y : ℕ) → y ≡ 0 → w * y ≡ 0
no_product w y e = ap (λ n. w * n) e ∙ omega arith

no_product_left : (w y : ℕ) → w ≡ 0 → w * y ≡ 0
no_product_left w y e = ap (λ n. n * y) e ∙ omega arith

zero_slack : (p : Pesp) (fates : List Fate) (network : NetworkValue) (times lifted : List ℕ) (i : ℕ)
    → is_kept (fate_at fates i) ≡ false → slack p.period lifted (row_at p.rows i) ≡ 0
    → SlackIs p fates network times lifted i
zero_slack p fates network times lifted i e z = record {
  within = omega arith;
  kept = λ q. absurd (unkept fates i true e q);
  dropped = λ q. no_product (row_at p.rows i).weight (slack p.period lifted (row_at p.rows i)) z;
}

bridge_not_free : (fate : Fate) → fate ≡ Bridge → fate ≡ Free → ⊥
bridge_not_free fate e q = cc

kept_not_free : (fate : Fate) → fate ≡ Kept → fate ≡ Free → ⊥
kept_not_free fate e q = cc

unkept_true : (fates : List Fate) (i : ℕ) → fate_at fates i ≡ Kept → keeps fates i ≡ false → ⊥
unkept_true fates i e q = let t = sym (ap is_kept e) ∙ q in cc

kept_at_place : (p : Pesp) (fates : List Fate) (whole network : NetworkValue) (c : Contraction) (times : List ℕ)
    (i : ℕ) → IsReduction p fates whole c network → i < length p.rows → keeps fates i ≡ true
    → lifted_slack p.period c.stands.items c.shifts.items times (net_row_at whole.rows i) (fate_at fates i)
    ≡ arc_slack network.period times (arc_of_net (net_row_at network.rows (places fates i)))
unfolding kept_row
kept_at_place p fates whole network c times i r l e =
    kept_slack p fates whole network c times (places fates i) r (kept_row p fates whole network c i r l e)

span_at : (p : Pesp) (fates : List Fate) (whole network : NetworkValue) (c : Contraction) (i : ℕ)
    → IsReduction p fates whole c network → i < length p.rows → keeps fates i ≡ true
    → (net_row_at network.rows (places fates i)).span ≡ span p.period (row_at p.rows i)
unfolding kept_row
span_at p fates whole network c i r l e =
    let f = kept_row p fates whole network c i r l e in
    ap (λ (x : NetRow). x.span) f.row ∙ ap (λ (a : Arc). a.span) (f.arc ∙ arc_at-arcs_of p i l)

weight_at : (p : Pesp) (fates : List Fate) (whole network : NetworkValue) (c : Contraction) (i : ℕ)
    → IsReduction p fates whole c network → i < length p.rows → keeps fates i ≡ true
    → (net_row_at network.rows (places fates i)).weight ≡ (row_at p.rows i).weight
unfolding kept_row
weight_at p fates whole network c i r l e =
    let f = kept_row p fates whole network c i r l e in
    ap (λ (x : NetRow). x.weight) f.row ∙ ap (λ (a : Arc). a.weight) (f.arc ∙ arc_at-arcs_of p i l)

row_of_kept : (p : Pesp) (fates : List Fate) (whole network : NetworkValue) (c : Contraction) (i : ℕ)
    → IsReduction p fates whole c network → i < length p.rows → keeps fates i ≡ true
    → net_row_at network.rows (places fates i) ≡ net_row_at (map (mapped_row c.stands.items c.shifts.items) whole.rows) i
unfolding kept_row
row_of_kept p fates whole network c i r l e =
    (kept_row p fates whole network c i r l e).row
    ∙ sym (mapped_at c.stands.items c.shifts.items whole.rows i (omega (arith, r.whole_count)))

slack_within : (network : NetworkValue) (times : List ℕ) (j : ℕ)
    → IsNetTimetable (net_of_network network) network.events times → j < length network.rows
    → arc_slack network.period times (arc_of_net (net_row_at network.rows j)) ≤ (net_row_at network.rows j).span
slack_within network times j nt l =
    let P : Arc → Type 0 = λ arc. arc_slack network.period times arc ≤ arc.span in
    subst P (arc_at_net network.rows j) (All-get_or P (arcs_of_network network.rows) j no_arc
    (omega (arith, arcs_length network.rows)) nt.slacks)

kept_slack_is : (p : Pesp) (fates : List Fate) (whole network : NetworkValue) (c : Contraction)
    (times lifted : List ℕ) (i : ℕ) → IsReduction p fates whole c network
    → IsNetTimetable (net_of_network network) network.events times → i < length p.rows → fate_at fates i ≡ Kept
    → slack p.period lifted (row_at p.rows i) ≡ lifted_slack p.period c.stands.items c.shifts.items times
    (net_row_at whole.rows i) (fate_at fates i) → SlackIs p fates network times lifted i
kept_slack_is p fates whole network c times lifted i r nt l e is =
    let f = kept_row p fates whole network c i r l (ap is_kept e) in
    let x = kept_at_place p fates whole network c times i r l (ap is_kept e) in
    let span_is : (net_row_at network.rows (places fates i)).span
    ≡ span p.period (row_at p.rows i) = span_at p fates whole network c i r l (ap is_kept e) in
    let small = slack_within network times (places fates i) nt
    (omega (
      arith,
      size_of p fates whole network c r,
      places_before fates (length p.rows) i l (ap is_kept e),
    )) in
    record {
      within = omega (arith, is, x);
      kept = λ q. is ∙ x;
      dropped = λ q. absurd (unkept_true fates i e q);
    }

cost_term : (p : Pesp) (fates : List Fate) (whole network : NetworkValue) (c : Contraction) (times lifted : List ℕ)
    (i : ℕ) → IsReduction p fates whole c network → i < length p.rows → SlackIs p fates network times lifted i
    → (row_at p.rows i).weight * slack p.period lifted (row_at p.rows i)
    ≡ (if keeps fates i then (net_row_at (map (mapped_row c.stands.items c.shifts.items) whole.rows) i).weight
    * arc_slack network.period times (arc_of_net
    (net_row_at (map (mapped_row c.stands.items c.shifts.items) whole.rows) i)) else 0)
cost_term p fates whole network c times lifted i r l s =
    let B = map (mapped_row c.stands.items c.shifts.items) whole.rows in
    let f : NetRow → ℕ = λ row. row.weight * arc_slack network.period times (arc_of_net row) in
    elim (cases_Bool (keeps fates i)) [
      | inl e ↦
          let row_is = row_of_kept p fates whole network c i r l e in
          let weight = weight_at p fates whole network c i r l e in
          ap (λ y. (row_at p.rows i).weight * y) (s.kept e)
          ∙ ap (λ w. w * arc_slack network.period times
          (arc_of_net (net_row_at network.rows (places fates i)))) (sym weight) ∙ ap f row_is
          ∙ sym (ap (λ (b : Bool). if b then f (net_row_at B i) else 0) e)
      | inr e ↦ s.dropped e ∙ sym (ap (λ (b : Bool). if b then f (net_row_at B i) else 0) e)
    ]

pub slack_is : (p : Pesp) (fates : List Fate) (whole network : NetworkValue) (c : Contraction)
    (times lifted : List ℕ) (i : ℕ) → KeepsLimits p → IsReduction p fates whole c network
    → IsNetTimetable (net_of_network network) network.events times → LiftedTo p fates whole network c times lifted
    → i < length p.rows → SlackIs p fates network times lifted i
slack_is p fates whole network c times lifted i k r nt lt l =
    let T = p.period in
    let some : 0 < T = let q = k.some_period in omega arith in
    let row = row_at p.rows i in
    let inside : i < length whole.rows = omega (arith, r.whole_count) in
    let as_whole : (fate_at fates i ≡ Free → ⊥)
    → slack T lifted row ≡ lifted_slack T c.stands.items c.shifts.items times (net_row_at whole.rows i)
    (fate_at fates i) = λ n.
    sym (ap (arc_slack T lifted) (sym (arc_at_net whole.rows i) ∙ (r.others i l n).0 ∙ arc_at-arcs_of p i l)) ∙ lt.slacks i inside in
    elim (fate_cases (fate_at fates i)) [
      | inl e ↦
          let f = free_row p i some l (r.free i l e) in
          let b = slack-lt-period T lifted row some in
          record {
            within = omega (arith, f.0);
            kept = λ q. absurd (unkept fates i true (ap is_kept e) q);
            dropped = λ q. no_product_left row.weight (slack T lifted row) f.1;
          }
      | inr o ↦
          elim o [
            | inl e ↦ zero_slack p fates network times lifted i (ap is_kept e)
                (as_whole (λ q. contracted_not_free (fate_at fates i) e q)
                ∙ contracted_slack p fates whole network c times i k r l e)
            | inr u ↦
                elim u [
                  | inl e ↦ zero_slack p fates network times lifted i (ap is_kept e)
                      (as_whole (λ q. bridge_not_free (fate_at fates i) e q)
                      ∙ slack_on T c.stands.items c.shifts.items times (net_row_at whole.rows i)
                      (fate_at fates i) e)
                  | inr e ↦ kept_slack_is p fates whole network c times lifted i r nt l e
                      (as_whole (λ q. kept_not_free (fate_at fates i) e q))
                ]
          ]
    ]

-- lifted times are a timetable
pub lifted_is_timetable : (p : Pesp) (fates : List Fate) (whole network : NetworkValue) (c : Contraction)
    (times lifted : List ℕ) → KeepsLimits p → IsReduction p fates whole c network
    → IsNetTimetable (net_of_network network) network.events times → LiftedTo p fates whole network c times lifted
    → IsTimetable p lifted
lifted_is_timetable p fates whole network c times lifted k r nt lt = (
  (lt.count, lt.below),
  All-from_get_or (IsSatisfied p lifted) p.rows no_row (λ i l.
      let limits = All-get_or (RowKeepsLimits (length p.events)) p.rows i no_row l k.each in
      (within_span p lifted (row_at p.rows i) (let q = k.some_period in omega arith) limits.bounds).1
      (slack_is p fates whole network c times lifted i k r nt lt l).within),
)

-- each row of the network has its original's slack
pub lifted_row_slack : (p : Pesp) (fates : List Fate) (whole network : NetworkValue) (c : Contraction)
    (times lifted : List ℕ) (j : ℕ) → KeepsLimits p → IsReduction p fates whole c network
    → IsNetTimetable (net_of_network network) network.events times → LiftedTo p fates whole network c times lifted
    → (f : ComesFrom p fates whole c network j)
    → slack p.period lifted (row_at p.rows f.place)
    ≡ arc_slack network.period times (arc_of_net (net_row_at network.rows j))
lifted_row_slack p fates whole network c times lifted j k r nt lt f =
    (slack_is p fates whole network c times lifted f.place k r nt lt f.below).kept f.keeps_it
    ∙ ap (λ m. arc_slack network.period times (arc_of_net (net_row_at network.rows m))) f.stands

sum_over_arcs : (f : Arc → ℕ) (rows : List NetRow) → sum_by (λ row. f (arc_of_net row)) rows ≡ sum_by f (arcs_of_network rows)
sum_over_arcs f [] = refl
sum_over_arcs f (row ∷ rows) = sum_by-cons (λ r. f (arc_of_net r)) row rows
    ∙ ap (λ y. f (arc_of_net row) + y) (sum_over_arcs f rows)
    ∙ sym (sum_by-cons f (arc_of_net row) (arcs_of_network rows))

-- the costs are equal
pub lifted_cost : (p : Pesp) (fates : List Fate) (whole network : NetworkValue) (c : Contraction)
    (times lifted : List ℕ) → KeepsLimits p → IsReduction p fates whole c network
    → IsNetTimetable (net_of_network network) network.events times → LiftedTo p fates whole network c times lifted
    → cost p.period p.rows lifted ≡ net_cost (net_of_network network) times
lifted_cost p fates whole network c times lifted k r nt lt =
    let T = p.period in
    let B = map (mapped_row c.stands.items c.shifts.items) whole.rows in
    let g : Row → ℕ = λ row. row.weight * slack T lifted row in
    let f : NetRow → ℕ = λ row. row.weight * arc_slack network.period times (arc_of_net row) in
    let terms = λ (i : ℕ) (l : i < length p.rows). let s =
    slack_is p fates whole network c times lifted i k r nt lt l in
    cost_term p fates whole network c times lifted i r l s in
    ap (sum_by g) (sym (take_all (length p.rows) p.rows (omega arith)))
    ∙ sum_kept fates p.rows B g f (length p.rows) (omega arith) terms ∙ sym (ap (sum_by f) r.rows)
    ∙ sum_over_arcs (λ arc. arc.weight * arc_slack network.period times arc) network.rows

-- ---- by the rows of the network

pub lowered_slacks : (p : Pesp) (fates : List Fate) (whole network : NetworkValue) (c : Contraction)
    (times : List ℕ) (j : ℕ) → KeepsLimits p → IsReduction p fates whole c network → IsTimetable p times
    → j < length network.rows
    → arc_slack network.period (map (lowered_time p.period times c.shifts.items) c.firsts.items)
    (arc_of_net (net_row_at network.rows j)) ≡ slack p.period times (row_at p.rows (origin_place network j))
lowered_slacks p fates whole network c times j k r t l =
    let f = comes_from p fates whole network c j r l in
    let made = map (lowered_time p.period times c.shifts.items) c.firsts.items in
    let place : f.place ≡ origin_place network j = omega (arith, f.origin) in
    ap (λ m. arc_slack m made (arc_of_net (net_row_at network.rows j))) r.period
    ∙ lowered_slack p fates whole network c times j k r t f
    ∙ ap (λ i. slack p.period times (row_at p.rows i)) place

pub lifted_row_slacks : (p : Pesp) (fates : List Fate) (whole network : NetworkValue) (c : Contraction)
    (times lifted : List ℕ) (j : ℕ) → KeepsLimits p → IsReduction p fates whole c network
    → IsNetTimetable (net_of_network network) network.events times → LiftedTo p fates whole network c times lifted
    → j < length network.rows
    → slack p.period lifted (row_at p.rows (origin_place network j))
    ≡ arc_slack network.period times (arc_of_net (net_row_at network.rows j))
lifted_row_slacks p fates whole network c times lifted j k r nt lt l =
    let f = comes_from p fates whole network c j r l in
    let place : origin_place network j ≡ f.place = omega (arith, f.origin) in
    ap (λ i. slack p.period lifted (row_at p.rows i)) place ∙ lifted_row_slack p fates whole network c times lifted j k r nt lt f

-- times with exactly the lifted slacks
pub lifted_to : (p : Pesp) (fates : List Fate) (whole network : NetworkValue) (c : Contraction)
    (times lifted : List ℕ) (slacks : ℕ → ℕ) → IsReduction p fates whole c network
    → AreLifted p fates whole c times slacks → length lifted ≡ whole.events → All (λ t. t < whole.period) lifted
    → ((i : ℕ) → i < length whole.rows → slacks_at
    (record { period = whole.period; arcs = arcs_of_network whole.rows }) lifted i ≡ slacks i)
    → LiftedTo p fates whole network c times lifted
lifted_to p fates whole network c times lifted slacks r are n b each = record {
  count = n ∙ r.whole_events;
  below = subst (λ m. All (λ y. y < m) lifted) r.whole_period b;
  slacks = λ i l.
      ap (λ m. arc_slack m lifted (arc_of_net (net_row_at whole.rows i))) (sym r.whole_period)
      ∙ sym (ap (arc_slack whole.period lifted) (arc_at_net whole.rows i)) ∙ each i l ∙ are i l;
}

pub are_lifted : (p : Pesp) (fates lent_fates : List Fate) (whole : NetworkValue) (lent : List NetRow)
    (c : Contraction) (times stands shifts slacks lent_slacks : List ℕ) (period : ℕ) → period ≡ p.period
    → stands ≡ c.stands.items → shifts ≡ c.shifts.items → lent ≡ whole.rows → lent_fates ≡ fates
    → lent_slacks ≡ slacks
    → ((i : ℕ) → i < length lent → slice_index slacks i
    ≡ lifted_slack period stands shifts times (net_row_at lent i) (fate_at lent_fates i))
    → AreLifted p fates whole c times (slice_index lent_slacks)
are_lifted p fates lent_fates whole lent c times stands shifts slacks lent_slacks period e1 e2 e3 e4 e5 e6 h = λ i l.
    ap (λ xs. slice_index xs i) e6 ∙ h i (omega (arith, ap length e4))
    ∙ ap (λ m. lifted_slack m stands shifts times (net_row_at lent i) (fate_at lent_fates i)) e1
    ∙ ap (λ xs. lifted_slack p.period xs shifts times (net_row_at lent i) (fate_at lent_fates i)) e2
    ∙ ap (λ xs. lifted_slack p.period c.stands.items xs times (net_row_at lent i) (fate_at lent_fates i)) e3
    ∙ ap (λ xs. lifted_slack p.period c.stands.items c.shifts.items times (net_row_at xs i) (fate_at lent_fates i)) e4
    ∙ ap (λ xs. lifted_slack p.period c.stands.items c.shifts.items times (net_row_at whole.rows i) (fate_at xs i)) e5
