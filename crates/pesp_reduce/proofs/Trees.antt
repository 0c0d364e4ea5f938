-- Flagged rows: the walks along them, and the walks over a tree of flagged rows and loops.
use Rattle.std.proofs.Common.{◌≡◌, ℕ, ◌-◌, ◌≤◌, inl, inr, refl, sym, ◌∙◌, ap, arith, subst, List, [], ◌∷◌, length, true, false, Bool, cond, All, ℤ, pos, ◌+ℤ◌, ◌*ℤ◌}
use Rattle.std.specs.Prelude.{if◌then◌else◌, filter, Contains}
use Rattle.std.proofs.lemmas.Int.{ints}
use Rattle.std.proofs.lemmas.Bool.{cases_Bool}
use Rattle.std.proofs.lemmas.List.Elements.{All-cons, All-nil, All-filter, filter_passes, All-contains}
use Rattle.pesp_problem.specs.declared.arc.Arc.{Arc}
use Rattle.pesp_problem.specs.declared.row.SignedRow.{SignedRow}
use Rattle.pesp_problem.specs.Arcs.{arc_at}
use Rattle.pesp_problem.specs.Walks.{Names, RowExists, AreRows, Leads, IsWalk, HasWholeOffset, start, finish, sign, net_count}
use Rattle.pesp_problem.specs.Forests.{IsSpanningForest}
use Rattle.pesp_problem.proofs.Walks.{net_count-cons, step_same, sum_along, net_count_sum}
use Rattle.pesp_problem.proofs.Integers.{sum_below-zero, zero-mul}
use Rattle.pesp_network.specs.declared.row.NetRow.{NetRow}
use Rattle.pesp_network.specs.Networks.{net_row_at, arc_of_net, arcs_of_network}
use Rattle.pesp_reduce.specs.Rows.{flag, row_or_loop, loop_at}
use Rattle.pesp_reduce.specs.Contractions.{HaveNoCycleAt, AreTree}
use Rattle.pesp_reduce.proofs.Lists.{arc_at_net, arcs_length}

-- ---- a forest has no loop

abbrev plus_of : ℕ → SignedRow
plus_of k = record { row = k; plus = true }

loop_counts : (k : ℕ) → 1 ≤ k → net_count (plus_of k ∷ []) (k - 1) ≡ pos 1
loop_counts k h =
    let first = net_count-cons (plus_of k) [] (k - 1) in
    let one = step_same (plus_of k) (k - 1) (omega arith) in
    omega (arith, ints, first, one)

one_not_none : pos 1 ≡ pos 0 → ⊥
one_not_none e = cc

pub no_loop_in : (arcs : List Arc) (forest : List ℕ) (k : ℕ) → IsSpanningForest arcs forest → Contains forest k
    → (arc_at arcs (k - 1)).tail ≡ (arc_at arcs (k - 1)).head → ⊥
no_loop_in arcs forest k f c e =
    let exists : Names (length arcs) k = All-contains (Names (length arcs)) forest k f.exist c in
    let s = plus_of k in
    let rows = All-cons (RowExists arcs) s [] exists (All-nil (RowExists arcs)) in
    let w : IsWalk arcs (s ∷ []) = (rows, (refl, sym e)) in
    let R : SignedRow → Type 0 = λ x. Contains forest x.row in
    let keeps = All-cons R s [] c (All-nil R) in
    one_not_none (sym (loop_counts k exists.0) ∙ f.no_cycle (s ∷ []) (k - 1) w keeps)

-- ---- closed ways along rows without a cycle

pub closed_counts : (arcs : List Arc) (flags : List Bool) (way : List SignedRow) (a i : ℕ)
    → HaveNoCycleAt arcs flags → AreRows arcs way → Leads arcs a way a
    → All (λ s. flag flags (s.row - 1) ≡ true) way → net_count way i ≡ pos 0
closed_counts arcs flags [] a i n r h k = refl
closed_counts arcs flags (s ∷ way) a i n r h k = n (s ∷ way) i (r, subst (λ x. Leads arcs x (s ∷ way) x) (sym h.0) h) k

pub closed_sum : (arcs : List Arc) (flags : List Bool) (way : List SignedRow) (a : ℕ) (g : ℕ → ℤ)
    → HaveNoCycleAt arcs flags → AreRows arcs way → Leads arcs a way a
    → All (λ s. flag flags (s.row - 1) ≡ true) way → sum_along way g ≡ pos 0
closed_sum arcs flags way a g n r h k =
    sym (net_count_sum arcs way g r)
    ∙ sum_below-zero (length arcs) (λ i. net_count way i *ℤ g i)
    (λ i l. ap (λ z. z *ℤ g i) (closed_counts arcs flags way a i n r h k) ∙ zero-mul (g i))

-- ---- a way over a tree, without its loops

abbrev pub is_flagged : List Bool → SignedRow → Bool
is_flagged flags s = flag flags (s.row - 1)

part_on : (b : Bool) (row : NetRow) → b ≡ true → row_or_loop b row ≡ row
part_on b row e = ap (λ (x : Bool). row_or_loop x row) e

part_off : (b : Bool) (row : NetRow) → b ≡ false
    → row_or_loop b row ≡ record {
      tail = row.tail;
      head = row.tail;
      lower = pos 0;
      span = 0;
      weight = 0;
      origin = row.origin;
    }
part_off b row e = ap (λ (x : Bool). row_or_loop x row) e

pub same_arc : (rows tree : List NetRow) (flags : List Bool) (i : ℕ) → AreTree rows tree flags
    → flag flags i ≡ true → arc_at (arcs_of_network tree) i ≡ arc_at (arcs_of_network rows) i
same_arc rows tree flags i t e = arc_at_net tree i
    ∙ ap arc_of_net (t.parts i ∙ part_on (flag flags i) (net_row_at rows i) e) ∙ sym (arc_at_net rows i)

pub loop_arc : (rows tree : List NetRow) (flags : List Bool) (i : ℕ) → AreTree rows tree flags
    → flag flags i ≡ false → arc_at (arcs_of_network tree) i ≡ arc_of_net (loop_at (net_row_at rows i))
loop_arc rows tree flags i t e = arc_at_net tree i ∙ ap arc_of_net (t.parts i ∙ part_off (flag flags i) (net_row_at rows i) e)

both_ends : (b : Bool) (x y : ℕ) → x ≡ y → (if b then x else y) ≡ (if b then y else x)
both_ends true x y e = e
both_ends false x y e = sym e

pub loop_stays : (arcs : List Arc) (s : SignedRow)
    → (arc_at arcs (s.row - 1)).tail ≡ (arc_at arcs (s.row - 1)).head → start arcs s ≡ finish arcs s
loop_stays arcs s e = both_ends s.plus (arc_at arcs (s.row - 1)).tail (arc_at arcs (s.row - 1)).head e

pub filter_on : (p : SignedRow → Bool) (s : SignedRow) (way : List SignedRow) → p s ≡ true → filter p (s ∷ way) ≡ s ∷ filter p way
filter_on p s way e = ap (λ (b : Bool). cond b (s ∷ filter p way) (filter p way)) e

pub filter_off : (p : SignedRow → Bool) (s : SignedRow) (way : List SignedRow) → p s ≡ false → filter p (s ∷ way) ≡ filter p way
filter_off p s way e = ap (λ (b : Bool). cond b (s ∷ filter p way) (filter p way)) e

pub leads_flagged : (rows tree : List NetRow) (flags : List Bool) (way : List SignedRow) (a b : ℕ)
    → AreTree rows tree flags → Leads (arcs_of_network tree) a way b
    → Leads (arcs_of_network rows) a (filter (is_flagged flags) way) b
leads_flagged rows tree flags [] a b t h = h
leads_flagged rows tree flags (s ∷ way) a b t h =
    let T = arcs_of_network tree in let R = arcs_of_network rows in
    let rest = leads_flagged rows tree flags way (finish T s) b t h.1 in
    let P : List SignedRow → Type 0 = λ w. Leads R a w b in
    elim (cases_Bool (is_flagged flags s)) [
      | inl e ↦
          let same = same_arc rows tree flags (s.row - 1) t e in
          let starts : start T s ≡ start R s = ap (λ (arc : Arc). if s.plus then arc.tail else arc.head) same in
          let ends : finish T s ≡ finish R s = ap (λ (arc : Arc). if s.plus then arc.head else arc.tail) same in
          subst P (sym (filter_on (is_flagged flags) s way e))
          (sym starts ∙ h.0, subst (λ x. Leads R x (filter (is_flagged flags) way) b) ends rest)
      | inr e ↦
          let arc = loop_arc rows tree flags (s.row - 1) t e in
          let stays = loop_stays T s (ap (λ (x : Arc). x.tail) arc ∙ sym (ap (λ (x : Arc). x.head) arc)) in
          subst P (sym (filter_off (is_flagged flags) s way e))
          (subst (λ x. Leads R x (filter (is_flagged flags) way) b) (sym stays ∙ h.0) rest)
    ]

times_none : (a b c : ℤ) → b ≡ pos 0 → a *ℤ b +ℤ c ≡ c
times_none a b c e = ap (λ z. a *ℤ z +ℤ c) e ∙ omega (arith, ints)

pub sum_flagged : (flags : List Bool) (f g : ℕ → ℤ) (way : List SignedRow)
    → ((i : ℕ) → flag flags i ≡ true → f i ≡ g i) → ((i : ℕ) → flag flags i ≡ false → f i ≡ pos 0)
    → sum_along way f ≡ sum_along (filter (is_flagged flags) way) g
sum_flagged flags f g [] h k = refl
sum_flagged flags f g (s ∷ way) h k =
    let rest = sum_flagged flags f g way h k in
    elim (cases_Bool (is_flagged flags s)) [
      | inl e ↦
          ap (λ z. sign s *ℤ z +ℤ sum_along way f) (h (s.row - 1) e) ∙ ap (λ z. sign s *ℤ g (s.row - 1) +ℤ z) rest
          ∙ sym (ap (λ w. sum_along w g) (filter_on (is_flagged flags) s way e))
      | inr e ↦ times_none (sign s) (f (s.row - 1)) (sum_along way f) (k (s.row - 1) e) ∙ rest
          ∙ sym (ap (λ w. sum_along w g) (filter_off (is_flagged flags) s way e))
    ]

-- the lower bounds along a walk over the tree add up to 0, so that with all slacks 0 it has an offset
pub tree_whole : (period : ℕ) (rows tree : List NetRow) (flags : List Bool) (slacks : ℕ → ℕ)
    (walk : List SignedRow) → AreTree rows tree flags → ((i : ℕ) → slacks i ≡ 0)
    → IsWalk (arcs_of_network tree) walk
    → HasWholeOffset (record { period = period; arcs = arcs_of_network tree }) slacks walk
tree_whole period rows tree flags slacks [] t z w = absurd w
tree_whole period rows tree flags slacks (s ∷ way) t z w =
    let T = arcs_of_network tree in let R = arcs_of_network rows in
    let walk : List SignedRow = s ∷ way in
    let term : ℕ → ℤ = λ i. (arc_at T i).lower +ℤ pos (slacks i) in
    let low : ℕ → ℤ = λ i. (arc_at R i).lower in
    let F : List SignedRow = filter (is_flagged flags) walk in
    let on : (i : ℕ) → flag flags i ≡ true → term i ≡ low i = λ i e.
    let same = ap (λ (x : Arc). x.lower) (same_arc rows tree flags i t e) in let none = z i in omega (arith, ints) in
    let off : (i : ℕ) → flag flags i ≡ false → term i ≡ pos 0 = λ i e.
    let same = ap (λ (x : Arc). x.lower) (loop_arc rows tree flags i t e) in let none = z i in omega (arith, ints) in
    let all = net_count_sum T walk term w.0 in
    let fewer = sum_flagged flags term low walk on off in
    let same_count : length T ≡ length R = arcs_length tree ∙ t.tree_count ∙ sym (arcs_length rows) in
    let exists : All (RowExists R) walk = subst (λ (n : ℕ). All (λ (x : SignedRow). Names n x.row) walk) same_count w.0 in
    let none = closed_sum R flags F (start T s) low t.no_cycle
    (All-filter (is_flagged flags) (RowExists R) walk exists)
    (leads_flagged rows tree flags walk (start T s) (start T s) t w.1)
    (filter_passes (is_flagged flags) walk) in
    (pos 0, omega (arith, ints, all, fewer, none))
