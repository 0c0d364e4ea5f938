-- What a reduction says of lifted walks.
use Rattle.std.proofs.Common.{◌≡◌, ℕ, ◌-◌, ◌<◌, inl, inr, refl, sym, ◌∙◌, ap, arith, subst, List, [], ◌∷◌, length, get_or, map, true, false, Bool, cond, not, All, ℤ, pos, ◌+ℤ◌, ◌-ℤ◌}
use Rattle.std.specs.Prelude.{slice_index, filter}
use Rattle.std.proofs.lemmas.Int.{ints}
use Rattle.std.proofs.lemmas.Bool.{cases_Bool}
use Rattle.std.proofs.lemmas.List.Elements.{All-nil, All-cons, All-head, All-tail, All-weaker, All-map}
use Rattle.pesp_problem.specs.declared.arc.Arc.{Arc}
use Rattle.pesp_problem.specs.declared.row.SignedRow.{SignedRow}
use Rattle.pesp_problem.specs.Timetables.{Pesp}
use Rattle.pesp_problem.specs.Arcs.{arc_at, arcs_of}
use Rattle.pesp_problem.specs.Walks.{RowExists, AreRows, IsWalk}
use Rattle.pesp_network.specs.declared.row.NetRow.{NetRow}
use Rattle.pesp_network.specs.Networks.{NetworkValue, net_row_at, arcs_of_network, KeepsNetLimits, RowKeepsNetLimits}
use Rattle.pesp_reduce.specs.declared.fate.Fate.{Fate}
use Rattle.pesp_reduce.specs.declared.fate.Fate.TheVariants.{Free, Kept}
use Rattle.pesp_reduce.specs.declared.contraction.Contraction.{Contraction}
use Rattle.pesp_problem.specs.Congruences.{IsSame}
use Rattle.pesp_reduce.specs.Rows.{flag}
use Rattle.pesp_reduce.specs.Contractions.{IsStanding}
use Rattle.pesp_reduce.specs.Fates.{fate_at, is_kept}
use Rattle.pesp_reduce.specs.Reductions.{IsReduction, origin_place}
use Rattle.pesp_reduce.specs.LiftedWalks.{original_row, passes_kept, IsKeptOrContracted, lower_sum, is_other, IsContractionOf, AreLeftOf, IsLiftOf}
use Rattle.pesp_reduce.proofs.Lists.{arc_at_net, arcs_length}
use Rattle.pesp_reduce.proofs.Ways.{walk_same}
use Rattle.pesp_reduce.proofs.Trees.{filter_on, filter_off}
use Rattle.pesp_reduce.proofs.Keeping.{places}
use Rattle.pesp_reduce.proofs.Results.{comes_from, reduced_row, not_free, not_free_contracted}
use Rattle.pesp_reduce.proofs.Fated.{sizes_agree}
use Rattle.pesp_reduce.proofs.LowerSums.{excess, rows_of_walk, same_lower_sums}

-- ---- the parts that a lift is made of

pub contraction_of : (p : Pesp) (fates : List Fate) (whole network : NetworkValue) (c : Contraction)
    → IsReduction p fates whole c network → KeepsNetLimits whole → IsContractionOf whole.rows c
contraction_of p fates whole network c r k =
    let ic = r.contraction in
    let events : whole.events ≡ c.tree.events = r.whole_events ∙ sym ic.tree_events in
    let R = RowKeepsNetLimits whole.period whole.events in
    record {
      tree = ic.tree;
      standing = subst (λ n. IsStanding (arcs_of_network c.tree.rows) n c.stands.items c.firsts.items) (sym ic.tree_events) ic.standing;
      together = ic.together;
      tails = All-weaker R (λ row. row.tail < c.tree.events) (λ row l. subst (λ n. row.tail < n) events l.tail) whole.rows k.each;
      heads = All-weaker R (λ row. row.head < c.tree.events) (λ row l. subst (λ n. row.head < n) events l.head) whole.rows k.each;
    }

not_flagged : (p : Pesp) (fates : List Fate) (whole network : NetworkValue) (c : Contraction) (i : ℕ)
    → IsReduction p fates whole c network → fate_at fates i ≡ Kept → flag c.contracted.items i ≡ false
not_flagged p fates whole network c i r e =
    elim (cases_Bool (flag c.contracted.items i)) [
      | inl t ↦ absurd (let q = sym e ∙ r.flagged i t in cc)
      | inr f ↦ f
    ]

pub left_of : (p : Pesp) (fates : List Fate) (whole network : NetworkValue) (c : Contraction)
    → IsReduction p fates whole c network → AreLeftOf whole.rows c network.rows
left_of p fates whole network c r =
    let S = slice_index c.stands.items in
    let place : (j : ℕ) → (l : j < length network.rows)
    → (net_row_at network.rows j).origin - 1 ≡ (comes_from p fates whole network c j r l).place =
    λ j l. omega (arith, (comes_from p fates whole network c j r l).origin) in
    record {
      names = λ j l. let f = comes_from p fates whole network c j r l in let o = f.origin in let b = f.below in
          let n = r.whole_count in (omega arith, omega arith);
      other = λ j l. ap (flag c.contracted.items) (place j l)
          ∙ not_flagged p fates whole network c (comes_from p fates whole network c j r l).place r
          (comes_from p fates whole network c j r l).kept;
      tails = λ j l. ap (λ (row : NetRow). row.tail) (comes_from p fates whole network c j r l).row
          ∙ ap (λ k. S (net_row_at whole.rows k).tail) (sym (place j l));
      heads = λ j l. ap (λ (row : NetRow). row.head) (comes_from p fates whole network c j r l).row
          ∙ ap (λ k. S (net_row_at whole.rows k).head) (sym (place j l));
      apart = λ j k l m e.
          let f = comes_from p fates whole network c j r l in let g = comes_from p fates whole network c k r m in
          let same : f.place ≡ g.place = omega (arith, f.origin, g.origin, e) in
          sym f.stands ∙ ap (places fates) same ∙ g.stands;
    }

-- ---- filters

filter_same : (p q : SignedRow → Bool) (xs : List SignedRow) → All (λ s. p s ≡ q s) xs → filter p xs ≡ filter q xs
filter_same p q [] h = refl
filter_same p q (s ∷ xs) h =
    let E : SignedRow → Type 0 = λ x. p x ≡ q x in
    let here = All-head E s xs h in
    ap (λ (b : Bool). cond b (s ∷ filter p xs) (filter p xs)) here
    ∙ ap (λ ys. cond (q s) (s ∷ ys) ys) (filter_same p q xs (All-tail E s xs h))

-- what holds of all that pass a test holds of each that passes it
of_passed : (P : SignedRow → Type 0) (test : SignedRow → Bool) (xs : List SignedRow) → All P (filter test xs)
    → All (λ s. test s ≡ true → P s) xs
of_passed P test [] h = All-nil (λ (s : SignedRow). test s ≡ true → P s)
of_passed P test (s ∷ xs) h =
    let Q : SignedRow → Type 0 = λ x. test x ≡ true → P x in
    elim (cases_Bool (test s)) [
      | inl e ↦
          let here = subst (λ ys. All P ys) (filter_on test s xs e) h in
          All-cons Q s xs (λ t. All-head P s (filter test xs) here) (of_passed P test xs (All-tail P s (filter test xs) here))
      | inr e ↦
          All-cons Q s xs (λ t. absurd (let q = sym e ∙ t in cc)) (of_passed P test xs (subst (λ ys. All P ys) (filter_off test s xs e) h))
    ]

-- ---- the rows that a lifted walk passes

kept_originals : (p : Pesp) (fates : List Fate) (whole network : NetworkValue) (c : Contraction)
    (walk : List SignedRow) → IsReduction p fates whole c network → AreRows (arcs_of_network network.rows) walk
    → All (λ s. fate_at fates (s.row - 1) ≡ Kept) (map (original_row network.rows) walk)
kept_originals p fates whole network c walk r w =
    All-map (λ s. fate_at fates (s.row - 1) ≡ Kept) (original_row network.rows) walk
    (All-weaker (RowExists (arcs_of_network network.rows))
    (λ s. fate_at fates ((original_row network.rows s).row - 1) ≡ Kept)
    (λ s x. (reduced_row p fates whole network c (s.row - 1) r (omega (arith, x, arcs_length network.rows))).kept) walk w)

-- a passed row is kept or flagged
pub passed_rows : (p : Pesp) (fates : List Fate) (whole network : NetworkValue) (c : Contraction)
    (walk lifted : List SignedRow) → IsReduction p fates whole c network
    → IsWalk (arcs_of_network network.rows) walk → IsLiftOf whole.rows c.contracted.items network.rows walk lifted
    → All (λ s. is_other c.contracted.items s ≡ true → fate_at fates (s.row - 1) ≡ Kept) lifted
passed_rows p fates whole network c walk lifted r w v =
    let P : SignedRow → Type 0 = λ s. fate_at fates (s.row - 1) ≡ Kept in
    of_passed P (is_other c.contracted.items) lifted
    (subst (λ xs. All P xs) (sym v.others) (kept_originals p fates whole network c walk r
    (rows_of_walk (arcs_of_network network.rows) walk w)))

kept_or_contracted : (p : Pesp) (fates : List Fate) (whole network : NetworkValue) (c : Contraction)
    (s : SignedRow) → IsReduction p fates whole c network
    → (is_other c.contracted.items s ≡ true → fate_at fates (s.row - 1) ≡ Kept) → IsKeptOrContracted fates s
kept_or_contracted p fates whole network c s r h =
    elim (cases_Bool (flag c.contracted.items (s.row - 1))) [
      | inl t ↦ inr (r.flagged (s.row - 1) t)
      | inr f ↦ inl (h (ap not f))
    ]

pub lifted_others : (p : Pesp) (fates : List Fate) (whole network : NetworkValue) (c : Contraction)
    (walk lifted : List SignedRow) → IsReduction p fates whole c network
    → IsWalk (arcs_of_network network.rows) walk → IsLiftOf whole.rows c.contracted.items network.rows walk lifted
    → All (IsKeptOrContracted fates) lifted
lifted_others p fates whole network c walk lifted r w v =
    All-weaker (λ s. is_other c.contracted.items s ≡ true → fate_at fates (s.row - 1) ≡ Kept)
    (IsKeptOrContracted fates) (λ s h. kept_or_contracted p fates whole network c s r h) lifted
    (passed_rows p fates whole network c walk lifted r w v)

same_test : (p : Pesp) (fates : List Fate) (whole network : NetworkValue) (c : Contraction) (s : SignedRow)
    → IsReduction p fates whole c network → (is_other c.contracted.items s ≡ true
    → fate_at fates (s.row - 1) ≡ Kept) → passes_kept fates s ≡ is_other c.contracted.items s
same_test p fates whole network c s r h =
    elim (cases_Bool (flag c.contracted.items (s.row - 1))) [
      | inl t ↦ ap is_kept (r.flagged (s.row - 1) t) ∙ sym (ap not t)
      | inr f ↦ ap is_kept (h (ap not f)) ∙ sym (ap not f)
    ]

pub lifted_kept : (p : Pesp) (fates : List Fate) (whole network : NetworkValue) (c : Contraction)
    (walk lifted : List SignedRow) → IsReduction p fates whole c network
    → IsWalk (arcs_of_network network.rows) walk → IsLiftOf whole.rows c.contracted.items network.rows walk lifted
    → filter (passes_kept fates) lifted ≡ map (original_row network.rows) walk
lifted_kept p fates whole network c walk lifted r w v =
    filter_same (passes_kept fates) (is_other c.contracted.items) lifted
    (All-weaker (λ s. is_other c.contracted.items s ≡ true → fate_at fates (s.row - 1) ≡ Kept)
    (λ s. passes_kept fates s ≡ is_other c.contracted.items s)
    (λ s h. same_test p fates whole network c s r h) lifted
    (passed_rows p fates whole network c walk lifted r w v))
    ∙ v.others

some_fate : (fates : List Fate) (s : SignedRow) → IsKeptOrContracted fates s → fate_at fates (s.row - 1) ≡ Free → ⊥
some_fate fates s (inl e) q = not_free (fate_at fates (s.row - 1)) e q
some_fate fates s (inr e) q = not_free_contracted (fate_at fates (s.row - 1)) e q

pub lifted_closes : (p : Pesp) (fates : List Fate) (whole network : NetworkValue) (c : Contraction)
    (walk lifted : List SignedRow) → IsReduction p fates whole c network
    → IsWalk (arcs_of_network network.rows) walk → IsLiftOf whole.rows c.contracted.items network.rows walk lifted
    → IsWalk (arcs_of p) lifted
lifted_closes p fates whole network c walk lifted r w v =
    let A = arcs_of p in let W = arcs_of_network whole.rows in
    let exist = rows_of_walk W lifted v.closes in
    let others = lifted_others p fates whole network c walk lifted r w v in
    let same : All (λ s. arc_at A (s.row - 1) ≡ arc_at W (s.row - 1)) lifted = λ i d l.
    let x = exist i d l in let n = arcs_length whole.rows in let m = r.whole_count in
    sym (r.others ((get_or lifted i d).row - 1) (omega arith) (some_fate fates (get_or lifted i d) (others i d l))).0 in
    walk_same W A lifted (sym (sizes_agree p fates whole network c r)) same v.closes

-- ---- the sum of lower bounds

abbrev shift_at : Contraction → ℕ → ℤ
shift_at c e = pos (slice_index c.shifts.items e)

nothing_left : (period : ℕ) (rise lower : ℤ) → IsSame period rise lower → IsSame period (lower -ℤ rise) (pos 0)
nothing_left period rise lower h = record { more = h.less; less = h.more; even = let e = h.even in omega (arith, ints) }

contracted_excess : (p : Pesp) (fates : List Fate) (whole network : NetworkValue) (c : Contraction) (i : ℕ)
    → IsReduction p fates whole c network → flag c.contracted.items i ≡ true
    → IsSame p.period (excess (arcs_of p) (shift_at c) i) (pos 0)
contracted_excess p fates whole network c i r e =
    let inside = (r.contraction.tree.fixed i e).0 in
    let o = (r.others i (omega (arith, r.whole_count)) (not_free_contracted (fate_at fates i) (r.flagged i e))).0 in
    let arc = arc_at (arcs_of p) i in
    let tight = subst (λ (a : Arc). IsSame p.period
    (pos (slice_index c.shifts.items a.head) -ℤ pos (slice_index c.shifts.items a.tail)) a.lower)
    (sym (arc_at_net whole.rows i) ∙ o) (r.contraction.shifts.tight i e) in
    nothing_left p.period (pos (slice_index c.shifts.items arc.head) -ℤ pos (slice_index c.shifts.items arc.tail)) arc.lower tight

less_rise : (lower tail head : ℤ) → (lower -ℤ (head -ℤ tail)) ≡ ((lower +ℤ tail) -ℤ head)
less_rise lower tail head = omega (arith, ints)

kept_excess : (p : Pesp) (fates : List Fate) (whole network : NetworkValue) (c : Contraction) (s : SignedRow)
    → IsReduction p fates whole c network → RowExists (arcs_of_network network.rows) s
    → excess (arcs_of p) (shift_at c) ((original_row network.rows s).row - 1) ≡ (arc_at (arcs_of_network network.rows) (s.row - 1)).lower
kept_excess p fates whole network c s r x =
    let j = s.row - 1 in
    let row = reduced_row p fates whole network c j r (omega (arith, x, arcs_length network.rows)) in
    let arc = arc_at (arcs_of p) (origin_place network j) in
    less_rise arc.lower (shift_at c arc.tail) (shift_at c arc.head) ∙ sym row.lower
    ∙ sym (ap (λ (a : Arc). a.lower) (arc_at_net network.rows j))

other_is : (b : Bool) → not b ≡ false → b ≡ true
other_is true e = refl
other_is false e = cc

pub lifted_lower : (p : Pesp) (fates : List Fate) (whole network : NetworkValue) (c : Contraction)
    (walk lifted : List SignedRow) → IsReduction p fates whole c network
    → IsWalk (arcs_of_network network.rows) walk → IsLiftOf whole.rows c.contracted.items network.rows walk lifted
    → IsSame p.period (lower_sum (arcs_of p) lifted) (lower_sum (arcs_of_network network.rows) walk)
lifted_lower p fates whole network c walk lifted r w v =
    let B = arcs_of_network network.rows in
    same_lower_sums p.period (arcs_of p) network.rows (shift_at c) (is_other c.contracted.items) walk lifted
    (lifted_closes p fates whole network c walk lifted r w v) w v.others
    (λ i d l e. contracted_excess p fates whole network c ((get_or lifted i d).row - 1) r
    (other_is (flag c.contracted.items ((get_or lifted i d).row - 1)) e))
    (All-weaker (RowExists B) (λ s. excess (arcs_of p) (shift_at c) ((original_row network.rows s).row - 1)
    ≡ (arc_at B (s.row - 1)).lower) (λ s x. kept_excess p fates whole network c s r x) walk
    (rows_of_walk B walk w))
