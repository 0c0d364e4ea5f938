-- How often a lifted walk passes kept rows, and which slacks give it a whole offset.
use Rattle.std.proofs.Common.{◌≡◌, ◌≢◌, ℕ, ◌+◌, ◌-◌, ◌*◌, ◌<◌, inl, inr, refl, sym, ◌∙◌, ap, arith, subst, Bool, List, [], ◌∷◌, length, map, true, false, All, ℤ, pos, ◌+ℤ◌, ◌-ℤ◌, ◌*ℤ◌}
use Rattle.std.specs.Prelude.{filter, ◌↔◌}
use Rattle.std.proofs.lemmas.Int.{ints}
use Rattle.std.proofs.lemmas.Bool.{cases_Bool, cases_eq}
use Rattle.std.proofs.lemmas.List.Elements.{All-head, All-tail}
use Rattle.pesp_problem.specs.declared.arc.Arc.{Arc}
use Rattle.pesp_problem.specs.declared.row.SignedRow.{SignedRow}
use Rattle.pesp_problem.specs.Timetables.{Pesp}
use Rattle.pesp_problem.specs.Arcs.{Net, arc_at, arcs_of, net_of, over_arcs}
use Rattle.pesp_problem.specs.Walks.{RowExists, AreRows, IsWalk, sign, net_count, HasWholeOffset}
use Rattle.pesp_problem.proofs.Arcs.{length-arcs_of}
use Rattle.pesp_problem.proofs.Integers.{mul-add, mul-sub, sum_below-same, sum_below-add}
use Rattle.pesp_problem.proofs.Walks.{step, sum_along, net_count_sum, net_count-cons, step_same, step_other}
use Rattle.pesp_network.specs.declared.row.NetRow.{NetRow}
use Rattle.pesp_network.specs.Networks.{NetworkValue, net_row_at, arcs_of_network, net_of_network}
use Rattle.pesp_reduce.specs.declared.fate.Fate.{Fate}
use Rattle.pesp_reduce.specs.declared.fate.Fate.TheVariants.{Contracted, Kept}
use Rattle.pesp_reduce.specs.declared.contraction.Contraction.{Contraction}
use Rattle.pesp_problem.specs.Congruences.{IsSame}
use Rattle.pesp_reduce.specs.Fates.{fate_at, is_kept}
use Rattle.pesp_reduce.specs.LiftedWalks.{original_row, passes_kept, IsKeptOrContracted, lower_sum, IsLiftOf}
use Rattle.pesp_reduce.specs.Reductions.{ReducedValue, IsReduction, IsReducedRow, AreTightAtContracted, left_slacks, origin_place}
use Rattle.pesp_reduce.proofs.Lists.{arcs_length}
use Rattle.pesp_reduce.proofs.Trees.{filter_on, filter_off}
use Rattle.pesp_reduce.proofs.LowerSums.{rows_of_walk, sum_of_originals}
use Rattle.pesp_reduce.proofs.Results.{reduced_row}
use Rattle.pesp_reduce.proofs.LiftedResults.{left_of, lifted_closes, lifted_kept, lifted_others, lifted_lower}

-- a walk of what is left, as it is lifted to the instance
pub record IsLifted (r : ReducedValue) (walk lifted : List SignedRow) : Type 0 where
  pub closes : IsWalk (arcs_of r.original) lifted
  pub kept : filter (passes_kept r.fates) lifted ≡ map (original_row r.network.rows) walk
  pub others : All (IsKeptOrContracted r.fates) lifted
  pub lower : IsSame r.original.period (lower_sum (arcs_of r.original) lifted) (lower_sum (arcs_of_network r.network.rows) walk)

-- each row comes from another one
pub record ComeApart (r : ReducedValue) : Type 0 where
  pub rows : (j : ℕ) → j < length r.network.rows → IsReducedRow r j
  pub apart : (j k : ℕ) → j < length r.network.rows → k < length r.network.rows
      → (net_row_at r.network.rows j).origin ≡ (net_row_at r.network.rows k).origin → j ≡ k

-- ---- net counts

place_is : (i : ℕ) → (i + 1) - 1 ≡ i
place_is i = omega arith

not_passed : (fates : List Fate) (s : SignedRow) (i : ℕ) → fate_at fates i ≡ Kept → passes_kept fates s ≡ false → s.row ≢ i + 1
not_passed fates s i k e q =
    let same = ap (λ (n : ℕ). is_kept (fate_at fates (n - 1))) q ∙ ap (λ (n : ℕ). is_kept (fate_at fates n)) (place_is i) ∙ ap is_kept k in
    let clash : false ≡ true = sym e ∙ same in
    cc

-- rows that aren't kept don't count
counts_of_kept : (fates : List Fate) (way : List SignedRow) (i : ℕ) → fate_at fates i ≡ Kept
    → net_count way i ≡ net_count (filter (passes_kept fates) way) i
counts_of_kept fates [] i k = refl
counts_of_kept fates (s ∷ way) i k =
    let rest = counts_of_kept fates way i k in
    let first = net_count-cons s way i in
    elim (cases_Bool (passes_kept fates s)) [
      | inl e ↦
          let is = ap (λ (w : List SignedRow). net_count w i) (filter_on (passes_kept fates) s way e) in
          omega (arith, ints, rest, first, is, net_count-cons s (filter (passes_kept fates) way) i)
      | inr e ↦
          let is = ap (λ (w : List SignedRow). net_count w i) (filter_off (passes_kept fates) s way e) in
          omega (arith, ints, rest, first, is, step_other s i (not_passed fates s i k e))
    ]

step_of_original : (r : ReducedValue) (s : SignedRow) (j : ℕ) → ComeApart r
    → RowExists (arcs_of_network r.network.rows) s → j < length r.network.rows
    → step (original_row r.network.rows s) (origin_place r.network j) ≡ step s j
step_of_original r s j a x l =
    let rows = r.network.rows in
    let count = arcs_length rows in
    let inside : s.row - 1 < length rows = omega (arith, x, count) in
    let names = (a.rows j l).names in
    let own : origin_place r.network j + 1 ≡ (net_row_at rows j).origin = omega (arith, names) in
    elim (cases_eq s.row (j + 1)) [
      | inl e ↦
          let at : (net_row_at rows (s.row - 1)).origin
          ≡ (net_row_at rows j).origin = ap (λ (n : ℕ). (net_row_at rows (n - 1)).origin) e
          ∙ ap (λ (n : ℕ). (net_row_at rows n).origin) (place_is j) in
          step_same (original_row rows s) (origin_place r.network j) (at ∙ sym own) ∙ sym (step_same s j e)
      | inr ne ↦
          let other : (original_row rows s).row
          ≢ origin_place r.network j + 1 = λ q. ne
          (let same = a.apart (s.row - 1) j inside l (q ∙ own) in let some = x.0 in
          omega (arith, same, some)) in
          step_other (original_row rows s) (origin_place r.network j) other ∙ sym (step_other s j ne)
    ]

counts_of_originals : (r : ReducedValue) (walk : List SignedRow) (j : ℕ) → ComeApart r
    → AreRows (arcs_of_network r.network.rows) walk → j < length r.network.rows
    → net_count (map (original_row r.network.rows) walk) (origin_place r.network j) ≡ net_count walk j
counts_of_originals r [] j a x l = refl
counts_of_originals r (s ∷ walk) j a x l =
    let rows = r.network.rows in
    let E = RowExists (arcs_of_network rows) in
    let rest = counts_of_originals r walk j a (All-tail E s walk x) l in
    let one = step_of_original r s j a (All-head E s walk x) l in
    omega (
      arith,
      ints,
      rest,
      one,
      net_count-cons s walk j,
      net_count-cons (original_row rows s) (map (original_row rows) walk) (origin_place r.network j),
    )

pub lifted_counts : (r : ReducedValue) (walk lifted : List SignedRow) (j : ℕ) → ComeApart r
    → IsWalk (arcs_of_network r.network.rows) walk → IsLifted r walk lifted → j < length r.network.rows
    → net_count lifted (origin_place r.network j) ≡ net_count walk j
lifted_counts r walk lifted j a w h l =
    let i = origin_place r.network j in
    counts_of_kept r.fates lifted i (a.rows j l).kept ∙ ap (λ (way : List SignedRow). net_count way i) h.kept
    ∙ counts_of_originals r walk j a (rows_of_walk (arcs_of_network r.network.rows) walk w) l

-- ---- offsets

-- numbers that are 0 at contracted rows add up alike over what is kept
along_kept : (arcs : List Arc) (fates : List Fate) (g : ℕ → ℤ) (walk : List SignedRow) → AreRows arcs walk
    → All (IsKeptOrContracted fates) walk → ((i : ℕ) → i < length arcs → fate_at fates i ≡ Contracted
    → g i ≡ pos 0) → sum_along walk g ≡ sum_along (filter (passes_kept fates) walk) g
along_kept arcs fates g [] rows which zeros = refl
along_kept arcs fates g (s ∷ walk) rows which zeros =
    let rest = along_kept arcs fates g walk (All-tail (RowExists arcs) s walk rows)
    (All-tail (IsKeptOrContracted fates) s walk which) zeros in
    let exists = All-head (RowExists arcs) s walk rows in
    elim (All-head (IsKeptOrContracted fates) s walk which) [
      | inl kept ↦
          ap (λ (x : ℤ). sign s *ℤ g (s.row - 1) +ℤ x) rest
          ∙ sym (ap (λ (way : List SignedRow). sum_along way g)
          (filter_on (passes_kept fates) s walk (ap is_kept kept)))
      | inr contracted ↦
          let zero : g (s.row - 1) ≡ pos 0 = zeros (s.row - 1) (omega (arith, exists)) contracted in
          let none : sign s *ℤ g (s.row - 1) ≡ pos 0 = rw zero (omega (arith, ints)) in
          let fewer = ap (λ (way : List SignedRow). sum_along way g) (filter_off (passes_kept fates) s walk (ap is_kept contracted)) in
          omega (arith, ints, none, rest, fewer)
    ]

-- the sum of net count times slack along the lifted walk and along the walk
same_slacks : (r : ReducedValue) (walk lifted : List SignedRow) (slacks : ℕ → ℕ)
    → IsWalk (arcs_of_network r.network.rows) walk → IsLifted r walk lifted → AreTightAtContracted r slacks
    → over_arcs (arcs_of r.original) (λ i. net_count lifted i *ℤ pos (slacks i))
    ≡ over_arcs (arcs_of_network r.network.rows) (λ j. net_count walk j *ℤ pos (left_slacks r slacks j))
same_slacks r walk lifted slacks closed h tight =
    let g : ℕ → ℤ = λ i. pos (slacks i) in
    let rows = r.network.rows in
    let arcs = arcs_of_network rows in
    let own : ℕ → ℤ = λ j. pos (left_slacks r slacks j) in
    let lifted_rows = rows_of_walk (arcs_of r.original) lifted h.closes in
    let count = length-arcs_of r.original in
    let along = net_count_sum (arcs_of r.original) lifted g lifted_rows in
    let kept = along_kept (arcs_of r.original) r.fates g lifted lifted_rows h.others
    (λ i l e. ap (λ (n : ℕ). pos n) (tight i (omega (arith, l, count)) e)) in
    let original = ap (λ (way : List SignedRow). sum_along way g) h.kept in
    let back = sum_of_originals rows g own walk (λ k d l. refl) in
    let over = net_count_sum arcs walk own (rows_of_walk arcs walk closed) in
    along ∙ kept ∙ original ∙ back ∙ sym over

-- sums of net count times lower bound and slack apart
split_sum : (n : Net) (walk : List SignedRow) (slacks : ℕ → ℕ)
    → over_arcs n.arcs (λ i. net_count walk i *ℤ ((arc_at n.arcs i).lower +ℤ pos (slacks i)))
    ≡ lower_sum n.arcs walk +ℤ over_arcs n.arcs (λ i. net_count walk i *ℤ pos (slacks i))
split_sum n walk slacks =
    sum_below-same (length n.arcs) _ (λ i. net_count walk i *ℤ (arc_at n.arcs i).lower
    +ℤ net_count walk i *ℤ pos (slacks i)) (λ i l.
    mul-add (net_count walk i) (arc_at n.arcs i).lower (pos (slacks i)))
    ∙ sum_below-add (length n.arcs) (λ i. net_count walk i *ℤ (arc_at n.arcs i).lower) (λ i. net_count walk i *ℤ pos (slacks i))

whole_again : (t more less : ℕ) (a b s z : ℤ) → a +ℤ s ≡ pos t *ℤ z → (a +ℤ pos (t * more)) ≡ (b +ℤ pos (t * less))
    → b +ℤ s ≡ pos t *ℤ ((z +ℤ pos more) -ℤ pos less)
whole_again t more less a b s z h e =
    let out = mul-sub (pos t) (z +ℤ pos more) (pos less) in
    let sum = mul-add (pos t) z (pos more) in
    let first : pos t *ℤ pos more ≡ pos (t * more) = refl in
    let second : pos t *ℤ pos less ≡ pos (t * less) = refl in
    omega (arith, ints, h, e, out, sum, first, second)

down : (r : ReducedValue) (walk lifted : List SignedRow) (slacks : ℕ → ℕ) → r.network.period ≡ r.original.period
    → IsWalk (arcs_of_network r.network.rows) walk → IsLifted r walk lifted → AreTightAtContracted r slacks
    → HasWholeOffset (net_of r.original) slacks lifted → HasWholeOffset (net_of_network r.network) (left_slacks r slacks) walk
down r walk lifted slacks period closed h tight o =
    let t = r.original.period in
    let sums = same_slacks r walk lifted slacks closed h tight in
    let above = over_arcs (arcs_of r.original) (λ i. net_count lifted i *ℤ pos (slacks i)) in
    let sum : lower_sum (arcs_of r.original) lifted +ℤ above ≡ pos t *ℤ o.0 = sym (split_sum (net_of r.original) lifted slacks) ∙ o.1 in
    let z = (o.0 +ℤ pos h.lower.more) -ℤ pos h.lower.less in
    let again = whole_again t h.lower.more h.lower.less (lower_sum (arcs_of r.original) lifted)
    (lower_sum (arcs_of_network r.network.rows) walk) above o.0 sum h.lower.even in (
      z,
      split_sum (net_of_network r.network) walk (left_slacks r slacks)
          ∙ ap (λ (x : ℤ). lower_sum (arcs_of_network r.network.rows) walk +ℤ x) (sym sums) ∙ again
          ∙ ap (λ (k : ℕ). pos k *ℤ z) (sym period),
    )

up : (r : ReducedValue) (walk lifted : List SignedRow) (slacks : ℕ → ℕ) → r.network.period ≡ r.original.period
    → IsWalk (arcs_of_network r.network.rows) walk → IsLifted r walk lifted → AreTightAtContracted r slacks
    → HasWholeOffset (net_of_network r.network) (left_slacks r slacks) walk → HasWholeOffset (net_of r.original) slacks lifted
up r walk lifted slacks period closed h tight o =
    let t = r.original.period in
    let sums = same_slacks r walk lifted slacks closed h tight in
    let below = over_arcs (arcs_of_network r.network.rows) (λ j. net_count walk j *ℤ pos (left_slacks r slacks j)) in
    let sum : lower_sum (arcs_of_network r.network.rows) walk +ℤ below
    ≡ pos t *ℤ o.0 = sym (split_sum (net_of_network r.network) walk (left_slacks r slacks)) ∙ o.1
    ∙ ap (λ (k : ℕ). pos k *ℤ o.0) period in
    let z = (o.0 +ℤ pos h.lower.less) -ℤ pos h.lower.more in
    let again = whole_again t h.lower.less h.lower.more (lower_sum (arcs_of_network r.network.rows) walk)
    (lower_sum (arcs_of r.original) lifted) below o.0 sum (sym h.lower.even) in
    (z, split_sum (net_of r.original) lifted slacks ∙ ap (λ (x : ℤ). lower_sum (arcs_of r.original) lifted +ℤ x) sums ∙ again)

pub lifted_offsets : (r : ReducedValue) (walk lifted : List SignedRow) (slacks : ℕ → ℕ)
    → r.network.period ≡ r.original.period → IsWalk (arcs_of_network r.network.rows) walk → IsLifted r walk lifted
    → AreTightAtContracted r slacks
    → HasWholeOffset (net_of r.original) slacks lifted ↔ HasWholeOffset (net_of_network r.network) (left_slacks r slacks) walk
lifted_offsets r walk lifted slacks period closed h tight =
    (down r walk lifted slacks period closed h tight, up r walk lifted slacks period closed h tight)

-- ---- the lift of a walk

-- it closes over kept and contracted rows, counts as the walk does, and takes the slacks that the walk takes
pub record HasLift (r : ReducedValue) (walk lifted : List SignedRow) : Type 0 where
  pub is : IsLifted r walk lifted
  pub counts : (j : ℕ) → j < length r.network.rows → net_count lifted (origin_place r.network j) ≡ net_count walk j
  pub offsets : (slacks : ℕ → ℕ) → AreTightAtContracted r slacks
      → HasWholeOffset (net_of r.original) slacks lifted
      ↔ HasWholeOffset (net_of_network r.network) (left_slacks r slacks) walk

abbrev value_of : Pesp → List Fate → NetworkValue → Contraction → ReducedValue
value_of p fates network c = record { original = p; fates = fates; stands = c.stands.items; shifts = c.shifts.items; network = network }

-- the lift of a lent walk over lent rows
lift_at : (whole lent left lent_left : List NetRow) (flags : List Bool) (walk lent_walk rows : List SignedRow)
    → lent ≡ whole → lent_left ≡ left → lent_walk ≡ walk → IsLiftOf lent flags lent_left lent_walk rows
    → IsLiftOf whole flags left walk rows
lift_at whole lent left lent_left flags walk lent_walk rows e f g h =
    subst (λ xs. IsLiftOf whole flags left xs rows) g
    (subst (λ xs. IsLiftOf whole flags xs lent_walk rows) f
    (subst (λ xs. IsLiftOf xs flags lent_left lent_walk rows) e h))

pub has_lift : (p : Pesp) (fates : List Fate) (whole network : NetworkValue) (c : Contraction) (r : ReducedValue)
    (lent lent_left : List NetRow) (walk lent_walk rows lifted : List SignedRow)
    → IsReduction p fates whole c network → value_of p fates network c ≡ r → lent ≡ whole.rows → lent_left ≡ network.rows → lent_walk ≡ walk
    → IsWalk (arcs_of_network r.network.rows) walk → IsLiftOf lent c.contracted.items lent_left lent_walk rows
    → lifted ≡ rows → HasLift r walk lifted
has_lift p fates whole network c r lent lent_left walk lent_walk rows lifted h value whole_is left_is walk_is closed lift lifted_is =
    let v = value_of p fates network c in
    let given = subst (λ (x : ReducedValue). IsWalk (arcs_of_network x.network.rows) walk) (sym value) closed in
    let own = lift_at whole.rows lent network.rows lent_left c.contracted.items walk lent_walk rows whole_is left_is walk_is lift in
    let apart : ComeApart v = record {
      rows = λ j l. reduced_row p fates whole network c j h l;
      apart = (left_of p fates whole network c h).apart;
    } in
    let is : IsLifted v walk rows = record {
      closes = lifted_closes p fates whole network c walk rows h given own;
      kept = lifted_kept p fates whole network c walk rows h given own;
      others = lifted_others p fates whole network c walk rows h given own;
      lower = lifted_lower p fates whole network c walk rows h given own;
    } in
    let all : HasLift v walk rows = record {
      is = is;
      counts = λ j l. lifted_counts v walk rows j apart given is l;
      offsets = λ slacks tight. lifted_offsets v walk rows slacks h.period given is tight;
    } in
    subst (λ x. HasLift x walk lifted) value (subst (λ xs. HasLift v walk xs) (sym lifted_is) all)
