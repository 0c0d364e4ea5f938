-- Certificates of small instances, written by hand: they are valid, or they aren't.
use Rattle.std.proofs.Common.{◌≡◌, ℕ, ◌<◌, [], ◌∷◌, refl, ap, arith}
use Rattle.std.specs.Prelude.{ℤ, pos, negsuc, ◌-ℤ◌, Some, None, All}
use Rattle.std.proofs.lemmas.Int.{ints}
use Rattle.std.proofs.lemmas.List.Elements.{All-nil, All-head}
use lib.Signed.{le_z_yes}
use Rattle.pesp_problem.specs.declared.pair.Pair.{Pair}
use Rattle.pesp_problem.specs.declared.cut.Cut.TheVariants.{Offset}
use Rattle.pesp_problem.specs.Timetables.{Pesp, remainder, IsSatisfied, IsTimetableOfCost}
use Rattle.pesp_problem.specs.Arcs.{arcs_of, net_of}
use Rattle.pesp_problem.specs.Walks.{Names, RowExists, IsWalk}
use Rattle.pesp_problem.specs.Nodes.{root_slacks}
use Rattle.pesp_problem.specs.Families.{NoFamilyIsSupported}
use Rattle.pesp_problem.proofs.Worked.{row, plus, minus, pair, single, both, one_row, one_row_timetable, late, against, against_table, against_root, aside, aside_table, aside_root, aside_low, aside_high, loop, loop_table, tight_loop, large, crossed, crossed_table}
use Rattle.pesp_truth.specs.declared.answer.Answer.TheVariants.{Optimal, Infeasible, Bounded}
use Rattle.pesp_truth.specs.declared.tree.TreeLine.TheVariants.{Offset as OffsetLine, Bound as BoundLine, Nothing as NothingLine, Gap as GapLine, Propagated as PropagatedLine}
use Rattle.pesp_truth.specs.Trees.{Tree, Plain, Ends, Branch, Bound, Shut, ByPropagation, Nothing, Gap, IsSoundLeaf, IsSound}
use Rattle.pesp_truth.specs.Certificates.{Content, IsValid, ShowsAnswer}

-- what the pairs of a table of one cycle name
one_pair : (m : ℤ) → All (λ (x : Pair). Names 1 x.cycle) (pair 1 m ∷ [])
one_pair m = single (λ (x : Pair). Names 1 x.cycle) (pair 1 m) (omega arith, omega arith)

no_pairs : (n : ℕ) → All (λ (x : Pair). Names n x.cycle) []
no_pairs n = All-nil (λ (x : Pair). Names n x.cycle)

-- ---- no events, no rows

abbrev nothing : Pesp
nothing = record { period = 10; events = []; rows = [] }

abbrev nothing_certificate : Content
nothing_certificate = record { version = 1; period = 10; answer = Optimal 0; times = []; cycles = []; tree = BoundLine [] ∷ [] }

nothing_valid : IsValid None nothing nothing_certificate
nothing_valid = record {
  shown = tt;
  period = refl;
  answer = (refl, (((refl, All-nil (λ t. t < 10)), All-nil (λ r. IsSatisfied nothing [] r)), refl));
  cycles = All-nil (IsWalk (arcs_of nothing));
  tree = (Ends (Bound []), refl, (no_pairs 0, le_z_yes tt));
}

-- ---- one row, no cycle

abbrev one_row_certificate : Content
one_row_certificate = record {
  version = 1;
  period = 10;
  answer = Optimal 0;
  times = (pos 1, 0) ∷ (pos 2, 0) ∷ [];
  cycles = [];
  tree = BoundLine [] ∷ [];
}

one_row_valid : IsValid None one_row one_row_certificate
one_row_valid = record {
  shown = tt;
  period = refl;
  answer = (refl, one_row_timetable);
  cycles = All-nil (IsWalk (arcs_of one_row));
  tree = (Ends (Bound []), refl, (no_pairs 0, le_z_yes tt));
}

-- no timetable shown, and nothing but 0 claimed
abbrev late_certificate : Content
late_certificate = record { version = 1; period = 60; answer = Bounded 0 None; times = []; cycles = []; tree = BoundLine [] ∷ [] }

late_valid : IsValid None late late_certificate
late_valid = record {
  shown = tt;
  period = refl;
  answer = refl;
  cycles = All-nil (IsWalk (arcs_of late));
  tree = (Ends (Bound []), refl, (no_pairs 0, le_z_yes tt));
}

-- ---- two rows against one another

abbrev against_certificate : Content
against_certificate = record {
  version = 1;
  period = 10;
  answer = Optimal 3;
  times = (pos 1, 0) ∷ (pos 2, 3) ∷ [];
  cycles = against_table;
  tree = BoundLine (pair 1 (pos 1) ∷ []) ∷ [];
}

against_timetable : IsTimetableOfCost against (0 ∷ 3 ∷ []) 3
against_timetable = (
  (
    (refl, both (λ t. t < 10) 0 3 (omega arith) (omega arith)),
    both (λ r. IsSatisfied against (0 ∷ 3 ∷ []) r) (row (pos 1) 0 1 (pos 3) (pos 12) 2)
        (row (pos 2) 1 0 (pos 4) (pos 13) 1) (le_z_yes tt) (le_z_yes tt),
  ),
  refl,
)

against_walk : All (IsWalk (arcs_of against)) against_table
against_walk = single (IsWalk (arcs_of against)) (plus 1 ∷ plus 2 ∷ []) (
  both (RowExists (arcs_of against)) (plus 1) (plus 2) (omega arith, omega arith) (omega arith, omega arith),
  (refl, (refl, refl)),
)

against_valid : IsValid None against against_certificate
against_valid = record {
  shown = tt;
  period = refl;
  answer = (refl, against_timetable);
  cycles = against_walk;
  tree = (Ends (Bound (pair 1 (pos 1) ∷ [])), refl, (one_pair (pos 1), le_z_yes tt));
}

-- a bound below the cost
against_bounded : IsValid None against (record against_certificate { answer = Bounded 2 (Some 3) })
against_bounded = record {
  shown = tt;
  period = refl;
  answer = (omega arith, (refl, against_timetable));
  cycles = against_walk;
  tree = (Ends (Bound (pair 1 (pos 1) ∷ [])), refl, (one_pair (pos 1), le_z_yes tt));
}

-- not: another period, another cost, a bound that isn't below the cost, times beside an answer without a cost, another order of the labels
other_period : IsValid None against (record against_certificate { period = 11 }) → ⊥
other_period v = omega (arith, v.period)

wrong_cost : ShowsAnswer against (Optimal 2) (pos 1 ∷ pos 2 ∷ []) (0 ∷ 3 ∷ []) → ⊥
wrong_cost s = omega (arith, s.1.1)

wrong_shape : ShowsAnswer against (Bounded 3 (Some 3)) (pos 1 ∷ pos 2 ∷ []) (0 ∷ 3 ∷ []) → ⊥
wrong_shape s = omega (arith, s.0)

times_beside : ShowsAnswer against (Bounded 3 None) (pos 1 ∷ pos 2 ∷ []) (0 ∷ 3 ∷ []) → ⊥
times_beside s = cc

other_order : ShowsAnswer against (Optimal 3) (pos 2 ∷ pos 1 ∷ []) (0 ∷ 3 ∷ []) → ⊥
other_order s = cc (s.0)

-- not: a bound leaf where no least cost is wanted, a gap that is none
bound_in_infeasible : IsSoundLeaf (Plain None) (net_of against) against_table (Bound (pair 1 (pos 1) ∷ [])) against_root → ⊥
bound_in_infeasible s = s.1

no_gap : IsSoundLeaf (Plain None) (net_of against) against_table (Gap 1) against_root → ⊥
no_gap s = cc (s.1)

-- ---- two rows side by side

abbrev aside_certificate : Content
aside_certificate = record {
  version = 1;
  period = 10;
  answer = Optimal 5;
  times = (pos 1, 0) ∷ (pos 2, 0) ∷ [];
  cycles = aside_table;
  tree = OffsetLine 1 (negsuc 0) ∷ BoundLine (pair 1 (negsuc 0) ∷ []) ∷ BoundLine (pair 1 (pos 1) ∷ []) ∷ [];
}

abbrev aside_tree : Tree
aside_tree = Branch (Offset 1 (negsuc 0)) (Ends (Bound (pair 1 (negsuc 0) ∷ []))) (Ends (Bound (pair 1 (pos 1) ∷ [])))

aside_sound : IsSound (Plain (Some 5)) (net_of aside) aside_table aside_tree aside_root
aside_sound = ((omega arith, omega arith), (one_pair (negsuc 0), le_z_yes tt), (one_pair (pos 1), le_z_yes tt))

aside_timetable : IsTimetableOfCost aside (0 ∷ 0 ∷ []) 5
aside_timetable = (
  (
    (refl, both (λ t. t < 10) 0 0 (omega arith) (omega arith)),
    both (λ r. IsSatisfied aside (0 ∷ 0 ∷ []) r) (row (pos 1) 0 1 (pos 0) (pos 9) 1)
        (row (pos 2) 0 1 (pos 5) (pos 14) 1) (le_z_yes tt) (le_z_yes tt),
  ),
  refl,
)

aside_walk : All (IsWalk (arcs_of aside)) aside_table
aside_walk = single (IsWalk (arcs_of aside)) (plus 1 ∷ minus 2 ∷ []) (
  both (RowExists (arcs_of aside)) (plus 1) (minus 2) (omega arith, omega arith) (omega arith, omega arith),
  (refl, (refl, refl)),
)

aside_valid : IsValid None aside aside_certificate
aside_valid = record { shown = tt; period = refl; answer = (refl, aside_timetable); cycles = aside_walk; tree = (aside_tree, refl, aside_sound) }

-- not: the leaves exchanged, no pairs at the second part, one leaf for the whole with either sign
exchanged : IsSoundLeaf (Plain (Some 5)) (net_of aside) aside_table (Bound (pair 1 (pos 1) ∷ [])) aside_low → ⊥
exchanged s = omega (arith, s.1)

no_pairs_there : IsSoundLeaf (Plain (Some 5)) (net_of aside) aside_table (Bound []) aside_high → ⊥
no_pairs_there s = omega (arith, s.1)

minus_at_root : IsSoundLeaf (Plain (Some 5)) (net_of aside) aside_table (Bound (pair 1 (negsuc 0) ∷ [])) aside_root → ⊥
minus_at_root s = omega (arith, s.1)

plus_at_root : IsSoundLeaf (Plain (Some 5)) (net_of aside) aside_table (Bound (pair 1 (pos 1) ∷ [])) aside_root → ⊥
plus_at_root s = omega (arith, s.1)

-- not: a nothing leaf of value exactly 0, a nothing leaf that would do with the rows' weights
value_zero : IsSoundLeaf (Plain None) (net_of aside) aside_table (Nothing []) aside_root → ⊥
value_zero s = omega (arith, s.1)

takes_weights : IsSoundLeaf (Plain None) (net_of against) against_table (Nothing (pair 1 (pos 1) ∷ [])) against_root → ⊥
takes_weights s = omega (arith, s.1)

-- not: a walk that doesn't close, a cycle that doesn't exist
open_walk : IsWalk (arcs_of aside) (plus 1 ∷ plus 2 ∷ []) → ⊥
open_walk w = omega (arith, w.1.1.0)

no_such_cycle : IsSoundLeaf (Plain (Some 0)) (net_of aside) aside_table (Bound (pair 2 (pos 1) ∷ [])) aside_root → ⊥
no_such_cycle s = omega (arith, All-head (λ (x : Pair). Names 1 x.cycle) (pair 2 (pos 1)) [] s.0)

-- ---- loops

abbrev loop_certificate : Content
loop_certificate = record {
  version = 1;
  period = 10;
  answer = Optimal 14;
  times = (pos 1, 0) ∷ [];
  cycles = loop_table;
  tree = BoundLine (pair 1 (pos 2) ∷ []) ∷ [];
}

loop_valid : IsValid None loop loop_certificate
loop_valid = record {
  shown = tt;
  period = refl;
  answer = (
    refl,
    (
      (
        (refl, single (λ t. t < 10) 0 (omega arith)),
        single (λ r. IsSatisfied loop (0 ∷ []) r) (row (pos 1) 0 0 (pos 3) (pos 12) 2) (le_z_yes tt),
      ),
      refl,
    ),
  );
  cycles = single (IsWalk (arcs_of loop)) (plus 1 ∷ [])
      (single (RowExists (arcs_of loop)) (plus 1) (omega arith, omega arith), (refl, refl));
  tree = (Ends (Bound (pair 1 (pos 2) ∷ [])), refl, (one_pair (pos 2), le_z_yes tt));
}

-- no offset is left
abbrev tight_loop_certificate : Content
tight_loop_certificate = record { version = 1; period = 10; answer = Infeasible; times = []; cycles = loop_table; tree = GapLine 1 ∷ [] }

tight_loop_valid : IsValid None tight_loop tight_loop_certificate
tight_loop_valid = record {
  shown = tt;
  period = refl;
  answer = refl;
  cycles = single (IsWalk (arcs_of tight_loop)) (plus 1 ∷ [])
      (single (RowExists (arcs_of tight_loop)) (plus 1) (omega arith, omega arith), (refl, refl));
  tree = (Ends (Gap 1), refl, ((omega arith, omega arith), refl));
}

-- the same by propagation: no remainder of the loop is in its range
abbrev propagated_loop_certificate : Content
propagated_loop_certificate = record { version = 2; period = 10; answer = Infeasible; times = []; cycles = []; tree = PropagatedLine ∷ [] }

remainder_of_loop : (d e : ℕ) → d ≡ e → remainder 10 (pos e -ℤ pos d -ℤ pos 3) ≡ 7
remainder_of_loop d e same =
    let none : (pos e -ℤ pos d) ≡ pos 0 = omega (arith, ints, same) in
    ap (λ (z : ℤ). remainder 10 (z -ℤ pos 3)) none

no_loop_family : NoFamilyIsSupported (net_of tight_loop) (root_slacks (net_of tight_loop)) 1
no_loop_family s family supported some =
    let d = some 0 (omega arith) in
    let partner = (supported 0 (omega arith)).tails d.0 d.1 in
    omega (arith, partner.2.high, remainder_of_loop d.0 partner.0 (partner.2.loop refl))

propagated_loop_valid : IsValid None tight_loop propagated_loop_certificate
propagated_loop_valid = record {
  shown = tt;
  period = refl;
  answer = refl;
  cycles = All-nil (IsWalk (arcs_of tight_loop));
  tree = (Ends (Shut ByPropagation), refl, (1, no_loop_family));
}

-- numbers near the limits
abbrev large_certificate : Content
large_certificate = record {
  version = 1;
  period = 10000;
  answer = Optimal 9999000000000;
  times = (pos 1, 0) ∷ [];
  cycles = loop_table;
  tree = BoundLine (pair 1 (pos 1000000000) ∷ []) ∷ [];
}

large_valid : IsValid None large large_certificate
large_valid = record {
  shown = tt;
  period = refl;
  answer = (
    refl,
    (
      (
        (refl, single (λ t. t < 10000) 0 (omega arith)),
        single (λ r. IsSatisfied large (0 ∷ []) r) (row (pos 1) 0 0 (pos 1) (pos 1000000) 1000000000) (le_z_yes tt),
      ),
      refl,
    ),
  );
  cycles = single (IsWalk (arcs_of large)) (plus 1 ∷ [])
      (single (RowExists (arcs_of large)) (plus 1) (omega arith, omega arith), (refl, refl));
  tree = (Ends (Bound (pair 1 (pos 1000000000) ∷ [])), refl, (one_pair (pos 1000000000), le_z_yes tt));
}

-- ---- two cycles that only together show that there is no timetable

abbrev crossed_certificate : Content
crossed_certificate = record {
  version = 1;
  period = 10;
  answer = Infeasible;
  times = [];
  cycles = crossed_table;
  tree = NothingLine (pair 1 (pos 1) ∷ pair 2 (negsuc 0) ∷ []) ∷ [];
}

crossed_walks : All (IsWalk (arcs_of crossed)) crossed_table
crossed_walks =
    let first : IsWalk (arcs_of crossed) (plus 1 ∷ plus 2 ∷ []) = (
      both (RowExists (arcs_of crossed)) (plus 1) (plus 2) (omega arith, omega arith)
          (omega arith, omega arith),
      (refl, (refl, refl)),
    ) in
    let second : IsWalk (arcs_of crossed) (plus 1 ∷ minus 3 ∷ []) = (
      both (RowExists (arcs_of crossed)) (plus 1) (minus 3) (omega arith, omega arith)
          (omega arith, omega arith),
      (refl, (refl, refl)),
    ) in
    both (IsWalk (arcs_of crossed)) (plus 1 ∷ plus 2 ∷ []) (plus 1 ∷ minus 3 ∷ []) first second

crossed_valid : IsValid None crossed crossed_certificate
crossed_valid = record {
  shown = tt;
  period = refl;
  answer = refl;
  cycles = crossed_walks;
  tree = (
    Ends (Nothing (pair 1 (pos 1) ∷ pair 2 (negsuc 0) ∷ [])),
    refl,
    (
      both (λ (x : Pair). Names 2 x.cycle) (pair 1 (pos 1)) (pair 2 (negsuc 0)) (omega arith, omega arith)
          (omega arith, omega arith),
      omega arith,
    ),
  );
}
