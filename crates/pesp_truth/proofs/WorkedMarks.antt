-- Leaves with marked walks, worked by hand, against what the definitions compute.
use Rattle.std.proofs.Common.{◌≡◌, List, [], ◌∷◌, refl, false, arith}
use Rattle.std.specs.Prelude.{pos, Some}
use Rattle.std.proofs.lemmas.Int.{ints}
use lib.Signed.{le_z_yes}
use Rattle.pesp_problem.specs.declared.row.SignedRow.{SignedRow}
use Rattle.pesp_problem.specs.Timetables.{Pesp, cost}
use Rattle.pesp_problem.specs.Arcs.{net_of}
use Rattle.pesp_problem.specs.Nodes.{Node, root}
use Rattle.pesp_problem.proofs.Worked.{row, plus, minus, pair, single, aside, aside_table, aside_root, aside_high}
use Rattle.pesp_truth.specs.Trees.{Behind, cost_goal, Bound, IsSoundLeaf}
use Rattle.pesp_problem.specs.declared.marked.MarkedRow.{MarkedRow}
use Rattle.pesp_problem.specs.Marked.{rest, least_gain}
use Rattle.pesp_problem.specs.Sharp.{sharp_cost}
use Rattle.pesp_truth.specs.Marks.{Marks}
use Rattle.pesp_truth.specs.Named.{IsNamed, multipliers, names_more}

abbrev straight : SignedRow → MarkedRow
straight s = record { signed = s; flipped = false }

-- ---- a railway cycle of three rows, which last at least 10, 20 and 25 minutes at a period of 60

abbrev ring : Pesp
ring = record {
  period = 60;
  events = pos 1 ∷ pos 2 ∷ pos 3 ∷ [];
  rows = row (pos 1) 0 1 (pos 10) (pos 69) 1 ∷ row (pos 2) 1 2 (pos 20) (pos 79) 2
      ∷ row (pos 3) 2 0 (pos 25) (pos 84) 3 ∷ [];
}

abbrev ring_root : Node
ring_root = root (net_of ring) []

abbrev around : List MarkedRow
around = straight (plus 1) ∷ straight (plus 2) ∷ straight (plus 3) ∷ []

-- 5 minutes are left to wait
ring_rest : (rest (net_of ring) ring_root.slacks around ≡ 5) × (least_gain (net_of ring) ring_root.slacks around ≡ 275)
ring_rest = (refl, refl)

-- with no cycles the walk has number 1; under scale 55 it shows that they cost at least 5, as they do at times 0, 15 and 35
abbrev ring_marks : Marks
ring_marks = record { scale = 55; walks = around ∷ [] }

ring_cost : sharp_cost (net_of ring) [] ring_root (multipliers 0 ring_marks (pair 1 (pos 1) ∷ [])) ≡ Some (pos 5)
ring_cost = refl

ring_is_best : cost 60 ring.rows (0 ∷ 15 ∷ 35 ∷ []) ≡ 5
ring_is_best = refl

ring_sound : IsSoundLeaf (Behind ring_marks [] (cost_goal (net_of ring) (Some 5))) (net_of ring) [] (Bound (pair 1 (pos 1) ∷ [])) ring_root
ring_sound = (single (IsNamed 0 1) (pair 1 (pos 1)) ((omega arith, omega arith), λ above. omega (arith, ints)), le_z_yes tt)

-- ---- two rows side by side: behind the one cycle of the table the walk has number 2

abbrev aside_marks : Marks
aside_marks = record { scale = 5; walks = (straight (plus 1) ∷ straight (minus 2) ∷ []) ∷ [] }

aside_cost : sharp_cost (net_of aside) aside_table aside_root (multipliers 1 aside_marks (pair 2 (pos 1) ∷ [])) ≡ Some (pos 5)
aside_cost = refl

-- a leaf that names cycles alone has scale 1
aside_scale : (names_more 1 (pair 1 (pos 1) ∷ []) ≡ false) × ((multipliers 1 aside_marks (pair 1 (pos 1) ∷ [])).scale ≡ 1)
aside_scale = (refl, refl)

-- a cycle under multiplier 5 beside it counts once, and spoils the bound: 25 + 25 - 45 = 5 by 5
aside_both : sharp_cost (net_of aside) aside_table aside_high
    (multipliers 1 aside_marks (pair 1 (pos 5) ∷ pair 2 (pos 1) ∷ [])) ≡ Some (pos 1)
aside_both = refl
