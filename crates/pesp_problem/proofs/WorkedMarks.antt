-- Small leaves worked by hand, against what the definitions compute.
use Rattle.std.proofs.Common.{◌≡◌, List, [], ◌∷◌, refl, true, false}
use Rattle.std.specs.Prelude.{pos, negsuc, neg_ℤ, Some}
use Rattle.pesp_problem.specs.declared.row.SignedRow.{SignedRow}
use Rattle.pesp_problem.specs.Timetables.{cost}
use Rattle.pesp_problem.specs.Arcs.{net_of}
use Rattle.pesp_problem.specs.Nodes.{Node}
use Rattle.pesp_problem.proofs.Worked.{plus, minus, aside, aside_table, aside_root}
use Rattle.pesp_problem.specs.declared.marked.MarkedRow.{MarkedRow}
use Rattle.pesp_problem.specs.Marked.{rest, gain, least_gain}
use Rattle.pesp_problem.specs.Sharp.{Multipliers, sharp_value, sharp_cost}

abbrev straight : SignedRow → MarkedRow
straight s = record { signed = s; flipped = false }

abbrev turned : SignedRow → MarkedRow
turned s = record { signed = s; flipped = true }

-- ---- two rows side by side, which no pairs bound above 0 at the root

abbrev across : List MarkedRow
across = straight (plus 1) ∷ straight (minus 2) ∷ []

across_rest : (rest (net_of aside) aside_root.slacks across ≡ 5) × (least_gain (net_of aside) aside_root.slacks across ≡ 25)
across_rest = (refl, refl)

-- one marked walk shows the least cost, which is that of a timetable
abbrev once : Multipliers
once = record { scale = 5; pairs = []; multiples = record { mult = 1; walk = across } ∷ [] }

across_value : sharp_value (net_of aside) aside_table aside_root once true ≡ Some (pos 25)
across_value = refl

across_cost : sharp_cost (net_of aside) aside_table aside_root once ≡ Some (pos 5)
across_cost = refl

aside_is_best : cost 10 aside.rows (0 ∷ 0 ∷ []) ≡ 5
aside_is_best = refl

-- rounded up: 24 by 5
abbrev less : Multipliers
less = record { scale = 6; pairs = []; multiples = record { mult = 1; walk = across } ∷ [] }

less_cost : sharp_cost (net_of aside) aside_table aside_root less ≡ Some (pos 5)
less_cost = refl

-- ---- the same with the second row flipped: it is measured from slack 9 and its direction is plus

abbrev flipped_across : List MarkedRow
flipped_across = straight (plus 1) ∷ turned (minus 2) ∷ []

-- the bases are 0 and 14, so the rest is 14 by 10, and the gain is 6 y1 + 6 (9 - y2)
flipped_rest : (rest (net_of aside) aside_root.slacks flipped_across ≡ 4)
    × (least_gain (net_of aside) aside_root.slacks flipped_across ≡ 24)
flipped_rest = (refl, refl)

flipped_gain : gain (net_of aside) aside_root.slacks (λ i. 5) flipped_across ≡ pos 54
flipped_gain = refl

-- ---- ranges that hold no timetable

abbrev narrow : Node
narrow = record { slacks = (0, 4) ∷ (0, 4) ∷ []; offsets = (negsuc 0, pos 0) ∷ [] }

-- from the low ends the slacks are together at least 5, and from the high ends at most 3: the two walks show that no slacks do both
abbrev across_back : List MarkedRow
across_back = turned (plus 1) ∷ turned (minus 2) ∷ []

abbrev both : Multipliers
both = record { scale = 1; pairs = []; multiples = record { mult = 1; walk = across } ∷ record { mult = 1; walk = across_back } ∷ [] }

narrow_rest : (rest (net_of aside) narrow.slacks across_back ≡ 5) × (least_gain (net_of aside) narrow.slacks across_back ≡ 25)
narrow_rest = (refl, refl)

narrow_value : sharp_value (net_of aside) aside_table narrow both false ≡ Some (pos 10)
narrow_value = refl

-- one of them alone shows nothing
narrow_one : sharp_value (net_of aside) aside_table narrow
    (record both { multiples = record { mult = 1; walk = across } ∷ [] }) false ≡ Some (neg_ℤ (pos 15))
narrow_one = refl
