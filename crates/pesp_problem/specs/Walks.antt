-- Closed walks over signed rows, their net counts and their offsets.
use Rattle.std.specs.Prelude.{◌≡◌, ℕ, ◌+◌, ◌-◌, ◌≤◌, List, [], ◌∷◌, length, ℤ, pos, negsuc, ◌+ℤ◌, ◌-ℤ◌, ◌*ℤ◌, All, count_by, if◌then◌else◌, ◌&&◌, not, ◌==◌}
use Rattle.pesp_problem.specs.declared.row.SignedRow.{SignedRow}
use Rattle.pesp_problem.specs.declared.arc.Arc.{Arc}
use Rattle.pesp_problem.specs.Arcs.{Net, arc_at, over_arcs}

-- a number from 1 names one of n things
abbrev pub Names : ℕ → ℕ → Type 0
Names n number = (1 ≤ number) × (number ≤ n)

-- a signed row is of a row that exists
abbrev pub RowExists : List Arc → SignedRow → Type 0
RowExists arcs s = Names (length arcs) s.row

-- the event at which a signed row begins, and the one at which it ends
abbrev pub start : List Arc → SignedRow → ℕ
start arcs s = if s.plus then (arc_at arcs (s.row - 1)).tail else (arc_at arcs (s.row - 1)).head

-- the event at which a signed row ends
abbrev pub finish : List Arc → SignedRow → ℕ
finish arcs s = if s.plus then (arc_at arcs (s.row - 1)).head else (arc_at arcs (s.row - 1)).tail

-- the signed rows lead from event a to event b, each from where the one before ends
abbrev pub Leads : List Arc → ℕ → List SignedRow → ℕ → Type 0
Leads arcs a [] b = a ≡ b
Leads arcs a (s ∷ way) b = (start arcs s ≡ a) × Leads arcs (finish arcs s) way b

-- all rows of the way exist
abbrev pub AreRows : List Arc → List SignedRow → Type 0
AreRows arcs way = All (RowExists arcs) way

-- at least one signed row, of rows that exist; the ends meet in order and close
abbrev pub IsWalk : List Arc → List SignedRow → Type 0
IsWalk arcs [] = ⊥
IsWalk arcs (s ∷ walk) = AreRows arcs (s ∷ walk) × Leads arcs (start arcs s) (s ∷ walk) (start arcs s)

-- 1 under a plus sign, -1 under a minus sign
abbrev pub sign : SignedRow → ℤ
sign s = if s.plus then pos 1 else negsuc 0

-- the plus signs of the row at place i, whose number is i + 1, less its minus signs
abbrev pub net_count : List SignedRow → ℕ → ℤ
net_count walk i = pos (count_by (λ s. s.plus && (s.row == i + 1)) walk) -ℤ pos (count_by (λ s. not s.plus && (s.row == i + 1)) walk)

-- the sum of net count times duration, lower bound plus slack, is the period times z (cycle periodicity)
abbrev pub HasOffset : Net → (ℕ → ℕ) → List SignedRow → ℤ → Type 0
HasOffset n slacks walk z = over_arcs n.arcs (λ i. net_count walk i *ℤ ((arc_at n.arcs i).lower +ℤ pos (slacks i))) ≡ pos n.period *ℤ z

-- these slacks give the walk a whole offset
abbrev pub HasWholeOffset : Net → (ℕ → ℕ) → List SignedRow → Type 0
HasWholeOffset n slacks walk = (z : ℤ) × HasOffset n slacks walk z
