-- The sizes of what is read at a row.
use Rattle.std.proofs.Common.{ℕ, ◌<◌, ◌≤◌, List, length, arith, subst, FitsSigned, to_z, of_z, ◌≡◌}
use Rattle.std.specs.Prelude.{ℤ, unsigned_abs, All}
use Rattle.std.specs.Int.{w64, int_min}
use Rattle.std.proofs.lemmas.Int.{ints, clamps, to_z-of_z}
use Rattle.std.proofs.lemmas.List.{length-map, get_or-map}
use Rattle.pesp_problem.specs.declared.arc.Arc.{Arc}
use Rattle.pesp_problem.specs.declared.row.SignedRow.{SignedRow}
use Rattle.pesp_problem.specs.Arcs.{arc_at, no_arc}
use Rattle.pesp_problem.specs.Walks.{RowExists, AreRows}
use Rattle.pesp_problem.specs.declared.marked.MarkedRow.{MarkedRow}
use Rattle.pesp_problem.specs.Marked.{signed_rows}
use Rattle.pesp_problem.specs.Terms.{AreSmallArcs}

pub arc_small : (arcs : List Arc) (i : ℕ) → AreSmallArcs arcs → i < length arcs
    → (unsigned_abs (arc_at arcs i).lower ≤ 1020000) × ((arc_at arcs i).weight ≤ 1000000000)
arc_small arcs i are l = are.each i no_arc l

-- the rows of a marked walk exist
pub marked_exist : (arcs : List Arc) (walk : List MarkedRow) → AreRows arcs (signed_rows walk) → All (λ s. RowExists arcs s.signed) walk
marked_exist arcs walk rows k d l =
    let long : length (signed_rows walk) ≡ length walk = length-map walk (λ (s : MarkedRow). s.signed) in
    let P : SignedRow → Type 0 = RowExists arcs in
    subst P (get_or-map (λ (s : MarkedRow). s.signed) walk k d d.signed l) (rows k d.signed (omega (arith, long)))

-- the lesser of two numbers is no larger than both
pub lesser_small : (z a b : ℤ) (m : ℕ) → z ≡ int_min a b → unsigned_abs a ≤ m → unsigned_abs b ≤ m → unsigned_abs z ≤ m
lesser_small z a b m e h k = omega (arith, ints, clamps)

pub kept_lower : (z : ℤ) → unsigned_abs z ≤ 1020000 → to_z w64 (of_z w64 z) ≡ z
kept_lower z h = let fits : FitsSigned w64 z = omega (arith, ints) in to_z-of_z w64 z fits
