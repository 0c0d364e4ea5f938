-- A row of the network at a cut: it crosses, and moves as a crossing row does, or it stays.
use Rattle.std.proofs.Common.{◌≡◌, ℕ, ℤ, pos, ◌<◌, ◌+ℤ◌, ap, ◌∙◌, arith, List, true, false}
use Rattle.std.specs.Prelude.{unsigned_abs, neg_ℤ, Bool}
use Rattle.std.specs.Int.{int_rem_euclid}
use Rattle.std.proofs.lemmas.Int.{ints}
use Rattle.pesp_propagate.specs.declared.crossing.Crossing.{Crossing}
use Rattle.pesp_propagate.specs.Shifts.{moved}
use Rattle.pesp_problem.specs.declared.arc.Arc.{Arc}
use Rattle.pesp_problem.specs.Arcs.{arc_slack}
use Rattle.pesp_propagate.specs.Cuts.{arc_growth, arc_moved}
use Rattle.pesp_problem.proofs.Integers.{remainder-lt}
use Rattle.pesp_propagate.proofs.Shifting.{remainder_of}

abbrev pub crossing_of : ℕ → List ℕ → Arc → Bool → Crossing
crossing_of period times arc inward = record { slack = arc_slack period times arc; span = arc.span; weight = arc.weight; inward = inward }

same_growth : (period y : ℕ) (a b : ℤ) → a ≡ b
    → unsigned_abs (int_rem_euclid (pos y +ℤ a) (pos period))
    ≡ unsigned_abs (int_rem_euclid (pos y +ℤ b) (pos period))
same_growth period y a b e = ap (λ (z : ℤ). unsigned_abs (int_rem_euclid (pos y +ℤ z) (pos period))) e

pub crosses_in : (period : ℕ) (times : List ℕ) (below : ℕ → Bool) (arc : Arc) (d : ℕ) → below arc.head ≡ true
    → below arc.tail ≡ false → arc_moved period times below arc d
    ≡ moved period (crossing_of period times arc true) d
crosses_in period times below arc d h t =
    let e : arc_growth below arc d ≡ pos d = rw (h, t) (omega (arith, ints)) in
    same_growth period (arc_slack period times arc) (arc_growth below arc d) (pos d) e

pub crosses_out : (period : ℕ) (times : List ℕ) (below : ℕ → Bool) (arc : Arc) (d : ℕ) → below arc.head ≡ false
    → below arc.tail ≡ true → arc_moved period times below arc d
    ≡ moved period (crossing_of period times arc false) d
crosses_out period times below arc d h t =
    let e : arc_growth below arc d ≡ neg_ℤ (pos d) = rw (h, t) (omega (arith, ints)) in
    same_growth period (arc_slack period times arc) (arc_growth below arc d) (neg_ℤ (pos d)) e

pub stays : (period : ℕ) (times : List ℕ) (below : ℕ → Bool) (arc : Arc) (d : ℕ) → 0 < period
    → below arc.head ≡ below arc.tail → arc_moved period times below arc d ≡ arc_slack period times arc
stays period times below arc d some h =
    let e : arc_growth below arc d ≡ pos 0 = rw h (omega (arith, ints)) in
    let y = arc_slack period times arc in
    same_growth period y (arc_growth below arc d) (pos 0) e
    ∙ remainder_of (pos y +ℤ pos 0) (pos 0) period y (remainder-lt _ period some) (omega (arith, ints))
