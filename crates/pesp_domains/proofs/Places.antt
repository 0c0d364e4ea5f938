-- Rows by their numbers.
use Rattle.std.proofs.Common.{◌≡◌, ℕ, ◌+◌, ◌-◌, sym, ap, arith, List}
use Rattle.pesp_problem.specs.declared.arc.Arc.{Arc}
use Rattle.pesp_problem.specs.Arcs.{arc_at, tail_of, head_of}

pub row_more : (arcs : List Arc) (i : ℕ) → arc_at arcs (i + 1 - 1) ≡ arc_at arcs i
row_more arcs i = let e : i + 1 - 1 ≡ i = omega arith in ap (λ (j : ℕ). arc_at arcs j) e

pub tail_more : (arcs : List Arc) (i : ℕ) → (arc_at arcs i).tail ≡ tail_of arcs (i + 1)
tail_more arcs i = ap (λ (r : Arc). r.tail) (sym (row_more arcs i))

pub head_more : (arcs : List Arc) (i : ℕ) → (arc_at arcs i).head ≡ head_of arcs (i + 1)
head_more arcs i = ap (λ (r : Arc). r.head) (sym (row_more arcs i))
