-- A network's rows as arcs.
use Rattle.std.proofs.Common.{◌≡◌, ℕ, List, subst}
use Rattle.pesp_problem.specs.declared.arc.Arc.{Arc}
use Rattle.pesp_simplex.specs.declared.improved.Improved.{Improved}
use Rattle.pesp_simplex.specs.Improvements.{IsImproved}

-- the same network, named otherwise
pub improved_there : (period period' events events' : ℕ) (arcs arcs' : List Arc) (times : List ℕ) (i : Improved)
    → period ≡ period' → events ≡ events' → arcs ≡ arcs'
    → IsImproved (record { period = period; arcs = arcs }) events times i
    → IsImproved (record { period = period'; arcs = arcs' }) events' times i
improved_there period period' events events' arcs arcs' times i e f g h =
    let P : ℕ → Type 0 = λ p. IsImproved (record { period = p; arcs = arcs }) events times i in
    let Q : ℕ → Type 0 = λ n. IsImproved (record { period = period'; arcs = arcs }) n times i in
    let R : List Arc → Type 0 = λ xs. IsImproved (record { period = period'; arcs = xs }) events' times i in
    subst R g (subst Q f (subst P e h))
