-- A conflict has no more rows than an instance may have.
use Rattle.std.proofs.Common.{ℕ, ◌≤◌, List, length, arith}
use Rattle.std.proofs.lemmas.List.Elements.{All-get_or}
use Rattle.pesp_problem.specs.Timetables.{Pesp}
use Rattle.pesp_problem.specs.Limits.{KeepsLimits}
use Rattle.pesp_problem.specs.Walks.{Names}
use Rattle.pesp_problem.proofs.Counting.{rising_short}
use Rattle.pesp_conflict.specs.Findings.{IsConflict}

pub conflict_is_short : (p : Pesp) (rows : List ℕ) → KeepsLimits p → IsConflict p rows → length rows ≤ 100000
conflict_is_short p rows limits conflict =
    let short = rising_short rows (length p.rows) conflict.rising (λ k l. All-get_or (Names (length p.rows)) rows k 0 l conflict.exist) in
    let most = limits.rows in
    omega (arith, short, most)
