-- What a shift of some events does to the slacks of arcs and to the cost.
use Rattle.std.specs.Prelude.{ℕ, ◌<◌, ◌≤◌, List, length, ℤ, pos, ◌+ℤ◌, ◌-ℤ◌, ◌*ℤ◌, ◌≤ℤ◌, Bool, if◌then◌else◌}
use Rattle.pesp_problem.specs.declared.arc.Arc.{Arc}
use Rattle.pesp_problem.specs.Timetables.{remainder}
use Rattle.pesp_problem.specs.Arcs.{Net, arc_at, arc_slack, over_arcs}
use Rattle.pesp_problem.specs.Roots.{Roots, below}

-- by how much the difference of the ends' times grows
abbrev pub arc_growth : (ℕ → Bool) → Arc → ℕ → ℤ
arc_growth side arc d = (if side arc.head then pos d else pos 0) -ℤ (if side arc.tail then pos d else pos 0)

-- the slack of an arc once the side is shifted
abbrev pub arc_moved : ℕ → List ℕ → (ℕ → Bool) → Arc → ℕ → ℕ
arc_moved period times side arc d = remainder period (pos (arc_slack period times arc) +ℤ arc_growth side arc d)

-- how much dearer all arcs become
abbrev pub cut_change : Net → List ℕ → (ℕ → Bool) → ℕ → ℤ
cut_change n times side d = over_arcs n.arcs (λ i.
    pos (arc_at n.arcs i).weight *ℤ (pos (arc_moved n.period times side (arc_at n.arcs i) d) -ℤ pos
    (arc_slack n.period times (arc_at n.arcs i))))

-- no amount below the period that keeps all arcs satisfied makes the times cheaper, when what is below c is shifted
abbrev pub IsCutBest : Net → List ℕ → Roots → ℕ → Type 0
IsCutBest net times r c = (d : ℕ) → d < net.period
    → ((i : ℕ) → i < length net.arcs → arc_moved net.period times (below r c) (arc_at net.arcs i) d
    ≤ (arc_at net.arcs i).span) → pos 0 ≤ℤ cut_change net times (below r c) d

-- for each event that a row joins upwards, what hangs below it
abbrev pub AreCutsBest : ℕ → Net → List ℕ → Roots → Type 0
AreCutsBest n net times r = (c : ℕ) → c < n → 0 < r.by c → IsCutBest net times r c
