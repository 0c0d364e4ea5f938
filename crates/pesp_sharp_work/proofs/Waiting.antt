-- How the paths that wait change at the end of a path.
use Rattle.std.proofs.Common.{◌≡◌, ℕ, ◌+◌, ◌<◌, arith, ap, sym, ◌∙◌, List, [], ◌∷◌, ◌++◌, length, get_or, set, take, append_assoc, append-nil, true}
use Rattle.std.proofs.lemmas.List.{length-set}
use Rattle.std.proofs.lemmas.Grind.{take_at_read, take-set_at}
use Rattle.std.proofs.Math.Seq.{take-length}
use Rattle.pesp_problem.specs.declared.cut.Cut.{Cut}
use Rattle.pesp_problem.specs.declared.cut.Side.{Side}
use Rattle.pesp_problem.specs.declared.cut.Side.TheVariants.{Low, High}
use Rattle.pesp_sharp_work.specs.Jobs.{Path}
use Rattle.pesp_sharp_work.specs.Paths.{paths_beside, paths_behind, paths_passed, paths_waiting, paths_branched}

-- a step more at the end of a path, which stands behind some steps
behind_more : (before path : Path) (cut : Cut) (side : Side)
    → paths_behind before (path ++ (cut, side) ∷ []) ≡ paths_beside (before ++ path) cut side ++ paths_behind before path
behind_more before [] cut side =
    ap (λ (b : Path). paths_beside b cut side) (sym (append-nil before)) ∙ sym (append-nil (paths_beside (before ++ []) cut side))
behind_more before (step ∷ path) cut side =
    let there = before ++ step ∷ [] in
    ap (λ (paths : List Path). paths ++ paths_beside before step.0 step.1)
    (behind_more there path cut side
    ∙ ap (λ (b : Path). paths_beside b cut side ++ paths_behind there path) (append_assoc before (step ∷ []) path))
    ∙ append_assoc (paths_beside (before ++ step ∷ path) cut side) (paths_behind there path) (paths_beside before step.0 step.1)

-- into the first part: the second waits
pub go_low : (path : Path) (cut : Cut) → paths_waiting true (path ++ (cut, Low) ∷ []) ≡ paths_branched path cut
go_low path cut = ap (λ (paths : List Path). (path ++ (cut, Low) ∷ []) ∷ paths) (behind_more [] path cut Low)

-- out of a second part: the same paths wait
pub leave_high : (path : Path) (cut : Cut) → paths_passed (path ++ (cut, High) ∷ []) ≡ paths_passed path
leave_high path cut = behind_more [] path cut High

-- from a first part over to the second
pub turn_low : (path : Path) (cut : Cut) → paths_waiting true (path ++ (cut, High) ∷ []) ≡ paths_passed (path ++ (cut, Low) ∷ [])
turn_low path cut =
    ap (λ (paths : List Path). (path ++ (cut, High) ∷ []) ∷ paths) (leave_high path cut) ∙ sym (behind_more [] path cut Low)

-- ---- by places

last_of : (path : Path) (top : ℕ) (last : Cut × Side) → top + 1 ≡ length path → last ≡ get_or path top last → path ≡ take top path ++ last ∷ []
last_of path top last e is =
    let within : top < length path = omega arith in
    sym (take-length path) ∙ ap (λ n. take n path) (sym e) ∙ (take_at_read path top last within).1
    ∙ ap (λ u. take top path ++ u ∷ []) (sym is)

side_is : (path : Path) (top : ℕ) (last : Cut × Side) (side : Side) → top + 1 ≡ length path → last ≡ get_or path top last
    → last.1 ≡ side → path ≡ take top path ++ (last.0, side) ∷ []
side_is path top last side e is s = last_of path top last e is ∙ ap (λ (x : Side). take top path ++ (last.0, x) ∷ []) s

-- the last step leads to a second part
pub leave_at : (path : Path) (top : ℕ) (last : Cut × Side) → top + 1 ≡ length path → last ≡ get_or path top last
    → last.1 ≡ High → paths_passed (take top path) ≡ paths_passed path
leave_at path top last e is s = sym (leave_high (take top path) last.0) ∙ ap paths_passed (sym (side_is path top last High e is s))

-- it leads to a first part
pub turn_at : (path : Path) (top : ℕ) (last : Cut × Side) → top + 1 ≡ length path → last ≡ get_or path top last
    → last.1 ≡ Low → paths_waiting true (set path top (last.0, High)) ≡ paths_passed path
turn_at path top last e is s =
    let new : Cut × Side = (last.0, High) in
    let within : top < length path = omega arith in
    let whole : set path top new ≡ take top path ++ new ∷ [] = sym (take-length (set path top new))
    ∙ take-set_at path top _ new (length-set path top new ∙ sym e) within in
    ap (λ (q : Path). paths_waiting true q) whole ∙ turn_low (take top path) last.0
    ∙ ap paths_passed (sym (side_is path top last Low e is s))
