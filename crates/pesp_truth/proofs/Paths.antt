-- How a path and the nodes that wait change at its end: with the current node kept and changed in place, no node that
-- waits has to be stored.
use Rattle.std.specs.Prelude.{ℤ, pos}
use Rattle.std.proofs.Common.{ℕ, zero, suc, ◌-◌, set, get_or, ◌≡◌, List, [], ◌∷◌, ◌++◌, refl, sym, ap, ◌∙◌, append_assoc}
use Rattle.std.proofs.lemmas.List.{append-nil}
use Rattle.pesp_problem.specs.declared.cut.Cut.{Cut}
use Rattle.pesp_problem.specs.declared.cut.Side.{Side}
use Rattle.pesp_problem.specs.declared.cut.Side.TheVariants.{Low, High}
use Rattle.pesp_problem.specs.declared.cut.Cut.TheVariants.{Slack, Offset}
use Rattle.pesp_problem.specs.Nodes.{Node, slack_range, offset_range, part, high_part}
use Rattle.pesp_truth.specs.Paths.{along, beside, waiting_beside}

pub along-push : (node : Node) (path : List (Cut × Side)) (cut : Cut) (side : Side)
    → along node (path ++ (cut, side) ∷ []) ≡ part (along node path) cut side
along-push node [] cut side = refl
along-push node (step ∷ path) cut side = along-push (part node step.0 step.1) path cut side

waiting-push : (node : Node) (path : List (Cut × Side)) (cut : Cut) (side : Side)
    → waiting_beside node (path ++ (cut, side) ∷ []) ≡ beside (along node path) cut side ++ waiting_beside node path
waiting-push node [] cut side = sym (append-nil (beside node cut side))
waiting-push node (step ∷ path) cut side =
    ap (λ nodes. nodes ++ beside node step.0 step.1) (waiting-push (part node step.0 step.1) path cut side)
    ∙ append_assoc (beside (along (part node step.0 step.1) path) cut side)
    (waiting_beside (part node step.0 step.1) path) (beside node step.0 step.1)

-- into the first part: the second waits
pub go_low : (node : Node) (path : List (Cut × Side)) (cut : Cut)
    → waiting_beside node (path ++ (cut, Low) ∷ []) ≡ high_part (along node path) cut ∷ waiting_beside node path
go_low node path cut = waiting-push node path cut Low

-- out of a second part: the same nodes wait
pub leave_high : (node : Node) (path : List (Cut × Side)) (cut : Cut) → waiting_beside node (path ++ (cut, High) ∷ []) ≡ waiting_beside node path
leave_high node path cut = waiting-push node path cut High

-- from a first part over to the second: it is the first that waited
pub turn : (node : Node) (path : List (Cut × Side)) (cut : Cut)
    → waiting_beside node (path ++ (cut, Low) ∷ []) ≡ along node (path ++ (cut, High) ∷ [])
    ∷ waiting_beside node (path ++ (cut, High) ∷ [])
turn node path cut =
    waiting-push node path cut Low
    ∙ ap (λ nodes. high_part (along node path) cut ∷ nodes) (sym (leave_high node path cut))
    ∙ ap (λ n. n ∷ waiting_beside node (path ++ (cut, High) ∷ [])) (sym (along-push node path cut High))

set_back : {A : Type 0} (xs : List A) (i : ℕ) (x d : A) → set (set xs i x) i (get_or xs i d) ≡ xs
set_back [] i x d = refl
set_back (y ∷ ys) zero x d = refl
set_back (y ∷ ys) (suc i) x d = ap (λ l. y ∷ l) (set_back ys i x d)

-- a cut is undone by its range from before
pub undo_slack : (node : Node) (row k : ℕ) (side : Side)
    → set (part node (Slack row k) side).slacks (row - 1) (slack_range node.slacks (row - 1)) ≡ node.slacks
undo_slack node row k Low = set_back node.slacks (row - 1) _ (0, 0)
undo_slack node row k High = set_back node.slacks (row - 1) _ (0, 0)

pub undo_offset : (node : Node) (cycle : ℕ) (k : ℤ) (side : Side)
    → set (part node (Offset cycle k) side).offsets (cycle - 1) (offset_range node.offsets (cycle - 1))
    ≡ node.offsets
undo_offset node cycle k Low = set_back node.offsets (cycle - 1) _ (pos 0, pos 0)
undo_offset node cycle k High = set_back node.offsets (cycle - 1) _ (pos 0, pos 0)
