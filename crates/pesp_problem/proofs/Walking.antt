-- How the nodes that wait change as a walk enters a branch, turns to its second part and leaves it.
use Rattle.std.proofs.Common.{◌≡◌, ℕ, ◌+◌, ◌-◌, ◌<◌, refl, ap, sym, ◌∙◌, arith, List, [], ◌∷◌, ◌++◌, length, get_or, take, set, reverse, true}
use Rattle.std.specs.Prelude.{pos}
use Rattle.std.proofs.lemmas.List.{set-set, set-get_or, reverse-append, length-set}
use Rattle.std.proofs.lemmas.Grind.{take_at_read, take-set_at}
use Rattle.std.proofs.Math.Seq.{take-length}
use Rattle.pesp_problem.specs.declared.cut.Cut.{Cut}
use Rattle.pesp_problem.specs.declared.cut.Cut.TheVariants.{Slack, Offset}
use Rattle.pesp_problem.specs.declared.cut.Side.{Side}
use Rattle.pesp_problem.specs.declared.cut.Side.TheVariants.{Low, High}
use Rattle.pesp_problem.specs.Nodes.{Node, slack_range, offset_range, low_part, high_part, part}
use Rattle.pesp_problem.specs.declared.path.Change.{Change}
use Rattle.pesp_problem.specs.declared.path.Change.TheVariants.{Slack as SlackChange, Offset as OffsetChange}
use Rattle.pesp_problem.specs.declared.path.Branch.{Branch}
use Rattle.pesp_problem.specs.Pending.{cut_of, change_of, restored, with_second, pending, waiting, branched}

-- a change is undone by its range from before
undone : (node : Node) (cut : Cut) → restored (low_part node cut) (change_of node cut) ≡ node
undone node (Slack row k) = ap (λ s. record { slacks = s; offsets = node.offsets })
    (set-set node.slacks (row - 1) _ (slack_range node.slacks (row - 1)) ∙ set-get_or node.slacks (row - 1) (0, 0))
undone node (Offset cycle k) = ap (λ s. record { slacks = node.slacks; offsets = s })
    (set-set node.offsets (cycle - 1) _ (offset_range node.offsets (cycle - 1))
    ∙ set-get_or node.offsets (cycle - 1) (pos 0, pos 0))

-- to put a range back, cut it and put it back again is to put it back
put_back_again : (node : Node) (change : Change) → restored (high_part (restored node change) (cut_of change)) change ≡ restored node change
put_back_again node (SlackChange row k was) = ap (λ s. record { slacks = s; offsets = node.offsets })
    (set-set (set node.slacks (row - 1) was) (row - 1) _ was ∙ set-set node.slacks (row - 1) was was)
put_back_again node (OffsetChange cycle k was) =
    ap (λ s. record { slacks = node.slacks; offsets = s })
    (set-set (set node.offsets (cycle - 1) was) (cycle - 1) _ was ∙ set-set node.offsets (cycle - 1) was was)

pending-push : (node : Node) (path : List Branch) (branch : Branch)
    → pending node (reverse (path ++ branch ∷ [])) ≡ pending node (branch ∷ reverse path)
pending-push node path branch = ap (pending node) (reverse-append path (branch ∷ []))

cut_of_change : (node : Node) (cut : Cut) → cut_of (change_of node cut) ≡ cut
cut_of_change node (Slack row k) = refl
cut_of_change node (Offset cycle k) = refl

-- into a branch
pub enter_parts : (node first : Node) (path path' : List Branch) (cut : Cut) (change : Change)
    → first ≡ part node cut Low → change ≡ change_of node cut
    → path' ≡ path ++ record { change = change; side = Low } ∷ []
    → waiting true first path' ≡ branched (waiting true node path) cut
enter_parts node first path path' cut change f c p =
    let branch : Branch = record { change = change_of node cut; side = Low } in
    let pushed : path' ≡ path ++ branch ∷ [] = p ∙ ap (λ (x : Change). path ++ record { change = x; side = Low } ∷ []) c in
    let low = low_part node cut in
    let after : pending low (reverse (path ++ branch ∷ [])) ≡ high_part node cut ∷ pending node (reverse path) =
    pending-push low path branch ∙ ap (λ (n : Node). high_part n (cut_of (change_of node cut))
    ∷ pending n (reverse path)) (undone node cut)
    ∙ ap (λ (x : Cut). high_part node x ∷ pending node (reverse path)) (cut_of_change node cut) in
    ap (λ (n : Node). n ∷ pending n (reverse path')) f
    ∙ ap (λ (q : List Branch). low ∷ pending low (reverse q)) pushed
    ∙ ap (λ (nodes : List Node). low ∷ nodes) after

last_of : (path : List Branch) (top : ℕ) (last : Branch) → top + 1 ≡ length path → last ≡ get_or path top last
    → path ≡ take top path ++ last ∷ []
last_of path top last e is =
    let within : top < length path = omega arith in
    sym (take-length path) ∙ ap (λ n. take n path) (sym e) ∙ (take_at_read path top last within).1
    ∙ ap (λ u. take top path ++ u ∷ []) (sym is)

-- out of a second part
pub leave_parts : (node back : Node) (path : List Branch) (top : ℕ) (last : Branch) → top + 1 ≡ length path
    → last ≡ get_or path top last → last.side ≡ High → back ≡ restored node last.change
    → pending back (reverse (take top path)) ≡ pending node (reverse path)
leave_parts node back path top last e is second b =
    ap (λ (n : Node). pending n (reverse (take top path))) b
    ∙ ap (λ (s : Side). with_second (restored node last.change) (cut_of last.change) s
    (pending (restored node last.change) (reverse (take top path)))) (sym second)
    ∙ sym (pending-push node (take top path) last) ∙ ap (λ (q : List Branch). pending node (reverse q)) (sym (last_of path top last e is))

-- from a first part over to the second
pub turn_parts : (node back second : Node) (path : List Branch) (top : ℕ) (last : Branch) → top + 1 ≡ length path
    → last ≡ get_or path top last → last.side ≡ Low → back ≡ restored node last.change
    → second ≡ part back (cut_of last.change) High
    → waiting true second (set path top (record { change = last.change; side = High })) ≡ pending node (reverse path)
turn_parts node back second path top last e is first b s =
    let new : Branch = record { change = last.change; side = High } in
    let within : top < length path = omega arith in
    let whole : set path top new ≡ take top path ++ new ∷ [] = sym (take-length (set path top new))
    ∙ take-set_at path top _ new (length-set path top new ∙ sym e) within in
    let s' : second ≡ high_part (restored node last.change) (cut_of last.change) = s
    ∙ ap (λ (n : Node). high_part n (cut_of last.change)) b in
    let same : restored second last.change ≡ restored node last.change =
    ap (λ (n : Node). restored n last.change) s' ∙ put_back_again node last.change in
    let now : pending second (reverse (set path top new)) ≡ pending (restored node last.change) (reverse (take top path)) =
    ap (λ (q : List Branch). pending second (reverse q)) whole ∙ pending-push second (take top path) new
    ∙ ap (λ (n : Node). pending n (reverse (take top path))) same in
    let old : pending node (reverse path) ≡ high_part (restored node last.change) (cut_of last.change)
    ∷ pending (restored node last.change) (reverse (take top path)) =
    ap (λ (q : List Branch). pending node (reverse q)) (last_of path top last e is) ∙ pending-push node (take top path) last
    ∙ ap (λ (x : Side). with_second (restored node last.change) (cut_of last.change) x
    (pending (restored node last.change) (reverse (take top path)))) first in
    ap (λ (nodes : List Node). second ∷ nodes) now
    ∙ ap (λ (n : Node). n ∷ pending (restored node last.change) (reverse (take top path))) s' ∙ sym old
