use Rattle.std.proofs.Common.{◌<◌, ℕ, List, length}
use Rattle.pesp_propagate.specs.Slacks.{AreSlacksAt}
use Rattle.pesp_propagate.specs.Cuts.{IsCutBest}
use Rattle.pesp_propagate.specs.Rooted.{roots_of, IsFor}
use Rattle.pesp_propagate.specs.Lists.{AreListed}
use Rattle.pesp_propagate.proofs.judge.are_cuts_best.Given as goal

abbrev pub invariant-loop-cut : goal.invariant-loop-cut
invariant-loop-cut l = (times : List ℕ) (n : ℕ) → IsFor n l.rooted → AreSlacksAt l.period times l.arcs l.slacks
    → AreListed n l.arcs (roots_of l.rooted) (length l.arcs) l.cuts
    → (c : ℕ) → c < l.cut → c < n → 0 < (roots_of l.rooted).by c
    → IsCutBest (record { period = l.period; arcs = l.arcs }) times (roots_of l.rooted) c
