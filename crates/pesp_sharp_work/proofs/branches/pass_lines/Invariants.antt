use Rattle.std.proofs.Common.{◌≡◌}
use Rattle.pesp_sharp_work.proofs.Branching.{ArePassed}
use Rattle.pesp_sharp_work.proofs.branches.pass_lines.Given as goal

abbrev pub invariant-loop-line : goal.invariant-loop-line
invariant-loop-line l = record {
  cycles : l.walk.cycles ≡ l.initial.walk.cycles;
  passed : ArePassed l.initial.walk.cycles l.lines l.initial.walk.nodes l.line-index l.walk.nodes;
}
