use Rattle.std.proofs.Common.{◌≡◌, List, vec_len}
use Rattle.pesp_sharp_work.specs.Jobs.{Path}
use Rattle.pesp_sharp_work.specs.Paths.{paths_passed}
use Rattle.pesp_sharp_work.proofs.paths.turn.Given as goal

abbrev pub invariant-loop-path : goal.invariant-loop-path
invariant-loop-path l = ◌≡◌ {A = List Path} (paths_passed l.path.items) (paths_passed l.initial.path.items)

abbrev pub decreases-loop-path : goal.decreases-loop-path
decreases-loop-path l = vec_len l.path
