use Rattle.std.proofs.Common.{◌≡◌, ℕ, ◌<◌, take, get_or, length}
use Rattle.std.specs.Prelude.{pos}
use Rattle.pesp_problem.specs.Walks.{net_count}
use Rattle.pesp_nodes.proofs.nets.count_rows.Given as goal

abbrev pub invariant-loop-s : goal.invariant-loop-s
invariant-loop-s l = (i : ℕ) → i < length l.working → get_or l.working i (pos 0) ≡ net_count (take l.s-index l.walk) i
