use Rattle.std.proofs.Common.{◌≡◌, ◌+◌, ◌*◌, ◌<◌, ◌++◌, length, reverse}
use Rattle.pesp_tree.specs.Numbered.{grown, path_in}
use Rattle.pesp_tree.proofs.node.path_of.Given as goal

abbrev pub invariant-loop-at : goal.invariant-loop-at
invariant-loop-at l = record {
  within : l.at < 1 + 2 * length l.branchings;
  path : path_in (grown l.branchings) l.node ≡ path_in (grown l.branchings) l.at ++ reverse l.path.items;
}

abbrev pub decreases-loop-at : goal.decreases-loop-at
decreases-loop-at l = l.at
