-- What is known of a problem while turns are taken.
use Rattle.std.specs.Prelude.{◌≡◌}
use Rattle.pesp_nodes.specs.Problems.{ProblemValue, IsNodeOf}
use Rattle.pesp_tree.specs.States.{root_of}
use Rattle.pesp_branching.specs.Passing.{ArePassedRows}
use Rattle.pesp_turns.specs.declared.known.Known.{Known}

-- the rows that cycles pass, and the root, are those of the problem
pub record IsKnown (p : ProblemValue) (known : Known) : Type 0 where
  pub rows : ArePassedRows p known.passed.items
  pub root : known.root ≡ root_of p
  pub node : IsNodeOf p known.root
