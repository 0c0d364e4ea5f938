use Rattle.std.proofs.Common.{ℕ, length, subst, sym, ◌∙◌}
use Rattle.pesp_problem.specs.Roots.{AreRoots}
use Rattle.pesp_propagate.specs.Rooted.{roots_of, IsFor}
use Rattle.pesp_propagate.specs.Lists.{AreListed}
use Rattle.pesp_simplex.proofs.settle.cuts_of.Goals as goal

pub list_cuts-requires-clause-lists : goal.list_cuts-requires-clause-lists
list_cuts-requires-clause-lists c =
    subst (λ (k : ℕ). IsFor k c.args.rooted.now) (sym c.requires.lists.by) c.requires.lists

pub list_cuts-requires-clause-trees : goal.list_cuts-requires-clause-trees
list_cuts-requires-clause-trees c =
    subst (λ (k : ℕ). AreRoots k c.args.arcs.now (roots_of c.args.rooted.now)) (sym c.requires.lists.by) c.requires.trees

pub returns : goal.returns
returns c =
    subst (λ (k : ℕ). AreListed k c.args.arcs.now (roots_of c.args.rooted.now) (length c.args.arcs.now) c.list_cuts.new.cuts)
    c.requires.lists.by (c.list_cuts.ensures c.if-not-list_cuts.false)
