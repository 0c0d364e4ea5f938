use Rattle.std.proofs.Common.{subst, sym, ap, ◌∙◌, ◌<◌, ◌+◌, ◌*◌, length}
use Rattle.pesp_tree.proofs.Holding.{whole, count_is}
use Rattle.pesp_tree.proofs.Standing.{length_leaves}
use Rattle.pesp_tree.proofs.work_tree.WorkTree.path.Goals as goal

pub path_of-requires-clause-within : goal.path_of-requires-clause-within
path_of-requires-clause-within c =
    let within : c.args.node < length c.self.inside.nodes.items =
    subst (λ n. c.args.node < n) (ap (λ t. length t.leaves) (sym c.self.view_is)
    ∙ length_leaves c.self.inside.nodes.items) c.requires in
    let count = count_is c.self.inside.branchings.items c.self.inside.nodes.items c.self.invariant.numbered in
    subst (λ bs. c.args.node < 1 + 2 * length bs) (sym c.deref.ensures.value) (subst (λ n. c.args.node < n) count within)

pub returns-clause-whole : goal.returns-clause-whole
returns-clause-whole c = rw (← c.self.view_is)
    (whole c.self.inside.branchings.items c.self.inside.nodes.items c.self.inside.room c.self.invariant.numbered)
