use Rattle.std.proofs.Common.{sym, subst}
use Rattle.pesp_tree.specs.Certificates.{IsProblemOf}
use Rattle.pesp_worker.proofs.shared_search.found_for.Goals as goal

pub works_on-works-requires : goal.works_on-works-requires
works_on-works-requires g c = record { of = subst (IsProblemOf c.args.instance.now) (sym c.in-Ok.ensures) c.requires.of }
