use Rattle.std.proofs.Common.{◌≡◌, List, sym, subst, true}
use Rattle.pesp_problem.specs.declared.pair.Pair.{Pair}
use Rattle.pesp_truth.specs.Limits.{weights_keep_limits}
use Rattle.pesp_check.proofs.lemma_lines.fact_in.Goals as goal

pub unreachable-requires : goal.unreachable-requires
unreachable-requires c =
    let P : List Pair → Type 0 = λ weights. weights_keep_limits weights ≡ true in
    c.in-Err.ensures.refused (subst P (sym c.in_ok-weights.ensures) c.requires)
