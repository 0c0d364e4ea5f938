use Rattle.std.proofs.Common.{◌≡◌, ◌∙◌, sym, subst}
use Rattle.pesp_nodes.specs.Problems.{IsSmallTable}
use Rattle.pesp_board.proofs.adoption.problem_of.Goals as goal

pub unreachable-requires : goal.unreachable-requires
unreachable-requires c =
    let refused = rw (c.in-Err-TableTooLarge.field-0-is) at c.in-Err-TableTooLarge.ensures.refused in
    let same : c.in_ok-table.table.items ≡ c.args.certificate.now.cycles = c.in_ok-table.ensures ∙ c.cycles.ensures.value in
    let limits = c.cycles.ensures.limits in
    refused.large (subst IsSmallTable (sym same) (record { cycles = limits.cycles; rows = limits.rows }))
