use Rattle.std.proofs.Common.{rules}
use Rattle.pesp_search.proofs.Lifting.{too_many}
use Rattle.pesp_search.proofs.lifted_problem.walks_of.Goals as goal

pub returns-in-Err-TableTooLarge-clause-passed : goal.returns-in-Err-TableTooLarge-clause-passed
returns-in-Err-TableTooLarge-clause-passed c =
    too_many c.args.reduced.now c.requires.reduced c.requires.spans
    (rw c.network.ensures.network at (rw c.in-Err-TableTooLarge.field-0-is at
    c.in-Err-TableTooLarge.ensures.refused))

pub returns-in-Err : goal.returns-in-Err
returns-in-Err c = search rules
