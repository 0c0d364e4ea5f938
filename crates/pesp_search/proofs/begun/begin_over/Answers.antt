use Rattle.pesp_search.proofs.Beginnings.{begun_is}
use Rattle.pesp_search.proofs.begun.begin_over.Goals as goal

pub returns-in-Ok-known_and_strategy-clause-begun : goal.returns-in-Ok-known_and_strategy-clause-begun
returns-in-Ok-known_and_strategy-clause-begun c =
    let made = c.in-Ok-known_and_strategy.ensures in
    begun_is c.args.instance.now c.args.reduced c.problem.result.now _ c.problem.ensures c.requires.original
    c.in-Ok.ensures.board made.reduced made.known
