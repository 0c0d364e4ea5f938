use Rattle.pesp_worker.proofs.Works.{one_missing}
use Rattle.pesp_worker.proofs.shared_search.search_below.Goals as goal

pub returns-then-not-are_there-clause-refused : goal.returns-then-not-are_there-clause-refused
returns-then-not-are_there-clause-refused g c =
    let lent = c.in_ok-lent.lent in
    one_missing c.args.instance.now c.args.base.now lent.board.problem lent.jobs.items lent.board.state
    c.args.jobs.now c.in_ok-lent.ensures (c.are_there.ensures.missing c.if-not-are_there.true)
