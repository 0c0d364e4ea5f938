use Rattle.pesp_worker.proofs.Running.{all_grafted}
use Rattle.pesp_worker.proofs.grafted.graft.Goals as goal

pub returns : goal.returns
returns c =
    let lent = c.in_ok-lent.lent in
    all_grafted c.args.instance.now c.args.base.now lent.board.problem lent.jobs.items lent.board.state
    c.graft_on.new.board.state c.args.works.items c.graft_on.result c.events.ensures.limits
    c.answer.ensures.limits.answer c.requires c.in_ok-lent.ensures c.graft_on.ensures.takes
    c.graft_on.ensures.certified c.graft_on.ensures.valid
