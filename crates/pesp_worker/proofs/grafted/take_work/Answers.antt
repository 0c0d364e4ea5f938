use Rattle.pesp_worker.proofs.Taking.{taken}
use Rattle.pesp_worker.proofs.grafted.take_work.Goals as goal

pub returns-clause-takes : goal.returns-clause-takes
returns-clause-takes c =
    let work = c.work.inside in
    taken c.args.board.now.problem c.give.new.self.problem c.args.events.now c.args.board.now.state
    c.give.new.self.state c.offer_shown.new.board.state c.args.work work.tree work.times.items
    c.deref.result.now work.job c.give.result c.in_ok-given.given
    c.work.view_is c.give.ensures.problem c.deref.ensures.value c.in_ok-given.ensures.same
    c.in_ok-given.ensures.answered c.give.ensures.state c.in_ok-offer_shown.ensures.offers
