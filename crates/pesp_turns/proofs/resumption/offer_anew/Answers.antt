use Rattle.pesp_turns.proofs.Looks.{offers_grow_on}
use Rattle.pesp_turns.proofs.resumption.offer_anew.Goals as goal

pub returns-clause-grows : goal.returns-clause-grows
returns-clause-grows g c = offers_grow_on c.args.search.now.board.problem c.args.search.now.board.state
    c.offer_times.new.board.state c.offer_times.result c.offer_times.ensures.offers
