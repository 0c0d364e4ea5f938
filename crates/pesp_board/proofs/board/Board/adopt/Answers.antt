use Rattle.pesp_board.proofs.Adopted.{certificate_sound, IsMadeOf, made_adopts, made_board, made_bound, made_cost}
use Rattle.pesp_board.proofs.board.Board.adopt.Goals.{After-new}
use Rattle.pesp_board.proofs.board.Board.adopt.Goals as goal

pub kept_of-requires : goal.kept_of-requires
kept_of-requires c = certificate_sound c.args.instance.now c.in_ok-problem.problem c.args.certificate.now
    c.in_ok-problem.ensures.problem c.in_ok-problem.ensures.cycles c.requires

made : (c : After-new) → IsMadeOf c.args.instance.now c.in_ok-problem.problem c.args.certificate.now
    c.in_ok-kept.kept.pairs c.in_ok-kept.kept.tree c.in_ok-kept.kept.queue c.new.result.items c.in_ok-kept.kept.best
made c = record {
  instance = c.keep_limits.ensures.instance;
  certificate = c.keep_limits.ensures.certificate;
  valid = c.requires;
  of = c.in_ok-problem.ensures.problem;
  cycles = c.in_ok-problem.ensures.cycles;
  grown = c.in_ok-kept.ensures.grown;
  none = c.new.ensures.items;
  times = c.in_ok-kept.ensures.times;
  cost = c.in_ok-kept.ensures.cost;
}

pub invariant_of-result : goal.invariant_of-result
invariant_of-result c = made_board c.args.instance.now c.in_ok-problem.problem c.args.certificate.now
    c.in_ok-kept.kept.pairs c.in_ok-kept.kept.tree c.in_ok-kept.kept.queue c.new.result.items
    c.in_ok-kept.kept.best (made (goal.at.invariant_of-result c).After-new) c.keeps_limits.ensures.network
    c.keeps_limits.ensures.table

pub returns-clause-adopts : goal.returns-clause-adopts
returns-clause-adopts c = made_adopts c.args.instance.now c.in_ok-problem.problem c.args.certificate.now
    c.in_ok-kept.kept.pairs c.in_ok-kept.kept.tree c.in_ok-kept.kept.queue c.new.result.items
    c.in_ok-kept.kept.best (made (goal.at.returns-clause-adopts c).After-new)

pub returns-clause-bound : goal.returns-clause-bound
returns-clause-bound c = made_bound c.args.instance.now c.in_ok-problem.problem c.args.certificate.now
    c.in_ok-kept.kept.pairs c.in_ok-kept.kept.tree c.in_ok-kept.kept.queue c.new.result.items
    c.in_ok-kept.kept.best (made (goal.at.returns-clause-bound c).After-new)

pub returns-clause-cost : goal.returns-clause-cost
returns-clause-cost c = made_cost c.args.instance.now c.in_ok-problem.problem c.args.certificate.now
    c.in_ok-kept.kept.pairs c.in_ok-kept.kept.tree c.in_ok-kept.kept.queue c.new.result.items
    c.in_ok-kept.kept.best (made (goal.at.returns-clause-cost c).After-new)
