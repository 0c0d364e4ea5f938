use Rattle.pesp_board.proofs.adoption.valued_part.Goals as goal

pub returns-in-Nothing-clause-valued : goal.returns-in-Nothing-clause-valued
returns-in-Nothing-clause-valued c = c.valued_nothing.ensures.valued c.args.problem.now c.args.node.now
