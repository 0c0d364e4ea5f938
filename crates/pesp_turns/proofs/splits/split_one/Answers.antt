use Rattle.pesp_turns.proofs.splits.split_one.Goals as goal

pub returns-clause-few : goal.returns-clause-few
returns-clause-few g c = c.run.ensures.few

pub returns-clause-ends : goal.returns-clause-ends
returns-clause-ends g c = c.run.ensures.ends
