use Rattle.pesp_search.proofs.look.look_first.Goals as goal

pub returns-in-Ok-clause-improved : goal.returns-in-Ok-clause-improved
returns-in-Ok-clause-improved g c = c.in-Ok.ensures.improved
