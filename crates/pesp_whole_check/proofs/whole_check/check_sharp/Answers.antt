use Rattle.pesp_whole_check.proofs.whole_check.check_sharp.Goals as goal

pub returns-clause-verdict : goal.returns-clause-verdict
returns-clause-verdict c = rw (← c.certificate.view_is) c.check_behind.ensures.verdict

pub returns-clause-exactly : goal.returns-clause-exactly
returns-clause-exactly c = rw (← c.certificate.view_is) c.check_behind.ensures.exactly

pub returns-clause-truth : goal.returns-clause-truth
returns-clause-truth c = rw (← c.certificate.view_is) c.check_behind.ensures.truth
