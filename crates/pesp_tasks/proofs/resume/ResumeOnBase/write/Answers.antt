use Rattle.pesp_tasks.proofs.resume.ResumeOnBase.write.Goals as goal

pub returns-in-None-clause-ok : goal.returns-in-None-clause-ok
returns-in-None-clause-ok g c = rw (← c.base.view_is, c.in-None.is) c.write_plainly.ensures.ok

pub returns-in-None-clause-cause : goal.returns-in-None-clause-cause
returns-in-None-clause-cause g c = rw (← c.base.view_is, c.in-None.is) c.write_plainly.ensures.cause

pub returns-in-Some-clause-ok : goal.returns-in-Some-clause-ok
returns-in-Some-clause-ok g c = rw (← c.base.view_is, c.in-Some.is) c.write_sharply.ensures.ok

pub returns-in-Some-clause-cause : goal.returns-in-Some-clause-cause
returns-in-Some-clause-cause g c = rw (← c.base.view_is, c.in-Some.is) c.write_sharply.ensures.cause
