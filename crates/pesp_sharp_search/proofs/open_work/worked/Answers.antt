use Rattle.std.proofs.Common.{refl, inl}
use Rattle.pesp_sharp_work.proofs.Keeping.{base_keeps}
use Rattle.pesp_sharp_search.proofs.open_work.worked.Goals as goal

pub returns-in_default : goal.returns-in_default
returns-in_default c = (inl refl, base_keeps c.args.instance.now c.args.base c.args.jobs.now c.args.until)

pub returns-in-Ok-false : goal.returns-in-Ok-false
returns-in-Ok-false c = (inl refl, base_keeps c.args.instance.now c.args.base c.args.jobs.now c.args.until)
