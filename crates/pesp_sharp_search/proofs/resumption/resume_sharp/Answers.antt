use Rattle.pesp_sharp_search.proofs.Choices.{base_stands}
use Rattle.pesp_sharp_search.proofs.resumption.resume_sharp.Goals as goal

pub returns-in-None : goal.returns-in-None
returns-in-None g c = base_stands c.args.instance.now c.args.base c.args.steps c.requires
