use Rattle.pesp_sharp_search.proofs.Choices.{plain_whole}
use Rattle.pesp_sharp_search.proofs.choice.chosen.Goals as goal

pub returns-in-None : goal.returns-in-None
returns-in-None c = plain_whole c.args.instance.now c.args.plain c.args.steps c.requires
