use Rattle.std.proofs.Common.{ap, ◌∙◌, true}
use Rattle.pesp_sharp_work.specs.Jobs.{Path}
use Rattle.pesp_sharp_work.specs.Paths.{paths_waiting}
use Rattle.pesp_sharp_work.proofs.Waiting.{go_low}
use Rattle.pesp_sharp_work.proofs.paths.enter.Goals as goal

pub returns : goal.returns
returns c = ap (λ (q : Path). paths_waiting true q) c.in_ok-push.ensures.items ∙ go_low c.args.path.now.items c.args.cut
