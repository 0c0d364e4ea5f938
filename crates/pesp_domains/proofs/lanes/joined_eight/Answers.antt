use Rattle.pesp_domains.proofs.Eights.{joined_eight}
use Rattle.pesp_domains.proofs.lanes.joined_eight.Goals as goal

pub returns : goal.returns
returns c = joined_eight c.args.words.now c.args.k c.args.by (λ m. (c.type_inv.words m).fits) c.requires.room
