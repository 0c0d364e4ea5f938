use Rattle.pesp_sharp_search.proofs.Choices.{is_plain}
use Rattle.pesp_sharp_search.proofs.going.Going.begin.Goals as goal

pub returns-in-Ok-clause-plain : goal.returns-in-Ok-clause-plain
returns-in-Ok-clause-plain g c =
    let found = c.in_ok-solved.field-0.solved in
    let plain = c.without_front-plain in
    is_plain c.args.instance.now found.steps_used found.certificate plain.result plain.ensures c.in_ok-solved.ensures.solved
