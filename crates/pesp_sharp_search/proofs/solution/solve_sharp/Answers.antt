use Rattle.pesp_sharp_search.proofs.Choices.{is_plain, plain_costs}
use Rattle.pesp_sharp_search.proofs.solution.solve_sharp.Goals as goal

pub settled-requires : goal.settled-requires
settled-requires g c =
    let found = c.in_ok-solved.field-0.solved in
    let plain = c.without_front-plain in
    is_plain c.args.instance.now found.steps_used found.certificate plain.result plain.ensures c.in_ok-solved.ensures.solved

pub returns-in_ok-settled-in-Ok-clause-improved : goal.returns-in_ok-settled-in-Ok-clause-improved
returns-in_ok-settled-in-Ok-clause-improved g c =
    let found = c.in_ok-solved.field-0.solved in
    let plain = c.without_front-plain in
    let times = c.args.times.now in
    let cheap = plain_costs c.args.instance.now times found.certificate plain.result plain.ensures c.in_ok-solved.ensures.improved in
    c.in_ok-settled-in-Ok.ensures.improved times cheap
