use Rattle.pesp_truth.specs.Certificates.{cost_of}
use Rattle.pesp_worker.proofs.Works.{all_rise, all_lent, all_on, one_missing}
use Rattle.pesp_worker.proofs.judged_trees.judged.Goals as goal

pub returns-then-not-are_there-clause-refused : goal.returns-then-not-are_there-clause-refused
returns-then-not-are_there-clause-refused c =
    let lent = c.in_ok-lent.lent in
    one_missing c.args.instance.now c.args.base.now lent.board.problem lent.jobs.items lent.board.state
    c.args.jobs.now c.in_ok-lent.ensures (c.are_there.ensures.missing c.if-not-are_there.true)

pub judge_each-requires-clause-rise : goal.judge_each-requires-clause-rise
judge_each-requires-clause-rise c = all_rise c.args.instance.now
    (cost_of c.args.base.now.answer) c.args.jobs.now c.args.found.items c.requires.found c.requires.rise

pub judge_each-requires-clause-lent : goal.judge_each-requires-clause-lent
judge_each-requires-clause-lent c =
    let lent = c.in_ok-lent.lent in
    all_lent c.args.instance.now c.args.base.now lent.board.problem lent.jobs.items lent.board.state
    (cost_of c.args.base.now.answer) c.args.jobs.now c.args.found.items c.in_ok-lent.ensures
    (c.are_there.ensures.there c.if-not-are_there.false) c.requires.found

pub returns-clause-works : goal.returns-clause-works
returns-clause-works c =
    let lent = c.in_ok-lent.lent in
    all_on c.args.instance.now c.args.base.now lent.board.problem lent.jobs.items lent.board.state
    c.args.range.steps c.args.range.until c.args.jobs.now c.args.found.items c.in_ok-works.works.items
    c.in_ok-lent.ensures (c.are_there.ensures.there c.if-not-are_there.false) c.requires.found
    c.in_ok-works.ensures
