use Rattle.std.proofs.Common.{rules}
use Rattle.pesp_search.specs.Solving.{IsSearchRefusal}
use Rattle.pesp_search.specs.Refusals.{MeetsLimit}
use Rattle.pesp_search.proofs.Solutions.{refused_at_once, meets_at_once}
use Rattle.pesp_search.proofs.solution.solve_from.Goals as goal

pub solve_on-solved-requires-clause-begun : goal.solve_on-solved-requires-clause-begun
solve_on-solved-requires-clause-begun g c = c.in_ok-search.ensures.begun

pub returns-clause-solved : goal.returns-clause-solved
returns-clause-solved g c = c.solve_on-solved.ensures.solved

pub returns-clause-improved : goal.returns-clause-improved
returns-clause-improved g c = c.solve_on-solved.ensures.improved

pub returns-clause-refused : goal.returns-clause-refused
returns-clause-refused g c = c.solve_on-solved.ensures.refused

pub returns-in_err-search-clause-refused : goal.returns-in_err-search-clause-refused
returns-in_err-search-clause-refused g c =
    let refused : IsSearchRefusal c.args.instance.now c.args.steps c.in_err-search.field-0.0 =
    refused_at_once c.args.instance.now c.args.steps c.in_err-search.field-0.0
    c.in_err-search.ensures.refused in
    search rules

pub returns-clause-passed : goal.returns-clause-passed
returns-clause-passed g c = c.solve_on-solved.ensures.passed

pub returns-in_err-search-clause-passed : goal.returns-in_err-search-clause-passed
returns-in_err-search-clause-passed g c =
    let passed : MeetsLimit c.args.instance.now c.args.steps c.in_err-search.field-0.0 =
    meets_at_once c.args.instance.now c.args.steps c.in_err-search.field-0.0 c.in_err-search.ensures.passed in
    search rules
