use Rattle.std.proofs.Common.{◌∙◌}
use Rattle.pesp_conflict.proofs.Numbers.{found_where_rising}
use Rattle.pesp_conflict.proofs.lists.is_listed.Goals as goal

pub returns-clause-found : goal.returns-clause-found
returns-clause-found c rising there = c.is_ok.ensures.value ∙ found_where_rising c.args.listed.now c.args.row
    c.binary_search.result c.binary_search.ensures.position rising there
