use Rattle.std.proofs.Common.{◌∙◌, FitsSigned, rules}
use Rattle.std.specs.Int.{w128}
use Rattle.std.proofs.lemmas.Int.{to_z-of_z}
use Rattle.pesp_nodes.proofs.Flows.{flow_by_passages}
use Rattle.pesp_nodes.proofs.flow.flow_at.Goals as goal

pub returns-else-place-flows-clause-value : goal.returns-else-place-flows-clause-value
returns-else-place-flows-clause-value c walks names passages flows =
    let fits : FitsSigned w128 c.flow_on.result = search rules in
    to_z-of_z w128 c.flow_on.result fits ∙ c.flow_on.ensures.value
    ∙ flow_by_passages walks c.args.place c.args.passages.now c.args.pairs.now names passages
