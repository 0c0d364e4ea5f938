use Rattle.pesp_problem.proofs.Arcs.{within_span}
use Rattle.pesp_problem.proofs.laws.slack_is_within_span.Goals as goal

pub returns : goal.returns
returns c = within_span
