use Rattle.std.proofs.Common.{rules}
use Rattle.pesp_stream.proofs.page.Page.finish.Goals as goal

pub returns-clause-text : goal.returns-clause-text
returns-clause-text c = search rules
