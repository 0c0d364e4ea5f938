use Rattle.pesp_branching.proofs.Tables.{frugal}
use Rattle.pesp_branching.proofs.lifts.lifted_tables_are_frugal.Goals as goal

pub returns : goal.returns
returns c = frugal
