use Rattle.pesp_branching.proofs.Spent.{given_one, recalled_one}
use Rattle.pesp_branching.proofs.turn.turns_spend_one_number.Goals as goal

pub returns-clause-given : goal.returns-clause-given
returns-clause-given c = given_one

pub returns-clause-recalled : goal.returns-clause-recalled
returns-clause-recalled c = recalled_one
