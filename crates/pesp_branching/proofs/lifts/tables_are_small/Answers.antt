use Rattle.pesp_branching.proofs.Tables.{short_table, few_signed_rows, fewer_rows, too_many}
use Rattle.pesp_branching.proofs.lifts.tables_are_small.Goals as goal

pub returns-clause-short : goal.returns-clause-short
returns-clause-short c = short_table

pub returns-clause-rows : goal.returns-clause-rows
returns-clause-rows c = few_signed_rows

pub returns-clause-fewer : goal.returns-clause-fewer
returns-clause-fewer c = fewer_rows

pub returns-clause-many : goal.returns-clause-many
returns-clause-many c = too_many
