use Rattle.pesp_problem.proofs.Counting.{ways_are_short, forests_are_short, tables_are_short}
use Rattle.pesp_problem.proofs.laws.rows_bound_ways_and_tables.Goals as goal

pub returns-clause-ways : goal.returns-clause-ways
returns-clause-ways c = ways_are_short

pub returns-clause-forests : goal.returns-clause-forests
returns-clause-forests c = forests_are_short

pub returns-clause-tables : goal.returns-clause-tables
returns-clause-tables c = tables_are_short
