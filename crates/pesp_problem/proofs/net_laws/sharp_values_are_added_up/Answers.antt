use Rattle.pesp_problem.proofs.Ends.{excess_low, excess_high, idle_row}
use Rattle.pesp_problem.proofs.Values.{rounded_is_enough}
use Rattle.pesp_problem.proofs.net_laws.sharp_values_are_added_up.Goals as goal

pub returns-clause-low : goal.returns-clause-low
returns-clause-low c = excess_low

pub returns-clause-high : goal.returns-clause-high
returns-clause-high c = excess_high

pub returns-clause-idle : goal.returns-clause-idle
returns-clause-idle c = idle_row

pub returns-clause-enough : goal.returns-clause-enough
returns-clause-enough c = rounded_is_enough
