use Rattle.pesp_tree.proofs.Tightening.{later_is_not_below, later_is_not_above}
use Rattle.pesp_tree.proofs.machine_laws.later_certificates_are_tighter.Goals as goal

pub returns-clause-bound : goal.returns-clause-bound
returns-clause-bound c instance p events base old new content limits o walks cycles valid short adopts run
    certifies = later_is_not_below instance p events base old new content limits o walks cycles valid adopts run
    certifies short

pub returns-clause-cost : goal.returns-clause-cost
returns-clause-cost c instance p events base old new content limits o walks cycles valid adopts run certifies =
    later_is_not_above instance p events base old new content limits o walks cycles valid adopts run certifies
