use Rattle.pesp_domains.proofs.Partnering.{keeps_tails, keeps_heads, keeps_loop_tails, keeps_loop_heads}
use Rattle.pesp_domains.proofs.laws.the_step_keeps_what_has_a_partner.Goals as goal

pub returns-clause-tails : goal.returns-clause-tails
returns-clause-tails c = keeps_tails

pub returns-clause-heads : goal.returns-clause-heads
returns-clause-heads c = keeps_heads

pub returns-clause-loop_tails : goal.returns-clause-loop_tails
returns-clause-loop_tails c = keeps_loop_tails

pub returns-clause-loop_heads : goal.returns-clause-loop_heads
returns-clause-loop_heads c = keeps_loop_heads
