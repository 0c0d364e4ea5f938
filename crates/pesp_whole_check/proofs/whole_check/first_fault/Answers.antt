use Rattle.std.proofs.Common.{arith, ◌∙◌, inl}
use Rattle.std.proofs.lemmas.Grind.{common_steps}
use Rattle.pesp_whole_check.proofs.whole_check.first_fault.Goals as goal

pub own_fault-requires-clause-facts : goal.own_fault-requires-clause-facts
own_fault-requires-clause-facts c = let found = rw c.in-Ok.is at c.in_ok-facts.ensures.verdict in c.deref.ensures.value ∙ found.0

pub own_fault-requires-clause-shown : goal.own_fault-requires-clause-shown
own_fault-requires-clause-shown c = let found = rw c.in-Ok.is at c.in_ok-facts.ensures.verdict in found.1

pub own_fault-requires-clause-zeros : goal.own_fault-requires-clause-zeros
own_fault-requires-clause-zeros c = grind (arith, common_steps)

pub returns-clause-found : goal.returns-clause-found
returns-clause-found c = inl (rw c.in-Err.is at c.in_ok-facts.ensures.verdict)
