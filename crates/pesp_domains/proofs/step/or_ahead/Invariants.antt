use Rattle.std.proofs.Common.{length, ◌-◌, ◌≤◌}
use Rattle.pesp_domains.proofs.Words.{Joins}
use Rattle.pesp_domains.proofs.step.or_ahead.Given as goal

abbrev pub invariant-loop-k : goal.invariant-loop-k
invariant-loop-k l = record { joins : Joins l.initial.words l.words l.k l.by; within : l.k ≤ length l.words }

abbrev pub decreases-loop-k : goal.decreases-loop-k
decreases-loop-k l = length l.initial.words - l.k

abbrev pub invariant-rest : goal.invariant-rest
invariant-rest l = record { joins : Joins l.fn.words l.words l.k l.by; within : l.k ≤ length l.words }

abbrev pub decreases-rest : goal.decreases-rest
decreases-rest l = length l.initial.words - l.k
