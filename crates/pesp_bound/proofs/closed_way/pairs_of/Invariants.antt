use Rattle.std.proofs.Common.{length}
use Rattle.std.specs.Prelude.{pos, slice_index_or}
use Rattle.pesp_bound.specs.Differences.{own_flow}
use Rattle.pesp_bound.proofs.Gathering.{PairsTo}
use Rattle.pesp_bound.proofs.closed_way.pairs_of.Given as goal

abbrev pub invariant-loop-c : goal.invariant-loop-c
invariant-loop-c l = PairsTo (length l.table) (own_flow l.table (λ i. slice_index_or l.flows i (pos 0))) l.c l.pairs.items
