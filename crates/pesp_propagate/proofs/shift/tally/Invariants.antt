use Rattle.pesp_propagate.specs.Entries.{crossings_of}
use Rattle.pesp_propagate.specs.Tallies.{TakesRows}
use Rattle.pesp_propagate.proofs.shift.tally.Given as goal

abbrev pub invariant-loop-entry : goal.invariant-loop-entry
invariant-loop-entry l = TakesRows l.period (crossings_of l.arcs l.slacks l.entries) l.entry-index l.slope l.costs l.bars
