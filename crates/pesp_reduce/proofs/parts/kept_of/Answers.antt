use Rattle.std.proofs.Common.{length, map, ap, ◌∙◌}
use Rattle.std.proofs.lemmas.List.{length-map}
use Rattle.pesp_reduce.specs.Fates.{mapped_row}
use Rattle.pesp_reduce.proofs.parts.kept_of.Goals as goal

pub fated-requires-clause-flags : goal.fated-requires-clause-flags
fated-requires-clause-flags c = ap length c.as_slice.ensures.value ∙ c.requires.contraction.tree.flags_count ∙ c.requires.count

pub fated-requires-clause-left : goal.fated-requires-clause-left
fated-requires-clause-left c =
    let k = c.args.contraction.now in
    ap length c.in_ok-left.ensures.rows ∙ length-map c.args.whole.now.rows (mapped_row k.stands.items k.shifts.items) ∙ c.requires.count

pub returns-clause-period : goal.returns-clause-period
returns-clause-period c = rw c.in_ok-left.ensures.period at c.fated.ensures.period

pub returns-clause-events : goal.returns-clause-events
returns-clause-events c = rw c.in_ok-left.ensures.events at c.fated.ensures.events

pub returns-clause-kept : goal.returns-clause-kept
returns-clause-kept c = rw (c.as_slice.ensures.value, c.in_ok-left.ensures.rows) at c.fated.ensures.kept
