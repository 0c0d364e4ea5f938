use Rattle.std.proofs.Common.{sym, subst}
use Rattle.pesp_reduce.specs.LiftedWalks.{AreLeftOf}
use Rattle.pesp_reduce.proofs.LiftedResults.{left_of}
use Rattle.pesp_reduce.proofs.LiftedOffsets.{has_lift}
use Rattle.pesp_reduce.proofs.reduction.Reduced.lift_walk.Goals as goal

pub lifted-requires-clause-left : goal.lifted-requires-clause-left
lifted-requires-clause-left c =
    let v = c.self.inside in
    let k = v.contraction in
    subst (λ rows. AreLeftOf c.rows-whole.result.now k rows) (sym c.rows-left.ensures.rows)
    (subst (λ rows. AreLeftOf rows k v.network.rows) (sym c.rows-whole.ensures.rows)
    (left_of v.original v.fates.items v.whole v.network k c.self.invariant))

pub returns-clause-closes : goal.returns-clause-closes
returns-clause-closes c = (has_lift _ _ _ _ _ _ _ _ _ _ _ _ c.self.invariant c.self.view_is
    c.rows-whole.ensures.rows c.rows-left.ensures.rows c.rows.ensures c.requires c.in_ok-rows.ensures
    c.new.ensures).is.closes

pub returns-clause-kept : goal.returns-clause-kept
returns-clause-kept c = (has_lift _ _ _ _ _ _ _ _ _ _ _ _ c.self.invariant c.self.view_is c.rows-whole.ensures.rows
    c.rows-left.ensures.rows c.rows.ensures c.requires c.in_ok-rows.ensures c.new.ensures).is.kept

pub returns-clause-others : goal.returns-clause-others
returns-clause-others c = (has_lift _ _ _ _ _ _ _ _ _ _ _ _ c.self.invariant c.self.view_is
    c.rows-whole.ensures.rows c.rows-left.ensures.rows c.rows.ensures c.requires c.in_ok-rows.ensures
    c.new.ensures).is.others

pub returns-clause-lower : goal.returns-clause-lower
returns-clause-lower c = (has_lift _ _ _ _ _ _ _ _ _ _ _ _ c.self.invariant c.self.view_is
    c.rows-whole.ensures.rows c.rows-left.ensures.rows c.rows.ensures c.requires c.in_ok-rows.ensures
    c.new.ensures).is.lower

pub returns-clause-counts : goal.returns-clause-counts
returns-clause-counts c = (has_lift _ _ _ _ _ _ _ _ _ _ _ _ c.self.invariant c.self.view_is
    c.rows-whole.ensures.rows c.rows-left.ensures.rows c.rows.ensures c.requires c.in_ok-rows.ensures
    c.new.ensures).counts

pub returns-clause-offsets : goal.returns-clause-offsets
returns-clause-offsets c = (has_lift _ _ _ _ _ _ _ _ _ _ _ _ c.self.invariant c.self.view_is
    c.rows-whole.ensures.rows c.rows-left.ensures.rows c.rows.ensures c.requires c.in_ok-rows.ensures
    c.new.ensures).offsets
