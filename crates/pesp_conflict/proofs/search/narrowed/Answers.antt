use Rattle.std.proofs.Common.{rules, arith}
use Rattle.pesp_conflict.specs.Refusals.{IsConflictRefusal}
use Rattle.pesp_conflict.proofs.Refusals.{met_by_fewer}
use Rattle.pesp_conflict.proofs.search.narrowed.Goals as goal

pub sift_all-requires-clause-known : goal.sift_all-requires-clause-known
sift_all-requires-clause-known g c = c.known_of-known.ensures c.args.instance.now c.requires.conflict

pub returns-clause-shown : goal.returns-clause-shown
returns-clause-shown g c = c.conflict_of.ensures.shown c.args.instance.now c.in_ok-sift_all.ensures.known

pub returns-in_err-sift_all-clause-refused : goal.returns-in_err-sift_all-clause-refused
returns-in_err-sift_all-clause-refused g c =
    let few = c.min-trial_steps.ensures in
    let refused : IsConflictRefusal c.args.instance.now c.args.steps c.in_err-sift_all.field-0.0 =
    met_by_fewer c.args.instance.now _ c.args.steps _ (omega (arith, few)) c.in_err-sift_all.ensures.refused in
    search rules
