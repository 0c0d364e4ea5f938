use Rattle.pesp_conflict.proofs.Trials.{all_needed}
use Rattle.pesp_conflict.proofs.known.conflict_of.Goals as goal

pub returns-clause-shown : goal.returns-clause-shown
returns-clause-shown c p known = (
  known.0,
  λ e. all_needed p c.args.known.listed.items c.args.known.needed.items
      (rw (c.deref.ensures.value, c.deref-2.ensures.value) at (c.are_found-each_needed.ensures.0 e)) known.1,
)

pub returns-clause-needed : goal.returns-clause-needed
returns-clause-needed c = rw (c.deref.ensures.value, c.deref-2.ensures.value) at c.are_found-each_needed.ensures
