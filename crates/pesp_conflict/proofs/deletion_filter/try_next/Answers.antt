use Rattle.pesp_conflict.proofs.deletion_filter.try_next.Goals as goal

pub returns-clause-known : goal.returns-clause-known
returns-clause-known g c =
    let p = c.args.instance.now in
    c.in_ok-mark.ensures.known p (c.in_ok-take.ensures p c.requires.known (rw (c.deref.ensures.value) at c.in_ok-trial.ensures.tried))
