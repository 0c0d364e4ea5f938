use Rattle.pesp_conflict.proofs.attempts.fewer_of.Goals as goal

pub returns-then-are_among : goal.returns-then-are_among
returns-then-are_among c p conflict = (conflict, rw (c.deref.ensures.value) at (c.are_among.ensures.only c.if-are_among.true))
