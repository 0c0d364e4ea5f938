use Rattle.pesp_runs.proofs.texts.read_base.Goals as goal

pub returns-in-Accepted-clause-ok : goal.returns-in-Accepted-clause-ok
returns-in-Accepted-clause-ok g c =
    let is = rw c.deref.ensures.value at c.in_ok-base.ensures.found in (
      record { text = c.in_ok-text.text.items; read = c.in_ok-text.ensures.ok; holds = is },
      c.in_ok-check.ensures.exactly.0 c.in-Accepted.is,
    )

pub returns-clause-cause : goal.returns-clause-cause
returns-clause-cause g c =
    let is = rw c.deref.ensures.value at c.in_ok-base.ensures.found in
    let refused = rw c.in-Refused.is at c.in_ok-check.ensures.verdict in
    (c.in_ok-base.base, record { text = c.in_ok-text.text.items; read = c.in_ok-text.ensures.ok; holds = is }, refused)
