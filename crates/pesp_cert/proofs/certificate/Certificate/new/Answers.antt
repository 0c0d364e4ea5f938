use Rattle.std.proofs.Common.{sym, ◌∙◌}
use Rattle.pesp_cert.proofs.Runs.{kept_is_text, no_text}
use Rattle.pesp_cert.proofs.certificate.Certificate.new.Goals as goal

pub returns-then-keep_limits-clause-text : goal.returns-then-keep_limits-clause-text
returns-then-keep_limits-clause-text c =
    let test = rw (c.deref.ensures.value, c.deref-2.ensures.value, c.deref-3.ensures.value) at c.keep_limits.ensures in
    kept_is_text _ (sym test ∙ c.if-keep_limits.true)

pub returns-else-keep_limits-clause-refused : goal.returns-else-keep_limits-clause-refused
returns-else-keep_limits-clause-refused c =
    let test = rw (c.deref.ensures.value, c.deref-2.ensures.value, c.deref-3.ensures.value) at c.keep_limits.ensures in
    no_text _ (sym test ∙ c.if-keep_limits.false)
