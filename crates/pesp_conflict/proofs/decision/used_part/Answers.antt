use Rattle.std.proofs.Common.{sym, subst, ap, ◌∙◌}
use Rattle.pesp_truth.specs.Conflicts.{chosen}
use Rattle.pesp_conflict.specs.Insides.{IsPart}
use Rattle.pesp_conflict.proofs.Decisions.{used_part}
use Rattle.pesp_conflict.proofs.decision.used_part.Goals as goal

pub returns : goal.returns
returns c p told answer =
    let listed = c.args.listed.now in
    let names = rw (c.in-Some.is) at c.in_ok-places.ensures.named in
    let used = rw (c.in-Some.is) at c.in_ok-places.ensures.used in
    subst (IsPart p listed) (sym (c.in_ok-chosen.ensures ∙ ap (chosen listed) c.deref.ensures.value))
    (used_part p listed c.in-Some.places.items c.args.certificate.now told answer names used)
