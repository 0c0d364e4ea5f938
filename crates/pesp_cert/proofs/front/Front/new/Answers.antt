use Rattle.std.proofs.Common.{sym, ◌∙◌}
use Rattle.pesp_truth.proofs.FrontLimits.{keeps}
use Rattle.pesp_cert.proofs.LimitFacts.{front_kept, no_front_kept}
use Rattle.pesp_cert.proofs.front.Front.new.Goals as goal

pub invariant_of-result : goal.invariant_of-result
invariant_of-result c =
    let test = rw c.deref.ensures.value at c.are_lemmas.ensures in
    front_kept c.args.marks c.args.lemmas.items (keeps c.args.marks c.scale.ensures.limits) (sym test ∙ c.if-are_lemmas.true)

pub returns-else-are_lemmas-clause-refused : goal.returns-else-are_lemmas-clause-refused
returns-else-are_lemmas-clause-refused c =
    let test = rw c.deref.ensures.value at c.are_lemmas.ensures in
    no_front_kept c.args.marks c.args.lemmas.items (sym test ∙ c.if-are_lemmas.false)
