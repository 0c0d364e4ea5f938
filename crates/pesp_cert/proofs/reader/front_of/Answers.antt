use Rattle.std.proofs.Common.{◌≡◌, true, sym, subst}
use Rattle.std.specs.Prelude.{IfSome}
use Rattle.pesp_cert.specs.Limits.{front_keeps_limits}
use Rattle.pesp_cert.specs.Drafts.{FrontValue, front_said}
use Rattle.pesp_cert.proofs.LimitFacts.{front_marks}
use Rattle.pesp_cert.proofs.reader.front_of.Goals as goal

pub of-requires : goal.of-requires
of-requires c =
    let P : FrontValue → Type 0 = λ d. IfSome (front_said d) (λ f. front_keeps_limits f ≡ true) in
    let d = c.draft.inside in
    front_marks (record { begun = d.begun; scale = d.scale; walks = d.walks.items; lemmas = d.lemmas.items; shown = d.shown })
    (subst P (sym c.draft.view_is) c.requires) c.if-begun.true
